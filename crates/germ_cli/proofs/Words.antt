-- Words that ask for a command.
use Rattle.germ_cli.specs.Checking.{Checks}
use Rattle.germ_cli.specs.Run.{Classifies, IsUntouched, TakesWithin, WroteTable}
use Rattle.germ_cli.specs.Words.{AsksFor, IsLimit, IsWithinLimits, input_limit_of}
use Rattle.germ_cli.specs.declared.command.Command.TheVariants as commands
use Rattle.germ_cli.specs.declared.command.Command.{Command}
use Rattle.germ_cli.specs.declared.status.Status.TheVariants as statuses
use Rattle.germ_cli.specs.declared.status.Status.{Status}
use Rattle.std.specs.Io.KnownBytes.{Consumes, Keeps}
use Rattle.std.specs.declared.option.Option.{Option}
use Rattle.std.proofs.Common.{◌≡◌, ℕ, ◌<◌, ◌≤◌, true, None, Some, List, [], ◌∷◌, length, get_or, map, ap, ap₂, arith, inl, inr, refl, subst, sym, ◌∙◌}
use Rattle.std.proofs.lemmas.Fmt.{decimal_injective}
use Rattle.std.proofs.lemmas.Slice.Eq.{bytes_eq-Decides}
use Rattle.std.specs.Prelude.{bytes_eq, decimal}
use Rattle.text_reader.specs.Reading.{IsTextOf}

-- a word that is the text of one number is that of no other
pub other_limit : (n : ℕ) (word : List ℕ) → IsTextOf (λ k. k < 256) decimal word n → (3 ≤ n → n ≤ 16 → ⊥) → (limit : ℕ) → IsLimit limit → decimal limit ≡ word → ⊥
other_limit n word is out limit among e =
    let same : limit ≡ n = decimal_injective limit n (omega (arith, among.high)) (omega (arith, is.0)) (e ∙ sym is.1) in
    out (omega (arith, same, among.low)) (omega (arith, same, among.high))

-- one word, as bytes
pub one_item : {A : Type 0} (f : A → List ℕ) (xs : List A) (x : A) → 1 ≤ length xs → length xs < 2 → x ≡ get_or xs 0 x → map f xs ≡ f x ∷ []
one_item f [] x some few e = absurd (omega arith)
one_item f (y ∷ []) x some few e = ap (λ z. f z ∷ []) (sym e)
one_item f (y ∷ z ∷ zs) x some few e = absurd (omega arith)

-- two words, as bytes
pub two_items : {A : Type 0} (f : A → List ℕ) (xs : List A) (x y : A) → 2 ≤ length xs → length xs < 3 → x ≡ get_or xs 0 x → y ≡ get_or xs 1 y → map f xs ≡ f x ∷ f y ∷ []
two_items f [] x y some few e g = absurd (omega arith)
two_items f (z ∷ []) x y some few e g = absurd (omega arith)
two_items f (z ∷ w ∷ []) x y some few e g = ap₂ (λ a b. f a ∷ f b ∷ []) (sym e) (sym g)
two_items f (z ∷ w ∷ v ∷ vs) x y some few e g = absurd (omega arith)

-- one word that the test finds to be this one
pub one_word : {A : Type 0} (f : A → List ℕ) (xs : List A) (x : A) (text name : List ℕ) → 1 ≤ length xs → length xs < 2 → x ≡ get_or xs 0 x → text ≡ f x → true ≡ bytes_eq text name → map f xs ≡ name ∷ []
one_word f xs x text name some few e is test =
    one_item f xs x some few e ∙ ap (λ (w : List ℕ). w ∷ []) (sym is ∙ (bytes_eq-Decides text name).0 (sym test))

-- such a word, and one more
pub two_words : {A : Type 0} (f : A → List ℕ) (xs : List A) (x y : A) (text name second : List ℕ) → 2 ≤ length xs → length xs < 3 → x ≡ get_or xs 0 x → y ≡ get_or xs 1 y → text ≡ f x → true ≡ bytes_eq text name
    → second ≡ f y → map f xs ≡ name ∷ second ∷ []
two_words f xs x y text name second some few e g is test that =
    two_items f xs x y some few e g ∙ ap₂ (λ (w v : List ℕ). w ∷ v ∷ []) (sym is ∙ (bytes_eq-Decides text name).0 (sym test)) (sym that)

one_of : {A : Type 0} (words : List (List ℕ)) (x y z : List ℕ) → words ≡ x ∷ [] → words ≡ y ∷ z ∷ [] → A
one_of words x y z e g = absurd (let both : x ∷ [] ≡ y ∷ z ∷ [] = sym e ∙ g in cc)

last_of : (words : List (List ℕ)) (x y z : List ℕ) → words ≡ x ∷ y ∷ [] → words ≡ x ∷ z ∷ [] → y ≡ z
last_of words x y z e g = let both : x ∷ y ∷ [] ≡ x ∷ z ∷ [] = sym e ∙ g in cc

-- words ask for one order limit
pub one_limit : (words : List (List ℕ)) (m n : ℕ) → AsksFor words (commands.Classify m) → AsksFor words (commands.Classify n) → m ≡ n
one_limit words m n (inl p) (inl q) = p.1 ∙ sym q.1
one_limit words m n (inl p) (inr q) = one_of words _ _ _ p.0 q.0
one_limit words m n (inr p) (inl q) = one_of words _ _ _ q.0 p.0
one_limit words m n (inr p) (inr q) = decimal_injective m n (omega (arith, p.1.high)) (omega (arith, q.1.high)) (last_of words _ _ _ p.0 q.0)

-- no words ask for both
not_check : {A : Type 0} (words : List (List ℕ)) (limit : ℕ) → AsksFor words (commands.Classify limit) → AsksFor words commands.Check → A
not_check words limit (inl p) q = let n : 5 ≡ 8 = ap (λ (x : List (List ℕ)). length (get_or x 0 [])) (sym q ∙ p.0) in absurd (omega (arith, n))
not_check words limit (inr p) q = one_of words _ _ _ q p.0

-- no words ask for both a classification and the table
not_table : {A : Type 0} (words : List (List ℕ)) (limit : ℕ) → AsksFor words (commands.Classify limit) → AsksFor words commands.Table → A
not_table words limit (inl p) q = let n : 5 ≡ 8 = ap (λ (x : List (List ℕ)). length (get_or x 0 [])) (sym q ∙ p.0) in absurd (omega (arith, n))
not_table words limit (inr p) q = one_of words _ _ _ q p.0

-- no words ask for both a check and the table
check_or_table : {A : Type 0} (words : List (List ℕ)) → AsksFor words commands.Check → AsksFor words commands.Table → A
check_or_table words p q = let n : 99 ≡ 116 = ap (λ (x : List (List ℕ)). get_or (get_or x 0 []) 0 0) (sym p ∙ q) in absurd (omega (arith, n))

-- words ask for one command
pub one_command : (words : List (List ℕ)) (c d : Command) → AsksFor words c → AsksFor words d → c ≡ d
one_command words (commands.Classify m) (commands.Classify n) p q = ap (λ (k : ℕ). commands.Classify k) (one_limit words m n p q)
one_command words (commands.Classify m) commands.Check p q = not_check words m p q
one_command words commands.Check (commands.Classify n) p q = not_check words n q p
one_command words commands.Check commands.Check p q = refl
one_command words (commands.Classify m) commands.Table p q = not_table words m p q
one_command words commands.Table (commands.Classify n) p q = not_table words n q p
one_command words commands.Check commands.Table p q = check_or_table words p q
one_command words commands.Table commands.Check p q = check_or_table words q p
one_command words commands.Table commands.Table p q = refl

-- words that ask for a classification do not ask for a check
pub no_check : (words : List (List ℕ)) (command : Command) (limit : ℕ) → AsksFor words command → AsksFor words (commands.Classify limit) → command ≡ commands.Check → ⊥
no_check words command limit p q e = let P : Command → Type 0 = λ x. AsksFor words x in not_check words limit q (subst P e p)

-- the order limit that is asked for may be named
pub asked_within : (words : List (List ℕ)) (command : Command) → AsksFor words command → IsWithinLimits command
asked_within words (commands.Classify limit) (inl usual) = let twelve : limit ≡ 12 = usual.1 in record { low = omega arith; high = omega arith }
asked_within words (commands.Classify limit) (inr named) = named.1
asked_within words commands.Check asked = tt
asked_within words commands.Table asked = tt

-- of what is kept nothing was taken
takes_nothing : (left after : Option (List ℕ)) → Keeps left after → Consumes left after []
takes_nothing None after kept = kept
takes_nothing (Some input) None kept = kept
takes_nothing (Some input) (Some rest) kept = sym kept

-- a run that writes the table does not end at the limit of the input
no_limit : {A : Type 0} (old new : Option (List ℕ)) (status : Status) → WroteTable old new status → status ≡ statuses.InputLimit → A
no_limit old new status (inl done) e = absurd (let other : statuses.InputLimit ≡ statuses.Done = sym e ∙ done.0 in cc)
no_limit old new status (inr failed) e = absurd (let other : statuses.InputLimit ≡ statuses.WriteFault = sym e ∙ failed.0 in cc)

-- how much a run took
pub within_of : (command : Command) (left after old new : Option (List ℕ)) (before now : ℕ) (status : Status) → ((limit : ℕ) → command ≡ commands.Classify limit → Classifies limit left after old new status)
    → (command ≡ commands.Check → Checks left after old new status) → (command ≡ commands.Table → WroteTable old new status × IsUntouched left after before now)
    → TakesWithin (input_limit_of command) left after status
within_of (commands.Classify limit) left after old new before now status classifies checks tells = (classifies limit refl).within
within_of commands.Check left after old new before now status classifies checks tells = (checks refl).within
within_of commands.Table left after old new before now status classifies checks tells =
    let told = tells refl in
    record { taken = []; read = takes_nothing left after told.1.unread; limit = (λ e. no_limit old new status told.0 e, λ more. absurd (omega (arith, more))) }
