-- Texts that stand at the front of bytes: words, lines, and values in a line.
use Rattle.std.proofs.Common.{◌≡◌, ℕ, ◌<◌, ◌^◌, List, [], ◌∷◌, ◌++◌, refl, sym, ap, ◌∙◌, subst, append_assoc, arith}
use Rattle.std.specs.List.{AllByRecursion, flat_map}
use Rattle.std.specs.Prelude.{decimal}
use Rattle.cert_text.specs.declared.word.Word.{Word}
use Rattle.cert_text.specs.declared.word.Word.TheVariants as words
use Rattle.cert_text.specs.Words.{word_text}
use Rattle.cert_text.specs.Text.{line, word_line}
use Rattle.cert_law.proofs.Carrying.{word_rest}
use Rattle.text_reader.specs.Reading.{IsNoText}
use Rattle.text_reader.proofs.Visible.{cut_at, unsplit, digits_lack}
use Rattle.text_reader.proofs.Fractions.{decimal_same}
use Rattle.report_reader.specs.Lines.{IsClean, IsWithin}
use Rattle.report_reader.specs.Blocks.{IsNotAtFront}
use Rattle.report_reader.proofs.Stops.{IsLine}
use Rattle.normal_forms.proofs.FormTerms.{all-append}

-- a line, and what stands behind it
pub line_text : (w more : List ℕ) → line w ++ more ≡ w ++ 10 ∷ more
unfolding line
line_text w more = append_assoc w (10 ∷ []) more

-- a word line, and what stands behind it
pub word_line_text : (w : Word) (t more : List ℕ) → word_line w t ++ more ≡ word_text w ++ 32 ∷ (t ++ 10 ∷ more)
unfolding word_line line
word_line_text w t more = simp append_assoc

-- no word holds a newline
pub word_clean : (w : Word) → IsClean (word_text w)
unfolding word_text
word_clean words.Germ = omega arith
word_clean _ = omega arith

pub clean-append : (a b : List ℕ) → IsClean a → IsClean b → IsClean (a ++ b)
clean-append a b ca cb = all-append (λ b. b ≡ 10 → ⊥) a b ca cb

pub clean-flat_map : {A : Type 0} (P : A → Type 0) (text : A → List ℕ) → ((x : A) → P x → IsClean (text x)) → (xs : List A) → AllByRecursion P xs → IsClean (flat_map text xs)
clean-flat_map P text each [] h = tt
clean-flat_map P text each (x ∷ xs) h = clean-append (text x) (flat_map text xs) (each x h.0) (clean-flat_map P text each xs h.1)

-- a clean text makes one line
pub line-line : (w : List ℕ) → IsClean w → IsLine (line w)
unfolding line
line-line w c = record { body = w; clean = c; is = refl }

pub line-word : (w : Word) → IsLine (line (word_text w))
line-word w = line-line (word_text w) (word_clean w)

pub line-word_line : (w : Word) (t : List ℕ) → IsClean t → IsLine (word_line w t)
unfolding word_line
line-word_line w t c = line-line (word_text w ++ 32 ∷ t) (clean-append (word_text w) (32 ∷ t) (word_clean w) ((λ e. omega (arith, e)), c))

-- ---- values that are a line

-- bytes with no newline hold no line
pub no_line_at : {A : Type 0} (valid : A → Type 0) (inside : A → List ℕ) (bytes : List ℕ) → IsClean bytes → IsNotAtFront valid (λ v. line (inside v)) bytes
no_line_at valid inside bytes clean v more ok e = unsplit 10 (inside v) more bytes clean (sym (line_text (inside v) more) ∙ e)

-- the line that was cut off is that of the value
pub line_value_at : {A : Type 0} (valid : A → Type 0) (inside : A → List ℕ) (bytes body rest : List ℕ) → ((v : A) → valid v → IsClean (inside v)) → IsClean body → bytes ≡ body ++ 10 ∷ rest → IsNoText valid inside body → IsNotAtFront valid (λ v. line (inside v)) bytes
line_value_at valid inside bytes body rest clean cb is none v more ok e =
    let h = cut_at 10 (inside v) body more rest (clean v ok) cb (sym (line_text (inside v) more) ∙ e ∙ is) in
    none v ok h.0

pub line_front : (text body rest bytes : List ℕ) → text ≡ body → bytes ≡ body ++ 10 ∷ rest → line text ++ rest ≡ bytes
line_front text body rest bytes same is = line_text text rest ∙ ap (λ (z : List ℕ). z ++ 10 ∷ rest) same ∙ sym is

-- ---- values in a word line, by the text behind the word and the rest

-- the text that was cut off is that of the value
pub value_at : {A : Type 0} (valid : A → Type 0) (text : A → List ℕ) (w : Word) (bytes body rest : List ℕ) → ((v : A) → valid v → IsClean (text v)) → IsClean body → word_line w body ++ rest ≡ bytes → IsNoText valid text body → IsNotAtFront valid (λ v. word_line w (text v)) bytes
value_at valid text w bytes body rest clean cb e none v more ok f =
    let h = cut_at 10 (text v) body more rest (clean v ok) cb (word_rest w (text v) body more rest (f ∙ sym e)) in
    none v ok h.0

-- there is no such line
pub line_absent : {A : Type 0} (valid : A → Type 0) (text : A → List ℕ) (w : Word) (bytes : List ℕ) → ((v : A) → valid v → IsClean (text v)) → IsNotAtFront IsClean (word_line w) bytes → IsNotAtFront valid (λ v. word_line w (text v)) bytes
line_absent valid text w bytes clean none v more ok f = none (text v) more (clean v ok) f

-- ---- numbers

pub within_clean : (least most : ℕ) → most < 2 ^ 64 → (n : ℕ) → IsWithin least most n → IsClean (decimal n)
within_clean least most lt n w = digits_lack 10 n (omega arith) (let le = w.1 in omega (arith, le, lt))

-- a number that is too low or too high is none within
pub within_none : (least most n : ℕ) (bytes : List ℕ) → most < 2 ^ 64 → n < 2 ^ 64 → decimal n ≡ bytes → (IsWithin least most n → ⊥) → IsNoText (IsWithin least most) decimal bytes
within_none least most n bytes lt small own not_in v w e =
    let le = w.1 in
    let same = decimal_same v n (omega (arith, le, lt)) (omega (arith, small)) (e ∙ sym own) in
    not_in (subst (IsWithin least most) same w)

pub no_u64 : (least most : ℕ) (bytes : List ℕ) → most < 2 ^ 64 → IsNoText (λ n. n < 2 ^ 64) decimal bytes → IsNoText (IsWithin least most) decimal bytes
no_u64 least most bytes lt none v w e = none v (let le = w.1 in omega (arith, le, lt)) e

-- ---- two fields with a blank between them

abbrev pub Both : {A B : Type 0} → (A → Type 0) → (B → Type 0) → A × B → Type 0
Both first second v = first v.0 × second v.1

abbrev pub two_text : {A B : Type 0} → (A → List ℕ) → (B → List ℕ) → A × B → List ℕ
two_text front back v = front v.0 ++ 32 ∷ back v.1

pub no_blank : {A B : Type 0} (first : A → Type 0) (second : B → Type 0) (front : A → List ℕ) (back : B → List ℕ) (text : List ℕ) → AllByRecursion (λ b. b ≡ 32 → ⊥) text → IsNoText (Both first second) (two_text front back) text
no_blank first second front back text lacks v ok e = unsplit 32 (front v.0) (back v.1) text lacks e

cut_blank : {A B : Type 0} (first : A → Type 0) (front : A → List ℕ) (back : B → List ℕ) → ((a : A) → first a → AllByRecursion (λ b. b ≡ 32 → ⊥) (front a)) → (text one two : List ℕ) → text ≡ one ++ 32 ∷ two → AllByRecursion (λ b. b ≡ 32 → ⊥) one
    → (a : A) (b : B) → first a → front a ++ 32 ∷ back b ≡ text → (front a ≡ one) × (back b ≡ two)
cut_blank first front back lacks text one two e free a b ok q = cut_at 32 (front a) one (back b) two (lacks a ok) free (q ∙ e)

pub no_first : {A B : Type 0} (first : A → Type 0) (second : B → Type 0) (front : A → List ℕ) (back : B → List ℕ) → ((a : A) → first a → AllByRecursion (λ b. b ≡ 32 → ⊥) (front a)) → (text one two : List ℕ) → text ≡ one ++ 32 ∷ two → AllByRecursion (λ b. b ≡ 32 → ⊥) one
    → IsNoText first front one → IsNoText (Both first second) (two_text front back) text
no_first first second front back lacks text one two e free none v ok q = none v.0 ok.0 (cut_blank first front back lacks text one two e free v.0 v.1 ok.0 q).0

pub no_second : {A B : Type 0} (first : A → Type 0) (second : B → Type 0) (front : A → List ℕ) (back : B → List ℕ) → ((a : A) → first a → AllByRecursion (λ b. b ≡ 32 → ⊥) (front a)) → (text one two : List ℕ) → text ≡ one ++ 32 ∷ two → AllByRecursion (λ b. b ≡ 32 → ⊥) one
    → IsNoText second back two → IsNoText (Both first second) (two_text front back) text
no_second first second front back lacks text one two e free none v ok q = none v.1 ok.1 (cut_blank first front back lacks text one two e free v.0 v.1 ok.0 q).1
