-- The names of a line of the grammar have at most four bytes.
use Rattle.std.proofs.Common.{◌≡◌, ℕ, ◌≤◌, Bool, true, false, ◌&&◌, List, [], ◌∷◌, ◌++◌, map, length, Option, Some, None, refl, sym, subst, ◌∙◌, true≢false, arith}
use Rattle.std.specs.Prelude.{nat_le}
use Rattle.std.specs.List.{list_all, All}
use Rattle.std.proofs.lemmas.Bool.Decides.{nat_tests}
use Rattle.std.proofs.lemmas.List.Folds.{list_all-append}
use Rattle.std.proofs.lemmas.List.Elements.{All-nil, All-cons, All-head, All-tail}
use Rattle.ring_law.specs.declared.fraction.Frac.{Frac}
use Rattle.jet_poly.specs.JetTerms.{JetTerms}
use Rattle.line_jet.specs.Reads.{IsReadGerm, IsReadLinear}
use Rattle.line_syntax.specs.Syntax.{Word, Line, IsLine, Expr, Token, name, number, symbol, is_token, is_name, is_letter, is_digit, after_commas, separated, declaration_tokens, expr_tokens, tokens_of, names_of}
use Rattle.line_syntax.proofs.Bools.{and_left, and_right}
use Rattle.line_reader.proofs.Names.{all_names, all_of_collected}
use Rattle.line_germ.specs.Names.{IsShort}

both : (a b : Bool) → a ≡ true → b ≡ true → (a && b) ≡ true
both true b h g = g
both false b h g = absurd (true≢false (sym h))

-- the names among tokens are names
named : (ts : List Token) → list_all is_token ts ≡ true → list_all is_name (all_names ts) ≡ true
named [] h = refl
named (name x ∷ ts) h = both (is_name x) (list_all is_name (all_names ts)) (and_left (is_name x) (list_all is_token ts) h) (named ts (and_right (is_name x) (list_all is_token ts) h))
named (number d ∷ ts) h = named ts (and_right (is_token (number d)) (list_all is_token ts) h)
named (symbol c ∷ ts) h = named ts (and_right (is_token (symbol c)) (list_all is_token ts) h)

named_commas : (xs : List Word) (ts : List Token) → list_all is_token (after_commas xs ++ ts) ≡ true → list_all is_name xs ≡ true
named_commas [] ts h = refl
named_commas (x ∷ xs) ts h =
    let rest = and_right (is_token (symbol 44)) (is_name x && list_all is_token (after_commas xs ++ ts)) h in
    both (is_name x) (list_all is_name xs) (and_left (is_name x) (list_all is_token (after_commas xs ++ ts)) rest) (named_commas xs ts (and_right (is_name x) (list_all is_token (after_commas xs ++ ts)) rest))

named_separated : (xs : List Word) (ts : List Token) → list_all is_token (separated xs ++ ts) ≡ true → list_all is_name xs ≡ true
named_separated [] ts h = refl
named_separated (x ∷ xs) ts h =
    both (is_name x) (list_all is_name xs) (and_left (is_name x) (list_all is_token (after_commas xs ++ ts)) h) (named_commas xs ts (and_right (is_name x) (list_all is_token (after_commas xs ++ ts)) h))

named_line : (declared : Option (List Word)) (body : Expr) → let l : Line = record { declared = declared; body = body } in list_all is_token (tokens_of l) ≡ true → list_all is_name (names_of l) ≡ true
named_line None body h = all_of_collected is_name [] (all_names (expr_tokens body)) refl (named (expr_tokens body) h)
named_line (Some xs) body h =
    let front = and_left (list_all is_token (declaration_tokens (Some xs))) (list_all is_token (expr_tokens body)) (sym (list_all-append is_token (declaration_tokens (Some xs)) (expr_tokens body)) ∙ h) in
    named_separated xs (symbol 93 ∷ []) (and_right (is_token (symbol 91)) (list_all is_token (separated xs ++ symbol 93 ∷ [])) front)

small : (n : ℕ) → nat_le n 3 ≡ true → n ≤ 3
small n h = grind (arith, nat_tests)

short_name : (w : Word) → is_name w ≡ true → IsShort w
short_name [] h = absurd (true≢false (sym h))
short_name (c ∷ w) h =
    let digits = and_right (is_letter c) (list_all is_digit w && nat_le (length w) 3) h in
    let less = small (length w) (and_right (list_all is_digit w) (nat_le (length w) 3) digits) in
    omega arith

short_all : (ws : List Word) → list_all is_name ws ≡ true → All IsShort ws
short_all [] h = All-nil _
short_all (w ∷ ws) h = All-cons IsShort w ws (short_name w (and_left (is_name w) (list_all is_name ws) h)) (short_all ws (and_right (is_name w) (list_all is_name ws) h))

-- the names of a line are short
pub short_names : (l : Line) → IsLine l → All IsShort (names_of l)
short_names l h = short_all (names_of l) (named_line l.declared l.body h.tokens)

-- so are those of an answer
pub germ_short : (bytes : List ℕ) (limit : ℕ) (names : List Word) (f : JetTerms Frac) → IsReadGerm bytes limit names f → All IsShort names
germ_short bytes limit names f r = subst (All IsShort) r.names_are (short_names r.line r.critical.spells.is_line)

pub linear_short : (bytes : List ℕ) (names : List Word) (i : ℕ) → IsReadLinear bytes names i → All IsShort names
linear_short bytes names i r = subst (All IsShort) r.names_are (short_names r.line r.spells.is_line)

-- words in another form
pub unmapped : {X : Type 0} (f : X → Word) (xs : List X) → All IsShort (map f xs) → All (λ x. IsShort (f x)) xs
unmapped f [] a = All-nil _
unmapped f (x ∷ xs) a = All-cons (λ x. IsShort (f x)) x xs (All-head IsShort (f x) (map f xs) a) (unmapped f xs (All-tail IsShort (f x) (map f xs) a))
