-- The steps of an expression behind its declaration.
use Rattle.std.proofs.Common.{◌≡◌, ℕ, zero, suc, ◌+◌, ◌*◌, ◌<◌, ◌≤◌, Bool, true, false, cond, not, ◌&&◌, List, [], ◌∷◌, ◌++◌, map, drop, take, take_all, length, ◌-◌, Option, Some, None, refl, sym, ap, ap₂, subst, ◌∙◌, true≢false, arith}
use Rattle.std.specs.Prelude.{◌==◌}
use Rattle.std.specs.List.{list_all, list_any, All, position_or_len}
use Rattle.std.specs.Str.{bytes_eq}
use Rattle.std.proofs.lemmas.List.{map-append, length-map}
use Rattle.std.proofs.lemmas.List.Folds.{list_all-append}
use Rattle.std.proofs.lemmas.List.Elements.{All-nil, All-cons}
use Rattle.line_syntax.specs.Syntax.{Word, Line, Expr, Term, Factor, Atom, Sign, plus, minus, Token, name, number, symbol, sign_token, expr_tokens, term_tokens, factor_tokens, atom_tokens, after_commas, declaration_tokens, names_of, names_in, is_among}
use Rattle.line_syntax.specs.Syntax as syntax
use Rattle.std.proofs.lemmas.Slice.Eq.{bytes_eq-Decides}
use Rattle.line_syntax.proofs.Bools.{and_left, and_right, or_other, all_found}
use Rattle.line_reader.proofs.Names.{all_names, all_collected}
use Rattle.line_reader.specs.Steps.{step_of}
use Rattle.line_reader.specs.declared.step.Step.{Step}
use Rattle.line_reader.specs.declared.step.Step.TheVariants.{Variable, Symbol}
use Rattle.line_value.specs.Calculations.{IsStepWithin, AreStepsHigh, calculates, outcome_of}
use Rattle.line_value.specs.Lines.{AreStepsOf, begins_with_bracket}
use Rattle.line_syntax.specs.Value.{Arithmetic, expr_value}
use Rattle.line_syntax.specs.High.{HighOperations, IsExprHigh}
use Rattle.line_reader.proofs.Calculated.{calculated}
use Rattle.line_reader.proofs.Refusing.{refused}

-- the token is not `[`
abbrev is_plain : Token → Bool
is_plain (name x) = true
is_plain (number d) = true
is_plain (symbol c) = not (c == 91)

abbrev ArePlain : List Token → Type 0
ArePlain ts = list_all is_plain ts ≡ true

both : (a b : Bool) → a ≡ true → b ≡ true → (a && b) ≡ true
both true b h g = g
both false b h g = absurd (true≢false (sym h))

joined : (ts us : List Token) → ArePlain ts → ArePlain us → ArePlain (ts ++ us)
joined ts us h g = list_all-append is_plain ts us ∙ both (list_all is_plain ts) (list_all is_plain us) h g

signs : (s : Sign) (ts : List Token) → ArePlain ts → ArePlain (sign_token s ∷ ts)
signs plus ts h = h
signs minus ts h = h

mutual
  -- no token of an expression is `[`
  plain_expr : (e : Expr) → ArePlain (expr_tokens e)
  plain_expr (syntax.first t) = plain_term t
  plain_expr (syntax.signed s t) = signs s (term_tokens t) (plain_term t)
  plain_expr (syntax.sum e s t) = joined (expr_tokens e) (sign_token s ∷ term_tokens t) (plain_expr e) (signs s (term_tokens t) (plain_term t))

  plain_term : (t : Term) → ArePlain (term_tokens t)
  plain_term (syntax.factor f) = plain_factor f
  plain_term (syntax.product t f) = joined (term_tokens t) (symbol 42 ∷ factor_tokens f) (plain_term t) (plain_factor f)
  plain_term (syntax.quotient t d) = joined (term_tokens t) (symbol 47 ∷ number d ∷ []) (plain_term t) refl

  plain_factor : (f : Factor) → ArePlain (factor_tokens f)
  plain_factor (syntax.plain a) = plain_atom a
  plain_factor (syntax.power a d) = joined (atom_tokens a) (symbol 94 ∷ number d ∷ []) (plain_atom a) refl

  plain_atom : (a : Atom) → ArePlain (atom_tokens a)
  plain_atom (syntax.variable x) = refl
  plain_atom (syntax.natural d) = refl
  plain_atom (syntax.group e) = joined (expr_tokens e) (symbol 41 ∷ []) (plain_expr e) refl

-- the steps of plain tokens do not begin with `[`
plain_steps : (names : List Word) (ts : List Token) → ArePlain ts → begins_with_bracket (map (step_of names) ts) ≡ false
plain_steps names [] h = refl
plain_steps names (name x ∷ ts) h = refl
plain_steps names (number d ∷ ts) h = refl
plain_steps names (symbol c ∷ ts) h = negated (c == 91) (and_left (not (c == 91)) (list_all is_plain ts) h)
  where
    negated : (b : Bool) → not b ≡ true → b ≡ false
    negated true h = absurd (true≢false (sym h))
    negated false h = refl

length-append : {X : Type 0} (xs ys : List X) → length (xs ++ ys) ≡ length xs + length ys
length-append [] ys = let e : length ys ≡ 0 + length ys = omega arith in e
length-append (x ∷ xs) ys = let e = length-append xs ys in let z : suc (length (xs ++ ys)) ≡ suc (length xs) + length ys = omega arith in z

length-after_commas : (xs : List Word) → length (after_commas xs) ≡ 2 * length xs
length-after_commas [] = refl
length-after_commas (x ∷ xs) = let e = length-after_commas xs in let z : suc (suc (length (after_commas xs))) ≡ 2 * suc (length xs) = omega arith in z

-- two brackets, the names, and a comma between each two
length-declaration : (names : List Word) → 1 ≤ length names → length (declaration_tokens (Some names)) ≡ 2 * length names + 1
length-declaration [] h = absurd (omega arith)
length-declaration (x ∷ xs) h =
    length-append (symbol 91 ∷ name x ∷ after_commas xs) (symbol 93 ∷ [])
    ∙ (let e = length-after_commas xs in let z : suc (suc (length (after_commas xs))) + 1 ≡ 2 * suc (length xs) + 1 = omega arith in z)

drop_front : {X : Type 0} (xs ys : List X) → drop (length xs) (xs ++ ys) ≡ ys
drop_front [] ys = refl
drop_front (x ∷ xs) ys = drop_front xs ys

-- the steps behind a declaration
body_of : (n : ℕ) (steps : List Step) (declared : Option (List Word)) (body : Expr) → let l : Line = record { declared = declared; body = body } in
    AreStepsOf n l steps → begins_with_bracket steps ≡ true → (drop (2 * n + 1) steps ≡ map (step_of (names_of l)) (expr_tokens body)) × (2 * n + 1 ≤ length steps)
body_of n steps None body a h = absurd (true≢false (sym h ∙ ap begins_with_bracket a.steps_are ∙ plain_steps (names_of (record { declared = None; body = body })) (expr_tokens body) (plain_expr body)))
body_of n steps (Some names) body a h =
    let front : List Step = map (step_of names) (declaration_tokens (Some names)) in
    let long : length front ≡ 2 * n + 1 = length-map (declaration_tokens (Some names)) (step_of names) ∙ length-declaration names a.is_line.some_name ∙ ap (λ k. 2 * k + 1) a.names_are in
    let parts : steps ≡ front ++ map (step_of names) (expr_tokens body) = a.steps_are ∙ map-append (step_of names) (declaration_tokens (Some names)) (expr_tokens body) in (
      ap₂ drop (sym long) parts ∙ drop_front front (map (step_of names) (expr_tokens body)),
      subst (λ s. 2 * n + 1 ≤ length s) (sym parts) (let e = length-append front (map (step_of names) (expr_tokens body)) in omega arith),
    )

pub declared_body : (n : ℕ) (steps : List Step) (l : Line) → AreStepsOf n l steps → begins_with_bracket steps ≡ true → drop (2 * n + 1) steps ≡ map (step_of (names_of l)) (expr_tokens l.body)
declared_body n steps l a h = (body_of n steps l.declared l.body a h).0

pub declared_length : (n : ℕ) (steps : List Step) (l : Line) → AreStepsOf n l steps → begins_with_bracket steps ≡ true → 2 * n + 1 ≤ length steps
declared_length n steps l a h = (body_of n steps l.declared l.body a h).1

-- ---- the names of an expression

-- each name in a list of words that are collected is among those that were collected
among_covered : (names found xs : List Word) → list_all (is_among names) found ≡ true → list_all (is_among found) xs ≡ true → list_all (is_among names) xs ≡ true
among_covered names found [] h g = refl
among_covered names found (x ∷ xs) h g =
    both (is_among names x) (list_all (is_among names) xs)
    (all_found (is_among names) (bytes_eq x) x (λ y e. sym ((bytes_eq-Decides x y).0 e)) found h (and_left (is_among found x) (list_all (is_among found) xs) g))
    (among_covered names found xs h (and_right (is_among found x) (list_all (is_among found) xs) g))

position-within : {X : Type 0} (p : X → Bool) (xs : List X) → list_any p xs ≡ true → position_or_len p xs < length xs
position-within p [] h = absurd (true≢false (sym h))
position-within p (x ∷ xs) h = step (p x) refl (λ g. position-within p xs g)
  where
    step : (b : Bool) → p x ≡ b → (list_any p xs ≡ true → position_or_len p xs < length xs) → position_or_len p (x ∷ xs) < length (x ∷ xs)
    step true e rest = subst (λ b. cond (not b) (1 + position_or_len p xs) 0 < suc (length xs)) (sym e) (omega arith)
    step false e rest =
        let less = rest (or_other (p x) (list_any p xs) h e) in
        subst (λ b. cond (not b) (1 + position_or_len p xs) 0 < suc (length xs)) (sym e) (omega arith)

within : (names : List Word) (ts : List Token) → list_all (is_among names) (all_names ts) ≡ true → All (IsStepWithin (length names)) (map (step_of names) ts)
within names [] h = All-nil _
within names (name x ∷ ts) h =
    All-cons (IsStepWithin (length names)) (Variable (position_or_len (bytes_eq x) names)) (map (step_of names) ts)
    (position-within (bytes_eq x) names (and_left (is_among names x) (list_all (is_among names) (all_names ts)) h))
    (within names ts (and_right (is_among names x) (list_all (is_among names) (all_names ts)) h))
within names (number d ∷ ts) h = All-cons (IsStepWithin (length names)) (step_of names (number d)) (map (step_of names) ts) tt (within names ts h)
within names (symbol c ∷ ts) h = All-cons (IsStepWithin (length names)) (Symbol c) (map (step_of names) ts) tt (within names ts h)

-- no variable of the expression is past the names
pub body_within : (n : ℕ) (steps : List Step) (l : Line) → AreStepsOf n l steps → All (IsStepWithin n) (map (step_of (names_of l)) (expr_tokens l.body))
body_within n steps l a =
    subst (λ k. All (IsStepWithin k) (map (step_of (names_of l)) (expr_tokens l.body))) a.names_are
    (within (names_of l) (expr_tokens l.body) (among_covered (names_of l) (names_in l.body) (all_names (expr_tokens l.body)) a.is_line.covered (all_collected [] (all_names (expr_tokens l.body)))))

-- ---- the value

-- the steps of the expression calculate its value
pub body_value : {V : Type 0} (ops : Arithmetic V) (n : ℕ) (steps body : List Step) (l : Line) → AreStepsOf n l steps → body ≡ map (step_of (names_of l)) (expr_tokens l.body)
    → calculates ops body ≡ Some (expr_value ops (names_of l) l.body)
body_value ops n steps body l a e =
    let c = calculated ops (names_of l) l.body a.is_line.divisors in
    ap (calculates ops) e ∙ ap (outcome_of ops) c.1 ∙ c.2

-- and go through a high operation only where it does
pub body_high : {V : Type 0} (ops : Arithmetic V) (high : HighOperations V) (n : ℕ) (steps body : List Step) (l : Line) → AreStepsOf n l steps → body ≡ map (step_of (names_of l)) (expr_tokens l.body)
    → AreStepsHigh ops high body → IsExprHigh ops high (names_of l) l.body
body_high ops high n steps body l a e h = refused ops high (names_of l) l.body a.is_line.divisors (subst (AreStepsHigh ops high) e h)

length-drop : {X : Type 0} (k : ℕ) (xs : List X) → length (drop k xs) ≤ length xs - k
length-drop zero xs = omega arith
length-drop (suc k) [] = omega arith
length-drop (suc k) (x ∷ xs) = let h = length-drop k xs in let e : suc (length xs) - suc k ≡ length xs - k = omega arith in rw e h

-- all that is left
pub length_rest : {X : Type 0} (xs : List X) (k : ℕ) → take (length xs - k) (drop k xs) ≡ drop k xs
length_rest xs k = take_all (length xs - k) (drop k xs) (length-drop k xs)
