-- The steps of an expression's tokens calculate its value.
use Rattle.std.proofs.Common.{◌≡◌, ℕ, Bool, true, false, cond, List, [], ◌∷◌, map, Option, Some, None, refl, sym, ap, subst, ◌∙◌}
use Rattle.std.specs.Prelude.{nat_lt, ◌==◌}
use Rattle.line_syntax.specs.Syntax.{Word, Sign, plus, minus, Expr, Term, Factor, Token, name, number, symbol, expr_tokens, number_of, divisors_of_expr}
use Rattle.line_syntax.specs.Syntax as syntax
use Rattle.line_syntax.proofs.Parsing as parsing
use Rattle.line_syntax.proofs.Parsing.{Left, Before, Place, place, expr_of, term_of, atom_wanted, atom_seen, exponent_wanted, divisor_wanted, term_seen, step, run, run_none, read_expr, seen_expr, are_divisors}
use Rattle.line_reader.specs.Steps.{step_of}
use Rattle.line_syntax.specs.Value.{Arithmetic, with_sign, expr_value, term_value, factor_value, atom_value}
use Rattle.line_reader.specs.Calculation.{Frame, frame, State, wanted, seen, exponent, divisor, term, times, signed_value, total, closed, on_term, on_step, on_steps, outcome, calculation_start}
use Rattle.line_reader.proofs.Held.{some_is, no_some}

module _ {V : Type 0} (k : Arithmetic V) (names : List Word) where
  abbrev pub is_minus : Sign → Bool
  is_minus plus = false
  is_minus minus = true

  abbrev pub sum_of : Left → Option V
  sum_of parsing.start = None
  sum_of (parsing.lead s) = None
  sum_of (parsing.after e s) = Some (expr_value k names e)

  abbrev pub minus_of : Left → Bool
  minus_of parsing.start = false
  minus_of (parsing.lead s) = is_minus s
  minus_of (parsing.after e s) = is_minus s

  abbrev pub product_of : Before → Option V
  product_of parsing.nothing = None
  product_of (parsing.times t) = Some (term_value k names t)

  abbrev pub frame_at : Left → Before → Frame V
  frame_at l b = frame (sum_of l) (minus_of l) (product_of b)

  abbrev pub frames : List Place → List (Frame V)
  frames [] = []
  frames (p ∷ stack) = frame_at p.left p.before ∷ frames stack

  -- the parse with values in place of trees
  abbrev pub state_of : parsing.State → State V
  state_of (atom_wanted stack p) = wanted (frames stack) (frame_at p.left p.before)
  state_of (atom_seen stack p a) = seen (frames stack) (frame_at p.left p.before) (atom_value k names a)
  state_of (exponent_wanted stack p a) = exponent (frames stack) (frame_at p.left p.before) (atom_value k names a)
  state_of (divisor_wanted stack l t) = divisor (frames stack) (frame_at l parsing.nothing) (term_value k names t)
  state_of (term_seen stack l t) = term (frames stack) (frame_at l parsing.nothing) (term_value k names t)

  pub signed_is : (s : Sign) (v : V) → signed_value k (is_minus s) v ≡ with_sign k names s v
  signed_is plus v = refl
  signed_is minus v = refl

  total_is : (l : Left) (b : Before) (t : Term) → total k (frame_at l b) (term_value k names t) ≡ expr_value k names (expr_of l t)
  total_is parsing.start b t = refl
  total_is (parsing.lead s) b t = signed_is s (term_value k names t)
  total_is (parsing.after e s) b t = ap (k.add (expr_value k names e)) (signed_is s (term_value k names t))

  pub times_is : (b : Before) (f : Factor) → times k (product_of b) (factor_value k names f) ≡ term_value k names (term_of b f)
  times_is parsing.nothing f = refl
  times_is (parsing.times t) f = refl

  -- what a parse step does, on values
  abbrev pub Follows : Option (State V) → Option parsing.State → Type 0
  Follows v None = Unit {0}
  Follows v (Some s) = v ≡ Some (state_of s)

  -- one choice on both sides
  both : (b : Bool) (v v' : Option (State V)) (o o' : Option parsing.State) → (b ≡ true → Follows v o) → (b ≡ false → Follows v' o') → Follows (cond b v v') (cond b o o')
  both true v v' o o' h g = h refl
  both false v v' o o' h g = g refl

  -- a term's value through an equation
  at_value : (f : V → Option (State V)) (v w : V) (o : Option parsing.State) → v ≡ w → Follows (f w) o → Follows (f v) o
  at_value f v w o e h = subst (λ z. Follows (f z) o) (sym e) h

  closing : (stack : List Place) (e : Expr) → Follows (closed k (frames stack) (expr_value k names e)) (parsing.closed stack e)
  closing [] e = tt
  closing (p ∷ stack) e = refl

  -- a sign after a term
  signing : (stack : List Place) (l : Left) (t : Term) (c : ℕ) →
      Follows (cond (c == 43) (Some (wanted (frames stack) (frame (Some (expr_value k names (expr_of l t))) false None))) (cond (c == 45) (Some (wanted (frames stack) (frame (Some (expr_value k names (expr_of l t))) true None))) None))
      (parsing.next_term stack l t (parsing.sign_of c))
  signing stack l t c = by (c == 43) (c == 45)
    where
      by : (a b : Bool) → Follows (cond a (Some (wanted (frames stack) (frame (Some (expr_value k names (expr_of l t))) false None))) (cond b (Some (wanted (frames stack) (frame (Some (expr_value k names (expr_of l t))) true None))) None))
          (parsing.next_term stack l t (cond a (Some plus) (cond b (Some minus) None)))
      by true b = refl
      by false true = refl
      by false false = tt

  -- after a term
  termed : (stack : List Place) (l : Left) (b : Before) (t : Term) (c : ℕ) → Follows (on_term k (frames stack) (frame_at l b) (term_value k names t) c) (parsing.on_term stack l t c)
  termed stack l b t c =
      both (c == 42) _ _ _ _ (λ q. refl)
      (λ q. both (c == 47) _ _ _ _ (λ r. refl)
      (λ r. both (c == 41) _ _ _ _
      (λ p. at_value (closed k (frames stack)) (total k (frame_at l b) (term_value k names t)) (expr_value k names (expr_of l t)) (parsing.closed stack (expr_of l t)) (total_is l b t) (closing stack (expr_of l t)))
      (λ p. at_value (λ v. cond (c == 43) (Some (wanted (frames stack) (frame (Some v) false None))) (cond (c == 45) (Some (wanted (frames stack) (frame (Some v) true None))) None))
      (total k (frame_at l b) (term_value k names t)) (expr_value k names (expr_of l t)) (parsing.next_term stack l t (parsing.sign_of c)) (total_is l b t) (signing stack l t c))))

  -- a sign at the front
  leading : (stack : List Place) (l : Left) (b : Before) (c : ℕ) →
      Follows (cond (c == 43) (Some (wanted (frames stack) (frame (sum_of l) false (product_of b)))) (cond (c == 45) (Some (wanted (frames stack) (frame (sum_of l) true (product_of b)))) None))
      (parsing.led stack (place l b) (parsing.sign_of c))
  leading stack l b c = by (c == 43) (c == 45) l b
    where
      by : (x y : Bool) (l : Left) (b : Before) → Follows (cond x (Some (wanted (frames stack) (frame (sum_of l) false (product_of b)))) (cond y (Some (wanted (frames stack) (frame (sum_of l) true (product_of b)))) None))
          (parsing.led stack (place l b) (cond x (Some plus) (cond y (Some minus) None)))
      by true y parsing.start parsing.nothing = refl
      by true y parsing.start (parsing.times t) = tt
      by true y (parsing.lead s) b = tt
      by true y (parsing.after e s) b = tt
      by false true parsing.start parsing.nothing = refl
      by false true parsing.start (parsing.times t) = tt
      by false true (parsing.lead s) b = tt
      by false true (parsing.after e s) b = tt
      by false false l b = tt

  -- one token
  pub stepped : (s : parsing.State) (t : Token) → Follows (on_step k (state_of s) (step_of names t)) (step s t)
  stepped (atom_wanted stack p) (name x) = refl
  stepped (atom_wanted stack p) (number d) = refl
  stepped (atom_wanted stack p) (symbol c) = both (c == 40) _ _ _ _ (λ q. refl) (λ q. leading stack p.left p.before c)
  stepped (atom_seen stack p a) (name x) = tt
  stepped (atom_seen stack p a) (number d) = tt
  stepped (atom_seen stack p a) (symbol c) =
      both (c == 94) _ _ _ _ (λ q. refl)
      (λ q. at_value (λ v. on_term k (frames stack) (frame_at p.left p.before) v c) (times k (product_of p.before) (atom_value k names a)) (term_value k names (term_of p.before (syntax.plain a))) _ (times_is p.before (syntax.plain a))
      (termed stack p.left p.before (term_of p.before (syntax.plain a)) c))
  stepped (exponent_wanted stack p a) (name x) = tt
  stepped (exponent_wanted stack p a) (number d) = ap (λ v. Some (term (frames stack) (frame_at p.left parsing.nothing) v)) (times_is p.before (syntax.power a d))
  stepped (exponent_wanted stack p a) (symbol c) = tt
  stepped (divisor_wanted stack l t) (name x) = tt
  stepped (divisor_wanted stack l t) (number d) = divided (nat_lt 0 (number_of d))
    where
      divided : (b : Bool) → Follows (cond b (Some (term (frames stack) (frame_at l parsing.nothing) (k.over (term_value k names t) (number_of d)))) None) (cond b (Some (term_seen stack l (syntax.quotient t d))) None)
      divided true = refl
      divided false = tt
  stepped (divisor_wanted stack l t) (symbol c) = tt
  stepped (term_seen stack l t) (name x) = tt
  stepped (term_seen stack l t) (number d) = tt
  stepped (term_seen stack l t) (symbol c) = termed stack l parsing.nothing t c

  -- all tokens
  run_stepped : (ts : List Token) (s s' : parsing.State) → run (Some s) ts ≡ Some s' → on_steps k (Some (state_of s)) (map (step_of names) ts) ≡ Some (state_of s')
  run_stepped [] s s' e = ap (λ z. Some (state_of z)) (some_is e)
  run_stepped (t ∷ ts) s s' e =
      let go : (o : Option parsing.State) → step s t ≡ o → on_steps k (on_step k (state_of s) (step_of names t)) (map (step_of names) ts) ≡ Some (state_of s') = elim [
        | None ↦ λ q. no_some (sym (run_none ts) ∙ sym (ap (λ o. run o ts) q) ∙ e)
        | Some s1 ↦ λ q. ap (λ o. on_steps k o (map (step_of names) ts)) (subst (λ o. Follows (on_step k (state_of s) (step_of names t)) o) q (stepped s t)) ∙ run_stepped ts s1 s' (sym (ap (λ o. run o ts) q) ∙ e)
      ] in go (step s t) refl

  abbrev Ends : parsing.State → Expr → Type 0
  Ends s e = outcome k (state_of s) ≡ Some (expr_value k names e)

  factor_outcome : (l : Left) (b : Before) (f : Factor) → Ends (parsing.seen_factor [] l b f) (expr_of l (term_of b f))
  factor_outcome l b (syntax.plain a) = ap (λ v. Some (total k (frame_at l b) v)) (times_is b (syntax.plain a)) ∙ ap Some (total_is l b (term_of b (syntax.plain a)))
  factor_outcome l b (syntax.power a d) = ap Some (total_is l parsing.nothing (term_of b (syntax.power a d)))

  term_outcome : (l : Left) (t : Term) → Ends (parsing.seen_term [] l t) (expr_of l t)
  term_outcome l (syntax.factor f) = factor_outcome l parsing.nothing f
  term_outcome l (syntax.product t f) = factor_outcome l (parsing.times t) f
  term_outcome l (syntax.quotient t d) = ap Some (total_is l parsing.nothing (syntax.quotient t d))

  expr_outcome : (e : Expr) → Ends (seen_expr [] e) e
  expr_outcome (syntax.first t) = term_outcome parsing.start t
  expr_outcome (syntax.signed s t) = term_outcome (parsing.lead s) t
  expr_outcome (syntax.sum e s t) = term_outcome (parsing.after e s) t

  -- the steps of an expression calculate its value
  pub calculated : (e : Expr) → are_divisors (divisors_of_expr e) ≡ true → (s : State V) × (on_steps k (Some calculation_start) (map (step_of names) (expr_tokens e)) ≡ Some s) × (outcome k s ≡ Some (expr_value k names e))
  calculated e h = (state_of (seen_expr [] e), run_stepped (expr_tokens e) (atom_wanted [] (place parsing.start parsing.nothing)) (seen_expr [] e) (read_expr e [] h), expr_outcome e)
