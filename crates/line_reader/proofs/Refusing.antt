-- Steps of an expression's tokens go through a high operation only where the value of the expression does.
use Rattle.std.proofs.Common.{◌≡◌, ℕ, Bool, true, false, cond, List, [], ◌∷◌, map, Option, Some, None, ◌⊎◌, inl, inr, refl, sym, ap, subst, ◌∙◌, true≢false}
use Rattle.std.specs.Prelude.{nat_lt, ◌==◌}
use Rattle.line_syntax.specs.Syntax.{Word, Sign, Expr, Term, Factor, Atom, Token, name, number, symbol, expr_tokens, number_of, divisors_of_expr}
use Rattle.line_syntax.specs.Syntax as syntax
use Rattle.line_syntax.specs.Value.{Arithmetic, expr_value, term_value, factor_value, atom_value}
use Rattle.line_syntax.specs.High.{HighOperations, IsPowerHigh, IsExprHigh, IsTermHigh, IsFactorHigh, IsAtomHigh}
use Rattle.line_syntax.proofs.Parsing as parsing
use Rattle.line_syntax.proofs.Parsing.{Left, Before, Place, place, expr_of, term_of, atom_wanted, atom_seen, exponent_wanted, divisor_wanted, term_seen, step, run, run_none, read_expr, seen_expr, are_divisors}
use Rattle.line_reader.specs.Steps.{step_of}
use Rattle.line_reader.specs.Calculation.{times, on_step, IsTimesHigh, IsTotalHigh, IsEndHigh, IsStepHigh, IsOutcomeHigh, IsRunHigh, calculation_start}
use Rattle.line_reader.proofs.Held.{some_is, no_some}
use Rattle.line_reader.proofs.Calculated as calculated

module _ {V : Type 0} (ops : Arithmetic V) (high : HighOperations V) (names : List Word) where
  -- a high operation is in the expression before a term
  abbrev IsLeftHigh : Left → Type 0
  IsLeftHigh parsing.start = ⊥
  IsLeftHigh (parsing.lead s) = ⊥
  IsLeftHigh (parsing.after e s) = IsExprHigh ops high names e

  -- a high operation is in the product before a factor
  abbrev IsBeforeHigh : Before → Type 0
  IsBeforeHigh parsing.nothing = ⊥
  IsBeforeHigh (parsing.times t) = IsTermHigh ops high names t

  -- a high operation is in what stands before an atom
  abbrev IsPlaceHigh : Place → Type 0
  IsPlaceHigh p = IsLeftHigh p.left ⊎ IsBeforeHigh p.before

  -- a high operation is in what stands before an open group
  abbrev IsStackHigh : List Place → Type 0
  IsStackHigh [] = ⊥
  IsStackHigh (p ∷ stack) = IsPlaceHigh p ⊎ IsStackHigh stack

  -- a high operation is in a sum that ends with a term
  abbrev IsSumHigh : Left → Term → Type 0
  IsSumHigh l t = IsLeftHigh l ⊎ IsTermHigh ops high names t

  -- a high operation is in the trees that were read
  abbrev IsStateHigh : parsing.State → Type 0
  IsStateHigh (atom_wanted stack p) = IsStackHigh stack ⊎ IsPlaceHigh p
  IsStateHigh (atom_seen stack p a) = IsStackHigh stack ⊎ (IsPlaceHigh p ⊎ IsAtomHigh ops high names a)
  IsStateHigh (exponent_wanted stack p a) = IsStackHigh stack ⊎ (IsPlaceHigh p ⊎ IsAtomHigh ops high names a)
  IsStateHigh (divisor_wanted stack l t) = IsStackHigh stack ⊎ IsSumHigh l t
  IsStateHigh (term_seen stack l t) = IsStackHigh stack ⊎ IsSumHigh l t

  -- a high operation is in the trees after a step, if the step may be taken
  abbrev Passes : Option parsing.State → Type 0
  Passes None = Unit {0}
  Passes (Some s) = IsStateHigh s

  -- a high part of a term is one of the whole
  term_high : (b : Before) (f : Factor) → IsBeforeHigh b ⊎ IsFactorHigh ops high names f → IsTermHigh ops high names (term_of b f)
  term_high parsing.nothing f (inl h) = absurd h
  term_high parsing.nothing f (inr h) = h
  term_high (parsing.times t) f (inl h) = inl h
  term_high (parsing.times t) f (inr h) = inr (inl h)

  -- a high part of a sum is one of the whole
  expr_high : (l : Left) (t : Term) → IsSumHigh l t → IsExprHigh ops high names (expr_of l t)
  expr_high parsing.start t (inl h) = absurd h
  expr_high parsing.start t (inr h) = h
  expr_high (parsing.lead s) t (inl h) = absurd h
  expr_high (parsing.lead s) t (inr h) = h
  expr_high (parsing.after e s) t (inl h) = inl h
  expr_high (parsing.after e s) t (inr h) = inr (inl h)

  -- a high product with the last factor is in the term
  times_high : (b : Before) (f : Factor) → IsTimesHigh ops high (calculated.product_of ops names b) (factor_value ops names f) → IsTermHigh ops high names (term_of b f)
  times_high parsing.nothing f h = absurd h
  times_high (parsing.times t) f h = inr (inr h)

  -- a high sum with the last term is in the expression
  total_high : (l : Left) (b : Before) (t : Term) → IsTotalHigh ops high (calculated.frame_at ops names l b) (term_value ops names t) → IsExprHigh ops high names (expr_of l t)
  total_high parsing.start b t h = absurd h
  total_high (parsing.lead s) b t h = absurd h
  total_high (parsing.after e s) b t h = inr (inr (subst (high.sum (expr_value ops names e)) (calculated.signed_is ops names s (term_value ops names t)) h))

  -- a choice that passes on both sides
  both : (b : Bool) (x y : Option parsing.State) → (b ≡ true → Passes x) → (b ≡ false → Passes y) → Passes (cond b x y)
  both true x y f g = f refl
  both false x y f g = g refl

  -- after a sign
  signing : (stack : List Place) (l : Left) (t : Term) (o : Option Sign) → IsStackHigh stack ⊎ IsExprHigh ops high names (expr_of l t) → Passes (parsing.next_term stack l t o)
  signing stack l t None h = tt
  signing stack l t (Some s) (inl h) = inl h
  signing stack l t (Some s) (inr h) = inr (inl h)

  -- after `)`
  closing : (stack : List Place) (e : Expr) → IsStackHigh stack ⊎ IsExprHigh ops high names e → Passes (parsing.closed stack e)
  closing [] e h = tt
  closing (p ∷ stack) e (inl (inl h)) = inr (inl h)
  closing (p ∷ stack) e (inl (inr h)) = inl h
  closing (p ∷ stack) e (inr h) = inr (inr h)

  -- a sum that ends here, with a high operation in it
  summed : (stack : List Place) (l : Left) (t : Term) → IsStackHigh stack ⊎ IsSumHigh l t → IsStackHigh stack ⊎ IsExprHigh ops high names (expr_of l t)
  summed stack l t (inl h) = inl h
  summed stack l t (inr h) = inr (expr_high l t h)

  -- after a product sign
  multiplying : (stack : List Place) (l : Left) (t : Term) → IsStackHigh stack ⊎ IsSumHigh l t → IsStackHigh stack ⊎ IsPlaceHigh (place l (parsing.times t))
  multiplying stack l t (inl h) = inl h
  multiplying stack l t (inr (inl h)) = inr (inl h)
  multiplying stack l t (inr (inr h)) = inr (inr h)

  -- a symbol after a term keeps a high operation
  termed : (stack : List Place) (l : Left) (t : Term) (c : ℕ) → IsStackHigh stack ⊎ IsSumHigh l t → Passes (parsing.on_term stack l t c)
  termed stack l t c h =
      both (c == 42) _ _ (λ q. multiplying stack l t h)
      (λ q. both (c == 47) _ _ (λ r. h)
      (λ r. both (c == 41) _ _ (λ p. closing stack (expr_of l t) (summed stack l t h)) (λ p. signing stack l t (parsing.sign_of c) (summed stack l t h))))

  -- a sign before an expression keeps a high operation
  leading : (stack : List Place) (l : Left) (b : Before) (o : Option Sign) → IsStackHigh stack ⊎ IsPlaceHigh (place l b) → Passes (parsing.led stack (place l b) o)
  leading stack l b None h = tt
  leading stack parsing.start parsing.nothing (Some s) (inl h) = inl h
  leading stack parsing.start parsing.nothing (Some s) (inr (inl h)) = absurd h
  leading stack parsing.start parsing.nothing (Some s) (inr (inr h)) = absurd h
  leading stack parsing.start (parsing.times t) (Some s) h = tt
  leading stack (parsing.lead s') b (Some s) h = tt
  leading stack (parsing.after e s') b (Some s) h = tt

  -- after `(`
  opening : (stack : List Place) (p : Place) → IsStackHigh stack ⊎ IsPlaceHigh p → IsStackHigh (p ∷ stack) ⊎ IsPlaceHigh (place parsing.start parsing.nothing)
  opening stack p (inl h) = inl (inr h)
  opening stack p (inr h) = inl (inl h)

  -- before a leaf
  leaf : (stack : List Place) (p : Place) (a : Atom) → IsStackHigh stack ⊎ IsPlaceHigh p → IsStackHigh stack ⊎ (IsPlaceHigh p ⊎ IsAtomHigh ops high names a)
  leaf stack p a (inl h) = inl h
  leaf stack p a (inr h) = inr (inl h)

  -- a factor that ends here, with a high operation in it or before it
  factored : (stack : List Place) (p : Place) (f : Factor) → IsStackHigh stack ⊎ (IsPlaceHigh p ⊎ IsFactorHigh ops high names f) → IsStackHigh stack ⊎ IsSumHigh p.left (term_of p.before f)
  factored stack p f (inl h) = inl h
  factored stack p f (inr (inl (inl h))) = inr (inl h)
  factored stack p f (inr (inl (inr h))) = inr (inr (term_high p.before f (inl h)))
  factored stack p f (inr (inr h)) = inr (inr (term_high p.before f (inr h)))

  -- a power whose base has a high operation has one
  powered : (stack : List Place) (p : Place) (a : Atom) (d : Word) → IsStackHigh stack ⊎ (IsPlaceHigh p ⊎ IsAtomHigh ops high names a) → IsStackHigh stack ⊎ (IsPlaceHigh p ⊎ IsFactorHigh ops high names (syntax.power a d))
  powered stack p a d (inl h) = inl h
  powered stack p a d (inr (inl h)) = inr (inl h)
  powered stack p a d (inr (inr h)) = inr (inr (inl h))

  -- a quotient whose term has a high operation has one
  divided : (stack : List Place) (l : Left) (t : Term) (d : Word) → IsStackHigh stack ⊎ IsSumHigh l t → IsStackHigh stack ⊎ IsSumHigh l (syntax.quotient t d)
  divided stack l t d (inl h) = inl h
  divided stack l t d (inr (inl h)) = inr (inl h)
  divided stack l t d (inr (inr h)) = inr (inr (inl h))

  -- a step keeps a high operation
  kept : (s : parsing.State) (t : Token) → IsStateHigh s → Passes (step s t)
  kept (atom_wanted stack p) (name x) h = leaf stack p (syntax.variable x) h
  kept (atom_wanted stack p) (number d) h = leaf stack p (syntax.natural d) h
  kept (atom_wanted stack p) (symbol c) h = both (c == 40) _ _ (λ q. opening stack p h) (λ q. leading stack p.left p.before (parsing.sign_of c) h)
  kept (atom_seen stack p a) (name x) h = tt
  kept (atom_seen stack p a) (number d) h = tt
  kept (atom_seen stack p a) (symbol c) h = both (c == 94) _ _ (λ q. h) (λ q. termed stack p.left (term_of p.before (syntax.plain a)) c (factored stack p (syntax.plain a) h))
  kept (exponent_wanted stack p a) (name x) h = tt
  kept (exponent_wanted stack p a) (number d) h = factored stack p (syntax.power a d) (powered stack p a d h)
  kept (exponent_wanted stack p a) (symbol c) h = tt
  kept (divisor_wanted stack l t) (name x) h = tt
  kept (divisor_wanted stack l t) (number d) h = both (nat_lt 0 (number_of d)) _ _ (λ q. divided stack l t d h) (λ q. tt)
  kept (divisor_wanted stack l t) (symbol c) h = tt
  kept (term_seen stack l t) (name x) h = tt
  kept (term_seen stack l t) (number d) h = tt
  kept (term_seen stack l t) (symbol c) h = termed stack l t c h

  -- a symbol that ends a term, with a high sum
  ended : (stack : List Place) (l : Left) (b : Before) (t : Term) (c : ℕ) → IsEndHigh ops high (calculated.frame_at ops names l b) (term_value ops names t) c → Passes (parsing.on_term stack l t c)
  ended stack l b t c h =
      both (c == 42) _ _ (λ q. absurd (true≢false (sym q ∙ h.0)))
      (λ q. both (c == 47) _ _ (λ r. absurd (true≢false (sym r ∙ h.1)))
      (λ r. both (c == 41) _ _ (λ p. closing stack (expr_of l t) (inr (total_high l b t h.2))) (λ p. signing stack l t (parsing.sign_of c) (inr (total_high l b t h.2)))))

  -- a symbol after an atom, with a high product or sum
  atom_ended : (stack : List Place) (p : Place) (a : Atom) (c : ℕ) → let f = calculated.frame_at ops names p.left p.before in let v = atom_value ops names a in
      IsTimesHigh ops high f.product v ⊎ IsEndHigh ops high f (times ops f.product v) c → Passes (parsing.on_term stack p.left (term_of p.before (syntax.plain a)) c)
  atom_ended stack p a c (inl h) = termed stack p.left (term_of p.before (syntax.plain a)) c (inr (inr (times_high p.before (syntax.plain a) h)))
  atom_ended stack p a c (inr h) =
      ended stack p.left p.before (term_of p.before (syntax.plain a)) c
      (subst (λ v. IsEndHigh ops high (calculated.frame_at ops names p.left p.before) v c) (calculated.times_is ops names p.before (syntax.plain a)) h)

  -- a high power, or product with it
  raised : (stack : List Place) (p : Place) (a : Atom) (d : Word) → IsPowerHigh ops high (atom_value ops names a) (number_of d) ⊎ IsTimesHigh ops high (calculated.product_of ops names p.before) (factor_value ops names (syntax.power a d))
      → IsStackHigh stack ⊎ IsSumHigh p.left (term_of p.before (syntax.power a d))
  raised stack p a d (inl h) = factored stack p (syntax.power a d) (inr (inr (inr h)))
  raised stack p a d (inr h) = inr (inr (times_high p.before (syntax.power a d) h))

  -- a step with a high operation puts it into the trees
  taken : (s : parsing.State) (t : Token) → IsStepHigh ops high (calculated.state_of ops names s) (step_of names t) → Passes (step s t)
  taken (atom_wanted stack p) (name x) h = absurd h
  taken (atom_wanted stack p) (number d) h = absurd h
  taken (atom_wanted stack p) (symbol c) h = absurd h
  taken (atom_seen stack p a) (name x) h = tt
  taken (atom_seen stack p a) (number d) h = tt
  taken (atom_seen stack p a) (symbol c) h = both (c == 94) _ _ (λ q. absurd (true≢false (sym q ∙ h.0))) (λ q. atom_ended stack p a c h.1)
  taken (exponent_wanted stack p a) (name x) h = tt
  taken (exponent_wanted stack p a) (number d) h = raised stack p a d h
  taken (exponent_wanted stack p a) (symbol c) h = tt
  taken (divisor_wanted stack l t) (name x) h = tt
  taken (divisor_wanted stack l t) (number d) h = both (nat_lt 0 (number_of d)) _ _ (λ q. inr (inr (inr h))) (λ q. tt)
  taken (divisor_wanted stack l t) (symbol c) h = tt
  taken (term_seen stack l t) (name x) h = tt
  taken (term_seen stack l t) (number d) h = tt
  taken (term_seen stack l t) (symbol c) h = ended stack l parsing.nothing t c h

  -- a high operation in the trees is in the trees after more tokens
  run_kept : (ts : List Token) (s s' : parsing.State) → run (Some s) ts ≡ Some s' → IsStateHigh s → IsStateHigh s'
  run_kept [] s s' e h = subst IsStateHigh (some_is e) h
  run_kept (t ∷ ts) s s' e h =
      let go : (o : Option parsing.State) → step s t ≡ o → IsStateHigh s' = elim [
        | None ↦ λ q. no_some (sym (run_none ts) ∙ sym (ap (λ o. run o ts) q) ∙ e)
        | Some s1 ↦ λ q. run_kept ts s1 s' (sym (ap (λ o. run o ts) q) ∙ e) (subst Passes q (kept s t h))
      ] in go (step s t) refl

  -- a factor that was read, with a high operation
  factor_seen : (l : Left) (b : Before) (f : Factor) → IsStateHigh (parsing.seen_factor [] l b f) → IsExprHigh ops high names (expr_of l (term_of b f))
  factor_seen l b (syntax.plain a) (inl h) = absurd h
  factor_seen l b (syntax.plain a) (inr (inl (inl h))) = expr_high l (term_of b (syntax.plain a)) (inl h)
  factor_seen l b (syntax.plain a) (inr (inl (inr h))) = expr_high l (term_of b (syntax.plain a)) (inr (term_high b (syntax.plain a) (inl h)))
  factor_seen l b (syntax.plain a) (inr (inr h)) = expr_high l (term_of b (syntax.plain a)) (inr (term_high b (syntax.plain a) (inr h)))
  factor_seen l b (syntax.power a d) (inl h) = absurd h
  factor_seen l b (syntax.power a d) (inr h) = expr_high l (term_of b (syntax.power a d)) h

  -- a term that was read, with a high operation
  term_seen_high : (l : Left) (t : Term) → IsStateHigh (parsing.seen_term [] l t) → IsExprHigh ops high names (expr_of l t)
  term_seen_high l (syntax.factor f) h = factor_seen l parsing.nothing f h
  term_seen_high l (syntax.product t f) h = factor_seen l (parsing.times t) f h
  term_seen_high l (syntax.quotient t d) (inl h) = absurd h
  term_seen_high l (syntax.quotient t d) (inr h) = expr_high l (syntax.quotient t d) h

  -- an expression that was read, with a high operation
  expr_seen : (e : Expr) → IsStateHigh (seen_expr [] e) → IsExprHigh ops high names e
  expr_seen (syntax.first t) h = term_seen_high parsing.start t h
  expr_seen (syntax.signed s t) h = term_seen_high (parsing.lead s) t h
  expr_seen (syntax.sum e s t) h = term_seen_high (parsing.after e s) t h

  -- a high operation at the end, after a factor
  factor_outcome : (l : Left) (b : Before) (f : Factor) → IsOutcomeHigh ops high (calculated.state_of ops names (parsing.seen_factor [] l b f)) → IsExprHigh ops high names (expr_of l (term_of b f))
  factor_outcome l b (syntax.plain a) (inl h) = expr_high l (term_of b (syntax.plain a)) (inr (times_high b (syntax.plain a) h))
  factor_outcome l b (syntax.plain a) (inr h) =
      total_high l b (term_of b (syntax.plain a)) (subst (IsTotalHigh ops high (calculated.frame_at ops names l b)) (calculated.times_is ops names b (syntax.plain a)) h)
  factor_outcome l b (syntax.power a d) h = total_high l parsing.nothing (term_of b (syntax.power a d)) h

  -- a high operation at the end, after a term
  term_outcome : (l : Left) (t : Term) → IsOutcomeHigh ops high (calculated.state_of ops names (parsing.seen_term [] l t)) → IsExprHigh ops high names (expr_of l t)
  term_outcome l (syntax.factor f) h = factor_outcome l parsing.nothing f h
  term_outcome l (syntax.product t f) h = factor_outcome l (parsing.times t) f h
  term_outcome l (syntax.quotient t d) h = total_high l parsing.nothing (syntax.quotient t d) h

  -- a high operation at the end
  expr_outcome : (e : Expr) → IsOutcomeHigh ops high (calculated.state_of ops names (seen_expr [] e)) → IsExprHigh ops high names e
  expr_outcome (syntax.first t) h = term_outcome parsing.start t h
  expr_outcome (syntax.signed s t) h = term_outcome (parsing.lead s) t h
  expr_outcome (syntax.sum e s t) h = term_outcome (parsing.after e s) t h

  -- a high operation on the way
  run_high : (ts : List Token) (s : parsing.State) (e : Expr) → run (Some s) ts ≡ Some (seen_expr [] e) → IsRunHigh ops high (Some (calculated.state_of ops names s)) (map (step_of names) ts) → IsExprHigh ops high names e
  run_high [] s e q h = expr_outcome e (subst (λ s. IsOutcomeHigh ops high (calculated.state_of ops names s)) (some_is q) h)
  run_high (t ∷ ts) s e q h =
      let go : (o : Option parsing.State) → step s t ≡ o → IsExprHigh ops high names e = elim [
        | None ↦ λ r. no_some (sym (run_none ts) ∙ sym (ap (λ o. run o ts) r) ∙ q)
        | Some s1 ↦ λ r.
            let rest : run (Some s1) ts ≡ Some (seen_expr [] e) = sym (ap (λ o. run o ts) r) ∙ q in
            let next = subst (calculated.Follows ops names (on_step ops (calculated.state_of ops names s) (step_of names t))) r (calculated.stepped ops names s t) in
            elim h [
              | inl k ↦ expr_seen e (run_kept ts s1 (seen_expr [] e) rest (subst Passes r (taken s t k)))
              | inr k ↦ run_high ts s1 e rest (subst (λ o. IsRunHigh ops high o (map (step_of names) ts)) next k)
            ]
      ] in go (step s t) refl

  -- the steps of an expression go through a high operation only where its value does
  pub refused : (e : Expr) → are_divisors (divisors_of_expr e) ≡ true → IsRunHigh ops high (Some calculation_start) (map (step_of names) (expr_tokens e)) → IsExprHigh ops high names e
  refused e d h = run_high (expr_tokens e) (atom_wanted [] (place parsing.start parsing.nothing)) e (read_expr e [] d) h
