-- Moves that put linear forms: the entries of their linear parts.
use Rattle.std.proofs.Common.{◌≡◌, ◌≢◌, ℕ, zero, suc, ◌<◌, ◌≤◌, inl, inr, Bool, true, false, cond, eqb, eqb-true, eq-eqb, ne_eqb, List, [], ◌∷◌, ◌++◌, map, length, get_or, ap, ap₂, sym, ◌∙◌, refl, subst, arith}
use Rattle.std.proofs.lemmas.List.{get_or-map, length-map}
use Rattle.ring_theory.specs.Scalars.{Scalars, ScalarLaws}
use Rattle.poly_law.specs.Sums.{sum_to, unit_at}
use Rattle.poly_law.specs.Exps.{variable, degree, same}
use Rattle.poly_law.specs.ExpList.{ExpList, exps}
use Rattle.poly_law.specs.Poly.{coefficient, scale, term}
use Rattle.poly_law.specs.Polynomials.{Polynomial, SameIn, poly_in}
use Rattle.poly_law.proofs.ExpLists.{exps_are}
use Rattle.poly_law.proofs.ExpLaws
use Rattle.poly_law.proofs.Linear
use Rattle.poly_law.proofs.Order
use Rattle.mono_exp.specs.Exponents.{numbers_below}
use Rattle.mono_exp.proofs.Lists.{Each, each-append, length-numbers_below, get_or-numbers_below, numbers_are_below}
use Rattle.coord_change.specs.Linear.{linear_form}
use Rattle.coord_change.specs.Moves.{Move, move_of, put, variable_of}
use Rattle.move_law.specs.Moves.{linear}
use Rattle.hessian_rank.specs.Sound.{Has, Distinct, IsLinear}
use Rattle.hessian_rank.proofs.NumberLists.{each-has, has-numbers_below}

module _ {V : Type 0} (n : ℕ) (s : Scalars V) (laws : ScalarLaws s) where
  -- all monomials are variables
  abbrev pub AllLinear : Polynomial n V → Type 0
  AllLinear p = Each (λ t. degree (exps n) t.0 ≡ 1) p

  -- a sum of multiples of variables has no terms of other degrees
  off : (p : Polynomial n V) → AllLinear p → (b : ExpList n) → degree (exps n) b ≢ 1 → coefficient (exps n) s.ops p b ≡ s.ops.zero
  off [] a b ne = refl
  off (t ∷ p) a b ne =
      ap₂ s.ops.add (ap (λ z. cond z t.1 s.ops.zero) (ExpLaws.same-no (exps n) (exps_are n) t.0 b (λ e. ne (sym (ap (degree (exps n)) e) ∙ a.0)))) (off p a.1 b ne)
      ∙ laws.ring.add_zero s.ops.zero

  -- a linear form has variables alone
  sums_linear : (w : ℕ → V) (k : ℕ) → k ≤ n → AllLinear (sum_to (poly_in n s.ops) k (λ j. scale (exps n) s.ops (w j) (term (exps n) s.ops (variable (exps n) j))))
  sums_linear w zero h = tt
  sums_linear w (suc k) h = each-append (λ t. degree (exps n) t.0 ≡ 1) (sum_to (poly_in n s.ops) k (λ j. scale (exps n) s.ops (w j) (term (exps n) s.ops (variable (exps n) j)))) (scale (exps n) s.ops (w k) (term (exps n) s.ops (variable (exps n) k)))
      (sums_linear w k (omega arith)) (ExpLaws.degree-variable (exps n) (exps_are n) k (omega arith), tt)

  -- a sum of multiples of variables is the linear form with its coefficients
  pub is_form : (p : Polynomial n V) → AllLinear p → (w : ℕ → V) → ((j : ℕ) → j < n → coefficient (exps n) s.ops p (variable (exps n) j) ≡ w j) → SameIn n s.ops p (linear_form n s.ops w)
  is_form p a w e b = step (eqb (degree (exps n) b) 1) refl
    where
      step : (t : Bool) → eqb (degree (exps n) b) 1 ≡ t → coefficient (exps n) s.ops p b ≡ coefficient (exps n) s.ops (linear_form n s.ops w) b
      step true q =
          let v = ExpLaws.variable_of_degree (exps n) (exps_are n) b (eqb-true (degree (exps n) b) 1 q) in
          ap (coefficient (exps n) s.ops p) v.2 ∙ e v.0 v.1 ∙ sym (Linear.coefficient-linear (exps n) (exps_are n) s.ops laws.ring w v.0 v.1) ∙ sym (ap (coefficient (exps n) s.ops (linear_form n s.ops w)) v.2)
      step false q =
          let ne : degree (exps n) b ≢ 1 = λ z. (let bad : false ≡ true = sym q ∙ eq-eqb (degree (exps n) b) 1 z in cc bad) in
          off p a b ne ∙ sym (off (linear_form n s.ops w) (sums_linear w n (omega arith)) b ne)

  -- the coefficient of a variable in a variable
  pub variable_at : (k j : ℕ) → k < n → j < n → coefficient (exps n) s.ops (variable_of n s k) (variable (exps n) j) ≡ unit_at s.ops k j
  variable_at k j hk hj = laws.ring.add_zero (cond (same (exps n) (variable (exps n) k) (variable (exps n) j)) s.ops.one s.ops.zero) ∙ Linear.at_only-variable (exps n) (exps_are n) s.ops laws.ring k j hk hj

  -- variables are the same where their numbers are
  same_variables : (j b : ℕ) → j < n → b < n → same (exps n) (variable (exps n) j) (variable (exps n) b) ≡ eqb j b
  same_variables j b hj hb = step (eqb j b) refl
    where
      differ : (j ≡ b → ⊥) → variable (exps n) j ≡ variable (exps n) b → ⊥
      differ ne e =
          let e₁ : (exps n).at (variable (exps n) j) j ≡ (exps n).at (variable (exps n) b) j = ap (λ a. (exps n).at a j) e in
          let e₂ = ExpLaws.at-variable (exps n) (exps_are n) j j hj in
          let e₃ = ExpLaws.at-variable (exps n) (exps_are n) b j hj in
          let e₄ = ExpLaws.unit_yes j j refl in
          let e₅ = ExpLaws.unit_no j b ne in
          omega arith

      step : (t : Bool) → eqb j b ≡ t → same (exps n) (variable (exps n) j) (variable (exps n) b) ≡ t
      step true q = ap (λ z. same (exps n) (variable (exps n) z) (variable (exps n) b)) (eqb-true j b q) ∙ ExpLaws.same_refl (exps n) (exps_are n) (variable (exps n) b)
      step false q = ExpLaws.same-no (exps n) (exps_are n) (variable (exps n) j) (variable (exps n) b) (differ (λ z. (let bad : false ≡ true = sym q ∙ eq-eqb j b z in cc bad)))

  -- ---- what a move puts

  -- what a list that is made from the numbers below n has at place a
  at_mapped : {X : Type 0} (f : ℕ → X) (a : ℕ) (d : X) → a < n → get_or (map f (numbers_below n)) a d ≡ f a
  at_mapped f a d h = get_or-map f (numbers_below n) a 0 d (let l = length-numbers_below n in omega arith) ∙ ap f (get_or-numbers_below n a 0 h)

  -- a move that puts nothing leaves each variable
  pub put_nothing : (a : ℕ) → a < n → put n s (move_of n s []) a ≡ variable_of n s a
  unfolding move_of
  put_nothing a h = at_mapped _ a [] h

  -- the first pair for variable a decides
  pub put_first : (p : ℕ × Polynomial n V) (ps : List (ℕ × Polynomial n V)) (a : ℕ) → a < n → put n s (move_of n s (p ∷ ps)) a ≡ cond (eqb p.0 a) p.1 (put n s (move_of n s ps) a)
  unfolding move_of
  put_first p ps a h = at_mapped _ a [] h ∙ ap (cond (eqb p.0 a) p.1) (sym (at_mapped _ a [] h))

  -- a move puts something for each variable
  pub length-move_of : (ps : List (ℕ × Polynomial n V)) → length (move_of n s ps) ≡ n
  unfolding move_of
  length-move_of ps = length-map (numbers_below n) _ ∙ length-numbers_below n

  -- the entries of the linear part are those of the matrix
  pub entries : (w : ℕ → ℕ → V) (move : Move n V) → IsLinear n s w move → (a b : ℕ) → a < n → b < n → coefficient (exps n) s.ops (put n s move a) (variable (exps n) b) ≡ w a b
  entries w move is a b ha hb = is.forms a ha (variable (exps n) b) ∙ Linear.coefficient-linear (exps n) (exps_are n) s.ops laws.ring (w a) b hb

  -- ---- one variable goes to itself and more

  -- x(i) goes to itself and a sum of multiples of variables: the identity but for row i
  pub one_more : (i : ℕ) → i < n → (rest : Polynomial n V) → AllLinear rest → (d : ℕ → V) → ((b : ℕ) → b < n → coefficient (exps n) s.ops rest (variable (exps n) b) ≡ d b)
      → IsLinear n s (λ a b. s.ops.add (unit_at s.ops a b) (cond (eqb a i) (d b) s.ops.zero)) (move_of n s ((i, variable_of n s i ++ rest) ∷ []))
  one_more i hi rest linear d is = record {
    long = length-move_of ((i, variable_of n s i ++ rest) ∷ []);
    forms = λ a ha b. ap (λ z. coefficient (exps n) s.ops z b) (put_first (i, variable_of n s i ++ rest) [] a ha ∙ ap (cond (eqb i a) (variable_of n s i ++ rest)) (put_nothing a ha)) ∙ step a ha (eqb i a) (eqb a i) refl refl b;
  }
    where
      own : (k : ℕ) → k < n → AllLinear (variable_of n s k)
      own k h = (ExpLaws.degree-variable (exps n) (exps_are n) k h, tt)

      step : (a : ℕ) → a < n → (t u : Bool) → eqb i a ≡ t → eqb a i ≡ u → SameIn n s.ops (cond t (variable_of n s i ++ rest) (variable_of n s a)) (linear_form n s.ops (λ b. s.ops.add (unit_at s.ops a b) (cond u (d b) s.ops.zero)))
      step a ha true true e q = is_form (variable_of n s i ++ rest) ((own i hi).0, linear) (λ b. s.ops.add (unit_at s.ops a b) (d b)) (λ b hb. Order.coefficient-append (exps n) (exps_are n) s.ops laws.ring (variable_of n s i) rest (variable (exps n) b)
          ∙ ap₂ s.ops.add (variable_at i b hi hb ∙ ap (λ z. unit_at s.ops z b) (eqb-true i a e)) (is b hb))
      step a ha false false e q = is_form (variable_of n s a) (own a ha) (λ b. s.ops.add (unit_at s.ops a b) s.ops.zero) (λ b hb. variable_at a b ha hb ∙ sym (laws.ring.add_zero (unit_at s.ops a b)))
      step a ha true false e q = absurd (let bad : false ≡ true = sym q ∙ eq-eqb a i (sym (eqb-true i a e)) in cc bad)
      step a ha false true e q = absurd (let bad : false ≡ true = sym e ∙ eq-eqb i a (sym (eqb-true a i q)) in cc bad)

  -- ---- coefficients of a sum of multiples of different variables

  module _ (g : ℕ → V) where
    -- these multiples are linear
    pub multiples_linear : (js : List ℕ) → Each (λ j. j < n) js → AllLinear (linear n s (map (λ j. (g j, j)) js))
    multiples_linear [] e = tt
    multiples_linear (j ∷ js) e = (ExpLaws.degree-variable (exps n) (exps_are n) j e.0, multiples_linear js e.1)

    -- a variable that is not among them has coefficient 0
    pub absent : (js : List ℕ) → Each (λ j. j < n) js → (b : ℕ) → b < n → (Has js b → ⊥) → coefficient (exps n) s.ops (linear n s (map (λ j. (g j, j)) js)) (variable (exps n) b) ≡ s.ops.zero
    absent [] e b hb out = refl
    absent (j ∷ js) e b hb out =
        ap₂ s.ops.add (ap (λ z. cond z (g j) s.ops.zero) (same_variables j b e.0 hb ∙ ne_eqb j b (λ q. out (inl q)))) (absent js e.1 b hb (λ h. out (inr h)))
        ∙ laws.ring.add_zero s.ops.zero

    -- a variable among them has its own coefficient
    pub there : (js : List ℕ) → Each (λ j. j < n) js → Distinct js → (b : ℕ) → b < n → Has js b → coefficient (exps n) s.ops (linear n s (map (λ j. (g j, j)) js)) (variable (exps n) b) ≡ g b
    there [] e d b hb h = absurd h
    there (j ∷ js) e d b hb h = step h (there js e.1 d.1 b hb) (absent js e.1 b hb)
      where
        zero_add : (v : V) → s.ops.add s.ops.zero v ≡ v
        zero_add v = laws.ring.add_comm s.ops.zero v ∙ laws.ring.add_zero v

        step : Has (j ∷ js) b → (Has js b → coefficient (exps n) s.ops (linear n s (map (λ j. (g j, j)) js)) (variable (exps n) b) ≡ g b)
            → ((Has js b → ⊥) → coefficient (exps n) s.ops (linear n s (map (λ j. (g j, j)) js)) (variable (exps n) b) ≡ s.ops.zero)
            → s.ops.add (cond (same (exps n) (variable (exps n) j) (variable (exps n) b)) (g j) s.ops.zero) (coefficient (exps n) s.ops (linear n s (map (λ j. (g j, j)) js)) (variable (exps n) b)) ≡ g b
        step (inl q) rest none =
            ap₂ s.ops.add (ap (λ z. cond z (g j) s.ops.zero) (same_variables j b e.0 hb ∙ eq-eqb j b q) ∙ ap g q)
            (none (λ k. each-has (λ y. j ≢ y) js b d.0 k q))
            ∙ laws.ring.add_zero (g b)
        step (inr k) rest none =
            ap₂ s.ops.add (ap (λ z. cond z (g j) s.ops.zero) (same_variables j b e.0 hb ∙ ne_eqb j b (λ q. each-has (λ y. j ≢ y) js b d.0 k q))) (rest k)
            ∙ zero_add (g b)

    -- a further multiple, of another variable
    pub append_other : (js : List ℕ) (j b : ℕ) → j < n → b < n → b ≢ j → coefficient (exps n) s.ops (linear n s (map (λ j. (g j, j)) (js ++ j ∷ []))) (variable (exps n) b) ≡ coefficient (exps n) s.ops (linear n s (map (λ j. (g j, j)) js)) (variable (exps n) b)
    append_other [] j b hj hb ne = ap (λ z. s.ops.add (cond z (g j) s.ops.zero) s.ops.zero) (same_variables j b hj hb ∙ ne_eqb j b (λ q. ne (sym q))) ∙ laws.ring.add_zero s.ops.zero
    append_other (i ∷ js) j b hj hb ne = ap (s.ops.add (cond (same (exps n) (variable (exps n) i) (variable (exps n) b)) (g i) s.ops.zero)) (append_other js j b hj hb ne)

  -- ---- variables that change places

  module _ (g : ℕ → ℕ) where
    -- what stands for the variable g(k)
    pub found : (ks : List ℕ) (k : ℕ) → Has ks k → ((j : ℕ) → Has ks j → g j ≡ g k → j ≡ k) → g k < n → put n s (move_of n s (map (λ k. (g k, variable_of n s k)) ks)) (g k) ≡ variable_of n s k
    found [] k h injective inside = absurd h
    found (j ∷ ks) k h injective inside =
        put_first (g j, variable_of n s j) (map (λ k. (g k, variable_of n s k)) ks) (g k) inside
        ∙ step (eqb (g j) (g k)) refl (λ k'. found ks k k' (λ i hi. injective i (inr hi)) inside) h
      where
        step : (t : Bool) → eqb (g j) (g k) ≡ t → (Has ks k → put n s (move_of n s (map (λ k. (g k, variable_of n s k)) ks)) (g k) ≡ variable_of n s k) → Has (j ∷ ks) k
            → cond t (variable_of n s j) (put n s (move_of n s (map (λ k. (g k, variable_of n s k)) ks)) (g k)) ≡ variable_of n s k
        step true e rest k' = ap (variable_of n s) (injective j (inl refl) (eqb-true (g j) (g k) e))
        step false e rest (inl q) = absurd (let bad : false ≡ true = sym e ∙ eq-eqb (g j) (g k) (ap g q) in cc bad)
        step false e rest (inr k') = rest k'

    -- the entries of the identity matrix at other places
    moved_unit : (k j : ℕ) → (g k ≡ g j → k ≡ j) → unit_at s.ops k j ≡ unit_at s.ops (g k) (g j)
    moved_unit k j injective = step (eqb k j) refl
      where
        step : (t : Bool) → eqb k j ≡ t → unit_at s.ops k j ≡ unit_at s.ops (g k) (g j)
        step true e = ap (λ t. cond t s.ops.one s.ops.zero) (e ∙ sym (eq-eqb (g k) (g j) (ap g (eqb-true k j e))))
        step false e = ap (λ t. cond t s.ops.one s.ops.zero) (e ∙ sym (ne_eqb (g k) (g j) (λ q. (let bad : false ≡ true = sym e ∙ eq-eqb k j (injective q) in cc bad))))

    -- x(g(k)) goes to x(k) for each k below n, where g takes these to different numbers, and each number below n is one of them
    pub places : ((j k : ℕ) → j < n → k < n → g j ≡ g k → j ≡ k) → ((a : ℕ) → a < n → (k : ℕ) × (k < n) × (g k ≡ a))
        → IsLinear n s (λ a b. unit_at s.ops a (g b)) (move_of n s (map (λ k. (g k, variable_of n s k)) (numbers_below n)))
    places injective onto = record {
      long = length-move_of (map (λ k. (g k, variable_of n s k)) (numbers_below n));
      forms = λ a ha. at_image a (onto a ha) ha;
    }
      where
        at_image : (a : ℕ) → (k : ℕ) × (k < n) × (g k ≡ a) → a < n → SameIn n s.ops (put n s (move_of n s (map (λ k. (g k, variable_of n s k)) (numbers_below n))) a) (linear_form n s.ops (λ b. unit_at s.ops a (g b)))
        at_image a w ha = subst (λ z. SameIn n s.ops (put n s (move_of n s (map (λ k. (g k, variable_of n s k)) (numbers_below n))) z) (linear_form n s.ops (λ b. unit_at s.ops z (g b)))) w.2
            (λ b. ap (λ z. coefficient (exps n) s.ops z b)
            (found (numbers_below n) w.0 (has-numbers_below n w.0 w.1) (λ j hj. injective j w.0 (each-has (λ i. i < n) (numbers_below n) j (numbers_are_below n) hj) w.1) (let l = ha in let e = w.2 in omega arith))
            ∙ is_form (variable_of n s w.0) (ExpLaws.degree-variable (exps n) (exps_are n) w.0 w.1, tt) (λ b. unit_at s.ops (g w.0) (g b))
            (λ j hj. variable_at w.0 j w.1 hj ∙ moved_unit w.0 j (injective w.0 j w.1 hj)) b)
