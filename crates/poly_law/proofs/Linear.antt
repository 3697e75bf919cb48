-- Linear polynomials, and the linear part of a change.
use mathlib.Core.Path.{fun_ext}
use Rattle.std.proofs.Common.{◌≡◌, ℕ, zero, suc, ◌-◌, ◌<◌, inl, inr, Bool, true, false, cond, eqb, eqb-true, eq-eqb, ap, sym, ◌∙◌, refl, arith}
use Rattle.ring_theory.specs.Ring.{RingOps, IsCommRing}
use Rattle.poly_law.specs.Sums.{sum_to, multiple, unit_at}
use Rattle.poly_law.specs.Exps.{Exps, IsExps, none, lower, variable, same}
use Rattle.poly_law.specs.Poly.{Terms, coefficient, scale, poly_ops, derivative, SameTo, StartsAt, term}
use Rattle.poly_law.proofs.Sums
use Rattle.poly_law.proofs.ExpLaws
use Rattle.poly_law.proofs.Pair
use Rattle.poly_law.proofs.Pair.{pair, at_only}
use Rattle.poly_law.proofs.Derivative
use Rattle.poly_law.proofs.Order

module _ {E V : Type 0} (x : Exps E) (l : IsExps x) (r : RingOps V) (c : IsCommRing r) where
  pub pair-sum_to : (n : ℕ) (u : ℕ → Terms E V) (w : E → V) → pair r (sum_to (poly_ops x r) n u) w ≡ sum_to r n (λ i. pair r (u i) w)
  pair-sum_to zero u w = refl
  pair-sum_to (suc n) u w = Pair.pair-append r c (sum_to (poly_ops x r) n u) (u n) w ∙ ap (λ z. r.add z (pair r (u n) w)) (pair-sum_to n u w)

  pub coefficient-sum_to : (n : ℕ) (u : ℕ → Terms E V) (m : E) → coefficient x r (sum_to (poly_ops x r) n u) m ≡ sum_to r n (λ i. coefficient x r (u i) m)
  coefficient-sum_to zero u m = refl
  coefficient-sum_to (suc n) u m = Order.coefficient-append x l r c (sum_to (poly_ops x r) n u) (u n) m ∙ ap (λ z. r.add z (coefficient x r (u n) m)) (coefficient-sum_to n u m)

  -- the sum of the w j times the variables
  abbrev pub linear : (ℕ → V) → Terms E V
  linear w = sum_to (poly_ops x r) x.count (λ j. scale x r (w j) (term x r (variable x j)))

  pub pair-linear : (w : ℕ → V) (v : E → V) → pair r (linear w) v ≡ sum_to r x.count (λ j. r.mul (w j) (v (variable x j)))
  pair-linear w v =
      pair-sum_to x.count (λ j. scale x r (w j) (term x r (variable x j))) v
      ∙ ap (sum_to r x.count) (fun_ext λ j. Pair.pair-scale x r c (w j) (term x r (variable x j)) v ∙ ap (r.mul (w j)) (c.add_zero (r.mul r.one (v (variable x j))) ∙ c.mul_comm r.one (v (variable x j)) ∙ c.mul_one (v (variable x j))))

  -- the coefficient of variable k in variable j
  pub at_only-variable : (j k : ℕ) → j < x.count → k < x.count → at_only x r (variable x k) (variable x j) ≡ unit_at r j k
  at_only-variable j k g h = step (eqb j k) refl
    where
      differ : (j ≡ k → ⊥) → variable x j ≡ variable x k → ⊥
      differ ne e =
          let e₁ : x.at (variable x j) j ≡ x.at (variable x k) j = ap (λ a. x.at a j) e in
          let e₂ = ExpLaws.at-variable x l j j g in
          let e₃ = ExpLaws.at-variable x l k j g in
          let e₄ = ExpLaws.unit_yes j j refl in
          let e₅ = ExpLaws.unit_no j k ne in
          omega arith

      not_same : eqb j k ≡ false → j ≡ k → ⊥
      not_same h e = bad (sym h ∙ eq-eqb j k e)
        where
          bad : false ≡ true → ⊥
          bad e = cc e

      step : (b : Bool) → eqb j k ≡ b → cond (same x (variable x j) (variable x k)) r.one r.zero ≡ cond b r.one r.zero
      step true h = ap (λ z. cond (same x (variable x z) (variable x k)) r.one r.zero) (eqb-true j k h) ∙ ap (λ b. cond b r.one r.zero) (ExpLaws.same_refl x l (variable x k))
      step false h = ap (λ b. cond b r.one r.zero) (ExpLaws.same-no x l (variable x j) (variable x k) (differ (not_same h)))

  pub coefficient-linear : (w : ℕ → V) (k : ℕ) → k < x.count → coefficient x r (linear w) (variable x k) ≡ w k
  coefficient-linear w k h =
      Pair.coefficient_is x r c (linear w) (variable x k) ∙ pair-linear w (at_only x r (variable x k))
      ∙ Sums.sum_to-cong r x.count (λ j. r.mul (w j) (at_only x r (variable x k) (variable x j))) (λ j. r.mul (w j) (unit_at r j k)) (λ j g. ap (r.mul (w j)) (at_only-variable j k g h))
      ∙ Sums.sum_to-unit r c x.count k w h

  pub starts_linear : (w : ℕ → V) → StartsAt x r 1 (linear w)
  starts_linear w m h =
      Pair.coefficient_is x r c (linear w) m ∙ pair-linear w (at_only x r m)
      ∙ Sums.sum_to-cong r x.count (λ j. r.mul (w j) (at_only x r m (variable x j))) (λ j. r.zero)
      (λ j g. ap (r.mul (w j)) (Order.at_only_high x l r c m (variable x j) (let e = ExpLaws.degree-variable x l j g in omega arith)) ∙ Sums.mul_zero r c (w j))
      ∙ Sums.sum_to-zero r c x.count

  -- two polynomials without constant term and with the same linear coefficients are the same up to degree 1
  pub same_to_one : (f g : Terms E V) → StartsAt x r 1 f → StartsAt x r 1 g → ((k : ℕ) → k < x.count → coefficient x r f (variable x k) ≡ coefficient x r g (variable x k)) → SameTo x r 1 f g
  same_to_one f g s t e m h =
      elim (ExpLaws.low_degree x l m h) [
        | inl z ↦ s m (omega arith) ∙ sym (t m (omega arith))
        | inr o ↦ let v = ExpLaws.variable_of_degree x l m o in ap (coefficient x r f) v.2 ∙ e v.0 v.1 ∙ sym (ap (coefficient x r g) v.2)
      ]

  pub linear_part : (f : Terms E V) → StartsAt x r 1 f → SameTo x r 1 f (linear (λ j. coefficient x r f (variable x j)))
  linear_part f s = same_to_one f (linear (λ j. coefficient x r f (variable x j))) s (starts_linear (λ j. coefficient x r f (variable x j)))
      (λ k h. sym (coefficient-linear (λ j. coefficient x r f (variable x j)) k h))

  -- the constant term of a partial is the linear coefficient
  pub coefficient-derivative_none : (j : ℕ) → j < x.count → (f : Terms E V) → coefficient x r (derivative x r j f) (none x) ≡ coefficient x r f (variable x j)
  coefficient-derivative_none j h f =
      Pair.coefficient_is x r c (derivative x r j f) (none x) ∙ Derivative.pair-derivative x l r c j f (at_only x r (none x))
      ∙ ap (pair r f) (fun_ext λ a. step a (same x (lower x j a) (none x)) (same x a (variable x j)) refl refl)
      ∙ sym (Pair.coefficient_is x r c f (variable x j))
    where
      times_one : (k : ℕ) → k ≡ 1 → multiple r k r.one ≡ r.one
      times_one k e = ap (λ z. multiple r z r.one) e ∙ Sums.zero_add r c r.one

      times_none : (k : ℕ) → multiple r k r.zero ≡ r.zero
      times_none zero = refl
      times_none (suc k) = ap (λ z. r.add z r.zero) (times_none k) ∙ c.add_zero r.zero

      lowered : (a : E) → lower x j a ≡ none x → (x.at a j ≡ 0 → ⊥) → a ≡ variable x j
      lowered a e ne = l.same_at a (variable x j) λ i g.
          let e₁ : x.at (lower x j a) i ≡ x.at (none x) i = ap (λ z. x.at z i) e in
          let e₂ = ExpLaws.at-none x l i g in
          at_i a ne i (eqb i j) refl (sym (ExpLaws.at-lower x l j a i g) ∙ e₁ ∙ e₂) ∙ sym (ExpLaws.at-variable x l j i g)
        where
          at_i : (a : E) → (x.at a j ≡ 0 → ⊥) → (i : ℕ) (b : Bool) → eqb i j ≡ b → cond (eqb i j) (x.at a i - 1) (x.at a i) ≡ 0 → x.at a i ≡ cond (eqb i j) 1 0
          at_i a ne i true y z =
              let e₁ : x.at a i - 1 ≡ 0 = sym (ap (λ b. cond b (x.at a i - 1) (x.at a i)) y) ∙ z in
              let e₂ : x.at a i ≡ x.at a j = ap (x.at a) (eqb-true i j y) in
              let e₃ : x.at a i ≡ 0 → ⊥ = λ w. ne (sym e₂ ∙ w) in
              one_of (x.at a i) e₁ e₃ ∙ sym (ap (λ b. cond {A = ℕ} b 1 0) y)
            where
              one_of : (k : ℕ) → k - 1 ≡ 0 → (k ≡ 0 → ⊥) → k ≡ 1
              one_of k e ne = grind arith
          at_i a ne i false y z = sym (ap (λ b. cond b (x.at a i - 1) (x.at a i)) y) ∙ z ∙ sym (ap (λ b. cond {A = ℕ} b 1 0) y)

      nothing : (a : E) → (a ≡ variable x j → ⊥) → same x (lower x j a) (none x) ≡ true → multiple r (x.at a j) r.one ≡ r.zero
      nothing a ne e = zero_case (x.at a j) refl
        where
          zero_case : (k : ℕ) → x.at a j ≡ k → multiple r k r.one ≡ r.zero
          zero_case zero z = refl
          zero_case (suc k) z = absurd (ne (lowered a (ExpLaws.same-eq x l (lower x j a) (none x) e) (λ w. omega arith)))

      lower_variable : lower x j (variable x j) ≡ none x
      lower_variable = l.same_at (lower x j (variable x j)) (none x) λ i g.
          ExpLaws.at-lower x l j (variable x j) i g ∙ ap (λ k. cond (eqb i j) (k - 1) k) (ExpLaws.at-variable x l j i g) ∙ low (eqb i j) ∙ sym (ExpLaws.at-none x l i g)
        where
          low : (b : Bool) → cond b (cond {A = ℕ} b 1 0 - 1) (cond {A = ℕ} b 1 0) ≡ 0
          low true = refl
          low false = refl

      there : multiple r (x.at (variable x j) j) (cond (same x (lower x j (variable x j)) (none x)) r.one r.zero) ≡ r.one
      there =
          ap (λ k. multiple r k (cond (same x (lower x j (variable x j)) (none x)) r.one r.zero)) (ExpLaws.at-variable x l j j h ∙ ExpLaws.unit_yes j j refl)
          ∙ ap (λ b. r.add r.zero (cond b r.one r.zero)) (ap (λ z. same x z (none x)) lower_variable ∙ ExpLaws.same_refl x l (none x))
          ∙ Sums.zero_add r c r.one

      differ : (a : E) → same x a (variable x j) ≡ false → a ≡ variable x j → ⊥
      differ a q e = bad (sym q ∙ ap (λ z. same x z (variable x j)) e ∙ ExpLaws.same_refl x l (variable x j))
        where
          bad : false ≡ true → ⊥
          bad e = cc e

      step : (a : E) (b d : Bool) → same x (lower x j a) (none x) ≡ b → same x a (variable x j) ≡ d
          → multiple r (x.at a j) (cond (same x (lower x j a) (none x)) r.one r.zero) ≡ cond (same x a (variable x j)) r.one r.zero
      step a b true p q =
          ap (λ a. multiple r (x.at a j) (cond (same x (lower x j a) (none x)) r.one r.zero)) (ExpLaws.same-eq x l a (variable x j) q) ∙ there
          ∙ sym (ap (λ d. cond d r.one r.zero) q)
      step a true false p q =
          ap (λ b. multiple r (x.at a j) (cond b r.one r.zero)) p ∙ nothing a (differ a q) p ∙ sym (ap (λ d. cond d r.one r.zero) q)
      step a false false p q =
          ap (λ b. multiple r (x.at a j) (cond b r.one r.zero)) p ∙ times_none (x.at a j) ∙ sym (ap (λ d. cond d r.one r.zero) q)
