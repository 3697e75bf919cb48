-- Polynomials in the first variables only.
use mathlib.Core.Path.{fun_ext}
use Rattle.std.proofs.Common.{◌≡◌, ℕ, zero, suc, ◌+◌, ◌<◌, ◌≤◌, ◌&&◌, Bool, true, false, cond, ltb, ltb-true, ltb-false, lt-ltb, le-ltb, ap, sym, ◌∙◌, refl, ap₂, arith}
use Rattle.ring_theory.specs.Ring.{RingOps, IsCommRing}
use Rattle.poly_law.specs.Sums.{multiple}
use Rattle.poly_law.specs.Exps.{Exps, IsExps, plus, lower, variable, same, degree}
use Rattle.poly_law.specs.Poly.{Terms, coefficient, derivative}
use Rattle.poly_law.proofs.ExpLaws
use Rattle.poly_law.proofs.Pair
use Rattle.poly_law.proofs.Pair.{pair, at_only}
use Rattle.poly_law.proofs.Derivation.{multiple_when}
use Rattle.poly_law.proofs.Derivative

-- the coefficients of a derivative
module _ {E V : Type 0} (x : Exps E) (l : IsExps x) (r : RingOps V) (c : IsCommRing r) where
  pub multiple-zero : (k : ℕ) → multiple r k r.zero ≡ r.zero
  multiple-zero zero = refl
  multiple-zero (suc k) = ap (λ z. r.add z r.zero) (multiple-zero k) ∙ c.add_zero r.zero

  pub coefficient-derivative : (j : ℕ) → j < x.count → (f : Terms E V) (m : E) → coefficient x r (derivative x r j f) m ≡ multiple r (suc (x.at m j)) (coefficient x r f (plus x m (variable x j)))
  coefficient-derivative j h f m =
      Pair.coefficient_is x r c (derivative x r j f) m ∙ Derivative.pair-derivative x l r c j f (at_only x r m)
      ∙ ap (pair r f) (fun_ext λ a. step a (same x a up) refl)
      ∙ Derivative.pair-multiple x l r c f (suc (x.at m j)) (at_only x r up)
      ∙ ap (multiple r (suc (x.at m j))) (sym (Pair.coefficient_is x r c f up))
    where
      up : E
      up = plus x m (variable x j)

      differs : (a : E) → same x a up ≡ false → a ≡ up → ⊥
      differs a q e = bad (sym q ∙ ap (λ z. same x z up) e ∙ ExpLaws.same_refl x l up)
        where
          bad : false ≡ true → ⊥
          bad e = cc e

      back : (a : E) → (0 < x.at a j) → lower x j a ≡ m → a ≡ up
      back a p e = sym (ExpLaws.variable-lower x l j a p) ∙ ExpLaws.plus_comm x l (variable x j) (lower x j a) ∙ ap (λ z. plus x z (variable x j)) e

      away : (a : E) → (a ≡ up → ⊥) → multiple r (x.at a j) (at_only x r m (lower x j a)) ≡ r.zero
      away a ne =
          multiple_when r (x.at a j) (at_only x r m (lower x j a)) r.zero (λ p. ap (λ b. cond b r.one r.zero) (ExpLaws.same-no x l (lower x j a) m (λ e. ne (back a p e))))
          ∙ multiple-zero (x.at a j)

      step : (a : E) (b : Bool) → same x a up ≡ b → multiple r (x.at a j) (at_only x r m (lower x j a)) ≡ multiple r (suc (x.at m j)) (cond (same x a up) r.one r.zero)
      step a true q =
          ap (λ z. multiple r (x.at z j) (at_only x r m (lower x j z))) (ExpLaws.same-eq x l a up q)
          ∙ ap₂ (λ k z. multiple r k (at_only x r m z)) (ExpLaws.plus_at x l m j h) (ExpLaws.lower-variable x l j m h)
          ∙ ap (λ b. multiple r (suc (x.at m j)) (cond b r.one r.zero)) (ExpLaws.same_refl x l m ∙ sym q)
      step a false q = away a (differs a q) ∙ sym (multiple-zero (suc (x.at m j))) ∙ ap (λ b. multiple r (suc (x.at m j)) (cond b r.one r.zero)) (sym q)

module _ {E F : Type 0} (x : Exps E) (l : IsExps x) (y : Exps F) (m : IsExps y) (fewer : y.count ≤ x.count) where
  abbrev pub placed : F → E
  placed b = x.make (λ i. cond (ltb i y.count) (y.at b i) 0)

  abbrev pub restrict : E → F
  restrict a = y.make (x.at a)

  pub at-placed : (b : F) (i : ℕ) → i < x.count → x.at (placed b) i ≡ cond (ltb i y.count) (y.at b i) 0
  at-placed b i h = l.at_make (λ i. cond (ltb i y.count) (y.at b i) 0) i h

  pub at-placed_front : (b : F) (i : ℕ) → i < y.count → x.at (placed b) i ≡ y.at b i
  at-placed_front b i h = at-placed b i (omega arith) ∙ ap (λ t. cond t (y.at b i) 0) (lt-ltb i y.count h)

  pub at-placed_past : (b : F) (i : ℕ) → y.count ≤ i → i < x.count → x.at (placed b) i ≡ 0
  at-placed_past b i h g = at-placed b i g ∙ ap (λ t. cond t (y.at b i) 0) (le-ltb i y.count h)

  pub restrict-placed : (b : F) → restrict (placed b) ≡ b
  restrict-placed b = m.same_at (restrict (placed b)) b λ i h. m.at_make (x.at (placed b)) i h ∙ at-placed_front b i h

  -- equal, for a monomial and one of y
  pub is_placed : (a : E) (b : F) → ((i : ℕ) → i < y.count → x.at a i ≡ y.at b i) → ((i : ℕ) → y.count ≤ i → i < x.count → x.at a i ≡ 0) → a ≡ placed b
  is_placed a b e z = l.same_at a (placed b) λ i h. step i h (ltb i y.count) refl
    where
      step : (i : ℕ) → i < x.count → (t : Bool) → ltb i y.count ≡ t → x.at a i ≡ x.at (placed b) i
      step i h true q = e i (ltb-true i y.count q) ∙ sym (at-placed_front b i (ltb-true i y.count q))
      step i h false q = z i (ltb-false i y.count q) h ∙ sym (at-placed_past b i (ltb-false i y.count q) h)

  pub placed-restrict : (a : E) → ((i : ℕ) → y.count ≤ i → i < x.count → x.at a i ≡ 0) → a ≡ placed (restrict a)
  placed-restrict a z = is_placed a (restrict a) (λ i h. sym (m.at_make (x.at a) i h)) z

  pub placed-plus : (b b' : F) → placed (plus y b b') ≡ plus x (placed b) (placed b')
  placed-plus b b' = sym (is_placed (plus x (placed b) (placed b')) (plus y b b')
      (λ i h. ExpLaws.at-plus x l (placed b) (placed b') i (omega arith) ∙ ap₂ (λ u v. u + v) (at-placed_front b i h) (at-placed_front b' i h) ∙ sym (ExpLaws.at-plus y m b b' i h))
      (λ i h g. ExpLaws.at-plus x l (placed b) (placed b') i g ∙ ap₂ (λ u v. u + v) (at-placed_past b i h g) (at-placed_past b' i h g)))

  pub placed-variable : (j : ℕ) → j < y.count → placed (variable y j) ≡ variable x j
  placed-variable j h = sym (is_placed (variable x j) (variable y j)
      (λ i g. ExpLaws.at-variable x l j i (omega arith) ∙ sym (ExpLaws.at-variable y m j i g))
      (λ i g h'. ExpLaws.at-variable x l j i h' ∙ ExpLaws.unit_no i j (λ e. omega arith)))

  pub restrict-plus : (a a' : E) → restrict (plus x a a') ≡ plus y (restrict a) (restrict a')
  restrict-plus a a' = m.same_at (restrict (plus x a a')) (plus y (restrict a) (restrict a')) λ i h.
      m.at_make (x.at (plus x a a')) i h ∙ ExpLaws.at-plus x l a a' i (omega arith)
      ∙ ap₂ (λ u v. u + v) (sym (m.at_make (x.at a) i h)) (sym (m.at_make (x.at a') i h)) ∙ sym (ExpLaws.at-plus y m (restrict a) (restrict a') i h)

  pub degree-placed : (b : F) → degree x (placed b) ≡ degree y b
  degree-placed b =
      ExpLaws.nat_sum_to-cong x.count (x.at (placed b)) (λ i. cond (ltb i y.count) (y.at b i) 0) (λ i h. at-placed b i h)
      ∙ ExpLaws.nat_sum_to-front y.count x.count (y.at b) fewer

  -- no variable past the first ones
  abbrev pub pure : E → Bool
  pure a = same x a (placed (restrict a))

  pub pure-placed : (b : F) → pure (placed b) ≡ true
  pure-placed b = ap (λ z. same x (placed b) (placed z)) (restrict-placed b) ∙ ExpLaws.same_refl x l (placed b)

  pub pure-is : (a : E) → pure a ≡ true → a ≡ placed (restrict a)
  pure-is a e = ExpLaws.same-eq x l a (placed (restrict a)) e

  pub pure-past : (a : E) → pure a ≡ true → (i : ℕ) → y.count ≤ i → i < x.count → x.at a i ≡ 0
  pure-past a e i h g = ap (λ z. x.at z i) (pure-is a e) ∙ at-placed_past (restrict a) i h g

  pub pure-from : (a : E) → ((i : ℕ) → y.count ≤ i → i < x.count → x.at a i ≡ 0) → pure a ≡ true
  pure-from a z = ap (λ w. same x w (placed (restrict a))) (placed-restrict a z) ∙ ExpLaws.same_refl x l (placed (restrict a))

  false_true : false ≡ true → ⊥
  false_true e = cc e

  pub not_placed : (a : E) → pure a ≡ false → (b : F) → a ≡ placed b → ⊥
  not_placed a e b q = false_true (sym e ∙ ap pure q ∙ pure-placed b)

  pub pure-plus : (a a' : E) → pure (plus x a a') ≡ (pure a && pure a')
  pure-plus a a' = step (pure a) (pure a') (pure (plus x a a')) refl refl refl
    where
      left : pure (plus x a a') ≡ true → pure a ≡ true
      left e = pure-from a λ i h g. let z = pure-past (plus x a a') e i h g in let z' = ExpLaws.at-plus x l a a' i g in omega arith

      right : pure (plus x a a') ≡ true → pure a' ≡ true
      right e = pure-from a' λ i h g. let z = pure-past (plus x a a') e i h g in let z' = ExpLaws.at-plus x l a a' i g in omega arith

      both : pure a ≡ true → pure a' ≡ true → pure (plus x a a') ≡ true
      both e e' = pure-from (plus x a a') λ i h g. ExpLaws.at-plus x l a a' i g ∙ ap₂ (λ u v. u + v) (pure-past a e i h g) (pure-past a' e' i h g)

      step : (p q t : Bool) → pure a ≡ p → pure a' ≡ q → pure (plus x a a') ≡ t → pure (plus x a a') ≡ (pure a && pure a')
      step true true t ep eq et = both ep eq ∙ sym (ap₂ (λ u v. u && v) ep eq)
      step false q true ep eq et = absurd (false_true (sym ep ∙ left et))
      step false q false ep eq et = et ∙ sym (ap (λ u. u && pure a') ep)
      step true false true ep eq et = absurd (false_true (sym eq ∙ right et))
      step true false false ep eq et = et ∙ sym (ap₂ (λ u v. u && v) ep eq)
