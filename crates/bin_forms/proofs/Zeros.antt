-- Tests for zero, and quotients.
use Rattle.std.proofs.Common.{◌≡◌, ◌≢◌, ℕ, ◌<◌, Bool, true, false, ◌&&◌, List, [], ◌∷◌, pos, refl, sym, ap, ◌∙◌}
use Rattle.std.specs.Prelude.{IsTrue, ◌↔◌}
use Rattle.std.specs.List.{list_all}
use Rattle.ring_theory.specs.Rational.{rational}
use Rattle.ring_theory.specs.Scalars.{Scalars, ScalarLaws, HasInverses}
use Rattle.ring_theory.proofs.RingSolver.{of_ℕ}
use Rattle.bin_forms.proofs.FieldFacts.{whole_is, whole_nonzero, product_nonzero}

true_not_false : {b : Bool} → b ≡ true → b ≡ false → ⊥
true_not_false p q = bad (sym p ∙ q)
  where
    bad : true ≡ false → ⊥
    bad e = cc e

module _ {V : Type 0} (s : Scalars V) (laws : ScalarLaws s) where
  pub at_zero : {x : V} → s.is_zero x ≡ true → x ≡ s.ops.zero
  at_zero {x} q = (laws.zero_test x).0 q

  pub not_zero : {x : V} → s.is_zero x ≡ false → x ≢ s.ops.zero
  not_zero {x} q z = true_not_false ((laws.zero_test x).1 z) q

  -- the first entry and the others are zero
  pub first_zero : (x : V) (xs : List V) → list_all s.is_zero (x ∷ xs) ≡ true → x ≡ s.ops.zero
  first_zero x xs e = at_zero (step (s.is_zero x) (list_all s.is_zero xs) e)
    where
      step : (b c : Bool) → (b && c) ≡ true → b ≡ true
      step true c e = refl
      step false c e = let bad : ⊥ = cc e in absurd bad

  pub others_zero : (x : V) (xs : List V) → list_all s.is_zero (x ∷ xs) ≡ true → list_all s.is_zero xs ≡ true
  others_zero x xs e = step (s.is_zero x) (list_all s.is_zero xs) e
    where
      step : (b c : Bool) → (b && c) ≡ true → c ≡ true
      step true c e = e
      step false c e = let bad : ⊥ = cc e in absurd bad

  pub both_zero : (x : V) (xs : List V) → x ≡ s.ops.zero → list_all s.is_zero xs ≡ true → list_all s.is_zero (x ∷ xs) ≡ true
  both_zero x xs z e = step (s.is_zero x) (list_all s.is_zero xs) ((laws.zero_test x).1 z) e
    where
      step : (b c : Bool) → b ≡ true → c ≡ true → (b && c) ≡ true
      step true c p q = q
      step false c p q = let bad : ⊥ = cc p in absurd bad

  -- not all of these are zero
  pub some_of_three : (x y z : V) → list_all s.is_zero (x ∷ y ∷ z ∷ []) ≡ false → x ≡ s.ops.zero → y ≡ s.ops.zero → z ≢ s.ops.zero
  some_of_three x y z e ex ey ez = true_not_false (both_zero x (y ∷ z ∷ []) ex (both_zero y (z ∷ []) ey (both_zero z [] ez refl))) e

  pub some_of_four : (x y z u : V) → list_all s.is_zero (x ∷ y ∷ z ∷ u ∷ []) ≡ false → x ≡ s.ops.zero → y ≡ s.ops.zero → z ≡ s.ops.zero → u ≢ s.ops.zero
  some_of_four x y z u e ex ey ez eu = true_not_false (both_zero x (y ∷ z ∷ u ∷ []) ex (both_zero y (z ∷ u ∷ []) ey (both_zero z (u ∷ []) ez (both_zero u [] eu refl)))) e

  pub some_of_five : (x y z u v : V) → list_all s.is_zero (x ∷ y ∷ z ∷ u ∷ v ∷ []) ≡ false → x ≡ s.ops.zero → y ≡ s.ops.zero → z ≡ s.ops.zero → u ≡ s.ops.zero → v ≢ s.ops.zero
  some_of_five x y z u v e ex ey ez eu ev =
      true_not_false (both_zero x (y ∷ z ∷ u ∷ v ∷ []) ex (both_zero y (z ∷ u ∷ v ∷ []) ey (both_zero z (u ∷ v ∷ []) ez (both_zero u (v ∷ []) eu (both_zero v [] ev refl))))) e

  -- a quotient, times its divisor
  pub times_quotient : HasInverses s → (a b : V) → b ≢ s.ops.zero → s.ops.mul b (s.ops.mul a (s.inverse b)) ≡ a
  times_quotient inverts a b h =
      laws.ring.mul_comm _ _ ∙ laws.ring.mul_assoc _ _ _ ∙ ap (s.ops.mul a) (laws.ring.mul_comm _ _ ∙ inverts.mul_inverse b h) ∙ laws.ring.mul_one a

  pub times_multiple_quotient : HasInverses s → (k : ℕ) (a b : V) → s.ops.mul (of_ℕ s.ops k) b ≢ s.ops.zero
      → s.ops.mul (s.ops.mul (of_ℕ s.ops k) b) (s.ops.mul a (s.inverse (s.ops.mul (s.rational (rational (pos k) 1)) b))) ≡ a
  times_multiple_quotient inverts k a b h =
      ap (λ z. s.ops.mul (s.ops.mul z b) (s.ops.mul a (s.inverse (s.ops.mul (s.rational (rational (pos k) 1)) b)))) (sym (whole_is s laws k))
      ∙ times_quotient inverts a _ (λ z. h (ap (λ y. s.ops.mul y b) (sym (whole_is s laws k)) ∙ z))

  -- a multiple of what is not zero
  pub multiple_nonzero : HasInverses s → (k : ℕ) (b : V) → 0 < k → b ≢ s.ops.zero → s.ops.mul (s.rational (rational (pos k) 1)) b ≢ s.ops.zero
  multiple_nonzero inverts k b h nonzero = product_nonzero s laws inverts (s.rational (rational (pos k) 1)) b (λ z. whole_nonzero s laws k h (sym (whole_is s laws k) ∙ z)) nonzero

  -- a test whether v is z, which is zero
  pub test_agrees : (t : Bool) (v z : V) → IsTrue t ↔ (v ≡ z) → z ≡ s.ops.zero → t ≡ s.is_zero v
  test_agrees true v z both e = sym ((laws.zero_test v).1 (both.0 refl ∙ e))
  test_agrees false v z both e = step (s.is_zero v) refl
    where
      step : (b : Bool) → s.is_zero v ≡ b → false ≡ s.is_zero v
      step true q = both_same (both.1 ((laws.zero_test v).0 q ∙ sym e))
        where
          both_same : false ≡ true → false ≡ s.is_zero v
          both_same q = let bad : ⊥ = cc q in absurd bad
      step false q = sym q
