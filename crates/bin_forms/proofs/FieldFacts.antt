-- Equations in a field that contains the rational numbers: whole numbers, and what follows from a multiple.
use Rattle.std.proofs.Common.{◌≡◌, ◌≢◌, ℕ, zero, suc, ◌<◌, Bool, true, false, pos, negsuc, refl, sym, ap, ap₂, ◌∙◌, arith}
use Rattle.std.proofs.lemmas.Int.{ints}
use Rattle.ring_theory.specs.Rational.{rational, rational_add, rational_mul, rational_neg, rational_ops}
use Rattle.ring_theory.specs.Scalars.{Scalars, ScalarLaws, HasInverses}
use Rattle.ring_theory.proofs.RationalLaws.{unique, rational_is, add_is, mul_is, neg_is, rational_laws}
use Rattle.ring_theory.proofs.RingSolver.{of_ℕ, zero_of_double, neg_unique, zero_mul, one_mul}

whole_suc : (k : ℕ) → rational (pos (suc k)) 1 ≡ rational_add (rational (pos 1) 1) (rational (pos k) 1)
whole_suc k = unique (rational_is (pos (suc k)) 1 (omega arith)) (add_is (rational_is (pos 1) 1 (omega arith)) (rational_is (pos k) 1 (omega arith))) (omega (arith, ints))

whole_negative : (k : ℕ) → rational (negsuc k) 1 ≡ rational_neg (rational (pos (suc k)) 1)
whole_negative k = unique (rational_is (negsuc k) 1 (omega arith)) (neg_is (rational_is (pos (suc k)) 1 (omega arith))) refl

whole_inverse : (k : ℕ) → 0 < k → rational_mul (rational (pos k) 1) (rational (pos 1) k) ≡ rational (pos 1) 1
whole_inverse k h = unique (mul_is (rational_is (pos k) 1 (omega arith)) (rational_is (pos 1) k h)) (rational_is (pos 1) 1 (omega arith)) (omega (arith, ints))

zero_twice : rational_ops.add (rational (pos 0) 1) (rational (pos 0) 1) ≡ rational (pos 0) 1
zero_twice = rational_laws.add_zero (rational (pos 0) 1)

module _ {V : Type 0} (s : Scalars V) (laws : ScalarLaws s) where
  -- a whole number, as a sum of ones
  pub whole_is : (k : ℕ) → s.rational (rational (pos k) 1) ≡ of_ℕ s.ops k
  whole_is zero = zero_of_double s.ops laws.ring _ (sym (laws.embeds.add _ _) ∙ ap s.rational zero_twice)
  whole_is (suc zero) = laws.embeds.one
  whole_is (suc (suc k)) = ap s.rational (whole_suc (suc k)) ∙ laws.embeds.add _ _ ∙ ap₂ s.ops.add laws.embeds.one (whole_is (suc k))

  pub negative_is : (k : ℕ) → s.rational (rational (negsuc k) 1) ≡ s.ops.neg (of_ℕ s.ops (suc k))
  negative_is k =
      neg_unique s.ops laws.ring (of_ℕ s.ops (suc k)) _
      (ap (λ z. s.ops.add z (s.rational (rational (negsuc k) 1))) (sym (whole_is (suc k)))
      ∙ sym (laws.embeds.add _ _) ∙ ap s.rational (ap (rational_add (rational (pos (suc k)) 1)) (whole_negative k) ∙ rational_laws.add_neg (rational (pos (suc k)) 1)) ∙ whole_is 0)

  -- the k-th part of v, k times
  pub times_part : (k : ℕ) (v : V) → 0 < k → s.ops.mul (of_ℕ s.ops k) (s.ops.mul (s.rational (rational (pos 1) k)) v) ≡ v
  times_part k v h =
      sym (laws.ring.mul_assoc _ _ _)
      ∙ ap (λ z. s.ops.mul z v) (ap (λ z. s.ops.mul z (s.rational (rational (pos 1) k))) (sym (whole_is k)) ∙ sym (laws.embeds.mul _ _) ∙ ap s.rational (whole_inverse k h) ∙ laws.embeds.one)
      ∙ one_mul s.ops laws.ring v

  pub whole_nonzero : (k : ℕ) → 0 < k → of_ℕ s.ops k ≢ s.ops.zero
  whole_nonzero k h e =
      laws.nontrivial (sym (times_part k s.ops.one h) ∙ ap (λ z. s.ops.mul z (s.ops.mul (s.rational (rational (pos 1) k)) s.ops.one)) e ∙ zero_mul s.ops laws.ring _)

  module _ (inverts : HasInverses s) where
    -- a common factor is left out
    pub cancel : (h x y : V) → h ≢ s.ops.zero → s.ops.mul h x ≡ s.ops.mul h y → x ≡ y
    cancel h x y n e = sym (undo x) ∙ ap (s.ops.mul (s.inverse h)) e ∙ undo y
      where
        undo : (z : V) → s.ops.mul (s.inverse h) (s.ops.mul h z) ≡ z
        undo z = sym (laws.ring.mul_assoc _ _ _) ∙ ap (λ w. s.ops.mul w z) (laws.ring.mul_comm _ _ ∙ inverts.mul_inverse h n) ∙ one_mul s.ops laws.ring z

    -- a product with a factor that is not 0
    pub zero_factor : (h x : V) → h ≢ s.ops.zero → s.ops.mul h x ≡ s.ops.zero → x ≡ s.ops.zero
    zero_factor h x n e = cancel h x s.ops.zero n (e ∙ sym (laws.ring.mul_comm _ _ ∙ zero_mul s.ops laws.ring h))

    pub product_nonzero : (h x : V) → h ≢ s.ops.zero → x ≢ s.ops.zero → s.ops.mul h x ≢ s.ops.zero
    product_nonzero h x n m e = m (zero_factor h x n e)

    pub square_zero : (x : V) → s.ops.mul x x ≡ s.ops.zero → x ≡ s.ops.zero
    square_zero x e = step (s.is_zero x) refl
      where
        step : (t : Bool) → s.is_zero x ≡ t → x ≡ s.ops.zero
        step true q = (laws.zero_test x).0 q
        step false q = zero_factor x x (λ z. bad (sym q ∙ (laws.zero_test x).1 z)) e
          where
            bad : false ≡ true → ⊥
            bad q = cc q
