-- Square matrices: functions of two numbers below n.
use mathlib.Core.Path.{fun_ext}
use Rattle.std.proofs.Common.{◌≡◌, ℕ, ◌<◌, ap, sym, ◌∙◌, refl, ap₂}
use Rattle.ring_theory.specs.Ring.{RingOps, IsCommRing}
use Rattle.poly_law.specs.Sums.{sum_to, unit_at}
use Rattle.poly_law.proofs.Sums

module _ {V : Type 0} (r : RingOps V) (c : IsCommRing r) (n : ℕ) where
  abbrev pub product : (ℕ → ℕ → V) → (ℕ → ℕ → V) → ℕ → ℕ → V
  product a b i k = sum_to r n (λ j. r.mul (a i j) (b j k))

  -- the same entries
  abbrev pub Agree : (ℕ → ℕ → V) → (ℕ → ℕ → V) → Type 0
  Agree a b = (i k : ℕ) → i < n → k < n → a i k ≡ b i k

  pub product_agree : (a a' b b' : ℕ → ℕ → V) → Agree a a' → Agree b b' → Agree (product a b) (product a' b')
  product_agree a a' b b' p q i k h g = Sums.sum_to-cong r n (λ j. r.mul (a i j) (b j k)) (λ j. r.mul (a' i j) (b' j k)) (λ j y. ap₂ r.mul (p i j h y) (q j k y g))

  pub product_assoc : (a b d : ℕ → ℕ → V) → Agree (product (product a b) d) (product a (product b d))
  product_assoc a b d i k h g =
      ap (sum_to r n) (fun_ext λ j. sym (Sums.sum_to-mul_right r c n (λ t. r.mul (a i t) (b t j)) (d j k)))
      ∙ Sums.sum_to-sum_to r c n n (λ j t. r.mul (r.mul (a i t) (b t j)) (d j k))
      ∙ ap (sum_to r n) (fun_ext λ t. ap (sum_to r n) (fun_ext λ j. c.mul_assoc (a i t) (b t j) (d j k)) ∙ Sums.sum_to-mul r c n (a i t) (λ j. r.mul (b t j) (d j k)))

  pub product_unit : (a : ℕ → ℕ → V) → Agree (product a (unit_at r)) a
  product_unit a i k h g = Sums.sum_to-unit r c n k (a i) g

  pub unit_product : (a : ℕ → ℕ → V) → Agree (product (unit_at r) a) a
  unit_product a i k h g = ap (sum_to r n) (fun_ext λ j. c.mul_comm (unit_at r i j) (a j k) ∙ ap (r.mul (a j k)) (unit_swap i j)) ∙ Sums.sum_to-unit r c n i (λ j. a j k) h
    where
      unit_swap : (i j : ℕ) → unit_at r i j ≡ unit_at r j i
      unit_swap i j = Sums.unit_at-swap r i j

  -- a right inverse of a matrix with a left inverse is that
  pub inverse_is : (m a b : ℕ → ℕ → V) → Agree (product m a) (unit_at r) → Agree (product a b) (unit_at r) → Agree b m
  inverse_is m a b p q i k h g =
      sym (unit_product b i k h g)
      ∙ sym (product_agree (product m a) (unit_at r) b b p (λ i k h g. refl) i k h g)
      ∙ product_assoc m a b i k h g
      ∙ product_agree m m (product a b) (unit_at r) (λ i k h g. refl) q i k h g
      ∙ product_unit m i k h g

  -- the inverse of a product
  pub product_inverse : (m a m' a' : ℕ → ℕ → V) → Agree (product m a) (unit_at r) → Agree (product m' a') (unit_at r) → Agree (product (product m' m) (product a a')) (unit_at r)
  product_inverse m a m' a' p q i k h g =
      product_assoc m' m (product a a') i k h g
      ∙ product_agree m' m' (product m (product a a')) a' (λ i k h g. refl) (λ i k h g.
      sym (product_assoc m a a' i k h g) ∙ product_agree (product m a) (unit_at r) a' a' p (λ i k h g. refl) i k h g ∙ unit_product a' i k h g) i k h g
      ∙ q i k h g
