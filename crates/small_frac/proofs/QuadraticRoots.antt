-- The roots of t^2 + m1 t + m0 from a root of its discriminant.
use Rattle.std.proofs.Common.{◌≡◌, ◌≢◌, ◌⊎◌, inl, inr, [], ◌∷◌, pos, ◌≤ℤ◌, refl, sym, subst, ⊎_elim}
use Rattle.ring_theory.specs.Gcd.{gcd}
use Rattle.ring_theory.specs.Rational.{Rational, rational, rational_zero, rational_add, rational_mul, rational_neg, rational_ops, rational_inv}
use Rattle.ring_theory.specs.Ring.{RingOps, IsCommRing}
use Rattle.ring_theory.proofs.RationalLaws.{rational_laws, rational_dec, rational-mul_inv}
use Rattle.ring_theory.proofs.RingReify.{by_ring, reify}
use Rattle.ring_theory.proofs.RingSolver.{linear_combination, eq_of_sub}
use Rattle.ext_theory.specs.Extension.{Quadratic, quadratic_at}
use Rattle.small_frac.specs.Roots.{AreRoots, IsDiscriminantRoot, four, half, discriminant, half_sum}

-- over any commutative ring with h + h = 1, f = 1 + 1 + 1 + 1 and r^2 = m1^2 - f m0
module _ {V : Type 0} (s : RingOps V) (laws : IsCommRing s) (m0 m1 r h f : V) where
  open s use {zero as 𝟘, one as 𝟙, add as ◌⊕◌, mul as ◌⊗◌, neg as ⊖◌}

  infixl 6 ◌⊕◌
  infixl 7 ◌⊗◌
  infix 8 ⊖◌
  -- (-m1 - r) h is a root
  low_at : h ⊕ h ≡ 𝟙 → f ≡ 𝟙 ⊕ 𝟙 ⊕ 𝟙 ⊕ 𝟙 → r ⊗ r ≡ m1 ⊗ m1 ⊕ ⊖ (f ⊗ m0)
      → (⊖ m1 ⊕ ⊖ r) ⊗ h ⊗ ((⊖ m1 ⊕ ⊖ r) ⊗ h) ⊕ m1 ⊗ ((⊖ m1 ⊕ ⊖ r) ⊗ h) ⊕ m0 ≡ 𝟘
  low_at eh ef er =
      linear_combination s laws (h ⊗ h) er
      (linear_combination s laws (⊖ (m0 ⊗ h ⊗ h)) ef
      (linear_combination s laws (h ⊗ (m1 ⊗ m1 ⊕ m1 ⊗ r) ⊕ ⊖ (m0 ⊗ (h ⊕ h ⊕ 𝟙))) eh
      (by_ring laws (m0 ∷ m1 ∷ r ∷ h ∷ f ∷ []) (search reify depth 60 fits 20000) tt)))

  -- (-m1 + r) h is a root
  high_at : h ⊕ h ≡ 𝟙 → f ≡ 𝟙 ⊕ 𝟙 ⊕ 𝟙 ⊕ 𝟙 → r ⊗ r ≡ m1 ⊗ m1 ⊕ ⊖ (f ⊗ m0)
      → (⊖ m1 ⊕ r) ⊗ h ⊗ ((⊖ m1 ⊕ r) ⊗ h) ⊕ m1 ⊗ ((⊖ m1 ⊕ r) ⊗ h) ⊕ m0 ≡ 𝟘
  high_at eh ef er =
      linear_combination s laws (h ⊗ h) er
      (linear_combination s laws (⊖ (m0 ⊗ h ⊗ h)) ef
      (linear_combination s laws (h ⊗ (m1 ⊗ m1 ⊕ ⊖ (m1 ⊗ r)) ⊕ ⊖ (m0 ⊗ (h ⊕ h ⊕ 𝟙))) eh
      (by_ring laws (m0 ∷ m1 ∷ r ∷ h ∷ f ∷ []) (search reify depth 60 fits 20000) tt)))

  -- the polynomial at a root x is the product of x less each of them
  factors : (x : V) → h ⊕ h ≡ 𝟙 → f ≡ 𝟙 ⊕ 𝟙 ⊕ 𝟙 ⊕ 𝟙 → r ⊗ r ≡ m1 ⊗ m1 ⊕ ⊖ (f ⊗ m0) → x ⊗ x ⊕ m1 ⊗ x ⊕ m0 ≡ 𝟘
      → (x ⊕ ⊖ ((⊖ m1 ⊕ ⊖ r) ⊗ h)) ⊗ (x ⊕ ⊖ ((⊖ m1 ⊕ r) ⊗ h)) ≡ 𝟘
  factors x eh ef er root =
      linear_combination s laws 𝟙 root
      (linear_combination s laws (⊖ (h ⊗ h)) er
      (linear_combination s laws (m0 ⊗ h ⊗ h) ef
      (linear_combination s laws (m1 ⊗ x ⊕ m0 ⊗ (h ⊕ h ⊕ 𝟙)) eh
      (by_ring laws (m0 ∷ m1 ∷ r ∷ h ∷ f ∷ x ∷ []) (search reify depth 60 fits 20000) tt))))

  -- their difference is r
  difference : h ⊕ h ≡ 𝟙 → (⊖ m1 ⊕ r) ⊗ h ⊕ ⊖ ((⊖ m1 ⊕ ⊖ r) ⊗ h) ≡ r
  difference eh = linear_combination s laws r eh (by_ring laws (m1 ∷ r ∷ h ∷ []) (search reify depth 60 fits 20000) tt)

  -- a root x gives the root x + x + m1 of the discriminant
  discriminant_at : (x : V) → f ≡ 𝟙 ⊕ 𝟙 ⊕ 𝟙 ⊕ 𝟙 → x ⊗ x ⊕ m1 ⊗ x ⊕ m0 ≡ 𝟘 → (x ⊕ x ⊕ m1) ⊗ (x ⊕ x ⊕ m1) ≡ m1 ⊗ m1 ⊕ ⊖ (f ⊗ m0)
  discriminant_at x ef root =
      linear_combination s laws (𝟙 ⊕ 𝟙 ⊕ 𝟙 ⊕ 𝟙) root
      (linear_combination s laws m0 ef
      (by_ring laws (m0 ∷ m1 ∷ f ∷ x ∷ []) (search reify depth 60 fits 20000) tt))

two_halves : rational_add half half ≡ rational (pos 1) 1
unfolding gcd rational rational_zero rational_add
two_halves = refl

four_ones : four ≡ rational_add (rational_add (rational_add (rational (pos 1) 1) (rational (pos 1) 1)) (rational (pos 1) 1)) (rational (pos 1) 1)
unfolding gcd rational rational_zero rational_add
four_ones = refl

zero_right : (a b i : Rational) → rational_mul a i ≡ rational (pos 1) 1 → rational_mul a b ≡ rational (pos 0) 1 → b ≡ rational (pos 0) 1
zero_right a b i k e =
    linear_combination rational_ops rational_laws i e (linear_combination rational_ops rational_laws (rational_neg b) k (by_ring rational_laws (a ∷ b ∷ i ∷ []) (search reify depth 30) tt))

-- a factor of 0 is 0
zero_factor : (a b : Rational) → rational_mul a b ≡ rational (pos 0) 1 → (a ≡ rational (pos 0) 1) ⊎ (b ≡ rational (pos 0) 1)
zero_factor a b e = ⊎_elim (λ z. inl z) (λ n. inr (zero_right a b (rational_inv a) (rational-mul_inv a n) e)) (rational_dec a)

-- the halves of -m1 - r and -m1 + r are the roots
pub are_roots : (m : Quadratic Rational) (r : Rational) → IsDiscriminantRoot m r → AreRoots m (half_sum (rational_neg m.c1) (rational_neg r)) (half_sum (rational_neg m.c1) r)
are_roots m r d = record {
  low_root = low_at rational_ops rational_laws m.c0 m.c1 r half four two_halves four_ones d.square;
  high_root = high_at rational_ops rational_laws m.c0 m.c1 r half four two_halves four_ones d.square;
  ordered = subst (λ x. pos 0 ≤ℤ x.num) (sym (difference rational_ops rational_laws m.c0 m.c1 r half four two_halves)) d.not_negative;
  only = λ x root.
      ⊎_elim
      (λ z. inl (eq_of_sub rational_ops rational_laws _ _ z))
      (λ z. inr (eq_of_sub rational_ops rational_laws _ _ z))
      (zero_factor _ _ (factors rational_ops rational_laws m.c0 m.c1 r half four x two_halves four_ones d.square root));
}

-- no root where the discriminant is no square
pub no_roots : (m : Quadratic Rational) → ((r : Rational) → rational_mul r r ≢ discriminant m) → (x : Rational) → quadratic_at rational_ops m x ≢ rational_ops.zero
no_roots m none x root = none (rational_add (rational_add x x) m.c1) (discriminant_at rational_ops rational_laws m.c0 m.c1 (rational (pos 0) 1) half four x four_ones root)
