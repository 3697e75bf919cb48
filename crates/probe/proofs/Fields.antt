-- Algebras whose modulus has no rational root are fields.
use Rattle.std.proofs.Common.{◌≡◌, ℕ, subst}
use Rattle.ring_law.specs.declared.fraction.Frac.{Frac}
use Rattle.ext_algebra.specs.declared.algebra.Algebra.TheVariants.{Quadratic, Cubic}
use Rattle.ext_algebra.specs.Algebra.{IsAlgebra, IsFieldAlgebra}
use Rattle.ext_algebra.specs.ExtRing.{is_quadratic}
use Rattle.ext_algebra.specs.ExtField.{modulus_at, HasNoRoot}

pub quadratic_field : (m1 m0 : Frac) (degree : ℕ) (n0 n1 n2 : Frac) → IsAlgebra (Quadratic m1 m0) → degree ≡ 2 → n1 ≡ m1 → n0 ≡ m0
    → HasNoRoot (modulus_at (is_quadratic degree) n0 n1 n2) → IsFieldAlgebra (Quadratic m1 m0)
quadratic_field m1 m0 degree n0 n1 n2 valid d e1 e0 h = record {
  algebra = valid;
  irreducible = subst (λ (x : Frac). HasNoRoot (modulus_at (is_quadratic 2) x m1 n2)) e0
      (subst (λ (x : Frac). HasNoRoot (modulus_at (is_quadratic 2) n0 x n2)) e1 (subst (λ (k : ℕ). HasNoRoot (modulus_at (is_quadratic k) n0 n1 n2)) d h));
}

pub cubic_field : (m2 m1 m0 : Frac) (degree : ℕ) (n0 n1 n2 : Frac) → IsAlgebra (Cubic m2 m1 m0) → degree ≡ 3 → n2 ≡ m2 → n1 ≡ m1 → n0 ≡ m0
    → HasNoRoot (modulus_at (is_quadratic degree) n0 n1 n2) → IsFieldAlgebra (Cubic m2 m1 m0)
cubic_field m2 m1 m0 degree n0 n1 n2 valid d e2 e1 e0 h = record {
  algebra = valid;
  irreducible = subst (λ (x : Frac). HasNoRoot (modulus_at (is_quadratic 3) x m1 m2)) e0
      (subst (λ (x : Frac). HasNoRoot (modulus_at (is_quadratic 3) n0 x m2)) e1
      (subst (λ (x : Frac). HasNoRoot (modulus_at (is_quadratic 3) n0 n1 x)) e2 (subst (λ (k : ℕ). HasNoRoot (modulus_at (is_quadratic k) n0 n1 n2)) d h)));
}
