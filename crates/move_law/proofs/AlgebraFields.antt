-- The algebras of roots are fields where their polynomials have no rational root: the exact moduli of the definitions have the values that they stand for.
use Rattle.std.proofs.Common.{◌≡◌, refl, subst}
use Rattle.ring_theory.specs.Rational.{Rational, rational_ops}
use Rattle.ring_theory.proofs.RationalLaws.{unique, own, rational_is, den_pos}
use Rattle.ring_law.specs.Fraction.{frac_value}
use Rattle.ext_theory.specs.Extension.{Quadratic, Cubic, quadratic_at, cubic_at}
use Rattle.ext_theory.specs.Roots.{HasNoRoot, IsNoSquare}
use Rattle.small_frac.specs.Roots.{quadratic_of, cubic_of}
use Rattle.ext_algebra.specs.Algebra.{IsIrreducible}
use Rattle.move_law.specs.Algebras.{frac_of, quadratic_algebra, cubic_algebra, tower_algebra}

-- a rational number as a fraction has its value
pub exact : (q : Rational) → frac_value (frac_of q) ≡ q
exact q = unique (rational_is q.num q.den (den_pos q)) (own q) refl

quadratic_exact : (m : Quadratic Rational) → quadratic_of (frac_of m.c1) (frac_of m.c0) ≡ m
quadratic_exact m = λ i. record { c0 = exact m.c0 i; c1 = exact m.c1 i }

cubic_exact : (m : Cubic Rational) → cubic_of (frac_of m.c2) (frac_of m.c1) (frac_of m.c0) ≡ m
cubic_exact m = λ i. record { c0 = exact m.c0 i; c1 = exact m.c1 i; c2 = exact m.c2 i }

-- Q[t] modulo a polynomial of degree 2 without rational root
pub quadratic_field : (m : Quadratic Rational) → HasNoRoot (quadratic_at rational_ops m) → IsIrreducible (quadratic_algebra m)
quadratic_field m h x e = h x (subst (λ z. quadratic_at rational_ops z x ≡ rational_ops.zero) (quadratic_exact m) e)

-- and of degree 3
pub cubic_field : (m : Cubic Rational) → HasNoRoot (cubic_at rational_ops m) → IsIrreducible (cubic_algebra m)
cubic_field m h x e = h x (subst (λ z. cubic_at rational_ops z x ≡ rational_ops.zero) (cubic_exact m) e)

-- the tower of a polynomial of degree 3 without rational root and of a number that is no square
pub tower_field : (m : Cubic Rational) (d : Rational) → HasNoRoot (cubic_at rational_ops m) → IsNoSquare d
    → IsIrreducible (tower_algebra m d)
tower_field m d h square = (cubic_field m h, λ x e. square x (subst (λ z. rational_ops.mul x x ≡ z) (exact d) e))
