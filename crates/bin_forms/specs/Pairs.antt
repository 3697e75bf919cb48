-- The two lines of a quadratic form over the rational numbers, by the pair rule of the plan.
use Rattle.std.specs.Prelude.{◌≡◌, ◌≢◌, ◌⊎◌, ℕ, List}
use Rattle.lin_row.specs.Plain.{Among}
use Rattle.ring_theory.specs.Rational.{Rational, rational_ops}
use Rattle.ring_theory.specs.Height.{rational_scalars}
use Rattle.ring_law.specs.Fraction.{IsFrac, frac_value}
use Rattle.small_frac.specs.Roots.{QuadraticIsHigh}
use Rattle.ext_algebra.specs.declared.algebra.Algebra.{Algebra}
use Rattle.ext_algebra.specs.declared.algebra.Algebra.TheVariants as algebras
use Rattle.small_frac.specs.Roots.{quadratic_of}
use Rattle.move_law.specs.Work.{IsWorkHigh}
use Rattle.move_law.specs.Shapes.{nth, over_work}
use Rattle.move_law.specs.Binary.{Roots, none, both, IsAnswered, pair_question, monic_quadratic}
use Rattle.bin_forms.specs.declared.pair.Pair.{Pair}
use Rattle.bin_forms.specs.declared.pair.Pair.TheVariants as pairs

-- coefficient i of the form
abbrev pub coefficient : List Rational → ℕ → Rational
coefficient q i = nth rational_scalars q i

-- the roots that an answer gives
abbrev pub roots_in : Pair → Roots
roots_in pairs.Corner = none
roots_in (pairs.Roots low high) = both (frac_value low) (frac_value high)
roots_in (pairs.Over a) = none

-- a is the algebra with the modulus t^2 + (q1/q0) t + q2/q0, of valid fractions
abbrev pub IsPairAlgebra : List Rational → Algebra → Type 0
IsPairAlgebra q (algebras.Quadratic m1 m0) = IsFrac m1 × IsFrac m0 × (quadratic_of m1 m0 ≡ monic_quadratic 2 (coefficient q 0) (coefficient q 1) (coefficient q 2))
IsPairAlgebra q algebras.Rational = ⊥
IsPairAlgebra q (algebras.Cubic m2 m1 m0) = ⊥
IsPairAlgebra q (algebras.Tower m2 m1 m0 d) = ⊥

-- q0 is 0, where y is a line; it is not, and the roots are valid fractions; it is not, and the algebra is that of q
abbrev pub IsOfKind : List Rational → Pair → Type 0
IsOfKind q pairs.Corner = coefficient q 0 ≡ rational_ops.zero
IsOfKind q (pairs.Roots low high) = (coefficient q 0 ≢ rational_ops.zero) × IsFrac low × IsFrac high
IsOfKind q (pairs.Over a) = (coefficient q 0 ≢ rational_ops.zero) × IsPairAlgebra q a

-- the answer on the form with these coefficients
pub record IsPair (q : List Rational) (p : Pair) : Type 0 where
  pub kind : IsOfKind q p
  pub answered : IsAnswered (pair_question 2 (coefficient q 0) (coefficient q 1) (coefficient q 2)) (roots_in p)

-- a quotient by q0, or an operation of the roots, is high
abbrev pub IsPairHigh : List Rational → Type 0
IsPairHigh q =
    Among (IsWorkHigh 2 rational_scalars) (over_work rational_scalars 2 (coefficient q 1) (coefficient q 0))
    ⊎ (Among (IsWorkHigh 2 rational_scalars) (over_work rational_scalars 2 (coefficient q 2) (coefficient q 0))
    ⊎ QuadraticIsHigh (monic_quadratic 2 (coefficient q 0) (coefficient q 1) (coefficient q 2)))
