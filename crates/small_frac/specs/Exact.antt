-- What the calls on fractions answer.
use Rattle.std.specs.Prelude.{◌≡◌, ◌≢◌, ◌⊎◌, Option, Result, MatchOption, MatchResult, ℤ, pos, ◌≤ℤ◌}
use Rattle.ring_theory.specs.Rational.{Rational, rational, rational_add, rational_mul, rational_inv}
use Rattle.ring_law.specs.Fraction.{IsFrac, Represents, FitsFrac, AddFits, frac_value, ratio}
use Rattle.ring_law.specs.declared.fraction.Frac.{Frac}
use Rattle.ring_law.specs.Refusals.{RefusedBy}
use Rattle.ring_law.specs.declared.fraction.Op.{Op}
use Rattle.ring_law.specs.declared.fraction.Op.TheVariants.{Add, Mul}
use Rattle.ring_law.specs.declared.fraction.Range.{Range}
use Rattle.ext_theory.specs.Roots.{IsNoSquare}

-- the sum of p and q in lowest terms, where none of the numbers a(d/g), c(b/g), their sum and (b/g)d is above 2^127 - 1 in absolute value
-- (p = a/b, q = c/d, g the greatest common divisor of b and d); else the refusal of the sum of p and q
abbrev pub IsExactSum : Frac → Frac → Result Frac Range → Type 0
IsExactSum p q r =
    MatchResult r (λ f. AddFits p q × Represents f (rational_add (frac_value p) (frac_value q))) (λ e. (¬ AddFits p q) × (e ≡ record { a = p; b = q; op = Add }))

-- the product of p and q in lowest terms, where its parts are at most 2^127 - 1 in absolute value; else the refusal of the product of p and q
abbrev pub IsExactProduct : Frac → Frac → Result Frac Range → Type 0
IsExactProduct p q r =
    MatchResult r (λ f. Represents f (rational_mul (frac_value p) (frac_value q)))
    (λ e. (¬ FitsFrac (rational_mul (frac_value p) (frac_value q))) × (e ≡ record { a = p; b = q; op = Mul }))

-- e is the refusal of this operation on the fractions with the values x and y
pub record IsRefusalOf (op : Op) (x y : Rational) (e : Range) : Type 0 where
  pub operation : e.op ≡ op
  pub left : Represents e.a x
  pub right : Represents e.b y
  pub refused : RefusedBy op e.a e.b

-- n / d in lowest terms, and nothing exactly where d is 0 or a reduced part is above 2^127 - 1 in absolute value
abbrev pub IsReducedOf : ℤ → ℤ → Option Frac → Type 0
IsReducedOf n d r = MatchOption r ((d ≡ pos 0) ⊎ (¬ FitsFrac (ratio n d))) (λ f. (d ≢ pos 0) × Represents f (ratio n d))

-- the inverse of p, and nothing exactly where p is 0
abbrev pub IsInverseOf : Frac → Option Frac → Type 0
IsInverseOf p r = MatchOption r (frac_value p ≡ rational (pos 0) 1) (λ f. (frac_value p ≢ rational (pos 0) 1) × Represents f (rational_inv (frac_value p)))

-- f is valid, not negative, and its square is q
pub record IsSquareRoot (f q : Frac) : Type 0 where
  pub valid : IsFrac f
  pub not_negative : pos 0 ≤ℤ f.num
  pub square : rational_mul (frac_value f) (frac_value f) ≡ frac_value q

-- the root of q that is not negative, and nothing exactly where q is the square of no rational number
abbrev pub IsRootOf : Frac → Option Frac → Type 0
IsRootOf q r = MatchOption r (IsNoSquare (frac_value q)) (λ f. IsSquareRoot f q)
