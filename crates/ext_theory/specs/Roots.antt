-- Roots of functions on the rational numbers: that there is none, and which one is the least.
use Rattle.std.specs.Prelude.{◌≡◌, ◌≢◌, pos, ◌≤ℤ◌}
use Rattle.ring_theory.specs.Rational.{Rational, rational_add, rational_neg, rational_ops}

-- p ≤ q: the numerator of q - p is not negative
abbrev pub IsAtMost : Rational → Rational → Type 0
IsAtMost p q = pos 0 ≤ℤ (rational_add q (rational_neg p)).num

-- f has no rational root
abbrev pub HasNoRoot : (Rational → Rational) → Type 0
HasNoRoot f = (x : Rational) → f x ≢ rational_ops.zero

-- x is the least rational root of f
pub record IsLeastRootOf (f : Rational → Rational) (x : Rational) : Type 0 where
  pub root : f x ≡ rational_ops.zero
  pub least : (y : Rational) → f y ≡ rational_ops.zero → IsAtMost x y

-- q is the square of no rational number
abbrev pub IsNoSquare : Rational → Type 0
IsNoSquare q = (x : Rational) → rational_ops.mul x x ≢ q
