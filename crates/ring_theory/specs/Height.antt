-- Heights: how large the numbers are that an operation forms.
use Rattle.std.specs.Prelude.{ℕ, ◌+◌, ◌*◌, ◌/◌, max, List, [], ◌∷◌, pos, unsigned_abs, Bool}
use Rattle.std.specs.Ordering.{int_eq}
use Rattle.ring_theory.specs.Gcd.{gcd}
use Rattle.ring_theory.specs.Rational.{Rational, rational_mul, rational_inv, rational_ops}
use Rattle.ring_theory.specs.Scalars.{Scalars}

-- the greatest of a list of numbers, 0 for the empty list
unfoldable pub most : List ℕ → ℕ
most [] = 0
most (x ∷ xs) = max x (most xs)

-- the height of a fraction: the larger of its denominator and its numerator's absolute value
abbrev pub height : Rational → ℕ
height q = max (unsigned_abs q.num) q.den

-- the least common multiple
abbrev pub lcm : ℕ → ℕ → ℕ
lcm a b = a / gcd a b * b

-- the least common denominator of a list
abbrev pub common_den : List Rational → ℕ
common_den [] = 1
common_den (q ∷ qs) = lcm q.den (common_den qs)

-- d times the absolute value of q, for a multiple d of its denominator
abbrev pub scaled_abs : ℕ → Rational → ℕ
scaled_abs d q = unsigned_abs q.num * (d / q.den)

-- d times the sum of the absolute values of a list
abbrev pub sum_abs : ℕ → List Rational → ℕ
sum_abs d [] = 0
sum_abs d (q ∷ qs) = scaled_abs d q + sum_abs d qs

-- the height of the sum of a list: the larger of the least common denominator and that times the sum of the absolute values
abbrev pub sum_height : List Rational → ℕ
sum_height qs = max (common_den qs) (sum_abs (common_den qs) qs)

-- the height of a product: the largest of those of both factors and of the product
unfoldable pub product_height : Rational → Rational → ℕ
product_height p q = max (height p) (max (height q) (height (rational_mul p q)))

-- the height of an inverse: the larger of those of the number and of its inverse
unfoldable pub inverse_height : Rational → ℕ
inverse_height q = max (height q) (height (rational_inv q))

-- q is 0
abbrev pub is_zero_rational : Rational → Bool
is_zero_rational q = int_eq q.num (pos 0)

-- the rational numbers with their heights
abbrev pub rational_scalars : Scalars Rational
rational_scalars = record {
  ops = rational_ops;
  rational = λ q. q;
  is_zero = is_zero_rational;
  inverse = rational_inv;
  height = height;
  product_height = product_height;
  sum_height = sum_height;
  inverse_height = inverse_height;
}
