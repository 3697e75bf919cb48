-- The struct `Frac`: which are valid, and the rational number of each.
use Rattle.std.specs.Prelude.{◌≡◌, ℕ, suc, ◌^◌, ◌<◌, ◌*◌, ◌/◌, ◌+ℤ◌, ◌*ℤ◌, Bool, true, false, ℤ, pos, negsuc, neg_ℤ, ◌<ℤ◌, unsigned_abs}
use Rattle.ring_law.specs.declared.fraction.Frac.{Frac}
use Rattle.ring_theory.specs.Gcd.{gcd}
use Rattle.ring_theory.specs.Integers.{int_quotient}
use Rattle.ring_theory.specs.Rational.{Rational, rational}
use Rattle.ring_theory.specs.Height.{rational_scalars}
use Rattle.ring_theory.specs.Scalars.{Meaning}

-- lowest terms, a positive denominator, and parts of at most 2^127 - 1
pub record IsFrac (f : Frac) : Type 0 where
  pub den_pos : pos 0 <ℤ f.den
  pub lowest : gcd (unsigned_abs f.num) (unsigned_abs f.den) ≡ 1
  pub num_fits : unsigned_abs f.num < 2 ^ 127
  pub den_fits : unsigned_abs f.den < 2 ^ 127

-- the rational number of a fraction
abbrev pub frac_value : Frac → Rational
frac_value f = rational f.num (unsigned_abs f.den)

-- f is valid, and q is its value
pub record Represents (f : Frac) (q : Rational) : Type 0 where
  pub valid : IsFrac f
  pub value_is : frac_value f ≡ q

-- n / d, for integers
abbrev pub ratio : ℤ → ℤ → Rational
ratio n (pos d) = rational n d
ratio n (negsuc d) = rational (neg_ℤ n) (suc d)

-- both parts of q are at most 2^127 - 1
pub record FitsFrac (q : Rational) : Type 0 where
  pub num_fits : unsigned_abs q.num < 2 ^ 127
  pub den_fits : q.den < 2 ^ 127

-- n, or its opposite
abbrev pub signed : Bool → ℕ → ℤ
signed false n = pos n
signed true n = neg_ℤ (pos n)

-- ---- the numbers that the sum of a / b and c / d goes through, with g the greatest common divisor of b and d

-- g
abbrev pub den_gcd : Frac → Frac → ℕ
den_gcd p q = gcd (unsigned_abs p.den) (unsigned_abs q.den)

-- a (d / g)
abbrev pub add_left : Frac → Frac → ℤ
add_left p q = p.num *ℤ pos (unsigned_abs q.den / den_gcd p q)

-- c (b / g)
abbrev pub add_right : Frac → Frac → ℤ
add_right p q = q.num *ℤ pos (unsigned_abs p.den / den_gcd p q)

-- (b / g) d
abbrev pub add_den : Frac → Frac → ℕ
add_den p q = unsigned_abs p.den / den_gcd p q * unsigned_abs q.den

-- none of them is above 2^127 - 1
pub record AddFits (p q : Frac) : Type 0 where
  pub left : unsigned_abs (add_left p q) < 2 ^ 127
  pub right : unsigned_abs (add_right p q) < 2 ^ 127
  pub sum : unsigned_abs (add_left p q +ℤ add_right p q) < 2 ^ 127
  pub den : add_den p q < 2 ^ 127

-- ---- the parts of the product, cancelled crosswise

abbrev pub mul_num : Frac → Frac → ℤ
mul_num p q = int_quotient p.num (gcd (unsigned_abs p.num) (unsigned_abs q.den)) *ℤ int_quotient q.num (gcd (unsigned_abs q.num) (unsigned_abs p.den))

abbrev pub mul_den : Frac → Frac → ℕ
mul_den p q = unsigned_abs p.den / gcd (unsigned_abs q.num) (unsigned_abs p.den) * (unsigned_abs q.den / gcd (unsigned_abs p.num) (unsigned_abs q.den))

-- the fractions as elements of the field of the rational numbers
abbrev pub rational_meaning : Meaning Frac Rational
rational_meaning = record { scalars = rational_scalars; is_elem = λ f. IsFrac f; value = λ f. frac_value f }
