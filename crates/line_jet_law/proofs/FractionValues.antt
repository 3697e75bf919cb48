-- Whole numbers below 2^64 and their inverses are fractions of the code.
use Rattle.std.proofs.Common.{◌≡◌, ◌≢◌, ℕ, ◌^◌, ◌<◌, pos, refl, ◌∙◌, arith}
use Rattle.std.proofs.lemmas.Int.{ints}
use Rattle.ring_theory.specs.Gcd.{gcd}
use Rattle.ring_theory.proofs.GcdLaws.{gcd_pos, gcd_comm}
use Rattle.ring_law.specs.Fraction.{Represents, frac_value}
use Rattle.ring_theory.specs.Rational.{rational_ops}
use Rattle.ring_law.proofs.FractionLaws.{gcd_le, nonzero_value}
use Rattle.germ_law.specs.Germ.{whole, one_over}

-- the greatest common divisor with 1
gcd-one : (n : ℕ) → gcd n 1 ≡ 1
gcd-one n = let low = gcd_pos n 1 (omega arith) in let high = gcd_le n 1 (omega arith) in omega arith

-- n / 1 is n
pub whole_is : (n : ℕ) → n < 2 ^ 64 → Represents (record { num = pos n; den = pos 1 }) (whole n)
whole_is n h = record {
  valid = record { den_pos = omega (arith, ints); lowest = gcd-one n; num_fits = omega arith; den_fits = omega arith };
  value_is = refl;
}

-- 1 / n is the inverse of n
pub one_over_is : (n : ℕ) → 0 < n → n < 2 ^ 64 → Represents (record { num = pos 1; den = pos n }) (one_over n)
one_over_is n p h = record {
  valid = record { den_pos = omega (arith, ints); lowest = gcd_comm 1 n ∙ gcd-one n; num_fits = omega arith; den_fits = omega arith };
  value_is = refl;
}

-- 1 / n is not 0
pub one_over_nonzero : (n : ℕ) → 0 < n → n < 2 ^ 64 → frac_value (record { num = pos 1; den = pos n }) ≢ rational_ops.zero
one_over_nonzero n p h = nonzero_value (record { num = pos 1; den = pos n }) (one_over_is n p h).valid (λ e. omega (arith, ints, e))
