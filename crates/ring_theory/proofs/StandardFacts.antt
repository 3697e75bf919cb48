-- Known values: sums, products and greatest common divisors of given numbers compute.
use Rattle.std.proofs.Common.{◌≡◌, pos, negsuc, refl, ◌^◌, ◌-◌, ◌+◌}
use Rattle.ring_theory.specs.Gcd.{gcd}
use Rattle.ring_theory.specs.Rational.{rational_zero, rational, rational_add, rational_mul, rational_inv}

-- 2^127 - 1 is prime
mersenne_coprime : gcd (2 ^ 127 - 1) (2 ^ 126 + 12345) ≡ 1
unfolding gcd
mersenne_coprime = refl

-- 1/6 + 1/10 = 4/15
sum : rational_add (rational (pos 1) 6) (rational (pos 1) 10) ≡ rational (pos 4) 15
unfolding gcd rational rational_zero rational_add
sum = refl

-- (2/3) (-9/4) = -3/2
product : rational_mul (rational (pos 2) 3) (rational (negsuc 8) 4) ≡ rational (negsuc 5) 4
unfolding gcd rational rational_zero rational_mul
product = refl

-- the inverse of -2/3 is -3/2
inverse : rational_inv (rational (negsuc 1) 3) ≡ rational (negsuc 2) 2
unfolding gcd rational rational_zero rational_inv
inverse = refl

-- nothing over 0 is 0
over_zero : rational (pos 5) 0 ≡ rational (pos 0) 1
unfolding gcd rational rational_zero
over_zero = refl
