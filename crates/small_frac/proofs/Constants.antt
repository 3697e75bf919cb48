-- The fractions 4 and 1/2 are valid.
use Rattle.std.proofs.Common.{pos, refl, arith}
use Rattle.std.proofs.lemmas.Int.{ints}
use Rattle.ring_theory.specs.Gcd.{gcd}
use Rattle.ring_law.specs.Fraction.{IsFrac}

pub four_valid : IsFrac (record { num = pos 4; den = pos 1 })
unfolding gcd
four_valid = record { den_pos = omega (arith, ints); lowest = refl; num_fits = omega arith; den_fits = omega arith }

pub half_valid : IsFrac (record { num = pos 1; den = pos 2 })
unfolding gcd
half_valid = record { den_pos = omega (arith, ints); lowest = refl; num_fits = omega arith; den_fits = omega arith }
