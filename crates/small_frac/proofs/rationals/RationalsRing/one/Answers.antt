use Rattle.std.proofs.Common.{refl, arith, rules}
use Rattle.ring_theory.specs.Gcd.{gcd}
use Rattle.small_frac.proofs.rationals.RationalsRing.one.Goals as goal

pub returns-clause-elem : goal.returns-clause-elem
unfolding gcd
returns-clause-elem c = record { den_pos = search rules; lowest = refl; num_fits = omega arith; den_fits = omega arith }
