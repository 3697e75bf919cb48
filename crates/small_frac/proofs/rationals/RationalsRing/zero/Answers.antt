use Rattle.std.proofs.Common.{arith, rules}
use Rattle.ring_theory.proofs.Lowest.{zero_lowest}
use Rattle.small_frac.proofs.rationals.RationalsRing.zero.Goals as goal

pub returns-clause-elem : goal.returns-clause-elem
returns-clause-elem c = record { den_pos = search rules; lowest = zero_lowest; num_fits = omega arith; den_fits = omega arith }
