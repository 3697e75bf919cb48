use Rattle.kill_law.proofs.ReductionLaw
use Rattle.kill_law.proofs.laws.reductions_are_right.Goals as goal

pub returns : goal.returns
returns g c a valid = ReductionLaw.reductions_are_right (g.R.Ring.meaning a).scalars (g.met.R.Ring.laws a valid).numbers
