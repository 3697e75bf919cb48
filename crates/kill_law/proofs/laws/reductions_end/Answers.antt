use Rattle.kill_law.proofs.ChainLaw
use Rattle.kill_law.proofs.laws.reductions_end.Goals as goal

pub returns : goal.returns
returns g c a valid = ChainLaw.reductions_end (g.R.Ring.meaning a).scalars
