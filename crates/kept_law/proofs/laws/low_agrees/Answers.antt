use Rattle.kept_law.proofs.Agreeing
use Rattle.kept_law.proofs.laws.low_agrees.Goals as goal

pub returns : goal.returns
returns g c a valid = Agreeing.low_agrees (g.R.Ring.meaning a).scalars (g.met.R.Ring.laws a valid).numbers
