use Rattle.kept_law.proofs.Agreeing
use Rattle.kept_law.proofs.laws.jets_low.Goals as goal

pub returns : goal.returns
returns g c a valid = Agreeing.jets_low (g.R.Ring.meaning a).scalars (g.met.R.Ring.laws a valid).numbers
