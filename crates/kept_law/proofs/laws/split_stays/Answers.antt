use Rattle.kept_law.proofs.Agreeing
use Rattle.kept_law.proofs.laws.split_stays.Goals as goal

pub returns : goal.returns
returns g c a valid = Agreeing.split_stays (g.R.Ring.meaning a).scalars (g.met.R.Ring.laws a valid).numbers
