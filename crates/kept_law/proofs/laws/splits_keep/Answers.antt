use Rattle.kept_law.proofs.Agreeing
use Rattle.kept_law.proofs.laws.splits_keep.Goals as goal

pub returns : goal.returns
returns g c a valid = Agreeing.all_splits_keep (g.R.Ring.meaning a).scalars (g.met.R.Ring.laws a valid).numbers
