use Rattle.kept_law.proofs.KillMoves
use Rattle.kept_law.proofs.laws.kills_keep.Goals as goal

pub returns : goal.returns
returns g c a valid = KillMoves.all_kills_keep (g.R.Ring.meaning a).scalars (g.met.R.Ring.laws a valid).numbers
