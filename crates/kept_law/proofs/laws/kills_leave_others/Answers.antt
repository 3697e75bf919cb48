use Rattle.kept_law.proofs.KillMoves
use Rattle.kept_law.proofs.laws.kills_leave_others.Goals as goal

pub returns : goal.returns
returns g c a valid = KillMoves.kills_leave_others (g.R.Ring.meaning a).scalars
