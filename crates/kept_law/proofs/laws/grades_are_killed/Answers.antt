use Rattle.kept_law.proofs.KillLeads
use Rattle.kept_law.proofs.laws.grades_are_killed.Goals as goal

pub returns : goal.returns
returns g c a valid = KillLeads.grades_are_killed (g.R.Ring.meaning a).scalars (g.met.R.Ring.laws a valid).numbers
