use Rattle.kept_law.proofs.KillLeads
use Rattle.kept_law.proofs.laws.kills_leave_no_lead.Goals as goal

pub returns : goal.returns
returns g c a valid = KillLeads.kills_leave_no_lead (g.R.Ring.meaning a).scalars (g.met.R.Ring.laws a valid).numbers
