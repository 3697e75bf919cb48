use Rattle.kill_law.proofs.LeadLaw
use Rattle.kill_law.proofs.laws.leads_are_right.Goals as goal

pub returns : goal.returns
returns g c a valid = LeadLaw.leads_are_right (g.R.Ring.meaning a).scalars (g.met.R.Ring.laws a valid).numbers
