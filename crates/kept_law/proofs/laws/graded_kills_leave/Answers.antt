use Rattle.kept_law.proofs.GradedKills
use Rattle.kept_law.proofs.laws.graded_kills_leave.Goals as goal

pub returns-clause-grades : goal.returns-clause-grades
returns-clause-grades g c a valid = GradedKills.all_grades_are_gone (g.R.Ring.meaning a).scalars (g.met.R.Ring.laws a valid).numbers

pub returns-clause-modulus : goal.returns-clause-modulus
returns-clause-modulus g c a valid = GradedKills.only_modulus_is_left (g.R.Ring.meaning a).scalars (g.met.R.Ring.laws a valid).numbers
