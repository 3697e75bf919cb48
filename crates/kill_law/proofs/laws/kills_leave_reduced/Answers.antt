use Rattle.ring_theory.proofs.ValueSet.{values_are_set}
use Rattle.kill_law.proofs.KillLaw
use Rattle.kill_law.proofs.laws.kills_leave_reduced.Goals as goal

pub returns : goal.returns
returns g c a valid =
    let s = (g.R.Ring.meaning a).scalars in
    let l = (g.met.R.Ring.laws a valid).numbers in
    KillLaw.kills_leave_reduced s l (values_are_set s l)
