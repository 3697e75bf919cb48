use Rattle.ring_theory.proofs.ValueSet.{values_are_set}
use Rattle.poly_law.proofs.LawsOverRings as over_rings
use Rattle.determinacy.proofs.laws.limit_means.Goals as goal

pub returns : goal.returns
returns g c a valid =
    let s = (g.R.Ring.meaning a).scalars in
    let l = (g.met.R.Ring.laws a valid).numbers in
    over_rings.limit_means s.ops l.ring (values_are_set s l) l.nontrivial
