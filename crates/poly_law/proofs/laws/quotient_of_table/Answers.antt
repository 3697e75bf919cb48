use Rattle.poly_law.proofs.LawsOverRings as over_rings
use Rattle.poly_law.proofs.laws.quotient_of_table.Goals as goal

pub returns : goal.returns
returns g c a valid =
    let s = (g.R.Ring.meaning a).scalars in
    let l = (g.met.R.Ring.laws a valid).numbers in
    over_rings.quotient_of_table s.ops l.ring
