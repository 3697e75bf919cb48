use Rattle.ring_theory.proofs.ValueSet.{values_are_set}
use Rattle.poly_law.proofs.LawsOverRings as over_rings
use Rattle.determinacy.proofs.laws.mather_kept.Goals as goal

pub returns-clause-kept : goal.returns-clause-kept
returns-clause-kept g c a valid =
    let s = (g.R.Ring.meaning a).scalars in
    let l = (g.met.R.Ring.laws a valid).numbers in
    over_rings.mather_kept s.ops l.ring (values_are_set s l)

pub returns-clause-split : goal.returns-clause-split
returns-clause-split g c a valid =
    let s = (g.R.Ring.meaning a).scalars in
    let l = (g.met.R.Ring.laws a valid).numbers in
    over_rings.mather_split s.ops l.ring (values_are_set s l)

pub returns-clause-up : goal.returns-clause-up
returns-clause-up g c a valid =
    let s = (g.R.Ring.meaning a).scalars in
    let l = (g.met.R.Ring.laws a valid).numbers in
    over_rings.mather_up s.ops l.ring (values_are_set s l)
