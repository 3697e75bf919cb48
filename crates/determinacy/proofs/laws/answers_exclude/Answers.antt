use Rattle.ring_theory.proofs.ValueSet.{values_are_set}
use Rattle.determinacy.proofs.ExclusionLemmas
use Rattle.determinacy.proofs.laws.answers_exclude.Goals as goal

pub returns : goal.returns
returns g c a valid =
    let m = g.R.Ring.meaning a in
    let l = (g.met.R.Ring.laws a valid).numbers in
    ExclusionLemmas.answers_exclude m l.ring (values_are_set m.scalars l) l.nontrivial
