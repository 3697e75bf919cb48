use Rattle.bin_forms.proofs.QuarticShapes as shapes
use Rattle.bin_forms.proofs.laws.distinct_quartics.Goals as goal

pub returns : goal.returns
returns g c k is_field r is_ring =
    let numbers = (g.met.R.Ring.laws r is_ring).numbers in
    shapes.distinct_quartics (g.F.Ring.meaning k).scalars (g.met.F.Ring.laws k is_field).numbers (g.met.F.Field.inverts k is_field) (g.R.Ring.meaning r).scalars.ops numbers.ring numbers.nontrivial
