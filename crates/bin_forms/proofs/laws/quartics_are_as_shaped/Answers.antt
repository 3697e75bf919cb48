use Rattle.bin_forms.proofs.QuarticShapes as shapes
use Rattle.bin_forms.proofs.laws.quartics_are_as_shaped.Goals as goal

pub returns : goal.returns
returns g c k is_field = shapes.quartic_is (g.F.Ring.meaning k).scalars (g.met.F.Ring.laws k is_field).numbers (g.met.F.Field.inverts k is_field)
