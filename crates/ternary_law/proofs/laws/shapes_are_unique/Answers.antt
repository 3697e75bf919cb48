use Rattle.ternary_law.proofs.OneShape.{one_shape}
use Rattle.ternary_law.proofs.laws.shapes_are_unique.Goals as goal

pub returns : goal.returns
returns c = one_shape
