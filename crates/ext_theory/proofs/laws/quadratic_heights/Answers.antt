use Rattle.ring_theory.specs.Height.{rational_scalars}
use Rattle.ring_theory.proofs.HeightLaws.{rational_heights}
use Rattle.ring_theory.proofs.RationalLaws.{rational_scalar_laws}
use Rattle.ext_theory.proofs.ExtensionHeights as heights
use Rattle.ext_theory.proofs.laws.quadratic_heights.Goals as goal

pub returns : goal.returns
returns c = λ m. (heights.quadratic_heights rational_scalars rational_heights rational_scalar_laws m, heights.quadratic_inverse_heights rational_scalars rational_heights m)
