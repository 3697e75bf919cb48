use Rattle.ring_theory.proofs.RationalLaws.{rational_scalar_laws}
use Rattle.ring_theory.proofs.laws.rationals_are_scalars.Goals as goal

pub returns : goal.returns
returns c = rational_scalar_laws
