use Rattle.ring_theory.proofs.RationalLaws.{rational_field}
use Rattle.ring_theory.proofs.laws.rationals_are_field.Goals as goal

pub returns : goal.returns
returns c = rational_field
