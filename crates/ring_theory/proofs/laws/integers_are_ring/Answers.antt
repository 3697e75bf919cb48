use Rattle.ring_theory.proofs.IntegerLaws.{int_laws}
use Rattle.ring_theory.proofs.laws.integers_are_ring.Goals as goal

pub returns : goal.returns
returns c = int_laws
