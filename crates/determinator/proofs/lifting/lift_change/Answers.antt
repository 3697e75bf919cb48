use Rattle.determinator.proofs.LiftLemmas.{lifted_move}
use Rattle.determinator.proofs.lifting.lift_change.Goals as goal

pub returns-clause-change : goal.returns-clause-change
returns-clause-change c n k move h = lifted_move c.args.change.now c.in_ok-parts.parts c.in_ok-inverse.inverse c.in_ok-parts.ensures.parts (rw c.as_slice.ensures at c.in_ok-inverse.ensures.entries) n k move h
