use Rattle.std.proofs.Common.{take}
use Rattle.determinator.specs.Lifted.{AreLiftedParts}
use Rattle.determinator.proofs.lifting.lift_parts.Given as goal

abbrev pub invariant-loop-part : goal.invariant-loop-part
invariant-loop-part l = record { so_far : AreLiftedParts l.change (take l.part-index l.part-items) l.parts }
