use Rattle.std.proofs.Common.{take}
use Rattle.determinator.specs.Lifted.{AreLiftedEntries}
use Rattle.determinator.proofs.lifting.lift_entries.Given as goal

abbrev pub invariant-loop-e : goal.invariant-loop-e
invariant-loop-e l = record { so_far : AreLiftedEntries (take l.e-index l.entries) l.lifted }
