use Rattle.std.proofs.Common.{take}
use Rattle.lin_row.specs.Lines.{AllBelow}
use Rattle.lin_row.specs.System.{lines_of}
use Rattle.lin_row.proofs.echelon.place.Given as goal

abbrev pub invariant-loop-i : goal.invariant-loop-i
invariant-loop-i g l = AllBelow l.column (lines_of (take l.i l.pivots))
