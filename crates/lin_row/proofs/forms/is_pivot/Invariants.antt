use Rattle.std.proofs.Common.{take}
use Rattle.lin_row.specs.System.{IsAbsent, lines_of}
use Rattle.lin_row.proofs.forms.is_pivot.Given as goal

abbrev pub invariant-loop-p : goal.invariant-loop-p
invariant-loop-p g l = IsAbsent l.column (lines_of (take l.p-index l.pivots))
