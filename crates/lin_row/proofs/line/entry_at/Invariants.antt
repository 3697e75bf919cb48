use Rattle.std.proofs.Common.{take}
use Rattle.lin_row.specs.System.{IsAbsent}
use Rattle.lin_row.proofs.line.entry_at.Given as goal

abbrev pub invariant-loop-i : goal.invariant-loop-i
invariant-loop-i g l = IsAbsent l.column (take l.i l.line)
