use Rattle.std.proofs.Common.{take}
use Rattle.lin_row.specs.System.{IsAbsent}
use Rattle.jet_quotient.proofs.table.entry_at.Given as goal

abbrev pub invariant-loop-t : goal.invariant-loop-t
invariant-loop-t g l = IsAbsent l.column (take l.t-index l.row)
