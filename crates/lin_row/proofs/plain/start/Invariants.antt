use Rattle.std.proofs.Common.{take}
use Rattle.lin_row.specs.Rows.{rows_of}
use Rattle.lin_row.specs.Stages.{items_of, IsStart}
use Rattle.lin_row.proofs.plain.start.Given as goal

abbrev pub invariant-loop-i : goal.invariant-loop-i
invariant-loop-i g l = IsStart (g.F.Ring.meaning l.field) 4294967296 (rows_of l.rows) (rows_of (take l.i l.rows)) (items_of l.all.items)
