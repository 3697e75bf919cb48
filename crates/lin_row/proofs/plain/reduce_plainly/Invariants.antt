use Rattle.std.proofs.Common.{length}
use Rattle.lin_row.specs.Rows.{rows_of}
use Rattle.lin_row.specs.System.{lines_of}
use Rattle.lin_row.specs.Plain.{with_units}
use Rattle.lin_row.specs.Stages.{items_of, IsStage}
use Rattle.lin_row.proofs.plain.reduce_plainly.Given as goal

abbrev pub invariant-loop-at : goal.invariant-loop-at
invariant-loop-at g l =
    let r = g.F.Ring.meaning l.field in
    IsStage r 4294967296 (with_units r 4294967296 0 (rows_of l.rows)) (rows_of l.rows) (lines_of l.done.items) (items_of l.rest.items)

abbrev pub decreases-loop-at : goal.decreases-loop-at
decreases-loop-at g l = length (items_of l.rest.items)
