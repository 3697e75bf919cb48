use Rattle.std.proofs.Common.{◌≤◌, length, take}
use Rattle.lin_row.specs.System.{lines_of}
use Rattle.lin_row.specs.Stages.{ArePivotsCleared}
use Rattle.lin_row.proofs.stage.pivots_cleared.Given as goal

abbrev pub invariant-loop-row : goal.invariant-loop-row
invariant-loop-row g l = record {
  within : l.row-index ≤ length l.rows;
  cleared : ArePivotsCleared (g.R.Ring.meaning l.ring) l.column l.pivot (lines_of (take l.row-index l.rows)) (lines_of l.all.items);
}
