use Rattle.std.proofs.Common.{◌≤◌, length, take}
use Rattle.lin_row.specs.Stages.{items_of, AreCleared}
use Rattle.lin_row.proofs.stage.all_cleared.Given as goal

abbrev pub invariant-loop-row : goal.invariant-loop-row
invariant-loop-row g l = record {
  within : l.row-index ≤ length l.rows;
  cleared : AreCleared (g.R.Ring.meaning l.ring) l.column l.pivot (items_of (take l.row-index l.rows)) (items_of l.all.items);
}
