use Rattle.std.proofs.Common.{◌≤◌, length, take}
use Rattle.lin_row.specs.Rows.{rows_of}
use Rattle.lin_row.specs.Reductions.{AreRemainders}
use Rattle.lin_row.proofs.reduction.reduce_all_by.Given as goal

abbrev pub invariant-loop-target : goal.invariant-loop-target
invariant-loop-target g l = record {
  within : l.target-index ≤ length l.targets;
  remainders : AreRemainders (g.F.Ring.meaning l.field) (rows_of l.rows) (rows_of l.form.items) (take l.target-index l.targets) l.remainders.items;
}
