use Rattle.std.proofs.Common.{◌≤◌, length, take}
use Rattle.lin_row.specs.Rows.{AreSolutions}
use Rattle.lin_row.proofs.systems.solve_all_by.Given as goal

abbrev pub invariant-loop-target : goal.invariant-loop-target
invariant-loop-target g l = record {
  within : l.target-index ≤ length l.targets;
  solutions : AreSolutions (g.F.Ring.meaning l.field) l.rows (take l.target-index l.targets) l.all.items;
}
