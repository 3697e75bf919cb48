use Rattle.std.proofs.Common.{◌≤◌, length, drop}
use Rattle.lin_row.specs.System.{IsSystem, lines_of}
use Rattle.lin_row.specs.Rows.{rows_of}
use Rattle.lin_row.proofs.echelon.build.Given as goal

abbrev pub invariant-loop-k : goal.invariant-loop-k
invariant-loop-k g l = record {
  within : l.k ≤ length l.rows;
  system : IsSystem (g.F.Ring.meaning l.field) 4294967296 (rows_of l.rows) (rows_of (drop l.k l.rows)) (lines_of l.pivots.items);
}

abbrev pub decreases-loop-k : goal.decreases-loop-k
decreases-loop-k g l = l.k
