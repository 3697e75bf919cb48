use Rattle.std.proofs.Common.{◌+◌, take}
use Rattle.std.specs.List.{AllByRecursion}
use Rattle.check_rows.specs.Lists.{list_at}
use Rattle.check_rows.specs.Rows.{IsPrintedRow}
use Rattle.check_rows.proofs.rows.each_is_row.Given as goal

abbrev pub invariant-loop-row : goal.invariant-loop-row
invariant-loop-row g l =
    let m = g.R.Ring.meaning l.ring in
    AllByRecursion (IsPrintedRow m l.n (l.k + 1) (list_at l.n m.value l.partials)) (take l.row-index l.rows)
