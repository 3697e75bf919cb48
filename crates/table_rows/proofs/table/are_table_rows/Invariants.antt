use Rattle.std.proofs.Common.{take}
use Rattle.std.specs.List.{AllByRecursion}
use Rattle.check_rows.specs.Lists.{list_at}
use Rattle.table_rows.specs.Tables.{IsTableRow}
use Rattle.table_rows.proofs.table.are_table_rows.Given as goal

abbrev pub invariant-loop-row : goal.invariant-loop-row
invariant-loop-row g l =
    let m = g.R.Ring.meaning l.ring in
    AllByRecursion (IsTableRow m l.n l.k l.basis (list_at l.n m.value l.partials)) (take l.row-index l.table)
