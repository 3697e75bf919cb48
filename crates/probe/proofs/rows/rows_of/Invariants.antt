use Rattle.lin_row.specs.Lines.{AllBelow, EachOf}
use Rattle.lin_row.specs.Rows.{AreRows, rows_of}
use Rattle.probe.proofs.rows.rows_of.Given as goal

abbrev pub invariant-loop-i : goal.invariant-loop-i
invariant-loop-i g l = record {
  rows : AreRows (g.F.Ring.meaning l.over.field) l.rows.items;
  below : EachOf (AllBelow l.over.n) (rows_of l.rows.items);
}
