use Rattle.lin_row.specs.Lines.{IsLine, AllBelow}
use Rattle.probe.proofs.rows.row_of.Given as goal

abbrev pub invariant-loop-i : goal.invariant-loop-i
invariant-loop-i g l = record {
  line : IsLine (g.F.Ring.meaning l.over.field) l.entries;
  below : AllBelow l.i l.entries;
}
