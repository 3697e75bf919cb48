use Rattle.std.proofs.Common.{◌≡◌, length}
use Rattle.jet_quotient.specs.Answers.{AreRowsBy}
use Rattle.jet_quotient.proofs.table.table_of.Given as goal

abbrev pub invariant-loop-i : goal.invariant-loop-i
invariant-loop-i g l = record {
  count : length l.rows.items ≡ l.i;
  rows : AreRowsBy (g.R.Ring.meaning l.ring) l.n l.k l.multiples l.basis l.monomials l.rests l.rows.items;
}
