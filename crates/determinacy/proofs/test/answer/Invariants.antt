use Rattle.std.proofs.Common.{◌≡◌, length}
use Rattle.determinacy.specs.Answers.{AreRowsBy}
use Rattle.determinacy.proofs.test.answer.Given as goal

abbrev pub invariant-loop-i : goal.invariant-loop-i
invariant-loop-i g l = record {
  count : length l.rows.items ≡ l.i;
  rows : AreRowsBy (g.R.Ring.meaning l.ring) l.n l.k l.multiples l.monomials l.solutions l.rows.items;
}
