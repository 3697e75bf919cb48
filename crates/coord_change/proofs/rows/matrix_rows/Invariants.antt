use Rattle.std.proofs.Common.{◌≡◌, ℕ, ◌<◌, [], length, get_or}
use Rattle.lin_row.specs.Lines.{AllBelow, EachOf, dot}
use Rattle.lin_row.specs.Rows.{AreRows, rows_of}
use Rattle.coord_change.specs.Changes.{entry_of}
use Rattle.coord_change.specs.Inverses.{image_at}
use Rattle.coord_change.proofs.rows.matrix_rows.Given as goal

abbrev pub invariant-loop-i : goal.invariant-loop-i
invariant-loop-i g l = let m = g.R.Ring.meaning l.ring in record {
  count : length (rows_of l.rows.items) ≡ l.i;
  rows : AreRows m l.rows.items;
  below : EachOf (AllBelow l.n) (rows_of l.rows.items);
  forms : (j : ℕ) → j < l.i → (x : ℕ → g.R.Ring.Value l.ring) → dot m (get_or (rows_of l.rows.items) j []) x ≡ image_at m.scalars.ops l.n (entry_of m l.n l.matrix) x j;
}
