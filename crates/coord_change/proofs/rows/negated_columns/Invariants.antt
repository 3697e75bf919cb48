use Rattle.std.proofs.Common.{◌≡◌, ℕ, ◌/◌, ◌%◌, ◌<◌, [], length, get_or, All}
use Rattle.lin_row.specs.Lines.{entry}
use Rattle.lin_row.specs.Rows.{rows_of}
use Rattle.coord_change.proofs.rows.negated_columns.Given as goal

abbrev pub invariant-loop-place : goal.invariant-loop-place
invariant-loop-place g l = let m = g.R.Ring.meaning l.ring in record {
  count : length l.all.items ≡ l.place;
  elems : All m.is_elem l.all.items;
  entries : (k : ℕ) (d : g.row.R-Elem.Denot) → k < l.place → m.value (get_or l.all.items k d) ≡ m.scalars.ops.neg (entry m (get_or (rows_of l.columns) (k % l.size) []) (k / l.size));
}
