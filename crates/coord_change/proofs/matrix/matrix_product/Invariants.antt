use Rattle.std.proofs.Common.{◌≡◌, ℕ, ◌/◌, ◌%◌, ◌<◌, length, get_or, All}
use Rattle.poly_law.specs.Sums.{sum_to}
use Rattle.coord_change.specs.Changes.{entry_of}
use Rattle.coord_change.proofs.matrix.matrix_product.Given as goal

abbrev pub invariant-loop-place : goal.invariant-loop-place
invariant-loop-place g l = let m = g.R.Ring.meaning l.ring in record {
  count : length l.all.items ≡ l.place;
  elems : All m.is_elem l.all.items;
  entries : (k : ℕ) (d : g.row.R-Elem.Denot) → k < l.place → m.value (get_or l.all.items k d)
      ≡ sum_to m.scalars.ops l.rows (λ t. m.scalars.ops.mul (entry_of m l.rows l.b (k / l.rows) t) (entry_of m l.rows l.a t (k % l.rows)));
}
