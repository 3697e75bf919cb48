use Rattle.std.proofs.Common.{◌≡◌, ℕ, ◌/◌, ◌%◌, ◌<◌, length, get_or, All}
use Rattle.poly_law.specs.Sums.{unit_at}
use Rattle.hessian_rank.proofs.matrix.permuting_matrix.Given as goal

abbrev pub invariant-loop-place : goal.invariant-loop-place
invariant-loop-place g l = let m = g.R.Ring.meaning l.ring in record {
  count : length l.matrix.items ≡ l.place;
  elems : All m.is_elem l.matrix.items;
  entries : (k : ℕ) (d : g.row.R-Elem.Denot) → k < l.place → m.value (get_or l.matrix.items k d) ≡ unit_at m.scalars.ops (k / l.n) (get_or l.order (k % l.n) 0);
}
