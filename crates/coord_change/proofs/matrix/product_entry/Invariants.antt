use Rattle.std.proofs.Common.{◌≡◌}
use Rattle.poly_law.specs.Sums.{sum_to}
use Rattle.coord_change.specs.Changes.{entry_of}
use Rattle.coord_change.proofs.matrix.product_entry.Given as goal

abbrev pub invariant-loop-t : goal.invariant-loop-t
invariant-loop-t g l = let m = g.R.Ring.meaning l.ring in record {
  elem : m.is_elem l.sum;
  value : m.value l.sum ≡ sum_to m.scalars.ops l.t (λ t. m.scalars.ops.mul (entry_of m l.n l.b l.i t) (entry_of m l.n l.a t l.j));
}
