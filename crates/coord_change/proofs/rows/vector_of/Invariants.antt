use Rattle.std.proofs.Common.{◌≡◌, ℕ, ◌<◌, length, get_or, All}
use Rattle.lin_row.specs.Lines.{entry}
use Rattle.coord_change.proofs.rows.vector_of.Given as goal

abbrev pub invariant-loop-d : goal.invariant-loop-d
invariant-loop-d g l = let m = g.R.Ring.meaning l.ring in record {
  count : length l.all.items ≡ l.d;
  elems : All m.is_elem l.all.items;
  values : (k : ℕ) (e : g.row.R-Elem.Denot) → k < l.d → m.value (get_or l.all.items k e) ≡ entry m l.row.entries k;
}
