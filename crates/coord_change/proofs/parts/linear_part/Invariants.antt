use Rattle.std.proofs.Common.{◌≡◌, ℕ, ◌/◌, ◌%◌, ◌<◌, length, get_or, All}
use Rattle.coord_change.specs.Linear.{linear_part_of}
use Rattle.coord_change.proofs.parts.linear_part.Given as goal

abbrev pub invariant-loop-place : goal.invariant-loop-place
invariant-loop-place g l = let m = g.R.Ring.meaning l.ring in record {
  count : length l.all.items ≡ l.place;
  elems : All m.is_elem l.all.items;
  entries : (k : ℕ) (d : g.row.R-Elem.Denot) → k < l.place → m.value (get_or l.all.items k d) ≡ linear_part_of m l.n l.parts (k / l.size) (k % l.size);
}
