use Rattle.std.proofs.Common.{◌≡◌, ℕ}
use Rattle.poly_law.specs.Sums.{sum_to}
use Rattle.lin_row.specs.Lines.{IsLine, AllBelow, dot}
use Rattle.coord_change.specs.Changes.{entry_of}
use Rattle.coord_change.proofs.rows.row_entries.Given as goal

abbrev pub invariant-loop-j : goal.invariant-loop-j
invariant-loop-j g l = let m = g.R.Ring.meaning l.ring in record {
  line : IsLine m l.entries.items;
  below : AllBelow l.j l.entries.items;
  form : (x : ℕ → g.R.Ring.Value l.ring) → dot m l.entries.items x ≡ sum_to m.scalars.ops l.j (λ d. m.scalars.ops.mul (entry_of m l.n l.matrix l.i d) (x d));
}
