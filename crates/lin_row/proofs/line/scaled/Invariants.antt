use Rattle.std.proofs.Common.{◌≡◌, ℕ, ◌≤◌, length, ◌++◌, take, drop}
use Rattle.lin_row.specs.Lines.{IsRising, AllUnits, AllBelow, dot}
use Rattle.lin_row.proofs.line.scaled.Given as goal

abbrev pub invariant-loop-t : goal.invariant-loop-t
invariant-loop-t g l =
    let r = g.R.Ring.meaning l.ring in
    record {
      within : l.t-index ≤ length l.row;
      units : AllUnits r l.all.items;
      rising : IsRising (l.all.items ++ drop l.t-index l.row);
      below : (a : ℕ) → AllBelow a l.row → AllBelow a l.all.items;
      value : (w : ℕ → g.R.Ring.Value l.ring) → dot r l.all.items w ≡ r.scalars.ops.mul (r.value l.f) (dot r (take l.t-index l.row) w);
    }
