use Rattle.std.proofs.Common.{◌≡◌, ℕ, ◌≤◌, length, ◌++◌, drop}
use Rattle.lin_row.specs.Lines.{IsRising, AllUnits, dot}
use Rattle.lin_row.proofs.line.add_multiple.Given as goal

abbrev pub invariant-loop-t : goal.invariant-loop-t
invariant-loop-t g l =
    let r = g.R.Ring.meaning l.ring in
    record {
      within : l.i ≤ length l.a;
      next : l.t-index ≤ length l.b;
      units : AllUnits r l.sum.items;
      rising_a : IsRising (l.sum.items ++ drop l.i l.a);
      rising_b : IsRising (l.sum.items ++ drop l.t-index l.b);
      value : (w : ℕ → g.R.Ring.Value l.ring) → r.scalars.ops.add (r.scalars.ops.add (dot r l.sum.items w) (dot r (drop l.i l.a) w)) (r.scalars.ops.mul (r.value l.f) (dot r (drop l.t-index l.b) w))
          ≡ r.scalars.ops.add (dot r l.a w) (r.scalars.ops.mul (r.value l.f) (dot r l.b w));
    }
