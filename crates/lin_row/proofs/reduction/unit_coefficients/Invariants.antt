use Rattle.std.proofs.Common.{◌≡◌, ℕ, ◌+◌, ◌≤◌, take}
use Rattle.lin_row.specs.Lines.{AllBelow, AllUnits, IsRising, dot}
use Rattle.lin_row.specs.Reductions.{after_units}
use Rattle.lin_row.proofs.reduction.unit_coefficients.Given as goal

abbrev pub invariant-loop-t : goal.invariant-loop-t
invariant-loop-t g l =
    let r = g.R.Ring.meaning l.ring in
    record {
      rising : IsRising l.all.items;
      units : AllUnits r l.all.items;
      within : AllBelow l.count l.all.items;
      before : (a : ℕ) → AllBelow (4294967296 + a) (take l.t-index l.left) → AllBelow a l.all.items;
      value : (w : ℕ → g.R.Ring.Value l.ring) → ((j : ℕ) → l.count ≤ j → w j ≡ r.scalars.ops.zero) → dot r l.all.items w ≡ r.scalars.ops.neg (dot r (take l.t-index l.left) (after_units r.scalars.ops 4294967296 w));
    }
