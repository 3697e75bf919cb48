use Rattle.std.proofs.Common.{◌≡◌, ◌≤◌, ℕ, length, take, drop}
use Rattle.lin_row.specs.Lines.{IsLine, dot, entry}
use Rattle.lin_row.specs.System.{IsCleared, AllVanish, lines_of}
use Rattle.lin_row.specs.Plain.{reduced_target, ClearingIsHigh}
use Rattle.lin_row.specs.Stages.{functions_of}
use Rattle.lin_row.proofs.echelon.remainder.Given as goal

abbrev pub invariant-loop-p : goal.invariant-loop-p
invariant-loop-p g l =
    let r = g.R.Ring.meaning l.ring in
    record {
      within : l.p-index ≤ length l.pivots;
      line : IsLine r l.left.items;
      cleared : IsCleared r (lines_of (take l.p-index l.pivots)) l.left.items;
      same : (w : ℕ → g.R.Ring.Value l.ring) → AllVanish r (lines_of l.pivots) w → dot r l.left.items w ≡ dot r l.fn.row.items w;
      entries : reduced_target r.scalars (functions_of r (lines_of (drop l.p-index l.pivots))) (entry r l.left.items) ≡ reduced_target r.scalars (functions_of r (lines_of l.pivots)) (entry r l.fn.row.items);
      high : ClearingIsHigh r.scalars (functions_of r (lines_of (drop l.p-index l.pivots))) (entry r l.left.items) → ClearingIsHigh r.scalars (functions_of r (lines_of l.pivots)) (entry r l.fn.row.items);
    }
