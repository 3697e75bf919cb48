use Rattle.std.proofs.Common.{◌≤◌, ℕ, length, drop}
use Rattle.lin_row.specs.Lines.{AllAfter, AllBelow}
use Rattle.lin_row.specs.System.{AreEchelon, AreReduced, AllVanish, lines_of}
use Rattle.lin_row.proofs.forms.cleared_upwards.Given as goal

abbrev pub invariant-loop-k : goal.invariant-loop-k
invariant-loop-k g l =
    let r = g.R.Ring.meaning l.ring in
    record {
      within : l.k ≤ length l.pivots;
      echelon : AreEchelon r (lines_of l.done.items);
      reduced : AreReduced r (lines_of l.done.items);
      after : (a : ℕ) → AllAfter a (lines_of (drop l.k l.pivots)) → AllAfter a (lines_of l.done.items);
      below : (u : ℕ) → AllBelow u (lines_of (drop l.k l.pivots)) → AllBelow u (lines_of l.done.items);
      down : (w : ℕ → g.R.Ring.Value l.ring) → AllVanish r (lines_of (drop l.k l.pivots)) w → AllVanish r (lines_of l.done.items) w;
      up : (w : ℕ → g.R.Ring.Value l.ring) → AllVanish r (lines_of l.done.items) w → AllVanish r (lines_of (drop l.k l.pivots)) w;
    }

abbrev pub decreases-loop-k : goal.decreases-loop-k
decreases-loop-k g l = l.k
