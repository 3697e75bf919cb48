use Rattle.std.proofs.Common.{◌≡◌, ◌≤◌, ℕ, length, take}
use Rattle.lin_row.specs.Lines.{IsLine, lead_of, dot}
use Rattle.lin_row.specs.System.{IsAbsent, AllVanish, lines_of}
use Rattle.lin_row.proofs.echelon.led.Given as goal

abbrev pub invariant-loop-p : goal.invariant-loop-p
invariant-loop-p g l =
    let r = g.R.Ring.meaning l.ring in
    record {
      within : l.p-index ≤ length l.pivots;
      line : IsLine r l.left.items;
      absent : IsAbsent (lead_of l.left.items) (lines_of (take l.p-index l.pivots));
      same : (w : ℕ → g.R.Ring.Value l.ring) → AllVanish r (lines_of l.pivots) w → dot r l.left.items w ≡ dot r l.fn.row.items w;
    }
