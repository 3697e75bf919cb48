use Rattle.std.proofs.Common.{◌≡◌, ◌≤◌, ℕ, length, drop}
use Rattle.lin_row.specs.Lines.{IsLine, dot, entry}
use Rattle.lin_row.specs.System.{AllVanish, ZeroAtPivots, lines_of}
use Rattle.lin_row.proofs.excluded.functional.Given as goal

abbrev pub invariant-loop-k : goal.invariant-loop-k
invariant-loop-k g l =
    let r = g.R.Ring.meaning l.ring in
    record {
      within : l.k ≤ length l.pivots;
      line : IsLine r l.values.items;
      vanish : AllVanish r (lines_of (drop l.k l.pivots)) (entry r l.values.items);
      same : (w : ℕ → g.R.Ring.Value l.ring) → ZeroAtPivots r.scalars (lines_of l.pivots) w → dot r l.values.items w ≡ dot r l.fn.start.items w;
    }

abbrev pub decreases-loop-k : goal.decreases-loop-k
decreases-loop-k g l = l.k
