use Rattle.std.proofs.Common.{◌≡◌, ℕ, ◌<◌, get_or}
use Rattle.check_change.proofs.inverse.have_same_entries.Given as goal

abbrev pub invariant-loop-place : goal.invariant-loop-place
invariant-loop-place g l = let m = g.R.Ring.meaning l.ring in (k : ℕ) (d e : g.row.R-Elem.Denot) → k < l.place → m.value (get_or l.a k d) ≡ m.value (get_or l.b k e)
