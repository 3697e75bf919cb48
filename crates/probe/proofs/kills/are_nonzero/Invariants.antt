use Rattle.std.proofs.Common.{◌≢◌, ℕ, ◌<◌, map, get_or}
use Rattle.probe.proofs.kills.are_nonzero.Given as goal

abbrev pub invariant-loop-i : goal.invariant-loop-i
invariant-loop-i g l = let m = g.R.Ring.meaning l.ring in (i : ℕ) → i < l.i → get_or (map m.value l.letters) i m.scalars.ops.zero ≢ m.scalars.ops.zero
