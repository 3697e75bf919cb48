use Rattle.std.proofs.Common.{◌≡◌, ◌+◌, ◌≤◌, length, map}
use Rattle.coord_change.specs.Changes.{IsChange}
use Rattle.coord_change.specs.Moves.{move_from}
use Rattle.coord_change.proofs.CompositeLemmas.{composed_to}
use Rattle.coord_change.proofs.composed.composed.Given as goal

abbrev pub invariant-loop-i : goal.invariant-loop-i
invariant-loop-i g l = let m = g.R.Ring.meaning l.ring in record {
  within : l.i + 1 ≤ length l.moves;
  change : IsChange m l.all;
  variables : l.all.n ≡ l.n;
  moves : move_from m l.n l.all ≡ composed_to l.n m.scalars l.k l.i (map (move_from m l.n) l.moves);
}
