use Rattle.std.proofs.Common.{◌≡◌, ◌+◌, ◌≤◌, length, map, take}
use Rattle.jet_law.specs.Terms.{poly_of}
use Rattle.jet_law.specs.Canonical.{jet}
use Rattle.coord_change.specs.Moves.{move_from}
use Rattle.coord_change.specs.Chains.{AreCarried}
use Rattle.coord_change.proofs.growth.grown_jets.Given as goal

abbrev pub invariant-loop-i : goal.invariant-loop-i
invariant-loop-i g l = let m = g.R.Ring.meaning l.ring in let n = l.f.n in record {
  within : l.i ≤ length l.moves;
  carried : AreCarried m n (l.o + 1) (take l.i (map (move_from m n) l.moves)) (jet n m.scalars (l.o + 1) (poly_of n m.value l.f.terms)) l.grown.items;
  steps : l.steps ≡ l.initial.steps + l.i;
}
