use Rattle.std.proofs.Common.{ℕ, List, [], take}
use Rattle.poly_law.specs.Polynomials.{Polynomial}
use Rattle.coord_change.specs.Moves.{Move}
use Rattle.coord_change.specs.Chains.{AreMoves, IsChain}
use Rattle.chain_lift.proofs.lifting.push_all.Given as goal

abbrev pub invariant-loop-change : goal.invariant-loop-change
invariant-loop-change g l =
    let m = g.R.Ring.meaning l.ring in
    (n last o : ℕ) (f : Polynomial n (g.R.Ring.Value l.ring)) (moves : List (Move n (g.R.Ring.Value l.ring))) → IsChain m n last f o [] l.initial.chain → AreMoves m n last moves l.changes
    → IsChain m n last f o (take l.change-index moves) l.chain
