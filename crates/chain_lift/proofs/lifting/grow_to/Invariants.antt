use Rattle.std.proofs.Common.{ℕ, []}
use Rattle.poly_law.specs.Polynomials.{Polynomial}
use Rattle.coord_change.specs.Chains.{IsChain}
use Rattle.chain_lift.proofs.lifting.grow_to.Given as goal

abbrev pub invariant-loop-o : goal.invariant-loop-o
invariant-loop-o g l = let m = g.R.Ring.meaning l.ring in (n last o : ℕ) (f : Polynomial n (g.R.Ring.Value l.ring)) → IsChain m n last f o [] l.initial.chain → IsChain m n last f l._o [] l.chain
