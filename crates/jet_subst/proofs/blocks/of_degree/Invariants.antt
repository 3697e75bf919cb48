use Rattle.std.proofs.Common.{◌≡◌, eqb, filter, sum, take}
use Rattle.jet_subst.proofs.blocks.of_degree.Given as goal

abbrev pub invariant-loop-t : goal.invariant-loop-t
invariant-loop-t g l = l.block.items ≡ filter (λ t. eqb (sum t.0.e) l.d) (take l.t-index l.terms)
