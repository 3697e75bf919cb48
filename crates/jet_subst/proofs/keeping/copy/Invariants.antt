use Rattle.std.proofs.Common.{◌≡◌, take}
use Rattle.jet_subst.proofs.keeping.copy.Given as goal

abbrev pub invariant-loop-t : goal.invariant-loop-t
invariant-loop-t g l = l.terms.items ≡ take l.t-index l.t-items
