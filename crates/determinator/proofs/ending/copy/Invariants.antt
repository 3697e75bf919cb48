use Rattle.std.proofs.Common.{◌≡◌, take}
use Rattle.determinator.proofs.ending.copy.Given as goal

abbrev pub invariant-loop-t : goal.invariant-loop-t
invariant-loop-t l = l.terms.items ≡ take l.t-index l.t-items
