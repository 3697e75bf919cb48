use Rattle.std.proofs.Common.{◌≡◌, take}
use Rattle.coord_change.proofs.parts.copy.Given as goal

abbrev pub invariant-loop-t : goal.invariant-loop-t
invariant-loop-t g l = l.terms.items ≡ take l.t-index l.t-items
