use Rattle.std.proofs.Common.{◌≡◌, take}
use Rattle.lin_row.proofs.systems.narrow.Given as goal

abbrev pub invariant-loop-t : goal.invariant-loop-t
invariant-loop-t g l = l.all.items ≡ take l.t-index l.line
