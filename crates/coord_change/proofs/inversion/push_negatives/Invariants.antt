use Rattle.std.proofs.Common.{take}
use Rattle.coord_change.specs.InverseChanges.{PushesNegatives}
use Rattle.coord_change.proofs.inversion.push_negatives.Given as goal

abbrev pub invariant-loop-t : goal.invariant-loop-t
invariant-loop-t g l = PushesNegatives (g.R.Ring.meaning l.ring) (take l.t-index l.others) l.initial.terms.items l.terms.items
