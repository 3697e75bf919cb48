use Rattle.std.proofs.Common.{◌≤◌, length, take}
use Rattle.jet_subst.specs.Parts.{AreMultiples}
use Rattle.jet_subst.proofs.substitution.subst.Given as goal

abbrev pub invariant-loop-t : goal.invariant-loop-t
invariant-loop-t g l = record {
  within : l.t-index ≤ length l.terms;
  multiples : AreMultiples (g.R.Ring.meaning l.ring) l.n l.k l.parts (take l.t-index l.terms) l.all.items;
}
