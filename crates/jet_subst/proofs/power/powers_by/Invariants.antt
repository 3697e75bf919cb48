use Rattle.std.proofs.Common.{◌≡◌, ◌+◌, length}
use Rattle.jet_law.specs.Terms.{poly_of}
use Rattle.jet_subst.specs.Parts.{ArePowers}
use Rattle.jet_subst.proofs.power.powers_by.Given as goal

abbrev pub invariant-loop-i : goal.invariant-loop-i
invariant-loop-i g l = record {
  count : length l.all.items ≡ l.i + 1;
  powers : ArePowers (g.R.Ring.meaning l.ring) l.p.n l.k (poly_of l.p.n (g.R.Ring.meaning l.ring).value l.p.terms) l.all.items;
}
