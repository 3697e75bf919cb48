use Rattle.poly_law.specs.ExpList.{exps}
use Rattle.poly_law.specs.Poly.{monomial_of}
use Rattle.poly_law.proofs.ExpLists.{exps_are}
use Rattle.std.proofs.Common.{length}
use Rattle.jet_law.specs.Terms.{exp_of}
use Rattle.jet_subst.specs.Powers.{IsTruncatedJet}
use Rattle.jet_subst.specs.Parts.{part_of}
use Rattle.jet_subst.proofs.Monomials.{prefix}
use Rattle.jet_subst.proofs.table.monomial_product.Given as goal

abbrev pub invariant-loop-i : goal.invariant-loop-i
invariant-loop-i g l =
    let m = g.R.Ring.meaning l.ring in
    let count = length l.parts in
    IsTruncatedJet m l.n l.k (monomial_of (exps count) (exps l.n) m.scalars.ops (part_of l.n m.value l.parts) (prefix (exps count) (exps_are count) l.i (exp_of count l.a))) l.power
