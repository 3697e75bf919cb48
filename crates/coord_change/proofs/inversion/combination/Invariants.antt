use Rattle.std.proofs.Common.{◌≡◌, All}
use Rattle.poly_law.specs.ExpList.{exps}
use Rattle.poly_law.specs.Poly.{scale}
use Rattle.poly_law.specs.Polynomials.{poly_in}
use Rattle.poly_law.specs.Sums.{sum_to}
use Rattle.mono_exp.specs.Exponents.{IsIn}
use Rattle.jet_law.specs.Terms.{poly_of}
use Rattle.jet_subst.specs.Parts.{part_of}
use Rattle.coord_change.specs.Changes.{entry_of}
use Rattle.coord_change.proofs.inversion.combination.Given as goal

abbrev pub invariant-loop-t : goal.invariant-loop-t
invariant-loop-t g l = let m = g.R.Ring.meaning l.ring in record {
  elems : All (λ u. m.is_elem u.1) l.all.items;
  variables : All (λ u. IsIn l.n u.0.e) l.all.items;
  sum : poly_of l.n m.value l.all.items ≡ sum_to (poly_in l.n m.scalars.ops) l.t (λ t. scale (exps l.n) m.scalars.ops (entry_of m l.n l.matrix l.u t) (part_of l.n m.value l.jets t));
}
