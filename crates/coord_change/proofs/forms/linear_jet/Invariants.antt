use Rattle.poly_law.specs.Sums.{sum_to}
use Rattle.poly_law.specs.Exps.{variable}
use Rattle.poly_law.specs.ExpList.{exps}
use Rattle.poly_law.specs.Poly.{scale}
use Rattle.poly_law.specs.Polynomials.{SameIn, poly_in, term_in}
use Rattle.jet_law.specs.Terms.{poly_of}
use Rattle.jet_poly.proofs.Derived.{AreReady}
use Rattle.coord_change.specs.Changes.{entry_of}
use Rattle.coord_change.specs.Linear.{one_at}
use Rattle.coord_change.proofs.forms.linear_jet.Given as goal

abbrev pub invariant-loop-j : goal.invariant-loop-j
invariant-loop-j g l = let m = g.R.Ring.meaning l.ring in record {
  ready : AreReady l.n l.order m one_at (λ j. Unit {0}) l.j l.n l.terms.items;
  so_far : SameIn l.n m.scalars.ops (poly_of l.n m.value l.terms.items)
      (sum_to (poly_in l.n m.scalars.ops) l.j (λ j. scale (exps l.n) m.scalars.ops (entry_of m l.n l.matrix l.i j) (term_in l.n m.scalars.ops (variable (exps l.n) j))));
}
