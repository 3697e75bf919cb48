use Rattle.std.proofs.Common.{[], get_or, length, take}
use Rattle.poly_law.specs.ExpList.{exps}
use Rattle.poly_law.specs.Poly.{scale}
use Rattle.poly_law.specs.Polynomials.{SameIn}
use Rattle.jet_law.specs.Terms.{poly_of}
use Rattle.jet_poly.proofs.Derived.{AreReady, keys}
use Rattle.jet_poly.proofs.walk.scaled.Given as goal

abbrev pub invariant-loop-t : goal.invariant-loop-t
invariant-loop-t g l = record {
  ready : AreReady l.n l.order (g.R.Ring.meaning l.ring) (λ j. get_or (keys l.terms) j []) (λ j. Unit {0}) l.t-index (length l.terms) l.kept.items;
  so_far : SameIn l.n (g.R.Ring.meaning l.ring).scalars.ops (poly_of l.n (g.R.Ring.meaning l.ring).value l.kept.items)
      (scale (exps l.n) (g.R.Ring.meaning l.ring).scalars.ops ((g.R.Ring.meaning l.ring).value l.a) (poly_of l.n (g.R.Ring.meaning l.ring).value (take l.t-index l.terms)));
}
