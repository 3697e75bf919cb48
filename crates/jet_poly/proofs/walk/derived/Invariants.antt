use Rattle.std.proofs.Common.{[], ◌<◌, get_or, length, take}
use Rattle.poly_law.specs.Polynomials.{SameIn, derivative_in}
use Rattle.jet_law.specs.Terms.{poly_of}
use Rattle.jet_poly.proofs.Derived.{AreReady, keys, lowered}
use Rattle.jet_poly.proofs.walk.derived.Given as goal

abbrev pub invariant-loop-t : goal.invariant-loop-t
invariant-loop-t g l = record {
  ready : AreReady l.n l.order (g.R.Ring.meaning l.ring) (λ j. lowered l.i (get_or (keys l.terms) j [])) (λ j. 0 < get_or (get_or (keys l.terms) j []) l.i 0) l.t-index (length l.terms) l.kept.items;
  so_far : SameIn l.n (g.R.Ring.meaning l.ring).scalars.ops (poly_of l.n (g.R.Ring.meaning l.ring).value l.kept.items)
      (derivative_in l.n (g.R.Ring.meaning l.ring).scalars.ops l.i (poly_of l.n (g.R.Ring.meaning l.ring).value (take l.t-index l.terms)));
}
