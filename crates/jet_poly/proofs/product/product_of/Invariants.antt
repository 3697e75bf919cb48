use Rattle.std.proofs.Common.{◌≤◌, take, length}
use Rattle.poly_law.specs.Polynomials.{SameIn, cut_in, times_in}
use Rattle.jet_law.specs.Terms.{poly_of}
use Rattle.jet_poly.specs.Gathered.{gathered, IsGathered}
use Rattle.jet_poly.proofs.product.product_of.Given as goal

abbrev pub invariant-loop-u : goal.invariant-loop-u
invariant-loop-u g l = record {
  within : l.u-index ≤ length l.f;
  valid : IsGathered l.n l.k (g.R.Ring.meaning l.ring) l.sums.entries;
  so_far : SameIn l.n (g.R.Ring.meaning l.ring).scalars.ops (gathered l.n (g.R.Ring.meaning l.ring).value l.sums.entries)
      (cut_in l.n (g.R.Ring.meaning l.ring).scalars.ops l.k (times_in l.n (g.R.Ring.meaning l.ring).scalars.ops (poly_of l.n (g.R.Ring.meaning l.ring).value (take l.u-index l.f)) (poly_of l.n (g.R.Ring.meaning l.ring).value l.g)));
}
