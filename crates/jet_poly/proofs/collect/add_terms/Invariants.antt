use Rattle.std.proofs.Common.{◌≤◌, ◌++◌, take, length}
use Rattle.poly_law.specs.Polynomials.{SameIn, cut_in}
use Rattle.jet_law.specs.Terms.{poly_of}
use Rattle.jet_poly.specs.Gathered.{gathered, IsGathered}
use Rattle.jet_poly.proofs.collect.add_terms.Given as goal

abbrev pub invariant-loop-t : goal.invariant-loop-t
invariant-loop-t g l = record {
  within : l.t-index ≤ length l.terms;
  valid : IsGathered l.n l.k (g.R.Ring.meaning l.ring) l.sums.entries;
  so_far : SameIn l.n (g.R.Ring.meaning l.ring).scalars.ops (gathered l.n (g.R.Ring.meaning l.ring).value l.sums.entries)
      (gathered l.n (g.R.Ring.meaning l.ring).value l.initial.sums.entries ++ cut_in l.n (g.R.Ring.meaning l.ring).scalars.ops l.k (poly_of l.n (g.R.Ring.meaning l.ring).value (take l.t-index l.terms)));
}
