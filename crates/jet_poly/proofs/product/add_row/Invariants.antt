use Rattle.std.proofs.Common.{◌≤◌, ◌++◌, take, length}
use Rattle.poly_law.specs.ExpList.{exps}
use Rattle.poly_law.specs.Poly.{times_term}
use Rattle.poly_law.specs.Polynomials.{SameIn, cut_in}
use Rattle.jet_law.specs.Terms.{exp_of, poly_of}
use Rattle.jet_poly.specs.Gathered.{gathered, IsGathered}
use Rattle.jet_poly.proofs.product.add_row.Given as goal

abbrev pub invariant-loop-t : goal.invariant-loop-t
invariant-loop-t g l = record {
  within : l.t-index ≤ length l.g;
  valid : IsGathered l.n l.k (g.R.Ring.meaning l.ring) l.sums.entries;
  so_far : SameIn l.n (g.R.Ring.meaning l.ring).scalars.ops (gathered l.n (g.R.Ring.meaning l.ring).value l.sums.entries)
      (gathered l.n (g.R.Ring.meaning l.ring).value l.initial.sums.entries ++ cut_in l.n (g.R.Ring.meaning l.ring).scalars.ops l.k
      (times_term (exps l.n) (g.R.Ring.meaning l.ring).scalars.ops (exp_of l.n l.u.0, (g.R.Ring.meaning l.ring).value l.u.1) (poly_of l.n (g.R.Ring.meaning l.ring).value (take l.t-index l.g))));
}
