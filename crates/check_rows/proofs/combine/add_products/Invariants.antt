use Rattle.std.proofs.Common.{◌≡◌, ◌≤◌, ◌++◌, take, length}
use Rattle.poly_law.specs.Polynomials.{cut_in, times_in}
use Rattle.jet_law.specs.Terms.{poly_of}
use Rattle.check_rows.specs.Lists.{AreTermsIn}
use Rattle.check_rows.proofs.combine.add_products.Given as goal

abbrev pub invariant-loop-u : goal.invariant-loop-u
invariant-loop-u g l =
    let m = g.R.Ring.meaning l.ring in
    record {
      within : l.u-index ≤ length l.f;
      valid : AreTermsIn m l.n l.all.items;
      so_far : poly_of l.n m.value l.all.items ≡ poly_of l.n m.value l.initial.all.items
          ++ cut_in l.n m.scalars.ops l.k (times_in l.n m.scalars.ops (poly_of l.n m.value (take l.u-index l.f)) (poly_of l.n m.value l.h));
    }
