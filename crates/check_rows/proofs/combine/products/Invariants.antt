use Rattle.std.proofs.Common.{◌≡◌}
use Rattle.poly_law.specs.Sums.{sum_to}
use Rattle.poly_law.specs.Polynomials.{cut_in, times_in, poly_in}
use Rattle.jet_law.specs.Terms.{poly_of}
use Rattle.jacobian_row.specs.Rows.{polynomial_at}
use Rattle.check_rows.specs.Lists.{AreTermsIn, list_at}
use Rattle.check_rows.proofs.combine.products.Given as goal

abbrev pub invariant-loop-i : goal.invariant-loop-i
invariant-loop-i g l =
    let m = g.R.Ring.meaning l.ring in
    record {
      valid : AreTermsIn m l.n l.all.items;
      so_far : poly_of l.n m.value l.all.items
          ≡ cut_in l.n m.scalars.ops l.k (sum_to (poly_in l.n m.scalars.ops) l.i (λ i. times_in l.n m.scalars.ops (polynomial_at l.n m.value l.multipliers i) (list_at l.n m.value l.partials i)));
    }
