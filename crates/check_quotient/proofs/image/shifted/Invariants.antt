use Rattle.std.proofs.Common.{◌≡◌, ◌≤◌, take, length}
use Rattle.poly_law.specs.ExpList.{exps}
use Rattle.poly_law.specs.Poly.{times_term}
use Rattle.poly_law.specs.Polynomials.{cut_in}
use Rattle.jet_law.specs.Terms.{exp_of, poly_of}
use Rattle.check_rows.specs.Lists.{AreTermsIn}
use Rattle.check_quotient.proofs.image.shifted.Given as goal

abbrev pub invariant-loop-t : goal.invariant-loop-t
invariant-loop-t g l =
    let m = g.R.Ring.meaning l.ring in
    record {
      within : l.t-index ≤ length l.terms;
      valid : AreTermsIn m l.n l.all.items;
      so_far : poly_of l.n m.value l.all.items ≡ cut_in l.n m.scalars.ops l.k (times_term (exps l.n) m.scalars.ops (exp_of l.n l.a, m.scalars.ops.one) (poly_of l.n m.value (take l.t-index l.terms)));
    }
