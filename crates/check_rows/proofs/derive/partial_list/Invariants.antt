use Rattle.std.proofs.Common.{◌≡◌, take}
use Rattle.poly_law.specs.Polynomials.{derivative_in}
use Rattle.jet_law.specs.Terms.{poly_of}
use Rattle.check_rows.specs.Lists.{AreTermsIn}
use Rattle.check_rows.proofs.derive.partial_list.Given as goal

abbrev pub invariant-loop-t : goal.invariant-loop-t
invariant-loop-t g l =
    let m = g.R.Ring.meaning l.ring in
    record {
      valid : AreTermsIn m l.n l.list.items;
      so_far : poly_of l.n m.value l.list.items ≡ derivative_in l.n m.scalars.ops l.i (poly_of l.n m.value (take l.t-index l.terms));
    }
