use Rattle.std.proofs.Common.{◌≡◌}
use Rattle.jet_law.specs.Terms.{exp_of, poly_of}
use Rattle.check_rows.specs.Lists.{AreTermsIn}
use Rattle.milnor_alg.specs.Rows.{basis_at}
use Rattle.table_rows.specs.Tables.{difference, values_in}
use Rattle.table_rows.proofs.difference.difference_terms.Given as goal

abbrev pub invariant-loop-j : goal.invariant-loop-j
invariant-loop-j g l =
    let m = g.R.Ring.meaning l.ring in
    record {
      valid : AreTermsIn m l.n l.terms.items;
      so_far : poly_of l.n m.value l.terms.items ≡ difference l.n m.scalars.ops (exp_of l.n l.row.monomial) l.j (basis_at l.n l.basis) (values_in m l.row);
    }
