use Rattle.std.proofs.Common.{◌≡◌, refl, length, rules}
use Rattle.jet_quotient.proofs.table.row_of.Goals as goal

pub returns-clause-row : goal.returns-clause-row
returns-clause-row g c =
    let long : length c.args.monomial.e ≡ 8 = search rules in
    record {
      monomial = refl;
      long = long;
      values = rw c.as_slice.ensures at c.in_ok-values.ensures.values;
      elems = c.in_ok-values.ensures.elems;
      multipliers = rw c.as_slice-2.ensures at c.in_ok-multipliers.ensures.multipliers;
    }
