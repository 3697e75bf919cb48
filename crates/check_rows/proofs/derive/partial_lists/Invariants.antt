use Rattle.std.proofs.Common.{◌≡◌, length}
use Rattle.jet_law.specs.Terms.{poly_of}
use Rattle.jacobian_row.specs.Rows.{EachIndexIs}
use Rattle.check_rows.specs.Lists.{IsPartialList}
use Rattle.check_rows.proofs.derive.partial_lists.Given as goal

abbrev pub invariant-loop-variable : goal.invariant-loop-variable
invariant-loop-variable g l =
    let m = g.R.Ring.meaning l.ring in
    record {
      count : length l.all.items ≡ l.variable;
      each : EachIndexIs (IsPartialList m l.g.n (poly_of l.g.n m.value l.g.terms)) l.all.items;
    }
