use Rattle.std.proofs.Common.{◌≡◌, length}
use Rattle.jet_law.specs.Terms.{poly_of}
use Rattle.jacobian_row.specs.Rows.{EachIndexIs, IsPartial}
use Rattle.jacobian_row.proofs.partial.partials.Given as goal

abbrev pub invariant-loop-variable : goal.invariant-loop-variable
invariant-loop-variable g l =
    let m = g.R.Ring.meaning l.ring in
    record {
      count : length l.all.items ≡ l.variable;
      each : EachIndexIs (IsPartial m l.g.n (poly_of l.g.n m.value l.g.terms)) l.all.items;
    }
