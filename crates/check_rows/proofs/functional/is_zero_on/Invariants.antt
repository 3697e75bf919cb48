use Rattle.std.proofs.Common.{take}
use Rattle.std.specs.List.{AllByRecursion}
use Rattle.jet_law.specs.Terms.{poly_of}
use Rattle.jacobian_row.specs.Rows.{polynomial_at}
use Rattle.check_rows.specs.Functionals.{IsZeroOn}
use Rattle.check_rows.proofs.functional.is_zero_on.Given as goal

abbrev pub invariant-loop-u : goal.invariant-loop-u
invariant-loop-u g l =
    let m = g.R.Ring.meaning l.ring in
    AllByRecursion (IsZeroOn l.n m.scalars.ops (poly_of l.n m.value l.values) (polynomial_at l.n m.value l.partials)) (take l.u-index l.multiples)
