use Rattle.std.proofs.Common.{ℕ, ◌<◌}
use Rattle.poly_law.specs.Polynomials.{StartsAtIn}
use Rattle.jacobian_row.specs.Rows.{polynomial_at}
use Rattle.check_rows.proofs.rows.all_start_at_two.Given as goal

abbrev pub invariant-loop-f : goal.invariant-loop-f
invariant-loop-f g l =
    let m = g.R.Ring.meaning l.ring in
    (j : ℕ) → j < l.f-index → StartsAtIn l.n m.scalars.ops 2 (polynomial_at l.n m.value l.jets j)
