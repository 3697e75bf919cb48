use Rattle.std.proofs.Common.{take}
use Rattle.jacobian_row.specs.Numbers.{count_to}
use Rattle.jacobian_row.specs.Rows.{AreMonomialRows}
use Rattle.jacobian_row.proofs.row.monomial_rows.Given as goal

abbrev pub invariant-loop-a : goal.invariant-loop-a
invariant-loop-a g l = AreMonomialRows (g.R.Ring.meaning l.ring) l.n (count_to l.n l.k) (take l.a-index l.monomials) l.rows.items
