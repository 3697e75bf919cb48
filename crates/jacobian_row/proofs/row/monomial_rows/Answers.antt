use Rattle.std.proofs.Common.{[], subst, take_all, arith}
use Rattle.jacobian_row.specs.Numbers.{count_to}
use Rattle.jacobian_row.specs.Rows.{AreMonomialRows}
use Rattle.jacobian_row.proofs.RowLemmas.{monomials_more}
use Rattle.jacobian_row.proofs.row.monomial_rows.Goals as goal

pub loop-a-preserved : goal.loop-a-preserved
loop-a-preserved g c =
    let m = g.R.Ring.meaning c.args.ring.now in
    rw c.in_ok-push.ensures.items
    (monomials_more m c.args.n (count_to c.args.n c.args.k) c.args.monomials.now c.loop-a.a-index (record { e = [] }) c.loop-a.rows.items c.in_ok-row.row c.loop-a-test.true c.loop-a.invariant c.in_ok-row.ensures.row)

pub returns-clause-rows : goal.returns-clause-rows
returns-clause-rows g c =
    subst (λ ms. AreMonomialRows (g.R.Ring.meaning c.args.ring.now) c.args.n (count_to c.args.n c.args.k) ms c.loop-a.rows.items) (take_all c.loop-a.a-index c.args.monomials.now (omega arith)) c.loop-a.invariant
