use Rattle.coord_change.proofs.RowSteps
use Rattle.lin_row.specs.Lines.{entry}
use Rattle.std.proofs.Common.{arith}
use Rattle.coord_change.proofs.rows.vector_of.Goals as goal

pub returns-clause-values : goal.returns-clause-values
returns-clause-values g c d h =
    let m = g.R.Ring.meaning c.args.ring.now in
    let last = c.loop-d-test.false in
    let end = c.loop-d.auto.d-end in
    let size = c.from-d-end.ensures in
    let count = c.loop-d.invariant.count in
    RowSteps.values-at m c.loop-d.all.items c.args.n (entry m c.args.row.now.entries) (omega arith) (λ k e y. c.loop-d.invariant.values k e (omega arith)) d h
