use Rattle.std.proofs.Common.{subst, arith, take_all}
use Rattle.lin_row.specs.System.{IsAbsent, lines_of}
use Rattle.lin_row.proofs.FormSteps
use Rattle.lin_row.proofs.forms.is_pivot.Goals as goal

pub returns-then-p-column-clause-pivot : goal.returns-then-p-column-clause-pivot
returns-then-p-column-clause-pivot g c = FormSteps.pivot_among c.args.pivots.now c.loop-p.p-index c.args.column c.p-item.result c.loop-p-test.true c.p-item.is c.if-p-column.true

pub loop-p-preserved : goal.loop-p-preserved
loop-p-preserved g c = FormSteps.absent_more c.args.pivots.now c.loop-p.p-index c.args.column c.p-item.result c.loop-p-test.true c.p-item.is c.if-p-column.false c.loop-p.invariant

pub returns-clause-free : goal.returns-clause-free
returns-clause-free g c = subst (λ ps. IsAbsent c.args.column (lines_of ps)) (take_all c.loop-p.p-index c.args.pivots.now (omega arith)) c.loop-p.invariant
