use Rattle.lin_row.proofs.FormSteps
use Rattle.lin_row.proofs.forms.given_entries.Goals as goal

pub returns-then-t-ge-UNITS-clause-items : goal.returns-then-t-ge-UNITS-clause-items
returns-then-t-ge-UNITS-clause-items g c =
    FormSteps.given_stop 4294967296 c.loop-t.all.items c.args.line.now c.loop-t.t-index c.t-item.result c.loop-t-test.true c.t-item.is c.if-t-ge-UNITS.true c.loop-t.invariant

pub loop-t-preserved : goal.loop-t-preserved
loop-t-preserved g c =
    rw c.in_ok-push.ensures.items (FormSteps.given_step 4294967296 c.loop-t.all.items c.args.line.now c.loop-t.t-index c.t-item.result c.loop-t-test.true c.t-item.is c.if-t-ge-UNITS.false c.loop-t.invariant)

pub returns-clause-items : goal.returns-clause-items
returns-clause-items g c = FormSteps.given_end 4294967296 c.loop-t.all.items c.args.line.now c.loop-t.t-index c.loop-t-test.false c.loop-t.invariant
