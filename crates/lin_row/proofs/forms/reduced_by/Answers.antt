use Rattle.ring_law.proofs.Exits.{fault_handed_on}
use Rattle.lin_row.specs.Rows.{rows_of}
use Rattle.lin_row.specs.System.{lines_of}
use Rattle.lin_row.proofs.FormSteps
use Rattle.lin_row.proofs.forms.reduced_by.Goals as goal

pub returns-in_err-pivots-clause-cause : goal.returns-in_err-pivots-clause-cause
returns-in_err-pivots-clause-cause g c plain = fault_handed_on _ c.from_residual.ensures.1 (λ high. high) (c.in_err-pivots.ensures.cause plain)

pub cleared_upwards-requires-clause-pivots : goal.cleared_upwards-requires-clause-pivots
cleared_upwards-requires-clause-pivots g c = rw c.deref.ensures.value c.in_ok-pivots.ensures.system.echelon

pub returns-in-Quick-clause-system : goal.returns-in-Quick-clause-system
returns-in-Quick-clause-system g c =
    let m = g.F.Ring.meaning c.args.field.now in
    let below = rw c.deref.ensures.value at c.cleared_upwards.ensures.below in
    let down = rw c.deref.ensures.value at c.cleared_upwards.ensures.down in
    let up = rw c.deref.ensures.value at c.cleared_upwards.ensures.up in
    FormSteps.ok_system m 4294967296 (rows_of c.args.rows.now) (lines_of c.in_ok-pivots.pivots.items) c.cleared_upwards.result c.in_ok-pivots.ensures.system c.cleared_upwards.ensures.echelon below down up

pub returns-in-Quick-clause-cause : goal.returns-in-Quick-clause-cause
returns-in-Quick-clause-cause g c plain = absurd (let h = c.in-Quick.is in cc (h, plain))

pub returns-in-Plain-clause-reduced : goal.returns-in-Plain-clause-reduced
returns-in-Plain-clause-reduced g c = (c.in_ok-pivots.ensures.end c.in-Plain.is).reduced
