use Rattle.ring_law.proofs.Exits.{fault_handed_on}
use Rattle.lin_row.specs.Rows.{rows_of}
use Rattle.lin_row.specs.System.{lines_of}
use Rattle.lin_row.proofs.FormLaws
use Rattle.lin_row.proofs.FormSteps
use Rattle.lin_row.proofs.forms.reduce_by.Goals as goal

pub returns-in_err-pivots-clause-cause : goal.returns-in_err-pivots-clause-cause
returns-in_err-pivots-clause-cause g c plain = fault_handed_on _ c.from_residual.ensures.1 (λ high. high) (c.in_err-pivots.ensures.cause plain)

pub returns-clause-form : goal.returns-clause-form
returns-clause-form g c =
    let m = g.F.Ring.meaning c.args.field.now in
    let laws = (g.met.F.Ring.laws c.args.field.now c.requires.ring).numbers.ring in
    rw (c.in_ok-form.ensures.rows, c.deref.ensures.value)
    (FormLaws.reduced_form m laws 4294967296 (rows_of c.args.rows.now) (lines_of c.in_ok-pivots.pivots.items) c.in_ok-pivots.ensures.system c.in_ok-pivots.ensures.reduced (FormSteps.rows_lines m c.args.rows.now c.requires.rows) c.in_ok-pivots.ensures.system.low)
