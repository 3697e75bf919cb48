use Rattle.std.proofs.Common.{arith}
use Rattle.ring_law.proofs.Exits.{fault_handed_on}
use Rattle.lin_row.specs.Rows.{rows_of}
use Rattle.lin_row.specs.System.{lines_of}
use Rattle.lin_row.proofs.KernelLaws
use Rattle.lin_row.proofs.forms.kernel_by.Goals as goal

pub returns-in_err-pivots-clause-cause : goal.returns-in_err-pivots-clause-cause
returns-in_err-pivots-clause-cause g c plain = fault_handed_on _ c.from_residual.ensures.1 (λ high. high) (c.in_err-pivots.ensures.cause plain)

pub vectors-requires-clause-pivots : goal.vectors-requires-clause-pivots
vectors-requires-clause-pivots g c = rw c.deref.ensures.value c.in_ok-pivots.ensures.system.echelon

pub vectors-requires-clause-reduced : goal.vectors-requires-clause-reduced
vectors-requires-clause-reduced g c = rw c.deref.ensures.value c.in_ok-pivots.ensures.reduced

pub returns-clause-basis : goal.returns-clause-basis
returns-clause-basis g c =
    let m = g.F.Ring.meaning c.args.field.now in
    let laws = (g.met.F.Ring.laws c.args.field.now c.requires.ring).numbers.ring in
    let parts = rw c.deref.ensures.value at c.in_ok-all.ensures.parts in
    rw (c.in_ok-basis.ensures.rows, c.deref-2.ensures.value)
    (KernelLaws.kernel_basis m laws (rows_of c.args.rows.now) (lines_of c.in_ok-pivots.pivots.items) (lines_of c.in_ok-all.all.items) 4294967296 c.args.columns (omega arith) c.in_ok-pivots.ensures.system c.in_ok-pivots.ensures.reduced c.requires.columns parts)
