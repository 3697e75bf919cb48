use Rattle.ring_law.proofs.Exits.{fault_handed_on}
use Rattle.lin_row.specs.Rows.{rows_of}
use Rattle.lin_row.specs.System.{lines_of}
use Rattle.lin_row.specs.Plain.{with_units}
use Rattle.lin_row.specs.Stages.{items_of}
use Rattle.lin_row.proofs.PlainLaws
use Rattle.lin_row.proofs.plain.reduce_plainly.Goals as goal

pub loop-at-init : goal.loop-at-init
loop-at-init g c =
    let m = g.F.Ring.meaning c.args.field.now in
    let laws = (g.met.F.Ring.laws c.args.field.now c.requires.ring).numbers.ring in
    rw c.new-done.ensures.items (PlainLaws.first_stage m laws (rows_of c.args.rows.now) (items_of c.in_ok-rest.rest.items) c.in_ok-rest.ensures.start)

pub step-requires-clause-done : goal.step-requires-clause-done
step-requires-clause-done g c =
    let m = g.F.Ring.meaning c.args.field.now in
    let laws = (g.met.F.Ring.laws c.args.field.now c.requires.ring).numbers.ring in
    rw c.deref-in-Some.ensures.value (PlainLaws.pivot_lines m laws (lines_of c.loop-at.done.items) c.loop-at.invariant.echelon.pivots)

pub step-requires-clause-rest : goal.step-requires-clause-rest
step-requires-clause-rest g c = c.loop-at.invariant.lines

pub step-requires-clause-least : goal.step-requires-clause-least
step-requires-clause-least g c = rw c.deref.ensures.value at c.in-Some.ensures

pub returns-in_err-next-clause-cause : goal.returns-in_err-next-clause-cause
returns-in_err-next-clause-cause g c =
    let m = g.F.Ring.meaning c.args.field.now in
    let laws = (g.met.F.Ring.laws c.args.field.now c.requires.ring).numbers.ring in
    let least = rw c.deref.ensures.value at c.in-Some.ensures in
    fault_handed_on _ c.from_residual-in_err-next.ensures.1
    (λ refused. PlainLaws.reduction_high m laws (with_units m 4294967296 0 (rows_of c.args.rows.now)) (rows_of c.args.rows.now) (lines_of c.loop-at.done.items) (items_of c.loop-at.rest.items) c.in-Some.at c.loop-at.invariant least (rw c.deref-in-Some.ensures.value at refused))
    c.in_err-next.ensures.cause

pub loop-at-preserved : goal.loop-at-preserved
loop-at-preserved g c =
    let m = g.F.Ring.meaning c.args.field.now in
    let laws = (g.met.F.Ring.laws c.args.field.now c.requires.ring).numbers.ring in
    let least = rw c.deref.ensures.value at c.in-Some.ensures in
    PlainLaws.next_stage m laws (with_units m 4294967296 0 (rows_of c.args.rows.now)) (rows_of c.args.rows.now) (lines_of c.loop-at.done.items) (items_of c.loop-at.rest.items) c.in-Some.at c.loop-at.invariant least _ _ (rw c.deref-in-Some.ensures.value at c.in_ok-next.ensures.step)

pub loop-at-smaller : goal.loop-at-smaller
loop-at-smaller g c =
    let m = g.F.Ring.meaning c.args.field.now in
    let laws = (g.met.F.Ring.laws c.args.field.now c.requires.ring).numbers.ring in
    let least = rw c.deref.ensures.value at c.in-Some.ensures in
    PlainLaws.next_smaller m laws (with_units m 4294967296 0 (rows_of c.args.rows.now)) (rows_of c.args.rows.now) (lines_of c.loop-at.done.items) (items_of c.loop-at.rest.items) c.in-Some.at c.loop-at.invariant least _ _ (rw c.deref-in-Some.ensures.value at c.in_ok-next.ensures.step)

pub returns-clause-system : goal.returns-clause-system
returns-clause-system g c =
    let m = g.F.Ring.meaning c.args.field.now in
    let laws = (g.met.F.Ring.laws c.args.field.now c.requires.ring).numbers.ring in
    let late = rw c.deref.ensures.value at c.in_default.ensures in
    PlainLaws.end_system m laws (with_units m 4294967296 0 (rows_of c.args.rows.now)) (rows_of c.args.rows.now) (lines_of c.loop-at.done.items) (items_of c.loop-at.rest.items) c.loop-at.invariant late

pub returns-clause-end : goal.returns-clause-end
returns-clause-end g c =
    let m = g.F.Ring.meaning c.args.field.now in
    let laws = (g.met.F.Ring.laws c.args.field.now c.requires.ring).numbers.ring in
    let late = rw c.deref.ensures.value at c.in_default.ensures in
    PlainLaws.end_stage m laws (with_units m 4294967296 0 (rows_of c.args.rows.now)) (rows_of c.args.rows.now) (lines_of c.loop-at.done.items) (items_of c.loop-at.rest.items) c.loop-at.invariant late
