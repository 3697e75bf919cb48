use Rattle.std.proofs.Common.{refl}
use Rattle.std.proofs.lemmas.Result.{IfOk-weaker}
use Rattle.cert_text.specs.Text.{carried_text}
use Rattle.cert_text.specs.WellFormed.{IsWellFormedCarried}
use Rattle.report_reader.specs.declared.frame.Frame.{Frame}
use Rattle.report_reader.specs.States.{IsFramed, change_rest}
use Rattle.report_reader.proofs.Found.{err_map}
use Rattle.report_reader.proofs.CarriedLines.{FrameRead, stop_at_order, stop_at_algebra, stop_at_corank, stop_at_change, stop_behind_change, carried_read}
use Rattle.report_reader.proofs.carrying.read_carried.Goals as goal

pub returns-in-None-clause-halt : goal.returns-in-None-clause-halt
returns-in-None-clause-halt c = stop_at_order c.args.word c.args.bytes.now (c.in-None.ensures.none refl)

pub returns-in-None-take_algebra-clause-halt : goal.returns-in-None-take_algebra-clause-halt
returns-in-None-take_algebra-clause-halt c =
    let a = c.in-Some.ensures.some in
    stop_at_algebra c.args.word c.in-Some.taken.0 c.args.bytes.now c.in-Some.taken.1.now a.0 a.1 (c.in-None-take_algebra.ensures.none refl)

pub returns-in-None-take_number-clause-halt : goal.returns-in-None-take_number-clause-halt
returns-in-None-take_number-clause-halt c =
    let a = c.in-Some.ensures.some in
    let b = c.in-Some-take_algebra.ensures.some in
    stop_at_corank c.args.word c.in-Some.taken.0 c.in-Some-take_algebra.taken.0 c.args.bytes.now c.in-Some.taken.1.now c.in-Some-take_algebra.taken.1.now a.0 a.1 b.0 b.1 (c.in-None-take_number.ensures.none refl)

pub returns-in-None-take_line-clause-halt : goal.returns-in-None-take_line-clause-halt
returns-in-None-take_line-clause-halt c =
    let a = c.in-Some.ensures.some in
    let b = c.in-Some-take_algebra.ensures.some in
    let d = c.in-Some-take_number.ensures.some in
    let f : Frame = record { order = c.in-Some.taken.0; algebra = c.in-Some-take_algebra.taken.0; corank = c.in-Some-take_number.taken.0 } in
    let read : FrameRead f c.args.bytes.now c.in-Some-take_number.taken.1.now = record { one = c.in-Some.taken.1.now; two = c.in-Some-take_algebra.taken.1.now; order = a.0; algebra = b.0; corank = d.0; order_line = a.1; algebra_line = b.1; corank_line = d.1 } in
    stop_at_change c.args.word f c.args.bytes.now c.in-Some-take_number.taken.1.now read (c.in-None-take_line.ensures.none refl)

pub returns-clause-ok : goal.returns-clause-ok
returns-clause-ok c =
    let a = c.in-Some.ensures.some in
    let b = c.in-Some-take_algebra.ensures.some in
    let d = c.in-Some-take_number.ensures.some in
    let f : Frame = record { order = c.in-Some.taken.0; algebra = c.in-Some-take_algebra.taken.0; corank = c.in-Some-take_number.taken.0 } in
    let read : FrameRead f c.args.bytes.now c.in-Some-take_number.taken.1.now = record { one = c.in-Some.taken.1.now; two = c.in-Some-take_algebra.taken.1.now; order = a.0; algebra = b.0; corank = d.0; order_line = a.1; algebra_line = b.1; corank_line = d.1 } in
    IfOk-weaker c.read_change.result _ _ (λ p h. carried_read c.args.word f p.0 c.args.bytes.now c.in-Some-take_number.taken.1.now c.in-Some-take_line.rest.now p.1.now read c.in-Some-take_line.ensures.some h.0 h.1) c.read_change.ensures.ok

pub returns-clause-halt : goal.returns-clause-halt
returns-clause-halt c =
    let a = c.in-Some.ensures.some in
    let b = c.in-Some-take_algebra.ensures.some in
    let d = c.in-Some-take_number.ensures.some in
    let f : Frame = record { order = c.in-Some.taken.0; algebra = c.in-Some-take_algebra.taken.0; corank = c.in-Some-take_number.taken.0 } in
    let read : FrameRead f c.args.bytes.now c.in-Some-take_number.taken.1.now = record { one = c.in-Some.taken.1.now; two = c.in-Some-take_algebra.taken.1.now; order = a.0; algebra = b.0; corank = d.0; order_line = a.1; algebra_line = b.1; corank_line = d.1 } in
    err_map c.read_change.result (IsFramed f) (change_rest c.args.word) c.in-Some-take_line.rest.now IsWellFormedCarried (carried_text c.args.word) c.args.bytes.now
    (λ left s. stop_behind_change c.args.word f c.args.bytes.now c.in-Some-take_number.taken.1.now c.in-Some-take_line.rest.now left read c.in-Some-take_line.ensures.some s) c.read_change.ensures.halt
