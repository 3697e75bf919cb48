use Rattle.std.proofs.Common.{ℕ, refl, arith}
use Rattle.cert_text.specs.Text.{report_text}
use Rattle.cert_text.specs.WellFormed.{IsWellFormed, IsWellFormedAnswer}
use Rattle.text_reader.specs.Reading.{IsAny}
use Rattle.report_reader.specs.Wholes.{ended_text, too_long_rest}
use Rattle.report_reader.proofs.Stops.{halt_map}
use Rattle.report_reader.proofs.WholeReports.{line_found, line_stop, long_read, long_stop, report_stop}
use Rattle.report_reader.proofs.whole.read_front.Goals as goal

pub returns-in-Err-clause-halt : goal.returns-in-Err-clause-halt
returns-in-Err-clause-halt c =
    let read = c.in-Some.ensures.some in
    let le = read.0.1 in
    halt_map {A = ℕ} IsAny (λ n. too_long_rest) c.in-Some.one.now IsWellFormed report_text c.args.bytes.now
    (λ left s. long_stop c.in-Some.length c.args.bytes.now c.in-Some.one.now (omega (arith, le)) read.1 left s) c.in-Err.halt c.in-Err.ensures.halt

pub returns-in-Ok-clause-ok : goal.returns-in-Ok-clause-ok
returns-in-Ok-clause-ok c =
    let read = c.in-Some.ensures.some in
    let le = read.0.1 in
    (omega (arith, le), long_read c.in-Some.length c.args.bytes.now c.in-Some.one.now c.in-Ok.rest.now read.1 c.in-Ok.ensures.ok)

pub returns-in-None-take_germ-clause-halt : goal.returns-in-None-take_germ-clause-halt
returns-in-None-take_germ-clause-halt c = report_stop c.args.bytes.now (c.in-None.ensures.none refl) (c.in-None-take_germ.ensures.none refl)

pub returns-in-Err-read_ended-clause-halt : goal.returns-in-Err-read_ended-clause-halt
returns-in-Err-read_ended-clause-halt c =
    let germ = c.in-Some-take_germ.ensures.some in
    halt_map IsWellFormedAnswer ended_text c.in-Some-take_germ.one.now IsWellFormed report_text c.args.bytes.now
    (λ left s. line_stop c.in-Some-take_germ.text.now c.args.bytes.now c.in-Some-take_germ.one.now germ.0 germ.1 left s) c.in-Err-read_ended.halt c.in-Err-read_ended.ensures.halt

pub returns-in-Ok-from_slice-clause-ok : goal.returns-in-Ok-from_slice-clause-ok
returns-in-Ok-from_slice-clause-ok c =
    let germ = c.in-Some-take_germ.ensures.some in
    let answer = c.in-Ok-read_ended.ensures.ok in
    line_found c.in-Ok-from_slice.line c.in-Some-take_germ.text.now c.in-Ok-read_ended.answer c.args.bytes.now c.in-Some-take_germ.one.now c.in-Ok-read_ended.rest.now c.in-Ok-from_slice.ensures germ.0 answer.0 germ.1 answer.1
