use Rattle.std.proofs.Common.{◌*◌}
use Rattle.cert_text.specs.Text.{rows_text}
use Rattle.report_reader.specs.States.{IsFramed, AreParts, change_text, change_rest}
use Rattle.report_reader.proofs.Found.{some_is}
use Rattle.report_reader.proofs.Stops.{halt_map}
use Rattle.report_reader.proofs.CarriedLines.{made, stop_in_parts, stop_in_matrix, stop_at_jet, change_done}
use Rattle.report_reader.proofs.change.read_change.Goals as goal
use Rattle.row_reader.specs.Values.{AreElements}

pub returns-in-Err-clause-halt : goal.returns-in-Err-clause-halt
returns-in-Err-clause-halt c = halt_map (AreParts c.args.frame) change_text c.args.bytes.now (IsFramed c.args.frame) (change_rest c.args.word) c.args.bytes.now
    (λ left s. stop_in_parts c.args.frame c.args.word c.args.bytes.now left c.requires.frame s) c.in-Err.halt c.in-Err.ensures.halt

pub returns-in-Err-read_matrix-clause-halt : goal.returns-in-Err-read_matrix-clause-halt
returns-in-Err-read_matrix-clause-halt c =
    let p = c.in-Ok.ensures.ok in
    halt_map (AreElements c.args.frame.algebra (c.len-n.result * c.len-n.result)) (rows_text c.len-n.result c.len-n.result) c.in-Ok.read.1.now (IsFramed c.args.frame) (change_rest c.args.word) c.args.bytes.now
    (λ left s. stop_in_matrix c.args.frame c.in-Ok.read.0 c.len-n.result c.args.word c.args.bytes.now c.in-Ok.read.1.now left c.requires.frame c.len-n.ensures p.0 p.1 s) c.in-Err-read_matrix.halt c.in-Err-read_matrix.ensures.halt

pub returns-in-Ok-None-clause-halt : goal.returns-in-Ok-None-clause-halt
returns-in-Ok-None-clause-halt c =
    let p = c.in-Ok.ensures.ok in
    let m = c.in-Ok-read_matrix.ensures.ok in
    stop_at_jet c.args.frame c.in-Ok.read.0 c.len-n.result c.in-Ok-read_matrix.read.0 c.args.word c.args.bytes.now c.in-Ok.read.1.now c.in-Ok-read_matrix.read.1.now c.requires.frame c.len-n.ensures p.0 p.1 m.0 m.1 (c.in-Ok-None.ensures.none c.in-Ok-None.field-0-is)

pub returns-clause-ok : goal.returns-clause-ok
unfolding made
returns-clause-ok c =
    let p = c.in-Ok.ensures.ok in
    let m = c.in-Ok-read_matrix.ensures.ok in
    let j = some_is c.in-Ok-Some.field-0 (c.in-Ok-Some.jet, c.in-Ok-Some.rest) _ c.in-Ok-Some.field-0-is c.in-Ok-Some.ensures.some in
    change_done c.args.frame c.in-Ok.read.0 c.len-n.result c.in-Ok-read_matrix.read.0 c.in-Ok-Some.jet c.carried.result c.args.word c.args.bytes.now c.in-Ok.read.1.now c.in-Ok-read_matrix.read.1.now c.in-Ok-Some.rest.now
    c.requires.frame c.len-n.ensures c.carried.ensures p.0 p.1 m.0 m.1 j.0 j.1
