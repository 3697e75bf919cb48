use Rattle.cert_text.specs.declared.word.Word.TheVariants as words
use Rattle.cert_text.specs.Text.{carried_text, mather_text}
use Rattle.cert_text.specs.WellFormed.{IsWellFormedCarried, IsWellFormedUnresolved}
use Rattle.report_reader.specs.Rows.{counted_text}
use Rattle.report_reader.specs.Evidence.{unresolved_rest}
use Rattle.report_reader.proofs.Stops.{halt_map}
use Rattle.report_reader.proofs.NamedLines.{MatherOf, stop_in_jet, stop_in_unresolved, unresolved_read}
use Rattle.report_reader.proofs.named.read_unresolved.Goals as goal

pub returns-in-Err-clause-halt : goal.returns-in-Err-clause-halt
returns-in-Err-clause-halt c = halt_map IsWellFormedCarried (carried_text words.Jet) c.args.bytes.now IsWellFormedUnresolved unresolved_rest c.args.bytes.now
    (λ left s. stop_in_jet c.args.bytes.now left s) c.in-Err.halt c.in-Err.ensures.halt

pub returns-in-Err-read_mather-clause-halt : goal.returns-in-Err-read_mather-clause-halt
returns-in-Err-read_mather-clause-halt c =
    let a = c.in-Ok.ensures.ok in
    halt_map (MatherOf c.in-Ok.read.0) (counted_text words.Mather mather_text) c.in-Ok.read.1.now IsWellFormedUnresolved unresolved_rest c.args.bytes.now
    (λ left s. stop_in_unresolved c.in-Ok.read.0 c.args.bytes.now c.in-Ok.read.1.now left a.0 a.1 s) c.in-Err-read_mather.halt c.in-Err-read_mather.ensures.halt

pub returns-in-Ok-read_mather-clause-ok : goal.returns-in-Ok-read_mather-clause-ok
returns-in-Ok-read_mather-clause-ok c =
    let a = c.in-Ok.ensures.ok in
    let m = c.in-Ok-read_mather.ensures.ok in
    unresolved_read c.in-Ok.read.0 c.in-Ok-read_mather.mather c.args.bytes.now c.in-Ok.read.1.now c.in-Ok-read_mather.rest.now a.0 a.1 m.0 m.1
