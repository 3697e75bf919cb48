use Rattle.cert_text.specs.declared.word.Word.TheVariants as words
use Rattle.cert_text.specs.Text.{carried_text}
use Rattle.cert_text.specs.WellFormed.{IsWellFormedCarried, IsWellFormedLimit}
use Rattle.report_reader.specs.Functional.{functional_lines}
use Rattle.report_reader.specs.Answers.{limit_rest}
use Rattle.report_reader.proofs.Stops.{halt_map}
use Rattle.report_reader.proofs.LimitLines.{FunctionalOf, stop_in_jet, stop_in_functional, limit_read}
use Rattle.report_reader.proofs.limit.read_limit.Goals as goal

pub returns-in-Err-clause-halt : goal.returns-in-Err-clause-halt
returns-in-Err-clause-halt c = halt_map IsWellFormedCarried (carried_text words.Jet) c.args.bytes.now IsWellFormedLimit limit_rest c.args.bytes.now
    (λ left s. stop_in_jet c.args.bytes.now left s) c.in-Err.halt c.in-Err.ensures.halt

pub returns-in-Err-read_functional-clause-halt : goal.returns-in-Err-read_functional-clause-halt
returns-in-Err-read_functional-clause-halt c =
    let a = c.in-Ok.ensures.ok in
    halt_map (FunctionalOf c.in-Ok.read.0) functional_lines c.in-Ok.read.1.now IsWellFormedLimit limit_rest c.args.bytes.now
    (λ left s. stop_in_functional c.in-Ok.read.0 c.args.bytes.now c.in-Ok.read.1.now left a.0 a.1 s) c.in-Err-read_functional.halt c.in-Err-read_functional.ensures.halt

pub returns-in-Ok-read_functional-clause-ok : goal.returns-in-Ok-read_functional-clause-ok
returns-in-Ok-read_functional-clause-ok c =
    let a = c.in-Ok.ensures.ok in
    let f = c.in-Ok-read_functional.ensures.ok in
    limit_read c.in-Ok.read.0 c.in-Ok-read_functional.functional c.args.bytes.now c.in-Ok.read.1.now c.in-Ok-read_functional.rest.now a.0 a.1 f.0 f.1
