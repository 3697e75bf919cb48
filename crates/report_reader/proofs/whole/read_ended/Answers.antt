use Rattle.std.proofs.Common.{refl}
use Rattle.cert_text.specs.Text.{answer_text}
use Rattle.cert_text.specs.WellFormed.{IsWellFormedAnswer}
use Rattle.report_reader.specs.Wholes.{ended_text}
use Rattle.report_reader.proofs.Stops.{halt_map}
use Rattle.report_reader.proofs.WholeReports.{answer_stop, end_stop}
use Rattle.report_reader.proofs.whole.read_ended.Goals as goal

pub returns-in-Err-clause-halt : goal.returns-in-Err-clause-halt
returns-in-Err-clause-halt c =
    halt_map IsWellFormedAnswer answer_text c.args.bytes.now IsWellFormedAnswer ended_text c.args.bytes.now (λ left s. answer_stop c.args.bytes.now left s) c.in-Err.halt c.in-Err.ensures.halt

pub returns-in-None-clause-halt : goal.returns-in-None-clause-halt
returns-in-None-clause-halt c =
    let a = c.in-Ok.ensures.ok in
    end_stop c.in-Ok.read.0 c.args.bytes.now c.in-Ok.read.1.now a.0 a.1 (c.in-None.ensures.none refl)
