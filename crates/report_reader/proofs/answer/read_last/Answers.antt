use Rattle.std.proofs.Common.{refl}
use Rattle.cert_text.specs.Text.{answer_text}
use Rattle.cert_text.specs.WellFormed.{IsWellFormedUnresolved}
use Rattle.report_reader.specs.Evidence.{unresolved_rest}
use Rattle.report_reader.specs.Answers.{IsFromKind}
use Rattle.report_reader.proofs.Stops.{halt_map}
use Rattle.report_reader.proofs.AnswerLines.{stop_in_last, last_is, stop_at_last}
use Rattle.report_reader.proofs.answer.read_last.Goals as goal

pub returns-in-None-clause-halt : goal.returns-in-None-clause-halt
returns-in-None-clause-halt c = stop_at_last c.args.bytes.now (c.in-None.ensures.none refl)

pub returns-in-Err-clause-halt : goal.returns-in-Err-clause-halt
returns-in-Err-clause-halt c = halt_map IsWellFormedUnresolved unresolved_rest c.in-Some.behind.now (IsFromKind 4) answer_text c.args.bytes.now
    (λ left s. stop_in_last c.args.bytes.now c.in-Some.behind.now left c.in-Some.ensures.some s) c.in-Err.halt c.in-Err.ensures.halt

pub returns-in-Ok-clause-ok : goal.returns-in-Ok-clause-ok
returns-in-Ok-clause-ok c = let r = c.in-Ok.ensures.ok in last_is c.in-Ok.unresolved c.args.bytes.now c.in-Some.behind.now c.in-Ok.rest.now c.in-Some.ensures.some r.0 r.1
