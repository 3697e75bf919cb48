use Rattle.std.proofs.Common.{refl}
use Rattle.std.proofs.lemmas.Result.{IfOk-weaker}
use Rattle.cert_text.specs.Text.{answer_text}
use Rattle.cert_text.specs.WellFormed.{IsWellFormedLimit}
use Rattle.report_reader.specs.Answers.{IsFromKind, limit_rest}
use Rattle.report_reader.proofs.Found.{err_map}
use Rattle.report_reader.proofs.Stops.{halt_map}
use Rattle.report_reader.proofs.AnswerLines.{stop_in_limit, limit_is, stop_later, limit_apart, later_is}
use Rattle.report_reader.proofs.answer.read_undecided.Goals as goal

pub returns-in-None-clause-ok : goal.returns-in-None-clause-ok
returns-in-None-clause-ok c = IfOk-weaker c.read_last.result _ _ (λ p h. (later_is 3 p.0 h.0, h.1)) c.read_last.ensures.ok

pub returns-in-None-clause-halt : goal.returns-in-None-clause-halt
returns-in-None-clause-halt c = err_map c.read_last.result (IsFromKind 4) answer_text c.args.bytes.now (IsFromKind 3) answer_text c.args.bytes.now
    (λ left s. stop_later 3 c.args.bytes.now left (limit_apart c.args.bytes.now (c.in-None.ensures.none refl)) s) c.read_last.ensures.halt

pub returns-in-Err-clause-halt : goal.returns-in-Err-clause-halt
returns-in-Err-clause-halt c = halt_map IsWellFormedLimit limit_rest c.in-Some.behind.now (IsFromKind 3) answer_text c.args.bytes.now
    (λ left s. stop_in_limit c.args.bytes.now c.in-Some.behind.now left c.in-Some.ensures.some s) c.in-Err.halt c.in-Err.ensures.halt

pub returns-in-Ok-clause-ok : goal.returns-in-Ok-clause-ok
returns-in-Ok-clause-ok c = let r = c.in-Ok.ensures.ok in limit_is c.in-Ok.limit c.args.bytes.now c.in-Some.behind.now c.in-Ok.rest.now c.in-Some.ensures.some r.0 r.1
