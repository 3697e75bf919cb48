use Rattle.std.proofs.Common.{refl}
use Rattle.std.proofs.lemmas.Result.{IfOk-weaker}
use Rattle.cert_text.specs.Text.{answer_text}
use Rattle.report_reader.specs.Evidence.{IsOfFamily, named_rest}
use Rattle.report_reader.specs.Answers.{IsFromKind}
use Rattle.report_reader.proofs.Found.{err_map}
use Rattle.report_reader.proofs.Stops.{halt_map}
use Rattle.report_reader.proofs.AnswerLines.{stop_in_named, named_is, stop_later, named_apart, later_is}
use Rattle.report_reader.proofs.answer.read_with_jet.Goals as goal

pub returns-in-None-clause-ok : goal.returns-in-None-clause-ok
returns-in-None-clause-ok c = IfOk-weaker c.read_unnamed.result _ _ (λ p h. (later_is 1 p.0 h.0, h.1)) c.read_unnamed.ensures.ok

pub returns-in-None-clause-halt : goal.returns-in-None-clause-halt
returns-in-None-clause-halt c = err_map c.read_unnamed.result (IsFromKind 2) answer_text c.args.bytes.now (IsFromKind 1) answer_text c.args.bytes.now
    (λ left s. stop_later 1 c.args.bytes.now left (named_apart c.args.bytes.now (c.in-None.ensures.none refl)) s) c.read_unnamed.ensures.halt

pub returns-in-Err-clause-halt : goal.returns-in-Err-clause-halt
returns-in-Err-clause-halt c = halt_map (IsOfFamily c.in-Some.family) named_rest c.in-Some.behind.now (IsFromKind 1) answer_text c.args.bytes.now
    (λ left s. stop_in_named c.in-Some.family c.args.bytes.now c.in-Some.behind.now left c.in-Some.ensures.some.0 c.in-Some.ensures.some.1 s) c.in-Err.halt c.in-Err.ensures.halt

pub returns-in-Ok-clause-ok : goal.returns-in-Ok-clause-ok
returns-in-Ok-clause-ok c = let r = c.in-Ok.ensures.ok in named_is c.in-Some.family c.in-Ok.named c.args.bytes.now c.in-Some.behind.now c.in-Ok.rest.now c.in-Some.ensures.some.1 r.0 r.1
