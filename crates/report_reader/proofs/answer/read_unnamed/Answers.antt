use Rattle.std.proofs.Common.{refl}
use Rattle.std.proofs.lemmas.Result.{IfOk-weaker}
use Rattle.cert_text.specs.declared.word.Word.TheVariants as words
use Rattle.cert_text.specs.Text.{answer_text, carried_text}
use Rattle.cert_text.specs.WellFormed.{IsWellFormedCarried}
use Rattle.report_reader.specs.Answers.{IsFromKind}
use Rattle.report_reader.proofs.Found.{err_map}
use Rattle.report_reader.proofs.Stops.{halt_map}
use Rattle.report_reader.proofs.AnswerLines.{stop_in_outside, outside_is, stop_later, outside_apart, later_is}
use Rattle.report_reader.proofs.answer.read_unnamed.Goals as goal

pub returns-in-None-clause-ok : goal.returns-in-None-clause-ok
returns-in-None-clause-ok c = IfOk-weaker c.read_undecided.result _ _ (λ p h. (later_is 2 p.0 h.0, h.1)) c.read_undecided.ensures.ok

pub returns-in-None-clause-halt : goal.returns-in-None-clause-halt
returns-in-None-clause-halt c = err_map c.read_undecided.result (IsFromKind 3) answer_text c.args.bytes.now (IsFromKind 2) answer_text c.args.bytes.now
    (λ left s. stop_later 2 c.args.bytes.now left (outside_apart c.args.bytes.now (c.in-None.ensures.none refl)) s) c.read_undecided.ensures.halt

pub returns-in-Err-clause-halt : goal.returns-in-Err-clause-halt
returns-in-Err-clause-halt c = halt_map IsWellFormedCarried (carried_text words.Jet) c.in-Some.behind.now (IsFromKind 2) answer_text c.args.bytes.now
    (λ left s. stop_in_outside c.in-Some.pattern c.args.bytes.now c.in-Some.behind.now left c.in-Some.ensures.some.1 s) c.in-Err.halt c.in-Err.ensures.halt

pub returns-in-Ok-clause-ok : goal.returns-in-Ok-clause-ok
returns-in-Ok-clause-ok c = let r = c.in-Ok.ensures.ok in outside_is c.in-Some.pattern c.in-Ok.carried c.args.bytes.now c.in-Some.behind.now c.in-Ok.rest.now c.in-Some.ensures.some.1 r.0 r.1
