use Rattle.std.proofs.Common.{refl}
use Rattle.std.proofs.lemmas.Result.{IfOk-weaker}
use Rattle.cert_text.specs.Text.{answer_text}
use Rattle.cert_text.specs.WellFormed.{IsWellFormedAnswer}
use Rattle.report_reader.specs.Answers.{IsFromKind}
use Rattle.report_reader.proofs.Found.{err_map}
use Rattle.report_reader.proofs.AnswerLines.{stop_later, short_apart, stop_any, placed_is, unplaced_is}
use Rattle.report_reader.proofs.answer.read_answer.Goals as goal

pub returns-in-Some-clause-ok : goal.returns-in-Some-clause-ok
returns-in-Some-clause-ok c = let r = c.in-Some.ensures.some in (placed_is c.in-Some.answer r.0, r.1)

pub returns-in-Some-take_unplaced-clause-ok : goal.returns-in-Some-take_unplaced-clause-ok
returns-in-Some-take_unplaced-clause-ok c = let r = c.in-Some-take_unplaced.ensures.some in (unplaced_is c.in-Some-take_unplaced.answer r.0, r.1)

pub returns-in-None-take_unplaced-clause-ok : goal.returns-in-None-take_unplaced-clause-ok
returns-in-None-take_unplaced-clause-ok c = IfOk-weaker c.read_with_jet.result _ _ (λ p h. (h.0.0, h.1)) c.read_with_jet.ensures.ok

pub returns-in-None-take_unplaced-clause-halt : goal.returns-in-None-take_unplaced-clause-halt
returns-in-None-take_unplaced-clause-halt c = err_map c.read_with_jet.result (IsFromKind 1) answer_text c.args.bytes.now IsWellFormedAnswer answer_text c.args.bytes.now
    (λ left s. stop_any c.args.bytes.now left (stop_later 0 c.args.bytes.now left (short_apart c.args.bytes.now (c.in-None.ensures.none refl) (c.in-None-take_unplaced.ensures.none refl)) s)) c.read_with_jet.ensures.halt
