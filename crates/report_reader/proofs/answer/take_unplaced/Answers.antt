use Rattle.std.proofs.Common.{refl}
use Rattle.cert_text.specs.Text.{answer_text}
use Rattle.report_reader.proofs.AnswerLines.{no_unplaced}
use Rattle.report_reader.proofs.answer.take_unplaced.Goals as goal

pub returns-in-None-take_line-clause-none : goal.returns-in-None-take_line-clause-none
returns-in-None-take_line-clause-none c _ = no_unplaced c.args.bytes.now (c.in-None.ensures.none refl) (c.in-None-take_line.ensures.none refl)

pub returns-in-Some-clause-some : goal.returns-in-Some-clause-some
unfolding answer_text
returns-in-Some-clause-some c = c.in-Some.ensures.some

pub returns-in-Some-take_line-clause-some : goal.returns-in-Some-take_line-clause-some
unfolding answer_text
returns-in-Some-take_line-clause-some c = (tt, c.in-Some-take_line.ensures.some)
