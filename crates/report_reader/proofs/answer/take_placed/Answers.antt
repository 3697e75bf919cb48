use Rattle.std.proofs.Common.{refl, arith}
use Rattle.cert_text.specs.Text.{answer_text}
use Rattle.report_reader.proofs.AnswerLines.{no_placed}
use Rattle.report_reader.proofs.answer.take_placed.Goals as goal

pub returns-in-None-take_variable-clause-none : goal.returns-in-None-take_variable-clause-none
returns-in-None-take_variable-clause-none c _ = no_placed c.args.bytes.now (c.in-None.ensures.none refl) (c.in-None-take_number.ensures.none refl) (c.in-None-take_variable.ensures.none refl)

pub returns-in-Some-clause-some : goal.returns-in-Some-clause-some
unfolding answer_text
returns-in-Some-clause-some c = c.in-Some.ensures.some

pub returns-in-Some-take_number-clause-some : goal.returns-in-Some-take_number-clause-some
unfolding answer_text
returns-in-Some-take_number-clause-some c = let n = c.in-Some-take_number.ensures.some in let le = n.0.1 in (omega (arith, le), n.1)

pub returns-in-Some-take_variable-clause-some : goal.returns-in-Some-take_variable-clause-some
unfolding answer_text
returns-in-Some-take_variable-clause-some c = c.in-Some-take_variable.ensures.some
