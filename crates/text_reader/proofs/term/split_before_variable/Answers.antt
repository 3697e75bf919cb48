use Rattle.text_reader.proofs.Places.{byte_none}
use Rattle.text_reader.proofs.TermTexts.{variable_from}
use Rattle.text_reader.proofs.term.split_before_variable.Goals as goal

pub returns-in-None-clause-none : goal.returns-in-None-clause-none
returns-in-None-clause-none c _ = byte_none 117 c.args.bytes.now c.in-None.ensures.at

pub returns-in-Some-clause-some : goal.returns-in-Some-clause-some
returns-in-Some-clause-some c = variable_from c.args.bytes.now c.in-Some.at c.in-Some.ensures.at
