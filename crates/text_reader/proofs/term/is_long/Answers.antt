use Rattle.text_reader.proofs.TermTexts.{long_test, zero_short}
use Rattle.text_reader.proofs.term.is_long.Goals as goal

pub returns-then-is_zero : goal.returns-then-is_zero
returns-then-is_zero c = (λ h. absurd cc, λ long. absurd (zero_short c.args.e c.is_zero.result c.is_zero.ensures c.if-is_zero.true long))

pub returns-else-is_zero : goal.returns-else-is_zero
returns-else-is_zero c = long_test c.args.e c.is_zero.result c.only_component.result c.is_none.result c.is_zero.ensures c.if-is_zero.false c.is_none.ensures c.only_component.ensures.some c.only_component.ensures.none
