use Rattle.text_reader.proofs.PolynomialTexts.{zero_refused, element_tested}
use Rattle.text_reader.proofs.polynomial.is_coefficient.Goals as goal

pub returns-then-is_zero : goal.returns-then-is_zero
returns-then-is_zero c = zero_refused c.args.a c.args.e c.is_zero.result c.is_zero.ensures c.if-is_zero.true

pub returns-else-is_zero : goal.returns-else-is_zero
returns-else-is_zero c = element_tested c.args.a c.args.e c.is_zero.result c.vanishes_past.result c.requires c.is_zero.ensures c.if-is_zero.false c.vanishes_past.ensures
