use Rattle.std.proofs.Common.{◌∙◌, sym}
use Rattle.text_reader.proofs.PolynomialTexts.{after_last, some_items}
use Rattle.text_reader.proofs.polynomial.is_after.Goals as goal

pub returns-else-is_empty : goal.returns-else-is_empty
returns-else-is_empty c =
    c.before-else-is_empty.ensures ∙ sym (after_last c.args.terms.now c.args.m _ (some_items c.args.terms.now c.is_empty.result c.is_empty.ensures c.if-is_empty.false))
