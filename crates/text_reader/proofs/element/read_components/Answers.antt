use Rattle.std.proofs.Common.{[], sym, ◌∙◌, subst}
use Rattle.text_reader.specs.Pieces.{joined, AreFractions}
use Rattle.text_reader.specs.Reading.{IsTextOf}
use Rattle.text_reader.proofs.ElementTexts.{zero_read, nothing_left, something_left, element_read, element_back, element_found, element_front}
use Rattle.text_reader.proofs.ComponentTexts.{follows_none}
use Rattle.poly_text.specs.Numbers.{element_text, letters}
use Rattle.text_reader.proofs.element.read_components.Goals as goal

pub returns-then-is_text-clause-some : goal.returns-then-is_text-clause-some
returns-then-is_text-clause-some c = subst (IsTextOf AreFractions element_text c.args.bytes.now) (sym c.rational.ensures) (zero_read c.args.bytes.now (c.is_text.ensures.0 c.if-is_text.true))

pub returns-then-is_some-clause-none : goal.returns-then-is_some-clause-none
returns-then-is_some-clause-none c _ e ok text =
    let back = element_back e c.args.bytes.now ok text (λ zero_is. let yes = c.is_text.ensures.1 zero_is in absurd (cc (yes, c.if-is_text.false))) in
    something_left c.take_element.result.1 (sym c.is_some.ensures ∙ c.if-is_some.true) (element_found c.take_element.result.0 e _ _ [] c.take_element.ensures ok (follows_none letters) (c.signed.ensures ∙ back)).1

pub returns-else-is_some-clause-some : goal.returns-else-is_some-clause-some
returns-else-is_some-clause-some c =
    (c.take_element.ensures.valid, element_read c.take_element.result.0 c.args.bytes.now (joined c.take_element.result.1) (sym c.signed.ensures ∙ element_front c.take_element.result.0 _ _ c.take_element.ensures) (nothing_left c.take_element.result.1 (sym c.is_some.ensures ∙ c.if-is_some.false)))
