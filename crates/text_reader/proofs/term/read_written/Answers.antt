use Rattle.std.proofs.Common.{[], sym, ap, ◌∙◌, ◌++◌, append-nil, subst}
use Rattle.poly_text.specs.Numbers.{components_text, letters}
use Rattle.text_reader.specs.Terms.{IsWritten}
use Rattle.text_reader.proofs.ComponentTexts.{follows_none}
use Rattle.text_reader.proofs.ElementTexts.{element_found, element_front, nothing_left, something_left}
use Rattle.text_reader.proofs.term.read_written.Goals as goal

pub returns-then-is_some-clause-none : goal.returns-then-is_some-clause-none
returns-then-is_some-clause-none c _ e ok w text =
    something_left c.take_element.result.1 (sym c.is_some.ensures ∙ c.if-is_some.true)
    (element_found c.take_element.result.0 e _ _ [] c.take_element.ensures ok (follows_none letters) (sym text ∙ sym (append-nil (components_text e)))).1

pub returns-then-is_written-clause-some : goal.returns-then-is_written-clause-some
returns-then-is_written-clause-some c =
    let e = c.take_element.result.0 in
    let none = nothing_left c.take_element.result.1 (sym c.is_some.ensures ∙ c.if-is_some.false) in (
      c.take_element.ensures.valid,
      c.is_written.ensures.0 c.if-is_written.true,
      sym (append-nil (components_text e)) ∙ ap (λ z. components_text e ++ z) (sym none) ∙ sym (element_front e _ _ c.take_element.ensures),
    )

pub returns-else-is_written-clause-none : goal.returns-else-is_written-clause-none
returns-else-is_written-clause-none c _ e ok w text =
    let same = element_found c.take_element.result.0 e _ _ [] c.take_element.ensures ok (follows_none letters) (sym text ∙ sym (append-nil (components_text e))) in
    let yes = c.is_written.ensures.1 (subst IsWritten (sym same.0) w) in
    let no = c.if-is_written.false in
    absurd (cc (yes, no))
