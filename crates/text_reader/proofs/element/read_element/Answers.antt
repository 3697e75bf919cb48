use Rattle.std.proofs.Common.{refl, sym, ◌∙◌}
use Rattle.text_reader.proofs.ElementTexts.{element_fractions, fractions_element, past_fails}
use Rattle.text_reader.proofs.element.read_element.Goals as goal

pub returns-in-None-clause-none : goal.returns-in-None-clause-none
returns-in-None-clause-none c _ e h text = c.in-None.ensures.none refl e (element_fractions c.args.a e h).0 text

pub returns-then-vanishes_past-clause-some : goal.returns-then-vanishes_past-clause-some
returns-then-vanishes_past-clause-some c =
    let is = c.in-Some.ensures.some in
    (fractions_element c.args.a c.in-Some.e is.0 (sym c.vanishes_past.ensures ∙ c.if-vanishes_past.true), is.1)

pub returns-else-vanishes_past-clause-none : goal.returns-else-vanishes_past-clause-none
returns-else-vanishes_past-clause-none c _ e h text = past_fails c.args.a e c.in-Some.e c.args.bytes.now c.vanishes_past.result h text c.in-Some.ensures.some c.vanishes_past.ensures c.if-vanishes_past.false
