use Rattle.std.proofs.Common.{[], ◌∷◌, refl, sym, ◌∙◌, append-nil}
use Rattle.std.specs.Prelude.{codes}
use Rattle.cert_law.proofs.Cut.{same_front}
use Rattle.text_reader.proofs.ComponentTexts.{follows_none}
use Rattle.text_reader.proofs.ElementTexts.{nothing_left, something_left}
use Rattle.text_reader.proofs.ModulusTexts.{cubic_letters, cubic_read, cubic_taken, three_valid}
use Rattle.text_reader.proofs.algebra.read_cubic.Goals as goal

pub returns-in-None-clause-none : goal.returns-in-None-clause-none
returns-in-None-clause-none c _ m ok e = c.in-None.ensures.none refl _ (sym e)

pub returns-then-is_some-clause-none : goal.returns-then-is_some-clause-none
returns-then-is_some-clause-none c _ m ok e =
    let behind = same_front (codes "t^3") _ _ (sym c.in-Some.ensures.some ∙ sym e) in
    let taken = cubic_taken _ _ _ _ _ _ _ c.take_component.ensures c.take_component-in-Some.ensures c.take_component-in-Some-2.ensures in
    let k = taken.found (m.0 ∷ m.1 ∷ m.2 ∷ []) [] refl (three_valid m ok) (follows_none cubic_letters) (c.first_and_rest.ensures ∙ behind ∙ sym (append-nil _)) in
    something_left c.take_component-in-Some-2.result.1 (sym c.is_some.ensures ∙ c.if-is_some.true) k.1

pub returns-else-is_some-clause-some : goal.returns-else-is_some-clause-some
returns-else-is_some-clause-some c =
    cubic_read _ _ _ c.args.bytes.now c.in-Some.behind.now _ _ c.in-Some.ensures.some c.first_and_rest.ensures (cubic_taken _ _ _ _ _ _ _ c.take_component.ensures c.take_component-in-Some.ensures c.take_component-in-Some-2.ensures)
    (nothing_left c.take_component-in-Some-2.result.1 (sym c.is_some.ensures ∙ c.if-is_some.false))
