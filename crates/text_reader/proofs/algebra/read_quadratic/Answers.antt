use Rattle.std.proofs.Common.{[], ◌∷◌, refl, sym, ◌∙◌, append-nil}
use Rattle.std.specs.Prelude.{codes}
use Rattle.cert_law.proofs.Cut.{same_front}
use Rattle.text_reader.proofs.ComponentTexts.{follows_none}
use Rattle.text_reader.proofs.ElementTexts.{nothing_left, something_left}
use Rattle.text_reader.proofs.ModulusTexts.{quadratic_letters, quadratic_parts, quadratic_read, quadratic_taken}
use Rattle.text_reader.proofs.algebra.read_quadratic.Goals as goal

pub returns-in-None-clause-none : goal.returns-in-None-clause-none
returns-in-None-clause-none c _ a ok e = let p = quadratic_parts a c.args.bytes.now ok e in c.in-None.ensures.none refl _ p.2.text

pub returns-then-is_some-clause-none : goal.returns-then-is_some-clause-none
returns-then-is_some-clause-none c _ a ok e =
    let p = quadratic_parts a c.args.bytes.now ok e in
    let behind = same_front (codes "t^2") _ _ (sym c.in-Some.ensures.some ∙ p.2.text) in
    let taken = quadratic_taken _ _ _ _ _ c.take_component.ensures c.take_component-in-Some.ensures in
    let k = taken.found (p.0 ∷ p.1 ∷ []) [] refl p.2.valid (follows_none quadratic_letters) (c.first_and_rest.ensures ∙ behind ∙ sym (append-nil _)) in
    something_left c.take_component-in-Some.result.1 (sym c.is_some.ensures ∙ c.if-is_some.true) k.1

pub returns-else-is_some-clause-some : goal.returns-else-is_some-clause-some
returns-else-is_some-clause-some c =
    quadratic_read _ _ c.args.bytes.now c.in-Some.behind.now _ _ c.in-Some.ensures.some c.first_and_rest.ensures (quadratic_taken _ _ _ _ _ c.take_component.ensures c.take_component-in-Some.ensures)
    (nothing_left c.take_component-in-Some.result.1 (sym c.is_some.ensures ∙ c.if-is_some.false))
