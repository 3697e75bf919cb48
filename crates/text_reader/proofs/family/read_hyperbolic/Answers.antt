use Rattle.std.proofs.Common.{refl, sym, ap, ◌∙◌, [], ◌∷◌, ◌++◌}
use Rattle.cert_law.proofs.Cut.{same_front}
use Rattle.text_reader.proofs.FamilyNames.{hyperbolic_parts, hyperbolic_same, hyperbolic_text}
use Rattle.text_reader.proofs.family.read_hyperbolic.Goals as goal

pub returns-in-None-clause-none : goal.returns-in-None-clause-none
returns-in-None-clause-none c _ f ok e =
    let h = hyperbolic_parts f c.args.bytes.now ok e in
    c.in-None.ensures.none refl _ (sym h.1.text)

pub returns-in-None-read_three-clause-none : goal.returns-in-None-read_three-clause-none
returns-in-None-read_three-clause-none c _ f ok e =
    let h = hyperbolic_parts f c.args.bytes.now ok e in
    c.in-None-read_three.ensures.none refl h.0 h.1.small (same_front (84 ∷ 40 ∷ []) _ _ (h.1.text ∙ c.in-Some.ensures.some))

pub returns-then-is_hyperbolic-clause-some : goal.returns-then-is_hyperbolic-clause-some
returns-then-is_hyperbolic-clause-some c =
    let three = c.in-Some-read_three.ensures.some in
    ((sym c.is_hyperbolic.ensures ∙ c.if-is_hyperbolic.true, three.0), hyperbolic_text (c.in-Some-read_three.p, c.in-Some-read_three.q, c.in-Some-read_three.r) ∙ ap (λ z. (84 ∷ 40 ∷ []) ++ z) three.1 ∙ sym c.in-Some.ensures.some)

pub returns-else-is_hyperbolic-clause-none : goal.returns-else-is_hyperbolic-clause-none
returns-else-is_hyperbolic-clause-none c _ f ok e =
    let h = hyperbolic_parts f c.args.bytes.now ok e in
    let three = c.in-Some-read_three.ensures.some in
    let listed = hyperbolic_same h.0 (c.in-Some-read_three.p, c.in-Some-read_three.q, c.in-Some-read_three.r) c.in-Some.numbers.now c.args.bytes.now h.1 c.in-Some.ensures.some three.0 three.1 in
    let test = c.is_hyperbolic.ensures in
    absurd (cc (listed, test, c.if-is_hyperbolic.false))
