use Rattle.std.proofs.Common.{refl, sym, ap, ◌∙◌}
use Rattle.ring_law.specs.declared.fraction.Frac.{Frac}
use Rattle.text_reader.proofs.Fractions.{minus_is, fraction_same, opposite_of}
use Rattle.text_reader.proofs.fraction.read_fraction.Goals as goal

pub returns-in-None-read_unsigned-clause-none : goal.returns-in-None-read_unsigned-clause-none
returns-in-None-read_unsigned-clause-none c _ q ok is =
    let h = minus_is q c.in-Some.magnitude.now ok (is ∙ c.in-Some.ensures.some) in
    c.in-None-read_unsigned.ensures.none refl (opposite_of q) h.natural h.text

pub returns-in-Some-read_unsigned-clause-none : goal.returns-in-Some-read_unsigned-clause-none
returns-in-Some-read_unsigned-clause-none c e q ok is =
    let h = minus_is q c.in-Some.magnitude.now ok (is ∙ c.in-Some.ensures.some) in
    let found = c.in-Some-read_unsigned.ensures.some in
    let same = fraction_same (opposite_of q) c.in-Some-read_unsigned.q h.natural.0 found.0.0 (h.text ∙ sym found.1) in
    h.nonzero (ap (λ (p : Frac). p.num) same ∙ c.opposite.ensures.none e)
