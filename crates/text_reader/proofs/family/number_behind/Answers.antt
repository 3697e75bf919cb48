use Rattle.std.proofs.Common.{refl, sym, ◌∙◌, arith}
use Rattle.cert_law.proofs.Cut.{same_front}
use Rattle.text_reader.proofs.Fractions.{decimal_same}
use Rattle.text_reader.proofs.family.number_behind.Goals as goal

pub returns-in-None-read_u8-clause-none : goal.returns-in-None-read_u8-clause-none
returns-in-None-read_u8-clause-none c _ m fits e = c.in-None-read_u8.ensures.none refl m fits.1 (same_front c.args.front.now _ _ (e ∙ c.in-Some.ensures.some))

pub returns-then-m-least-clause-none : goal.returns-then-m-least-clause-none
returns-then-m-least-clause-none c _ m fits e =
    let found = c.in-Some-read_u8.ensures.some in
    let same = decimal_same m c.in-Some-read_u8.m (omega (arith, fits.1)) (omega (arith, found.0)) (same_front c.args.front.now _ _ (e ∙ c.in-Some.ensures.some) ∙ sym found.1) in
    omega (arith, same, fits.0, c.if-m-least.true)
