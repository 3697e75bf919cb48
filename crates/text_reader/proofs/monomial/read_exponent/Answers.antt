use Rattle.text_reader.proofs.FactorTexts.{not_small}
use Rattle.text_reader.proofs.monomial.read_exponent.Goals as goal

pub returns-then-e-lt2-clause-none : goal.returns-then-e-lt2-clause-none
returns-then-e-lt2-clause-none c _ e ok is =
    let found = c.in-Some-read_u8.ensures.some in
    not_small e c.in-Some-read_u8.e c.in-Some.digits.now c.args.bytes.now ok is c.in-Some.ensures.some found.0 found.1 c.if-e-lt2.true
