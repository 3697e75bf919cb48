use Rattle.std.proofs.Common.{refl, arith}
use Rattle.text_reader.proofs.Fractions.{parts_of, natural_whole, whole_natural}
use Rattle.text_reader.proofs.fraction.read_whole.Goals as goal

pub returns-in-None-clause-none : goal.returns-in-None-clause-none
returns-in-None-clause-none c _ q ok is = c.in-None.ensures.none refl _ (omega (arith, (parts_of q ok).num_fits)) (natural_whole q c.args.bytes.now ok c.requires.no_slash is)

pub returns-in-Some-clause-some : goal.returns-in-Some-clause-some
returns-in-Some-clause-some c =
    let h = c.in-Some.ensures.some in
    whole_natural c.in-Some.n c.fraction.result c.args.bytes.now (omega (arith, h.0)) h.1 c.fraction.ensures
