use Rattle.std.proofs.Common.{refl, sym, ◌∙◌, arith}
use Rattle.text_reader.proofs.Fractions.{parts_of, natural_quotient, same_quotient}
use Rattle.text_reader.proofs.fraction.read_quotient.Goals as goal

pub returns-in-None-clause-none : goal.returns-in-None-clause-none
returns-in-None-clause-none c _ q ok is =
    let h = natural_quotient q c.args.num.now c.args.den.now ok c.requires.no_slash is in
    c.in-None.ensures.none refl _ (omega (arith, (parts_of q ok).num_fits)) h.num

pub returns-in-None-read_number-clause-none : goal.returns-in-None-read_number-clause-none
returns-in-None-read_number-clause-none c _ q ok is =
    let h = natural_quotient q c.args.num.now c.args.den.now ok c.requires.no_slash is in
    c.in-None-read_number.ensures.none refl _ (omega (arith, (parts_of q ok).den_fits)) h.den

pub returns-in-Some-read_number-clause-none : goal.returns-in-Some-read_number-clause-none
returns-in-Some-read_number-clause-none c e q ok is =
    let h = natural_quotient q c.args.num.now c.args.den.now ok c.requires.no_slash is in
    let n = c.in-Some.ensures.some in
    let d = c.in-Some-read_number.ensures.some in
    let same = same_quotient q c.in-Some.n c.in-Some-read_number.d ok (omega (arith, n.0)) (omega (arith, d.0)) (h.num ∙ sym n.1) (h.den ∙ sym d.1) h.not_one in
    c.quotient.ensures.none e same.0 same.1
