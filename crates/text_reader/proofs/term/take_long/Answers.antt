use Rattle.std.proofs.Common.{refl, sym, ap, ◌∙◌, ◌∷◌, ◌++◌}
use Rattle.poly_text.specs.Numbers.{element_text}
use Rattle.text_reader.specs.Pieces.{joined}
use Rattle.text_reader.specs.Terms.{IsLongTerm}
use Rattle.cert_law.proofs.Monomials.{starred}
use Rattle.text_reader.proofs.TermTexts.{long_behind, long_front, factors_cut, bracket_one}
use Rattle.text_reader.proofs.term.take_long.Goals as goal

pub returns-in-None-clause-none : goal.returns-in-None-clause-none
returns-in-None-clause-none c _ t rest s starts e = c.in-None.ensures.none refl t.1 (starred t.0 ++ rest) s.fractions s.long (long_behind t c.args.bytes.now rest s e)

pub returns-in-None-read_starred-clause-none : goal.returns-in-None-read_starred-clause-none
returns-in-None-read_starred-clause-none c _ t rest s starts e =
    let p = c.in-Some.ensures.some in
    let split = c.split_before_sign.ensures in
    let k = bracket_one t.1 c.in-Some.e c.args.bytes.now (starred t.0 ++ rest) c.in-Some.behind.now s.fractions p.0 (long_behind t c.args.bytes.now rest s e) p.2 in
    c.in-None-read_starred.ensures.none refl t.0 s.monomial s.higher
    (factors_cut t.0 c.in-Some.behind.now c.split_before_sign.result.0.now (joined c.split_before_sign.result.1) rest s.monomial s.higher split.whole split.front split.starts starts (sym k.1))

pub returns-in-Some-read_starred-clause-some : goal.returns-in-Some-read_starred-clause-some
returns-in-Some-read_starred-clause-some c =
    let p = c.in-Some.ensures.some in
    let m = c.in-Some-read_starred.ensures.some in
    let split = c.split_before_sign.ensures in
    let is : IsLongTerm (c.in-Some-read_starred.m, c.in-Some.e) = record { fractions = p.0; long = p.1; monomial = m.0; higher = m.1 } in (
      is,
      long_front (c.in-Some-read_starred.m, c.in-Some.e) c.args.bytes.now (joined c.split_before_sign.result.1) is (p.2 ∙ ap (λ z. element_text c.in-Some.e ++ 41 ∷ z) (split.whole ∙ ap (λ z. z ++ joined c.split_before_sign.result.1) (sym m.2))),
      split.starts,
    )
