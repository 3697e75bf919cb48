use Rattle.std.proofs.Common.{◌∷◌, ◌++◌, refl, sym, ap, ◌∙◌}
use Rattle.row_reader.specs.Words.{after_space}
use Rattle.poly_text.specs.Polynomials.{monomial_text}
use Rattle.row_reader.proofs.WordTexts.{nothing_there, word_is, word_monomial}
use Rattle.row_reader.proofs.word.take_monomial.Goals as goal

pub returns-in-None-clause-none : goal.returns-in-None-clause-none
returns-in-None-clause-none c _ m y valid starts text = nothing_there _ _ (c.in-None.ensures.none refl) text

pub returns-in-None-read_monomial-clause-none : goal.returns-in-None-read_monomial-clause-none
returns-in-None-read_monomial-clause-none c _ m y valid starts text =
    let k = word_is (after_space c.args.rest) (monomial_text m) y c.in-Some.word.now c.in-Some.behind c.in-Some.ensures.some.0 c.in-Some.ensures.some.1 (word_monomial c.args.corank m valid) starts text in
    c.in-None-read_monomial.ensures.none refl m valid k.0

pub returns-in-Some-read_monomial-clause-some : goal.returns-in-Some-read_monomial-clause-some
returns-in-Some-read_monomial-clause-some c =
    let is = c.in-Some-read_monomial.ensures.some in
    (is.0, c.in-Some.ensures.some.0 ∙ ap (λ z. 32 ∷ (z ++ after_space c.in-Some.behind)) (sym is.1))
