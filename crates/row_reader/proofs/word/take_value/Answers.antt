use Rattle.std.proofs.Common.{◌∷◌, ◌++◌, refl, sym, ap, ◌∙◌}
use Rattle.row_reader.specs.Words.{after_space}
use Rattle.poly_text.specs.Numbers.{element_text}
use Rattle.row_reader.proofs.WordTexts.{nothing_there, word_is, word_element}
use Rattle.row_reader.proofs.word.take_value.Goals as goal

pub returns-in-None-clause-none : goal.returns-in-None-clause-none
returns-in-None-clause-none c _ e y valid starts text = nothing_there _ _ (c.in-None.ensures.none refl) text

pub returns-in-None-read_element-clause-none : goal.returns-in-None-read_element-clause-none
returns-in-None-read_element-clause-none c _ e y valid starts text =
    let k = word_is (after_space c.args.rest) (element_text e) y c.in-Some.word.now c.in-Some.behind c.in-Some.ensures.some.0 c.in-Some.ensures.some.1 (word_element c.args.a e valid) starts text in
    c.in-None-read_element.ensures.none refl e valid k.0

pub returns-in-Some-read_element-clause-some : goal.returns-in-Some-read_element-clause-some
returns-in-Some-read_element-clause-some c =
    let is = c.in-Some-read_element.ensures.some in
    (is.0, c.in-Some.ensures.some.0 ∙ ap (λ z. 32 ∷ (z ++ after_space c.in-Some.behind)) (sym is.1))
