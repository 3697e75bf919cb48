use Rattle.std.proofs.Common.{◌++◌, ◌∷◌, refl, sym, ap, ◌∙◌}
use Rattle.std.specs.Prelude.{codes}
use Rattle.cert_law.proofs.Cut.{head}
use Rattle.text_reader.proofs.PolynomialTexts.{read_as, refused_as}
use Rattle.row_reader.specs.Words.{after_space}
use Rattle.row_reader.proofs.WordTexts.{mark_one}
use Rattle.row_reader.proofs.ValueTexts.{monomials_rest}
use Rattle.row_reader.proofs.value.read_basis.Goals as goal
use Rattle.cert_text.specs.Text.{monomials_text}
use Rattle.cert_text.specs.Words.{word_text}

pub returns-in-None-clause-none : goal.returns-in-None-clause-none
unfolding word_text
returns-in-None-clause-none c _ ms valid text = c.in-None.ensures.none refl (monomials_text ms) (monomials_rest ms) (ap (λ z. 32 ∷ z) (sym text))

pub returns-in-Some-clause-some : goal.returns-in-Some-clause-some
unfolding word_text
returns-in-Some-clause-some c =
    read_as _ _
    (λ ms h. (h.0, ap (λ z. codes "basis" ++ z) (sym h.1) ∙ sym (head 32 32 c.args.bytes.now (codes "basis" ++ after_space c.in-Some.rest) c.in-Some.ensures.some).1))
    c.read_monomials.result c.read_monomials.ensures.some

pub returns-in-Some-clause-none : goal.returns-in-Some-clause-none
unfolding word_text
returns-in-Some-clause-none c =
    refused_as _ _ (λ bad ms valid text. bad ms valid (sym (mark_one (codes "basis") (monomials_text ms) c.in-Some.rest (32 ∷ c.args.bytes.now) (ap (λ z. 32 ∷ z) (sym text)) c.in-Some.ensures.some)))
    c.read_monomials.result c.read_monomials.ensures.none
