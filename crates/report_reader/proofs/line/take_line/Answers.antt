use Rattle.std.proofs.Common.{refl, sym, ap, ◌∙◌, ◌∷◌, ◌++◌, List, ℕ}
use Rattle.cert_text.specs.Words.{word_text}
use Rattle.text_reader.proofs.Options.{some_map}
use Rattle.cert_law.proofs.Cut.{same_front}
use Rattle.report_reader.proofs.Fronts.{line_text}
use Rattle.report_reader.proofs.line.take_line.Goals as goal

pub returns-in-None-clause-none : goal.returns-in-None-clause-none
returns-in-None-clause-none c _ more e = c.in-None.ensures.none refl (10 ∷ more) (sym e ∙ line_text (word_text c.args.word) more ∙ ap (λ (z : List ℕ). z ++ 10 ∷ more) (sym c.word_bytes.ensures))

pub returns-in-Some-clause-some : goal.returns-in-Some-clause-some
returns-in-Some-clause-some c = some_map c.strip_front-in-Some.result _ _
    (λ rest e. line_text (word_text c.args.word) rest.now ∙ ap (λ (z : List ℕ). word_text c.args.word ++ z) (sym e) ∙ ap (λ (z : List ℕ). z ++ c.in-Some.behind.now) (sym c.word_bytes.ensures) ∙ sym c.in-Some.ensures.some)
    c.strip_front-in-Some.ensures.some

pub returns-in-Some-clause-none : goal.returns-in-Some-clause-none
returns-in-Some-clause-none c n more e = c.strip_front-in-Some.ensures.none n more
    (same_front (word_text c.args.word) _ _ (ap (λ (z : List ℕ). z ++ c.in-Some.behind.now) (sym c.word_bytes.ensures) ∙ sym c.in-Some.ensures.some ∙ sym e ∙ line_text (word_text c.args.word) more))
