use Rattle.std.proofs.Common.{refl, sym, ap, ◌∙◌, ◌∷◌, ◌++◌, List, ℕ}
use Rattle.cert_text.specs.Words.{word_text}
use Rattle.cert_law.proofs.Cut.{head, same_front}
use Rattle.text_reader.proofs.Options.{some_map}
use Rattle.text_reader.proofs.Visible.{unsplit}
use Rattle.report_reader.proofs.Fronts.{word_line_text}
use Rattle.report_reader.proofs.line.take_word_line.Goals as goal

pub returns-in-None-clause-none : goal.returns-in-None-clause-none
returns-in-None-clause-none c _ text more ok e = c.in-None.ensures.none refl (text ++ 10 ∷ more) (sym (word_line_text c.args.word text more) ∙ e)

pub returns-in-Some-clause-some : goal.returns-in-Some-clause-some
returns-in-Some-clause-some c = some_map c.split_at_byte.result _ _
    (λ p h. (h.1, word_line_text c.args.word p.0.now p.1.now ∙ ap (λ (z : List ℕ). word_text c.args.word ++ 32 ∷ z) (sym h.0) ∙ c.in-Some.ensures.some))
    c.split_at_byte.ensures.some

pub returns-in-Some-clause-none : goal.returns-in-Some-clause-none
returns-in-Some-clause-none c n text more ok e = unsplit 10 text more c.in-Some.behind.now (c.split_at_byte.ensures.none n)
    (head 32 32 _ _ (same_front (word_text c.args.word) _ _ (sym (word_line_text c.args.word text more) ∙ e ∙ sym c.in-Some.ensures.some))).1
