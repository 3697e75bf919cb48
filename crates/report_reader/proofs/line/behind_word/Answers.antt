use Rattle.std.proofs.Common.{sym, ap, ◌∙◌, ◌++◌, List, ℕ}
use Rattle.cert_text.specs.Words.{word_text}
use Rattle.cert_law.proofs.Cut.{same_front}
use Rattle.report_reader.proofs.line.behind_word.Goals as goal

pub returns-in-Some-clause-none : goal.returns-in-Some-clause-none
returns-in-Some-clause-none c n more e = c.strip_front-in-Some.ensures.none n more
    (same_front (word_text c.args.word) _ _ (ap (λ (z : List ℕ). z ++ c.in-Some.behind.now) (sym c.word_bytes.ensures) ∙ sym c.in-Some.ensures.some ∙ sym e))
