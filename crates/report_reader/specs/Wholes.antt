-- Whole reports by their lines.
use Rattle.std.specs.Prelude.{List, ◌++◌}
use Rattle.cert_text.specs.declared.report.Answer.{Answer}
use Rattle.cert_text.specs.declared.word.Word.TheVariants as words
use Rattle.cert_text.specs.Words.{word_text}
use Rattle.cert_text.specs.Text.{line, answer_text}
use Rattle.std.specs.Prelude.{ℕ}

-- the lines of an answer, and the line `end`
abbrev pub ended_text : Answer → List ℕ
ended_text answer = answer_text answer ++ line (word_text words.End)

-- the lines behind the length of a line that is too long
abbrev pub too_long_rest : List ℕ
too_long_rest = line (word_text words.TooLong) ++ line (word_text words.End)
