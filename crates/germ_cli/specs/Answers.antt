-- Texts of reports that answer lines.
use Rattle.cert_text.specs.Text.{report_text}
use Rattle.cert_text.specs.declared.report.Report.{Report}
use Rattle.line_io.specs.Lines.{is_answered}
use Rattle.determinator.specs.Lines.{IsAnswer}
use Rattle.std.specs.Bool.{MatchBool}
use Rattle.std.specs.Prelude.{◌≡◌, ℕ, List, []}

-- the text is that of a report that answers the line
pub record IsAnswerText (limit : ℕ) (line text : List ℕ) : Type 0 where
  pub report : Report
  pub answer : IsAnswer limit line report
  pub text_is : text ≡ report_text report

-- the text for a line: that of a report that answers it, or nothing where it is passed over
abbrev pub IsTextFor : ℕ → List ℕ → List ℕ → Type 0
IsTextFor limit line text = MatchBool (is_answered line) (IsAnswerText limit line text) (text ≡ [])
