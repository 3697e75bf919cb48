-- Bytes that are no report, and how far they are like one.
use Rattle.std.specs.Prelude.{◌≡◌, ℕ, ◌≤◌, ◌<◌, List, [], ◌∷◌, ◌++◌, length, take, ◌⊎◌}
use Rattle.cert_text.specs.declared.report.Report.{Report}
use Rattle.cert_text.specs.Text.{report_text}
use Rattle.cert_text.specs.WellFormed.{IsWellFormed}

-- empty, or ended by a newline
abbrev pub IsWholeLines : List ℕ → Type 0
IsWholeLines bytes = (bytes ≡ []) ⊎ ((front : List ℕ) × (bytes ≡ front ++ 10 ∷ []))

-- some well-formed report's text begins so
abbrev pub BeginsReport : List ℕ → Type 0
BeginsReport front = (r : Report) × IsWellFormed r × ((more : List ℕ) × (report_text r ≡ front ++ more))

-- no well-formed report has these bytes, and the first `offset` of them are the most whole lines that begin a report's text
pub record IsBadText (bytes : List ℕ) (offset : ℕ) : Type 0 where
  pub none : (r : Report) → IsWellFormed r → report_text r ≡ bytes → ⊥
  pub within : offset ≤ length bytes
  pub lines : IsWholeLines (take offset bytes)
  pub begins : BeginsReport (take offset bytes)
  pub longest : (k : ℕ) → offset < k → k ≤ length bytes → IsWholeLines (take k bytes) → BeginsReport (take k bytes) → ⊥
