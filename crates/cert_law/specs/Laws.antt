-- The laws on report texts.
use Rattle.std.specs.Prelude.{◌≡◌, ℕ, List, ◌++◌}
use Rattle.std.specs.List.{AllByRecursion, flat_map}
use Rattle.cert_text.specs.declared.report.Report.{Report}
use Rattle.cert_text.specs.Text.{report_text}
use Rattle.cert_text.specs.WellFormed.{IsWellFormed}

-- two well-formed reports with one text are one report
abbrev pub TextsDiffer : Type 0
TextsDiffer = (r s : Report) → IsWellFormed r → IsWellFormed s → report_text r ≡ report_text s → r ≡ s

-- a text of a well-formed report that begins the text of a well-formed report is that text
abbrev pub NoTextBegins : Type 0
NoTextBegins = (r s : Report) (rest : List ℕ) → IsWellFormed r → IsWellFormed s → report_text r ++ rest ≡ report_text s → r ≡ s

-- in any bytes that begin with the text of a well-formed report, the report and what stands behind its text are told from the bytes
abbrev pub IsReadOnce : Type 0
IsReadOnce = (r s : Report) (x y : List ℕ) → IsWellFormed r → IsWellFormed s → report_text r ++ x ≡ report_text s ++ y → (r ≡ s) × (x ≡ y)

-- the well-formed reports whose texts make up some bytes, one after the other, are told from the bytes
abbrev pub OutputsAreReadOnce : Type 0
OutputsAreReadOnce = (rs ss : List Report) → AllByRecursion IsWellFormed rs → AllByRecursion IsWellFormed ss → flat_map report_text rs ≡ flat_map report_text ss → rs ≡ ss
