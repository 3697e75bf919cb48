-- Which report is right for a line and an order limit.
use Rattle.std.specs.Prelude.{◌≡◌, ℕ, ◌≤◌, ◌<◌, IsTrue, List, length}
use Rattle.ext_algebra.specs.Algebra.{IsIrreducible}
use Rattle.line_syntax.specs.Syntax.{Line, names_of}
use Rattle.line_syntax.specs.Grammar.{Spells, has_small_literals}
use Rattle.germ_law.specs.Germ.{IsCritical, line_limit}
use Rattle.germ_law.specs.Reading.{IsReadingHigh}
use Rattle.line_jet_law.specs.LineJets.{order_limit}
use Rattle.line_germ.specs.Reads.{IsSyntaxAt, IsLiteralAt}
use Rattle.cert_text.specs.declared.report.Carried.{Carried}
use Rattle.cert_text.specs.declared.report.Phase.TheVariants as phases
use Rattle.cert_text.specs.declared.report.Phase.{Phase}
use Rattle.cert_text.specs.declared.report.Answer.{Answer}
use Rattle.cert_text.specs.declared.report.Answer.TheVariants as answers
use Rattle.cert_text.specs.declared.report.Report.{Report}
use Rattle.cert_text.specs.declared.report.Report.TheVariants as reports
use Rattle.report_law.specs.Valid.{IsValidAnswer}
use Rattle.cert_text.specs.WellFormed.{IsWellFormed}

-- the line is in the grammar, with small numbers
pub record IsRead (bytes : List ℕ) : Type 0 where
  pub line : Line
  pub spells : Spells bytes line
  pub small : IsTrue (has_small_literals line)

-- some line that the bytes spell is critical
abbrev pub IsCriticalLine : List ℕ → Type 0
IsCriticalLine bytes = (l : Line) × IsCritical bytes l

-- the order is at most the limit, and the algebra is a field: its modulus in t has no rational root, and over a tower d is no square
pub record IsWithin (limit : ℕ) (c : Carried) : Type 0 where
  pub order : c.order ≤ order_limit limit (length c.names)
  pub field : IsIrreducible c.algebra

-- the line is in the grammar, with small numbers, and reading it up to its order limit forms a number of height at least 2^120
pub record IsHighLine (bytes : List ℕ) (limit : ℕ) : Type 0 where
  pub read : IsRead bytes
  pub is_high : IsReadingHigh (order_limit limit (length (names_of read.line))) read.line

-- what `range` says in this phase: reading the line is high; past its reading, it is critical
abbrev pub IsRangeOf : List ℕ → ℕ → Phase → Type 0
IsRangeOf bytes limit phases.Line = IsHighLine bytes limit
IsRangeOf bytes limit phases.Hessian = IsCriticalLine bytes
IsRangeOf bytes limit phases.Split = IsCriticalLine bytes
IsRangeOf bytes limit phases.Shape = IsCriticalLine bytes
IsRangeOf bytes limit phases.Kill = IsCriticalLine bytes
IsRangeOf bytes limit phases.Mather = IsCriticalLine bytes
IsRangeOf bytes limit phases.Finish = IsCriticalLine bytes
IsRangeOf bytes limit phases.Milnor = IsCriticalLine bytes

-- the answer to a line of at most 65,536 bytes is right; `IsUnbuilt` says which lines are not built yet: past reading, no other answer
-- than `unbuilt` or `range` is right for them
abbrev pub IsRightAnswer : (List ℕ → Type 0) → List ℕ → ℕ → Answer → Type 0
IsRightAnswer IsUnbuilt bytes limit (answers.Syntax column what) = IsSyntaxAt bytes column what
IsRightAnswer IsUnbuilt bytes limit (answers.Literal column) = IsLiteralAt bytes column
IsRightAnswer IsUnbuilt bytes limit (answers.NotCritical variable) = IsValidAnswer bytes (answers.NotCritical variable)
IsRightAnswer IsUnbuilt bytes limit (answers.Range phase) = IsRangeOf bytes limit phase
IsRightAnswer IsUnbuilt bytes limit answers.Unbuilt = IsUnbuilt bytes
IsRightAnswer IsUnbuilt bytes limit (answers.Named r) = IsValidAnswer bytes (answers.Named r) × IsWithin limit r.carried × ¬ IsUnbuilt bytes
IsRightAnswer IsUnbuilt bytes limit (answers.Outside r) = IsValidAnswer bytes (answers.Outside r) × IsWithin limit r.carried × ¬ IsUnbuilt bytes
IsRightAnswer IsUnbuilt bytes limit (answers.Limit r) =
    IsValidAnswer bytes (answers.Limit r) × IsWithin limit r.carried × (r.carried.order ≡ order_limit limit (length r.carried.names)) × ¬ IsUnbuilt bytes
IsRightAnswer IsUnbuilt bytes limit (answers.Unresolved r) = IsValidAnswer bytes (answers.Unresolved r) × IsWithin limit r.carried × ¬ IsUnbuilt bytes

-- it holds the line, unless this is too long, and says what is true of it
abbrev pub SaysTruth : (List ℕ → Type 0) → List ℕ → ℕ → Report → Type 0
SaysTruth IsUnbuilt bytes limit (reports.Long number) = (number ≡ length bytes) × (line_limit < length bytes)
SaysTruth IsUnbuilt bytes limit (reports.Line held answer) = (length bytes ≤ line_limit) × (held ≡ bytes) × IsRightAnswer IsUnbuilt bytes limit answer

-- the report is right for the line
pub record IsRight (IsUnbuilt : List ℕ → Type 0) (limit : ℕ) (bytes : List ℕ) (r : Report) : Type 0 where
  pub well_formed : IsWellFormed r
  pub truthful : SaysTruth IsUnbuilt bytes limit r
