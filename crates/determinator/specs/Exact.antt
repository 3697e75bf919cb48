-- Which lines get which answer.
use Rattle.cert_text.specs.declared.report.Answer.TheVariants as answers
use Rattle.cert_text.specs.declared.report.Limit as limit_type
use Rattle.cert_text.specs.declared.report.Named as named_type
use Rattle.cert_text.specs.declared.report.Outside as outside_type
use Rattle.cert_text.specs.declared.report.Unresolved as unresolved_type
use Rattle.cert_text.specs.declared.report.Phase.TheVariants as phases
use Rattle.cert_text.specs.declared.report.Phase.{Phase}
use Rattle.cert_text.specs.declared.report.Report.TheVariants as reports
use Rattle.cert_text.specs.declared.report.Report.{Report}
use Rattle.line_syntax.specs.Syntax.{Line}
use Rattle.planned_law.specs.Planned.{IsUnbuilt, corank_of_line, is_unbuilt}
use Rattle.determinator.specs.Lines.{IsAnswer}
use Rattle.poly_text.specs.declared.name.Name.{Name}
use Rattle.poly_text.specs.declared.what.What.{What}
use Rattle.line_germ.specs.Reads.{IsSyntaxAt, IsLiteralAt, IsLinearIn}
use Rattle.germ_law.specs.Germ.{line_limit, IsCritical}
use Rattle.std.specs.Prelude.{◌≡◌, ◌↔◌, ◌⊎◌, false, ℕ, ◌<◌, ◌≤◌, List, length}

-- the report that answers a line is the too-long one exactly where the line has more than 65,536 bytes, with their number
abbrev pub IsTooLongExactly : Type 0
IsTooLongExactly = (limit : ℕ) (line : List ℕ) (r : Report) → IsAnswer limit line r → (n : ℕ) → (r ≡ reports.Long n) ↔ ((line_limit < length line) × (n ≡ length line))

-- a line of at most 65,536 bytes is answered `syntax` with this column and word exactly where the grammar refuses it so
abbrev pub IsSyntaxExactly : Type 0
IsSyntaxExactly =
    (limit : ℕ) (line : List ℕ) (r : Report) → IsAnswer limit line r → (column : ℕ) (what : What)
    → (r ≡ reports.Line line (answers.Syntax column what)) ↔ ((length line ≤ line_limit) × IsSyntaxAt line column what)

-- the report is `literal`, at a column where the first number of the line that is too large begins
pub record IsLiteralAnswer (line : List ℕ) (r : Report) : Type 0 where
  pub column : ℕ
  pub report_is : r ≡ reports.Line line (answers.Literal column)
  pub refusal : IsLiteralAt line column

-- a line of at most 65,536 bytes is answered `literal` exactly where it is in the grammar and has a number that is too large
abbrev pub IsLiteralExactly : Type 0
IsLiteralExactly =
    (limit : ℕ) (line : List ℕ) (r : Report) → IsAnswer limit line r → IsLiteralAnswer line r ↔ ((length line ≤ line_limit) × ((column : ℕ) × IsLiteralAt line column))

-- a variable is answered as not critical only where its linear coefficient is the first that is not 0; and such a line is answered so, or
-- `range` in the phase of reading
pub record IsNotCriticalExactly : Type 0 where
  pub only : (limit : ℕ) (line : List ℕ) (r : Report) → IsAnswer limit line r → (variable : Name) → r ≡ reports.Line line (answers.NotCritical variable) → IsLinearIn line variable
  pub answered : (limit : ℕ) (line : List ℕ) (r : Report) → IsAnswer limit line r → (variable : Name) → length line ≤ line_limit → IsLinearIn line variable
      → (r ≡ reports.Line line (answers.NotCritical variable)) ⊎ (r ≡ reports.Line line (answers.Range phases.Line))

-- a line is answered `unbuilt` only where it is critical of corank 2 or 3; and such a line is answered so, or `range`
pub record IsUnbuiltExactly : Type 0 where
  pub only : (limit : ℕ) (line : List ℕ) (r : Report) → IsAnswer limit line r → r ≡ reports.Line line answers.Unbuilt → IsUnbuilt limit line
  pub answered : (limit : ℕ) (line : List ℕ) (r : Report) → IsAnswer limit line r → IsUnbuilt limit line
      → (r ≡ reports.Line line answers.Unbuilt) ⊎ ((phase : Phase) × (r ≡ reports.Line line (answers.Range phase)))

-- the report is a name, a pattern past the list, a limit, one without a name, or `range`
pub data IsDecided (line : List ℕ) (r : Report) : Type 0 where
  named : (n : named_type.Named) → r ≡ reports.Line line (answers.Named n) → IsDecided line r
  outside : (n : outside_type.Outside) → r ≡ reports.Line line (answers.Outside n) → IsDecided line r
  undecided : (n : limit_type.Limit) → r ≡ reports.Line line (answers.Limit n) → IsDecided line r
  unresolved : (n : unresolved_type.Unresolved) → r ≡ reports.Line line (answers.Unresolved n) → IsDecided line r
  high : (phase : Phase) → r ≡ reports.Line line (answers.Range phase) → IsDecided line r

-- each critical line of another corank is decided so
abbrev pub IsDecidedExactly : Type 0
IsDecidedExactly = (limit : ℕ) (line : List ℕ) (r : Report) → IsAnswer limit line r → (l : Line) → IsCritical line l → is_unbuilt (corank_of_line l) ≡ false → IsDecided line r

-- which lines get which answer, exactly
pub record IsExact : Type 0 where
  pub too_long : IsTooLongExactly
  pub syntax : IsSyntaxExactly
  pub literal : IsLiteralExactly
  pub not_critical : IsNotCriticalExactly
  pub unbuilt : IsUnbuiltExactly
  pub decided : IsDecidedExactly
