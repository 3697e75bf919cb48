-- Kinds of answers.
use Rattle.std.specs.Prelude.{ℕ, ◌<◌, ◌≤◌, ◌^◌, IsTrue, List, ◌++◌}
use Rattle.cert_text.specs.declared.report.Limit as limit_type
use Rattle.cert_text.specs.declared.report.Answer.{Answer}
use Rattle.cert_text.specs.declared.report.Answer.TheVariants as answers
use Rattle.cert_text.specs.declared.word.Word.TheVariants as words
use Rattle.cert_text.specs.Text.{carried_text}
use Rattle.cert_text.specs.WellFormed.{is_valid_name, IsWellFormedAnswer}
use Rattle.report_reader.specs.Functional.{functional_lines}

-- about a place in the line
abbrev pub IsPlaced : Answer → Type 0
IsPlaced (answers.Syntax column what) = column < 2 ^ 32
IsPlaced (answers.Literal column) = column < 2 ^ 32
IsPlaced (answers.NotCritical variable) = IsTrue (is_valid_name variable)
IsPlaced (answers.Range phase) = ⊥
IsPlaced answers.Unbuilt = ⊥
IsPlaced (answers.Named r) = ⊥
IsPlaced (answers.Outside r) = ⊥
IsPlaced (answers.Limit r) = ⊥
IsPlaced (answers.Unresolved r) = ⊥

-- without place and without jet
abbrev pub IsUnplaced : Answer → Type 0
IsUnplaced (answers.Syntax column what) = ⊥
IsUnplaced (answers.Literal column) = ⊥
IsUnplaced (answers.NotCritical variable) = ⊥
IsUnplaced (answers.Range phase) = Unit {0}
IsUnplaced answers.Unbuilt = Unit {0}
IsUnplaced (answers.Named r) = ⊥
IsUnplaced (answers.Outside r) = ⊥
IsUnplaced (answers.Limit r) = ⊥
IsUnplaced (answers.Unresolved r) = ⊥

-- the place of an answer's kind: those with neither place nor jet and those about a place in the line, named, outside, limit, unresolved
abbrev pub kind_of : Answer → ℕ
kind_of (answers.Syntax column what) = 0
kind_of (answers.Literal column) = 0
kind_of (answers.NotCritical variable) = 0
kind_of (answers.Range phase) = 0
kind_of answers.Unbuilt = 0
kind_of (answers.Named r) = 1
kind_of (answers.Outside r) = 2
kind_of (answers.Limit r) = 3
kind_of (answers.Unresolved r) = 4

-- a valid answer of this kind or a later one
abbrev pub IsFromKind : ℕ → Answer → Type 0
IsFromKind kind answer = IsWellFormedAnswer answer × (kind ≤ kind_of answer)

-- the lines behind `answer limit`
unfoldable pub limit_rest : limit_type.Limit → List ℕ
limit_rest r = carried_text words.Jet r.carried ++ functional_lines (r.at, r.functional)
