-- What is answered for a line.
use Rattle.std.specs.Prelude.{ℕ, List}
use Rattle.line_syntax.specs.Syntax.{Line}
use Rattle.germ_law.specs.Germ.{IsCritical}
use Rattle.cert_text.specs.declared.report.Answer.{Answer}
use Rattle.cert_text.specs.declared.report.Report.{Report}
use Rattle.cert_text.specs.WellFormed.{IsWellFormedAnswer}
use Rattle.report_law.specs.Right.{IsRight, IsRightAnswer}
use Rattle.planned_law.specs.Planned.{IsUnbuilt, IsPlanned, IsPlannedFor}

-- the answer to a line of at most 65,536 bytes is well formed, right, and planned
pub record IsGood (bytes : List ℕ) (limit : ℕ) (a : Answer) : Type 0 where
  pub well_formed : IsWellFormedAnswer a
  pub right : IsRightAnswer (IsUnbuilt limit) bytes limit a
  pub planned : (l : Line) → IsCritical bytes l → IsPlannedFor limit l a

-- the report answers the line up to this order limit: it is right for it, and planned
pub record IsAnswer (limit : ℕ) (bytes : List ℕ) (r : Report) : Type 0 where
  pub right : IsRight (IsUnbuilt limit) limit bytes r
  pub planned : IsPlanned limit bytes r
