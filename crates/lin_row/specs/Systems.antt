-- Systems of rows, and when their reduction is high.
use Rattle.std.specs.Prelude.{◌≡◌, ℕ, ◌≤◌, ◌⊎◌, List, length}
use Rattle.ring_theory.specs.Scalars.{Meaning}
use Rattle.lin_row.specs.Lines.{entry}
use Rattle.lin_row.specs.Rows.{rows_of}
use Rattle.lin_row.specs.System.{IsSystem, lines_of}
use Rattle.lin_row.specs.Plain.{Among, ReductionIsHigh, TargetIsHigh, with_units}
use Rattle.lin_row.specs.Stages.{IsEnd}
use Rattle.lin_row.specs.declared.row.Row.{Row}
use Rattle.lin_row.specs.declared.systems.System.{System}
use Rattle.lin_row.specs.declared.systems.Way.TheVariants.{Plain}

-- the system is made of the rows, in the plain way by the plain row reduction
pub record IsSystemOf {E V : Type 0} (m : Meaning E V) (rows : List (Row E)) (made : System E) : Type 0 where
  pub few : length rows ≤ 4294967296
  pub system : IsSystem m 4294967296 (rows_of rows) (rows_of rows) (lines_of made.pivots.items)
  pub end : made.way ≡ Plain → IsEnd m 4294967296 (with_units m 4294967296 0 (rows_of rows)) (lines_of made.pivots.items)

-- the height of the plain row reduction of the rows, with their unit columns, is 2^120 or more
abbrev pub SystemIsHigh : {E V : Type 0} → Meaning E V → List (Row E) → Type 0
SystemIsHigh m rows = ReductionIsHigh m.scalars 4294967296 (with_units m 4294967296 0 (rows_of rows))

-- the same with the reduction of a target
abbrev pub SolvingIsHigh : {E V : Type 0} → Meaning E V → List (Row E) → List (ℕ × E) → Type 0
SolvingIsHigh m rows target = SystemIsHigh m rows ⊎ TargetIsHigh m.scalars 4294967296 (with_units m 4294967296 0 (rows_of rows)) (entry m target)

-- the same with the reduction of some of the targets
abbrev pub SolvingAnyIsHigh : {E V : Type 0} → Meaning E V → List (Row E) → List (Row E) → Type 0
SolvingAnyIsHigh m rows targets = SystemIsHigh m rows ⊎ Among (λ t. SolvingIsHigh m rows t.entries) targets
