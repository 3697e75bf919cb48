-- Rows behind others.
use Rattle.std.proofs.Common.{ℕ, List, [], ◌∷◌, ◌++◌}
use Rattle.ring_theory.specs.Scalars.{Meaning}
use Rattle.lin_row.specs.Lines.{IsLine, AllBelow, EachOf}
use Rattle.lin_row.specs.Rows.{AreRows, rows_of}
use Rattle.lin_row.specs.declared.row.Row.{Row}

-- a valid row behind valid rows
pub rows_push : {E V : Type 0} (m : Meaning E V) (rows : List (Row E)) (r : Row E) → AreRows m rows → IsLine m r.entries → AreRows m (rows ++ (r ∷ []))
rows_push m [] r all line = (line, tt)
rows_push m (x ∷ rows) r all line = (all.0, rows_push m rows r all.1 line)

-- a row below a column behind others below it
pub below_push : {E : Type 0} (columns : ℕ) (rows : List (Row E)) (r : Row E) → EachOf (AllBelow columns) (rows_of rows) → AllBelow columns r.entries → EachOf (AllBelow columns) (rows_of (rows ++ (r ∷ [])))
below_push columns [] r all below = (below, tt)
below_push columns (x ∷ rows) r all below = (all.0, below_push columns rows r all.1 below)
