-- Rows, and what solves or excludes a target.
use Rattle.std.specs.Prelude.{◌≡◌, ℕ, List, [], ◌∷◌, ⊤, map, length}
use Rattle.ring_theory.specs.Scalars.{Meaning}
use Rattle.lin_row.specs.Lines.{IsLine, AllBelow, EachOf, dot, entry}
use Rattle.lin_row.specs.System.{RowsVanish, combination}
use Rattle.lin_row.specs.declared.row.Row.{Row}
use Rattle.lin_row.specs.declared.row.Solution.{Solution}
use Rattle.lin_row.specs.declared.row.Solution.TheVariants.{Solved, Excluded}

-- the rows as lists of entries
abbrev pub rows_of : {E : Type 0} → List (Row E) → List (List (ℕ × E))
rows_of [] = []
rows_of (r ∷ rs) = r.entries ∷ rows_of rs

-- entries that are valid and not zero, in rising columns
abbrev pub AreRows : {E V : Type 0} → Meaning E V → List (Row E) → Type 0
AreRows m [] = ⊤
AreRows m (r ∷ rs) = IsLine m r.entries × AreRows m rs

-- one valid coefficient for each row, whose combination of the rows is the target: Σ xᵢ * rowᵢ = target
pub record IsSolved {E V : Type 0} (m : Meaning E V) (given : List (List (ℕ × E))) (target : List (ℕ × E)) (xs : List E) : Type 0 where
  pub count : length xs ≡ length given
  pub valid : EachOf m.is_elem xs
  pub sum : (w : ℕ → V) → combination m (map m.value xs) given w ≡ dot m target w

-- values of the columns at which each row vanishes and the target is 1; they stand in columns below each bound of those of the rows and the target
pub record IsExcluded {E V : Type 0} (m : Meaning E V) (given : List (List (ℕ × E))) (excluded values : List (ℕ × E)) : Type 0 where
  pub line : IsLine m values
  pub rows : RowsVanish m given (entry m values)
  pub target : dot m excluded (entry m values) ≡ m.scalars.ops.one
  pub below : (a : ℕ) → EachOf (AllBelow a) given → AllBelow a excluded → AllBelow a values

-- coefficients whose combination of the rows is the target, or values that exclude one
abbrev pub IsSolution : {E V : Type 0} → Meaning E V → List (Row E) → List (ℕ × E) → Solution E → Type 0
IsSolution m rows target (Solved xs) = IsSolved m (rows_of rows) target xs.items
IsSolution m rows target (Excluded values) = IsExcluded m (rows_of rows) target values.items

-- for each target, in its place, what solves or excludes it
abbrev pub AreSolutions : {E V : Type 0} → Meaning E V → List (Row E) → List (Row E) → List (Solution E) → Type 0
AreSolutions m rows [] [] = ⊤
AreSolutions m rows [] (s ∷ ss) = ⊥
AreSolutions m rows (t ∷ ts) [] = ⊥
AreSolutions m rows (t ∷ ts) (s ∷ ss) = IsSolution m rows t.entries s × AreSolutions m rows ts ss

-- no target has both answers
abbrev pub AnswersExclude : {E V : Type 0} → Meaning E V → Type 0
AnswersExclude {E} {V} m = (rows : List (List (ℕ × E))) (target values : List (ℕ × E)) (xs : List E) → IsSolved m rows target xs → IsExcluded m rows target values → ⊥
