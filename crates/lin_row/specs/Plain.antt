-- The plain row reduction of rows that were extended by unit columns, as the numbers that it forms.
use Rattle.std.specs.Prelude.{◌≡◌, ◌≢◌, ℕ, suc, ◌+◌, ◌<◌, ◌≤◌, ◌^◌, ◌⊎◌, List, [], ◌∷◌, ◌++◌, ⊤, map}
use Rattle.ring_theory.specs.Scalars.{Scalars, Meaning}
use Rattle.lin_row.specs.Lines.{SumIsRefused, entry, unit_at}

-- where the reduction stands: the rows with a pivot, each with its column, and the others, all as their entries by column
pub record Stage (V : Type 0) : Type 0 where
  pub done : List (ℕ × (ℕ → V))
  pub rest : List (ℕ → V)

-- x plus f times y
abbrev pub plus_multiple : {V : Type 0} → Scalars V → (ℕ → V) → V → (ℕ → V) → ℕ → V
plus_multiple s x f y d = s.ops.add (x d) (s.ops.mul f (y d))

-- the pivot's row is scaled to 1 at the column c
abbrev pub scaled : {V : Type 0} → Scalars V → ℕ → (ℕ → V) → ℕ → V
scaled s c p d = s.ops.mul (s.inverse (p c)) (p d)

-- a row less the multiple of p that clears its entry at the column c
abbrev pub cleared : {V : Type 0} → Scalars V → ℕ → (ℕ → V) → (ℕ → V) → ℕ → V
cleared s c p x = plus_multiple s x (s.ops.neg (x c)) p

-- the same of a row with its column
abbrev pub cleared_pivot : {V : Type 0} → Scalars V → ℕ → (ℕ → V) → ℕ × (ℕ → V) → ℕ × (ℕ → V)
cleared_pivot s c p x = (x.0, cleared s c p x.1)

-- each row has entry 0 at the column d
abbrev pub AllZeroIn : {V : Type 0} → Scalars V → List (ℕ → V) → ℕ → Type 0
AllZeroIn s [] d = ⊤
AllZeroIn s (x ∷ xs) d = (x d ≡ s.ops.zero) × AllZeroIn s xs d

-- some column meets P
pub record InSome (P : ℕ → Type 0) : Type 0 where
  pub column : ℕ
  pub holds : P column

-- some element of the list meets P
abbrev pub Among : {X : Type 0} → (X → Type 0) → List X → Type 0
Among P [] = ⊥
Among P (x ∷ xs) = P x ⊎ Among P xs

-- p stands in rest between the parts before and after, and is the first row with an entry in the lowest column below u where a row has one
pub record IsNext {V : Type 0} (s : Scalars V) (u : ℕ) (rest before : List (ℕ → V)) (p : ℕ → V) (after : List (ℕ → V)) (c : ℕ) : Type 0 where
  pub parts : rest ≡ before ++ (p ∷ after)
  pub given : c < u
  pub entry : p c ≢ s.ops.zero
  pub first_row : AllZeroIn s before c
  pub first_column : (d : ℕ) → d < c → AllZeroIn s rest d

-- the stages of the plain row reduction: the next row is scaled to 1 at its column and subtracted from all other rows
pub data Reached {V : Type 0} (s : Scalars V) (u : ℕ) (rows : List (ℕ → V)) : Stage V → Type 0 where
  start : Reached s u rows (record { done = []; rest = rows })
  step : {g : Stage V} {before after : List (ℕ → V)} {p : ℕ → V} {c : ℕ} → Reached s u rows g → IsNext s u g.rest before p after c
      → Reached s u rows (record { done = map (cleared_pivot s c (scaled s c p)) g.done ++ ((c, scaled s c p) ∷ []); rest = map (cleared s c (scaled s c p)) (before ++ after) })

-- the next step forms a number that is high: the inverse of the pivot, a product with it, or a product or sum in another row
pub record StepIsHigh {V : Type 0} (s : Scalars V) (u : ℕ) (g : Stage V) : Type 0 where
  pub before : List (ℕ → V)
  pub after : List (ℕ → V)
  pub pivot : ℕ → V
  pub column : ℕ
  pub next : IsNext s u g.rest before pivot after column
  pub high : (2 ^ 120 ≤ s.inverse_height (pivot column))
      ⊎ ((InSome (λ d. 2 ^ 120 ≤ s.product_height (s.inverse (pivot column)) (pivot d)))
      ⊎ (Among (λ x. SumIsRefused s x.1 (s.ops.neg (x.1 column)) (scaled s column pivot)) g.done
      ⊎ Among (λ x. SumIsRefused s x (s.ops.neg (x column)) (scaled s column pivot)) (before ++ after)))

-- the height of the plain row reduction is 2^120 or more
pub record ReductionIsHigh {V : Type 0} (s : Scalars V) (u : ℕ) (rows : List (ℕ → V)) : Type 0 where
  pub stage : Stage V
  pub reached : Reached s u rows stage
  pub high : StepIsHigh s u stage

-- the target less the multiples of the reduced rows that clear its entries at their columns, one row after the other
abbrev pub reduced_target : {V : Type 0} → Scalars V → List (ℕ × (ℕ → V)) → (ℕ → V) → ℕ → V
reduced_target s [] t = t
reduced_target s (p ∷ ps) t = reduced_target s ps (cleared s p.0 p.1 t)

-- a product or a sum of these steps is high
abbrev pub ClearingIsHigh : {V : Type 0} → Scalars V → List (ℕ × (ℕ → V)) → (ℕ → V) → Type 0
ClearingIsHigh s [] t = ⊥
ClearingIsHigh s (p ∷ ps) t = SumIsRefused s t (s.ops.neg (t p.0)) p.1 ⊎ ClearingIsHigh s ps (cleared s p.0 p.1 t)

-- t has its first entry in a column below u, and its inverse or a product with an entry of a reduced row in that column is high
pub record DivisionIsHigh {V : Type 0} (s : Scalars V) (u : ℕ) (ps : List (ℕ × (ℕ → V))) (t : ℕ → V) : Type 0 where
  pub column : ℕ
  pub given : column < u
  pub entry : t column ≢ s.ops.zero
  pub first : (d : ℕ) → d < column → t d ≡ s.ops.zero
  pub high : (2 ^ 120 ≤ s.inverse_height (t column)) ⊎ Among (λ p. 2 ^ 120 ≤ s.product_height (s.inverse (t column)) (s.ops.neg (p.1 column))) ps

-- the plain row reduction came to an end, and the reduction of the target by its rows, or the division by its first entry left, is high
pub record TargetIsHigh {V : Type 0} (s : Scalars V) (u : ℕ) (rows : List (ℕ → V)) (t : ℕ → V) : Type 0 where
  pub stage : Stage V
  pub reached : Reached s u rows stage
  pub finished : (d : ℕ) → d < u → AllZeroIn s stage.rest d
  pub high : ClearingIsHigh s stage.done t ⊎ DivisionIsHigh s u stage.done (reduced_target s stage.done t)

-- rows by their entries, with entry 1 in a unit column of their own: the row with number i has it in the column u + k + i
abbrev pub units_added : {V : Type 0} → Scalars V → ℕ → ℕ → List (ℕ → V) → List (ℕ → V)
units_added s u k [] = []
units_added s u k (x ∷ xs) = (λ d. s.ops.add (x d) (unit_at s.ops (u + k) d)) ∷ units_added s u (suc k) xs

-- the same of rows
abbrev pub with_units : {E V : Type 0} → Meaning E V → ℕ → ℕ → List (List (ℕ × E)) → List (ℕ → V)
with_units m u k rows = units_added m.scalars u k (map (entry m) rows)

-- the plain row reduction came to an end, and the reduction of the target by its rows is high
pub record RemainderIsHigh {V : Type 0} (s : Scalars V) (u : ℕ) (rows : List (ℕ → V)) (t : ℕ → V) : Type 0 where
  pub stage : Stage V
  pub reached : Reached s u rows stage
  pub finished : (d : ℕ) → d < u → AllZeroIn s stage.rest d
  pub high : ClearingIsHigh s stage.done t

-- for rows and targets by their entries: the plain row reduction of the rows with unit columns from 2^32 on is high, or the reduction of a target
-- by its rows, or the division by the target's first entry left
abbrev pub EliminationIsHigh : {V : Type 0} → Scalars V → List (ℕ → V) → List (ℕ → V) → Type 0
EliminationIsHigh s rows targets = ReductionIsHigh s 4294967296 (units_added s 4294967296 0 rows) ⊎ Among (TargetIsHigh s 4294967296 (units_added s 4294967296 0 rows)) targets

-- the same without the division
abbrev pub ReductionOfIsHigh : {V : Type 0} → Scalars V → List (ℕ → V) → List (ℕ → V) → Type 0
ReductionOfIsHigh s rows targets = ReductionIsHigh s 4294967296 (units_added s 4294967296 0 rows) ⊎ Among (RemainderIsHigh s 4294967296 (units_added s 4294967296 0 rows)) targets
