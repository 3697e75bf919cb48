-- Rows of entries, seen as linear forms: a row gives to values of the columns the sum of entry times value.
use Rattle.std.specs.Prelude.{◌≡◌, ◌≢◌, ℕ, ◌<◌, ◌≤◌, ◌^◌, ◌⊎◌, List, [], ◌∷◌, ⊤, cond, eqb, nat_lt, length, get_or}
use Rattle.ring_theory.specs.Ring.{RingOps}
use Rattle.ring_theory.specs.Scalars.{Scalars, Meaning, SumIsHigh}

-- each column comes after c
abbrev pub AllAfter : {E : Type 0} → ℕ → List (ℕ × E) → Type 0
AllAfter c [] = ⊤
AllAfter c (t ∷ ts) = (c < t.0) × AllAfter c ts

-- the columns rise strictly
abbrev pub IsRising : {E : Type 0} → List (ℕ × E) → Type 0
IsRising [] = ⊤
IsRising (t ∷ ts) = AllAfter t.0 ts × IsRising ts

-- each entry is valid and not zero
abbrev pub AllUnits : {E V : Type 0} → Meaning E V → List (ℕ × E) → Type 0
AllUnits m [] = ⊤
AllUnits m (t ∷ ts) = (m.is_elem t.1 × (m.value t.1 ≢ m.scalars.ops.zero)) × AllUnits m ts

-- entries that are valid and not zero, in rising columns
pub record IsLine {E V : Type 0} (m : Meaning E V) (row : List (ℕ × E)) : Type 0 where
  pub rising : IsRising row
  pub units : AllUnits m row

-- the linear form of a row at values w of the columns: the sum of entry times value
abbrev pub dot : {E V : Type 0} → Meaning E V → List (ℕ × E) → (ℕ → V) → V
dot m [] w = m.scalars.ops.zero
dot m (t ∷ ts) w = m.scalars.ops.add (m.scalars.ops.mul (m.value t.1) (w t.0)) (dot m ts w)

-- 1 at the column c, and 0 at the others
abbrev pub unit_at : {V : Type 0} → RingOps V → ℕ → ℕ → V
unit_at r c d = cond (eqb c d) r.one r.zero

-- the entry of a row at a column
abbrev pub entry : {E V : Type 0} → Meaning E V → List (ℕ × E) → ℕ → V
entry m row c = dot m row (unit_at m.scalars.ops c)

-- a product or a sum of x + f*y is high, at some column
pub record SumIsRefused {V : Type 0} (s : Scalars V) (x : ℕ → V) (f : V) (y : ℕ → V) : Type 0 where
  pub column : ℕ
  pub high : (2 ^ 120 ≤ s.product_height f (y column)) ⊎ (2 ^ 120 ≤ s.sum_height (x column ∷ s.ops.mul f (y column) ∷ []))

-- each column is c or later
abbrev pub AllFrom : {E : Type 0} → ℕ → List (ℕ × E) → Type 0
AllFrom c [] = ⊤
AllFrom c (t ∷ ts) = (c ≤ t.0) × AllFrom c ts

-- each column is before c
abbrev pub AllBelow : {E : Type 0} → ℕ → List (ℕ × E) → Type 0
AllBelow c [] = ⊤
AllBelow c (t ∷ ts) = (t.0 < c) × AllBelow c ts

-- the entries before the first column from u on
abbrev pub given_part : {E : Type 0} → ℕ → List (ℕ × E) → List (ℕ × E)
given_part u [] = []
given_part u (t ∷ ts) = cond (nat_lt t.0 u) (t ∷ given_part u ts) []

-- the first column, and 2^64 - 1 where there is none
abbrev pub lead_of : {E : Type 0} → List (ℕ × E) → ℕ
lead_of [] = 18446744073709551615
lead_of (t ∷ ts) = t.0

-- each element of a list meets P
abbrev pub EachOf : {X : Type 0} → (X → Type 0) → List X → Type 0
EachOf P [] = ⊤
EachOf P (x ∷ xs) = P x × EachOf P xs

-- no entry stands before the column c at the front
abbrev pub StartsFrom : {E : Type 0} → ℕ → List (ℕ × E) → Type 0
StartsFrom c [] = ⊤
StartsFrom c (t ∷ ts) = c ≤ t.0

-- the sum with an entry of the row in that column is high
pub record EntryRefused {E V : Type 0} (m : Meaning E V) (row : List (ℕ × E)) (c : ℕ) (x : V) : Type 0 where
  pub place : ℕ
  pub at : ℕ × E
  pub within : place < length row
  pub read : at ≡ get_or row place at
  pub column : at.0 ≡ c
  pub high : SumIsHigh m.scalars (m.value at.1) x
