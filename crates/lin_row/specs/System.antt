-- Systems of rows with pivots, made one row at a time.
use Rattle.std.specs.Prelude.{◌≡◌, ◌≢◌, ℕ, zero, suc, ◌-◌, ◌<◌, ◌≤◌, List, [], ◌∷◌, ⊤, ◌⊎◌, cond, nat_lt}
use Rattle.std.proofs.Common.{Vec, Global}
use Rattle.ring_theory.specs.Scalars.{Scalars, Meaning}
use Rattle.lin_row.specs.Lines.{EachOf, IsLine, IsRising, AllBelow, lead_of, dot, entry}

-- new is a row and a multiple of another
pub record AddsMultiple {E V : Type 0} (m : Meaning E V) (row other new : List (ℕ × E)) : Type 0 where
  pub factor : V
  pub value : (w : ℕ → V) → dot m new w ≡ m.scalars.ops.add (dot m row w) (m.scalars.ops.mul factor (dot m other w))

-- new is old less the multiple of the pivot's row by old's entry at the column c
pub record IsClearing {E V : Type 0} (m : Meaning E V) (c : ℕ) (pivot old new : List (ℕ × E)) : Type 0 where
  pub line : IsLine m new
  pub value : (w : ℕ → V) → dot m new w ≡ m.scalars.ops.add (dot m old w) (m.scalars.ops.mul (m.scalars.ops.neg (entry m old c)) (dot m pivot w))

-- a row that begins with entry 1 at the column c
pub record IsPivot {E V : Type 0} (m : Meaning E V) (c : ℕ) (row : List (ℕ × E)) : Type 0 where
  pub line : IsLine m row
  pub one : entry m row c ≡ m.scalars.ops.one
  pub before : (d : ℕ) → d < c → entry m row d ≡ m.scalars.ops.zero

-- each row begins at its pivot
abbrev pub ArePivots : {E V : Type 0} → Meaning E V → List (ℕ × List (ℕ × E)) → Type 0
ArePivots m [] = ⊤
ArePivots m (p ∷ ps) = IsPivot m p.0 p.1 × ArePivots m ps

-- an echelon form: each row begins with 1 at its pivot, and the pivots rise
pub record AreEchelon {E V : Type 0} (m : Meaning E V) (ps : List (ℕ × List (ℕ × E))) : Type 0 where
  pub pivots : ArePivots m ps
  pub rising : IsRising ps

-- each row has entry 0 at the column c
abbrev pub AllZeroAt : {E V : Type 0} → Meaning E V → ℕ → List (ℕ × List (ℕ × E)) → Type 0
AllZeroAt m c [] = ⊤
AllZeroAt m c (p ∷ ps) = (entry m p.1 c ≡ m.scalars.ops.zero) × AllZeroAt m c ps

-- each row has its pivot, and those after it have entry 0 there
abbrev pub AreTriangular : {E V : Type 0} → Meaning E V → List (ℕ × List (ℕ × E)) → Type 0
AreTriangular m [] = ⊤
AreTriangular m (p ∷ ps) = IsPivot m p.0 p.1 × (AllZeroAt m p.0 ps × AreTriangular m ps)

-- a row has entry 0 at each pivot
abbrev pub IsCleared : {E V : Type 0} → Meaning E V → List (ℕ × List (ℕ × E)) → List (ℕ × E) → Type 0
IsCleared m [] row = ⊤
IsCleared m (p ∷ ps) row = (entry m row p.0 ≡ m.scalars.ops.zero) × IsCleared m ps row

-- each row has entry 0 at the pivots after its own
abbrev pub AreReduced : {E V : Type 0} → Meaning E V → List (ℕ × List (ℕ × E)) → Type 0
AreReduced m [] = ⊤
AreReduced m (p ∷ ps) = IsCleared m ps p.1 × AreReduced m ps

-- each row is 0 at the values w of the columns
abbrev pub AllVanish : {E V : Type 0} → Meaning E V → List (ℕ × List (ℕ × E)) → (ℕ → V) → Type 0
AllVanish m [] w = ⊤
AllVanish m (p ∷ ps) w = (dot m p.1 w ≡ m.scalars.ops.zero) × AllVanish m ps w

-- the same of given rows
abbrev pub RowsVanish : {E V : Type 0} → Meaning E V → List (List (ℕ × E)) → (ℕ → V) → Type 0
RowsVanish m [] w = ⊤
RowsVanish m (row ∷ rows) w = (dot m row w ≡ m.scalars.ops.zero) × RowsVanish m rows w

-- the value of the row with number j, and 0 where there is none
abbrev pub dot_at : {E V : Type 0} → Meaning E V → List (List (ℕ × E)) → ℕ → (ℕ → V) → V
dot_at m [] j w = m.scalars.ops.zero
dot_at m (row ∷ rows) zero w = dot m row w
dot_at m (row ∷ rows) (suc j) w = dot_at m rows j w

-- w on the columns below u, and at u + j the negative of the value of row j: each row with its own unit column vanishes there
abbrev pub against : {E V : Type 0} → Meaning E V → ℕ → List (List (ℕ × E)) → (ℕ → V) → ℕ → V
against m u rows w d = cond (nat_lt d u) (w d) (m.scalars.ops.neg (dot_at m rows (d - u) w))

-- the sum of coefficient times row
abbrev pub combination : {E V : Type 0} → Meaning E V → List V → List (List (ℕ × E)) → (ℕ → V) → V
combination m [] rows w = m.scalars.ops.zero
combination m (x ∷ xs) [] w = m.scalars.ops.zero
combination m (x ∷ xs) (row ∷ rows) w = m.scalars.ops.add (m.scalars.ops.mul x (dot m row w)) (combination m xs rows w)

-- pivots made of the first rows of a list: each with its combination in the columns from u on, and every value that they vanish at those rows do too
pub record IsSystem {E V : Type 0} (m : Meaning E V) (u : ℕ) (rows first : List (List (ℕ × E))) (pivots : List (ℕ × List (ℕ × E))) : Type 0 where
  pub echelon : AreEchelon m pivots
  pub below : AllBelow u pivots
  pub evidence : (w : ℕ → V) → AllVanish m pivots (against m u rows w)
  pub spans : (w : ℕ → V) → ((d : ℕ) → u ≤ d → w d ≡ m.scalars.ops.zero) → AllVanish m pivots w → RowsVanish m first w
  pub low : EachOf (AllBelow u) first

-- the pivots of code as lists
abbrev pub lines_of : {E : Type 0} → List (ℕ × Vec (ℕ × E) Global) → List (ℕ × List (ℕ × E))
lines_of [] = []
lines_of (p ∷ ps) = (p.0, p.1.items) ∷ lines_of ps

-- no entry stands in the column c
abbrev pub IsAbsent : {E : Type 0} → ℕ → List (ℕ × E) → Type 0
IsAbsent c [] = ⊤
IsAbsent c (t ∷ ts) = (t.0 ≢ c) × IsAbsent c ts

-- an entry x stands in the column c
abbrev pub IsPresent : {E : Type 0} → ℕ → E → List (ℕ × E) → Type 0
IsPresent c x [] = ⊥
IsPresent c x (t ∷ ts) = ((t.0 ≡ c) × (t.1 ≡ x)) ⊎ IsPresent c x ts

-- each coefficient is the negative of the row's entry, in the columns from c on
abbrev pub AreNegated : {E V : Type 0} → Meaning E V → List (ℕ × E) → ℕ → List E → Type 0
AreNegated m row c [] = ⊤
AreNegated m row c (x ∷ xs) = (m.value x ≡ m.scalars.ops.neg (entry m row c)) × AreNegated m row (suc c) xs

-- new values are the old ones but at the column c, where the row with entry 1 at c vanishes
pub record Settles {E V : Type 0} (m : Meaning E V) (c : ℕ) (row old new : List (ℕ × E)) : Type 0 where
  pub change : V
  pub value : (w : ℕ → V) → dot m new w ≡ m.scalars.ops.add (dot m old w) (m.scalars.ops.mul change (w c))
  pub vanish : dot m row (entry m new) ≡ m.scalars.ops.zero

-- w is 0 at each pivot's column
abbrev pub ZeroAtPivots : {X V : Type 0} → Scalars V → List (ℕ × X) → (ℕ → V) → Type 0
ZeroAtPivots s [] w = ⊤
ZeroAtPivots s (p ∷ ps) w = (w p.0 ≡ s.ops.zero) × ZeroAtPivots s ps w

-- values at which the pivots' rows vanish, and the row is 1; there are none beyond the columns of the pivots and the row's first one
pub record Excludes {E V : Type 0} (m : Meaning E V) (pivots : List (ℕ × List (ℕ × E))) (row values : List (ℕ × E)) : Type 0 where
  pub line : IsLine m values
  pub vanish : AllVanish m pivots (entry m values)
  pub one : dot m row (entry m values) ≡ m.scalars.ops.one
  pub beyond : (a : ℕ) → AllBelow a pivots → lead_of row < a → (d : ℕ) → a ≤ d → entry m values d ≡ m.scalars.ops.zero

-- the sum over the pivots of w at the pivot times the negative of its row's entry at the column c
abbrev pub front_value : {E V : Type 0} → Meaning E V → List (ℕ × List (ℕ × E)) → ℕ → (ℕ → V) → V
front_value m [] c w = m.scalars.ops.zero
front_value m (p ∷ ps) c w = m.scalars.ops.add (m.scalars.ops.mul (m.scalars.ops.neg (entry m p.1 c)) (w p.0)) (front_value m ps c w)
