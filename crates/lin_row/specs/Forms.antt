-- The reduced echelon form of rows, and bases of kernels.
use Rattle.std.specs.Prelude.{◌≡◌, ◌≢◌, ℕ, ◌<◌, List, [], ◌∷◌, map}
use Rattle.ring_theory.specs.Scalars.{Meaning}
use Rattle.lin_row.specs.Lines.{IsLine, IsRising, AllBelow, EachOf, dot, entry}
use Rattle.lin_row.specs.System.{AreEchelon, AreReduced, AllVanish, RowsVanish, ZeroAtPivots, IsAbsent, combination}

-- the row is a combination of the rows
pub record IsCombination {E V : Type 0} (m : Meaning E V) (rows : List (List (ℕ × E))) (row : List (ℕ × E)) : Type 0 where
  pub coefficients : List V
  pub sum : (w : ℕ → V) → combination m coefficients rows w ≡ dot m row w

-- each row begins with 1 at its pivot, the pivots rise, and the other rows have 0 there
pub record IsReducedEchelon {E V : Type 0} (m : Meaning E V) (rows : List (List (ℕ × E))) : Type 0 where
  pub pivots : List (ℕ × List (ℕ × E))
  pub rows_are : map (λ p. p.1) pivots ≡ rows
  pub echelon : AreEchelon m pivots
  pub reduced : AreReduced m pivots

-- the reduced echelon form of the given rows: each of its rows is a combination of the given ones, and each given one of its rows
pub record IsReducedForm {E V : Type 0} (m : Meaning E V) (given answered : List (List (ℕ × E))) : Type 0 where
  pub form : IsReducedEchelon m answered
  pub spanned : EachOf (IsCombination m given) answered
  pub spans : EachOf (IsCombination m answered) given

-- a vector on which each row is 0, with 1 at its own column c, 0 after it, and 0 at the columns of the other vectors
pub record IsKernelVector {E V : Type 0} (m : Meaning E V) (given : List (List (ℕ × E))) (basis : List (ℕ × List (ℕ × E))) (c : ℕ) (vector : List (ℕ × E)) : Type 0 where
  pub line : IsLine m vector
  pub rows : RowsVanish m given (entry m vector)
  pub one : entry m vector c ≡ m.scalars.ops.one
  pub last : (d : ℕ) → c < d → entry m vector d ≡ m.scalars.ops.zero
  pub others : EachOf (λ b. b.0 ≢ c → entry m vector b.0 ≡ m.scalars.ops.zero) basis

-- the sum over the vectors of w at the vector's own column times the vector, at the column d
abbrev pub kernel_sum : {E V : Type 0} → Meaning E V → List (ℕ × List (ℕ × E)) → (ℕ → V) → ℕ → V
kernel_sum m [] w d = m.scalars.ops.zero
kernel_sum m (b ∷ bs) w d = m.scalars.ops.add (m.scalars.ops.mul (w b.0) (entry m b.1 d)) (kernel_sum m bs w d)

-- a basis of the vectors of n entries on which each row is 0: one for each column without pivot, in order
pub record IsKernelBasis {E V : Type 0} (m : Meaning E V) (given : List (List (ℕ × E))) (n : ℕ) (vectors : List (List (ℕ × E))) : Type 0 where
  pub basis : List (ℕ × List (ℕ × E))
  pub vectors_are : map (λ b. b.1) basis ≡ vectors
  pub rising : IsRising basis
  pub below : AllBelow n basis
  pub each : EachOf (λ b. IsKernelVector m given basis b.0 b.1) basis
  pub spans : (w : ℕ → V) → RowsVanish m given w → (d : ℕ) → d < n → w d ≡ kernel_sum m basis w d

-- a vector of the column b.0 without pivot: each pivot's row vanishes on it, and where w is 0 at the pivots it takes the value of w at its own column
pub record IsKernelPart {E V : Type 0} (m : Meaning E V) (ps : List (ℕ × List (ℕ × E))) (b : ℕ × List (ℕ × E)) : Type 0 where
  pub line : IsLine m b.1
  pub free : IsAbsent b.0 ps
  pub vanish : AllVanish m ps (entry m b.1)
  pub same : (w : ℕ → V) → ZeroAtPivots m.scalars ps w → dot m b.1 w ≡ w b.0
  pub last : (d : ℕ) → b.0 < d → entry m b.1 d ≡ m.scalars.ops.zero

-- such vectors of all columns without pivot below n, in order
pub record AreKernelParts {E V : Type 0} (m : Meaning E V) (ps : List (ℕ × List (ℕ × E))) (n : ℕ) (bs : List (ℕ × List (ℕ × E))) : Type 0 where
  pub parts : EachOf (IsKernelPart m ps) bs
  pub rising : IsRising bs
  pub below : AllBelow n bs
  pub complete : (d : ℕ) → d < n → IsAbsent d ps → IsAbsent d bs → ⊥
