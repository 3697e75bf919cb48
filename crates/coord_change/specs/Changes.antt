-- Changes of coordinates over a ring, and which products of their matrices are high.
use Rattle.std.specs.Prelude.{◌≡◌, ℕ, ◌+◌, ◌*◌, ◌<◌, ◌≤◌, ◌^◌, ◌⊎◌, List, length, map, get_or, All}
use Rattle.ring_theory.specs.Scalars.{Scalars, Meaning}
use Rattle.poly_law.specs.ExpList.{exps}
use Rattle.poly_law.specs.Poly.{IsInvertible}
use Rattle.mono_exp.specs.Exponents.{numbers_below}
use Rattle.jet_subst.specs.Parts.{IsPart, part_of}
use Rattle.jet_subst.specs.Substitutions.{IsSubstHigh}
use Rattle.coord_change.specs.declared.change.Change.{Change}

-- the entry in row i and column j of a matrix with n columns that stands row after row, and 0 past its end
abbrev pub entry_of : {E V : Type 0} → Meaning E V → ℕ → List E → ℕ → ℕ → V
entry_of m n entries i j = get_or (map m.value entries) (n * i + j) m.scalars.ops.zero

-- c is a change of coordinates in one to eight variables, of the order of its parts, with the inverse of its linear part
pub record IsChange {E V : Type 0} (m : Meaning E V) (c : Change E) : Type 0 where
  pub given : 0 < c.n
  pub at_most_8_variables : c.n ≤ 8
  pub order_at_most_17 : c.order ≤ 17
  pub count : length c.parts ≡ c.n
  pub parts : All (IsPart m c.n) c.parts
  pub orders : All (λ p. p.order ≡ c.order) c.parts
  pub elems : All m.is_elem c.inverse
  pub entries : length c.inverse ≡ c.n * c.n
  pub invertible : IsInvertible (exps c.n) m.scalars.ops (part_of c.n m.value c.parts) (entry_of m c.n c.inverse)

-- a product of entries of two matrices, or the sum of these, is high in row i and column j of the product b*a
pub record IsEntryHigh {V : Type 0} (s : Scalars V) (n : ℕ) (b a : ℕ → ℕ → V) (i j : ℕ) : Type 0 where
  pub high : ((t : ℕ) × (t < n) × (2 ^ 120 ≤ s.product_height (b i t) (a t j)))
      ⊎ (2 ^ 120 ≤ s.sum_height (map (λ t. s.ops.mul (b i t) (a t j)) (numbers_below n)))

-- an entry of the product b*a is high
pub record IsMatrixHigh {V : Type 0} (s : Scalars V) (n : ℕ) (b a : ℕ → ℕ → V) : Type 0 where
  pub row : ℕ
  pub column : ℕ
  pub row_inside : row < n
  pub column_inside : column < n
  pub entry : IsEntryHigh s n b a row column

-- the substitution of next into part i of first, cut at k, is high
pub record IsPartHigh {E V : Type 0} (m : Meaning E V) (k : ℕ) (first next : Change E) : Type 0 where
  pub part : ℕ
  pub inside : part < first.n
  pub high : IsSubstHigh (exps first.n) (exps first.n) m.scalars k (part_of first.n m.value next.parts) (part_of first.n m.value first.parts part)

-- the composition of two changes, cut at k, is high: the substitution into a part of the first is, or the product of the matrices
abbrev pub IsCompositionHigh : {E V : Type 0} (m : Meaning E V) (k : ℕ) (first next : Change E) → Type 0
IsCompositionHigh m k first next = IsPartHigh m k first next ⊎ IsMatrixHigh m.scalars first.n (entry_of m first.n next.inverse) (entry_of m first.n first.inverse)
