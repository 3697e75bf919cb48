-- Matrices and vectors of the program, by the numbers that their entries stand for.
use Rattle.std.specs.Prelude.{◌≡◌, ℕ, ◌==◌, if◌then◌else◌, List, map, get_or}
use Rattle.std.specs.List.{All}
use Rattle.ring_theory.specs.Scalars.{Scalars, Meaning}
use Rattle.move_law.specs.Moves.{over}
use Rattle.ternary_law.specs.Matrices.{Matrix}
use Rattle.ternary_law.specs.Steps.{partner}

module _ {E V : Type 0} (m : Meaning E V) where
  -- the vector with these entries, by the place, and 0 past its end
  abbrev pub vector_of : List E → ℕ → V
  vector_of v i = get_or (map m.value v) i m.scalars.ops.zero

  -- the entries are valid and stand for the row w
  pub record IsRow (w : List V) (row : List E) : Type 0 where
    pub elems : All m.is_elem row
    pub values : map m.value row ≡ w

  -- the entries are valid and stand for the matrix w
  pub record IsMatrix (w : Matrix V) (rows : List (List E)) : Type 0 where
    pub elems : All (All m.is_elem) rows
    pub values : map (map m.value) rows ≡ w

module _ {V : Type 0} (s : Scalars V) where
  -- the entry in row i and column k of a matrix whose column p has x in this row, while the other new variables, in order, have the unit columns of
  -- the places other than j
  abbrev pub axis_entry_of : (p j : ℕ) → V → (i k : ℕ) → V
  axis_entry_of p j x i k = if k == p then x else (if i == partner p j k then s.ops.one else s.ops.zero)

  -- the entry in column k of the row i of the plane rule for l, in which l stands as the new variable p
  abbrev pub pivot_entry_of : (p i : ℕ) → (ℕ → V) → ℕ → V
  pivot_entry_of p i l k = if k == p then s.ops.one else s.ops.neg (over s (l (partner p i k)) (l i))
