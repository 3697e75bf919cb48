-- Linear changes of the first two variables, by their matrices.
use Rattle.std.specs.Prelude.{◌≡◌, ℕ, zero, suc, ◌*◌, ◌<◌, List, length, All}
use Rattle.ring_theory.specs.Scalars.{Scalars, Meaning}
use Rattle.poly_law.specs.Sums.{unit_at}
use Rattle.coord_change.specs.Changes.{entry_of}

module _ {V : Type 0} (s : Scalars V) where
  -- the row u, v, 0, .., 0
  abbrev pub row_of_two : (u v : V) → ℕ → V
  row_of_two u v zero = u
  row_of_two u v (suc zero) = v
  row_of_two u v (suc (suc j)) = s.ops.zero

  -- the matrix that puts a x + b y for x and c x + d y for y, while all other variables stay
  abbrev pub plane_of : (a b c d : V) → ℕ → ℕ → V
  plane_of a b c d zero = row_of_two a b
  plane_of a b c d (suc zero) = row_of_two c d
  plane_of a b c d (suc (suc i)) = unit_at s.ops (suc (suc i))

  -- it takes no vector but 0 to 0
  abbrev pub IsRegularPlane : (a b c d : V) → Type 0
  IsRegularPlane a b c d = (p q : V) → s.ops.add (s.ops.mul a p) (s.ops.mul b q) ≡ s.ops.zero → s.ops.add (s.ops.mul c p) (s.ops.mul d q) ≡ s.ops.zero
      → (p ≡ s.ops.zero) × (q ≡ s.ops.zero)

-- the entries, row after row, are those of the matrix w with n rows
pub record HasMatrix {E V : Type 0} (m : Meaning E V) (n : ℕ) (w : ℕ → ℕ → V) (entries : List E) : Type 0 where
  pub elems : All m.is_elem entries
  pub count : length entries ≡ n * n
  pub same : (i j : ℕ) → i < n → j < n → entry_of m n entries i j ≡ w i j
