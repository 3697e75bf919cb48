-- A matrix has an inverse, or takes a vector other than zero to zero.
use Rattle.std.specs.Prelude.{◌≡◌, ℕ, ◌*◌, List, length, All}
use Rattle.ring_theory.specs.Scalars.{Meaning}
use Rattle.coord_change.specs.Changes.{entry_of}
use Rattle.coord_change.specs.Inverses.{IsInverseMatrix, IsInKernel}
use Rattle.coord_change.specs.declared.inverse.Inversion.{Inversion}
use Rattle.coord_change.specs.declared.inverse.Inversion.TheVariants.{Inverse, Kernel}

-- a is the inverse of the matrix w with n rows, by its valid entries row after row
pub record IsInverseOf {E V : Type 0} (m : Meaning E V) (n : ℕ) (w : ℕ → ℕ → V) (a : List E) : Type 0 where
  pub elems : All m.is_elem a
  pub count : length a ≡ n * n
  pub inverse : IsInverseMatrix m.scalars.ops n w (entry_of m n a)

-- the inverse of the matrix w with n rows, or a vector other than zero that it takes to zero
abbrev pub IsInversion : {E V : Type 0} → Meaning E V → ℕ → (ℕ → ℕ → V) → Inversion E → Type 0
IsInversion m n w (Inverse a) = IsInverseOf m n w a.items
IsInversion m n w (Kernel v) = IsInKernel m n w v.items
