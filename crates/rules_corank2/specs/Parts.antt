-- The base parts in two variables, and their letters that are units.
use Rattle.std.specs.Prelude.{◌≢◌, ℕ, Bool, true, false, IsTrue, get_or}
use Rattle.ring_theory.specs.Scalars.{Scalars}
use Rattle.poly_law.specs.Polynomials.{Polynomial}
use Rattle.kill_law.specs.declared.part.Part.{Part}
use Rattle.kill_law.specs.declared.part.Part.TheVariants as parts
use Rattle.kill_law.specs.Kill.{letters_of}

-- a base part in two variables: one whose form is that of the lowest degree of the residual part of a jet
unfoldable pub is_base2 : Part → Bool
is_base2 parts.D4 = true
is_base2 parts.D = true
is_base2 parts.J = true
is_base2 parts.X9 = true
is_base2 parts.X = true
is_base2 parts.Y = true
is_base2 parts.Z = true
is_base2 parts.W = true
is_base2 _ = false

abbrev pub IsBase2 : Part → Type 0
IsBase2 p = IsTrue (is_base2 p)

-- the form of the base part has the letter a
unfoldable pub has_a : Part → Bool
has_a parts.X9 = false
has_a _ = true

-- and the letter b as a unit
unfoldable pub has_b : Part → Bool
has_b parts.D4 = true
has_b parts.X = true
has_b _ = false

-- the letters of a base part, as f has them, are not zero
pub record HaveUnits {V : Type 0} (n : ℕ) (s : Scalars V) (p : Part) (f : Polynomial n V) : Type 0 where
  pub a : IsTrue (has_a p) → get_or (letters_of n s p f) 0 s.ops.zero ≢ s.ops.zero
  pub b : IsTrue (has_b p) → get_or (letters_of n s p f) 1 s.ops.zero ≢ s.ops.zero
