-- How a jet is carried by moves, and how moves are composed.
use Rattle.std.specs.Prelude.{ℕ, List, [], ◌∷◌, map}
use Rattle.ring_theory.specs.Scalars.{Scalars}
use Rattle.poly_law.specs.Polynomials.{Polynomial, substitute}
use Rattle.jet_law.specs.Canonical.{jet}
use Rattle.coord_change.specs.Moves.{Move, put, identity}

module _ {V : Type 0} (n : ℕ) (s : Scalars V) where
  -- f with a move substituted, up to degree k
  unfoldable pub carry : ℕ → Move n V → Polynomial n V → Polynomial n V
  carry k move f = jet n s k (substitute n n s.ops (put n s move) f)

  -- f with several moves substituted, one after the other, each up to degree k
  abbrev pub carry_all : ℕ → List (Move n V) → Polynomial n V → Polynomial n V
  carry_all k [] f = f
  carry_all k (m ∷ ms) f = carry_all k ms (carry k m f)

  -- one move and then the next one, up to degree k: the next one is substituted in what the first puts
  unfoldable pub compose : ℕ → Move n V → Move n V → Move n V
  compose k first next = map (carry k next) first

  -- a move and then several others, up to degree k
  abbrev pub compose_all : ℕ → Move n V → List (Move n V) → Move n V
  compose_all k first [] = first
  compose_all k first (m ∷ ms) = compose_all k (compose k first m) ms

  -- the composite of several moves, up to degree k
  unfoldable pub composite : ℕ → List (Move n V) → Move n V
  composite k [] = identity n s
  composite k (m ∷ ms) = compose_all k (map (jet n s k) m) ms
