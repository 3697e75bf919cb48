-- When carrying a jet by moves, or composing them, forms a number of height at least 2^120.
use Rattle.std.specs.Prelude.{ℕ, ◌<◌, ◌⊎◌, List, [], ◌∷◌}
use Rattle.ring_theory.specs.Scalars.{Scalars}
use Rattle.poly_law.specs.ExpList.{exps}
use Rattle.poly_law.specs.Polynomials.{Polynomial}
use Rattle.jet_subst.specs.Substitutions.{IsSubstHigh}
use Rattle.coord_change.specs.Changes.{IsMatrixHigh}
use Rattle.coord_change.specs.Inverses.{IsInverseMatrix}
use Rattle.coord_change.specs.Moves.{Move, put, linear_part}
use Rattle.coord_change.specs.Carries.{carry, compose}

module _ {V : Type 0} (n : ℕ) (s : Scalars V) where
  -- substituting a move in f up to degree k is high
  abbrev pub IsCarryHigh : ℕ → Move n V → Polynomial n V → Type 0
  IsCarryHigh k move f = IsSubstHigh (exps n) (exps n) s k (put n s move) f

  -- substituting some of the moves, one after the other, in f, each up to degree k, is high
  abbrev pub IsCarryAllHigh : ℕ → List (Move n V) → Polynomial n V → Type 0
  IsCarryAllHigh k [] f = ⊥
  IsCarryAllHigh k (m ∷ ms) f = IsCarryHigh k m f ⊎ IsCarryAllHigh k ms (carry n s k m f)

  -- substituting the next move in what the first puts for some variable is high
  pub record IsComposedPartHigh (k : ℕ) (first next : Move n V) : Type 0 where
    pub variable : ℕ
    pub inside : variable < n
    pub high : IsCarryHigh k next (put n s first variable)

  -- the product of the inverses of the linear parts is high
  pub record IsInverseProductHigh (first next : Move n V) : Type 0 where
    pub first_inverse : ℕ → ℕ → V
    pub next_inverse : ℕ → ℕ → V
    pub first_is : IsInverseMatrix s.ops n (linear_part n s first) first_inverse
    pub next_is : IsInverseMatrix s.ops n (linear_part n s next) next_inverse
    pub high : IsMatrixHigh s n next_inverse first_inverse

  -- composing two moves, up to degree k, with the inverses of their linear parts is high
  abbrev pub IsComposeHigh : ℕ → Move n V → Move n V → Type 0
  IsComposeHigh k first next = IsComposedPartHigh k first next ⊎ IsInverseProductHigh first next

  -- composing a move with several others, one after the other, is high
  abbrev pub IsComposeAllHigh : ℕ → Move n V → List (Move n V) → Type 0
  IsComposeAllHigh k first [] = ⊥
  IsComposeAllHigh k first (m ∷ ms) = IsComposeHigh k first m ⊎ IsComposeAllHigh k (compose n s k first m) ms

  -- the composite of several moves, up to degree k, is high
  abbrev pub IsCompositeHigh : ℕ → List (Move n V) → Type 0
  IsCompositeHigh k [] = ⊥
  IsCompositeHigh k (m ∷ ms) = IsComposeAllHigh k m ms
