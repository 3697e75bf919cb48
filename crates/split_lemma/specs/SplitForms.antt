-- Split forms, and what the split move of a degree makes of a polynomial. The square variables are those from c on, the residual ones the first c.
-- Source of the splitting lemma: V. I. Arnold, S. M. Gusein-Zade, A. N. Varchenko, Singularities of Differentiable Maps, volume 1.
use Rattle.std.specs.Prelude.{◌≡◌, ◌≢◌, ℕ, suc, ◌<◌, ◌≤◌}
use Rattle.std.specs.List.{AllByRecursion}
use Rattle.ring_theory.specs.Scalars.{Scalars}
use Rattle.poly_law.specs.Exps.{degree}
use Rattle.poly_law.specs.ExpList.{ExpList, exps}
use Rattle.poly_law.specs.Poly.{IsSplit, square}
use Rattle.poly_law.specs.Polynomials.{Polynomial, SameIn, SameToIn, StartsAtIn, coefficient_in, cut_in}
use Rattle.coord_change.specs.Carries.{carry}
use Rattle.move_law.specs.Moves.{residual}
use Rattle.move_law.specs.Split.{split_move, squares_in}

module _ {V : Type 0} (n : ℕ) (s : Scalars V) (c : ℕ) where
  -- f is split up to degree k: no monomial of degree at most k has a square variable, but the squares of these
  abbrev pub IsSplitUpTo : ℕ → Polynomial n V → Type 0
  IsSplitUpTo k f = (m : ExpList n) (w : ℕ) → c ≤ w → w < n → 0 < (exps n).at m w → (m ≡ square (exps n) (exps c) s.ops w → ⊥) → degree (exps n) m ≤ k
      → coefficient_in n s.ops f m ≡ s.ops.zero

  -- the coefficients of the squares of the square variables are not 0
  abbrev pub HasSquares : Polynomial n V → Type 0
  HasSquares f = AllByRecursion (λ v. v ≢ s.ops.zero) (squares_in n s c f)

  -- f carried by its split move of degree d, up to degree d
  abbrev pub split_off : ℕ → Polynomial n V → Polynomial n V
  split_off d f = carry n s d (split_move n s c d (squares_in n s c f) f) f

  -- the split move of degree o + 1 keeps all coefficients of degree at most o, those of the squares, and the residual part up to degree o + 1
  pub record IsKeptBySplit (o : ℕ) (f : Polynomial n V) : Type 0 where
    pub below : SameToIn n s.ops o (split_off (suc o) f) f
    pub squares : squares_in n s c (split_off (suc o) f) ≡ squares_in n s c f
    pub residual_part : IsSplitUpTo 2 f → residual n s c (suc o) (split_off (suc o) f) ≡ residual n s c (suc o) f

module _ {V : Type 0} (s : Scalars V) where
  -- the splitting lemma in one degree: f without terms of degree below 2, split up to degree o, the coefficients of the squares not 0, carried by its split
  -- move of degree o + 1, is split up to degree o + 1
  abbrev pub SplitSplits : Type 0
  SplitSplits = (n c o : ℕ) → 2 ≤ o → (f : Polynomial n V) → StartsAtIn n s.ops 2 f → IsSplitUpTo n s c o f → HasSquares n s c f
      → IsSplitUpTo n s c (suc o) (split_off n s c (suc o) f)

  -- and what it keeps, where f has no terms of degree below 2
  abbrev pub SplitKeeps : Type 0
  SplitKeeps = (n c o : ℕ) → c ≤ n → 2 ≤ o → (f : Polynomial n V) → StartsAtIn n s.ops 2 f → IsKeptBySplit n s c o f

  -- f that has no terms of degree above k and is split up to degree k is its residual part up to degree k plus multiples of the squares
  abbrev pub SplitFormsAreSplit : Type 0
  SplitFormsAreSplit = (n c k : ℕ) → c ≤ n → (f : Polynomial n V) → SameIn n s.ops (cut_in n s.ops k f) f → IsSplitUpTo n s c k f
      → IsSplit (exps n) (exps c) s.ops f (residual n s c k f)

  -- the residual part has no terms of degree below d where f has none
  abbrev pub ResidualLow : Type 0
  ResidualLow = (n c k d : ℕ) → c ≤ n → (f : Polynomial n V) → StartsAtIn n s.ops d f → StartsAtIn c s.ops d (residual n s c k f)

  -- the coefficients of the squares are those of degree 2
  abbrev pub SquaresAgree : Type 0
  SquaresAgree = (n c : ℕ) (f g : Polynomial n V) → SameToIn n s.ops 2 f g → squares_in n s c f ≡ squares_in n s c g
