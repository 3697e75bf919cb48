-- What the moves of the Hessian make of the terms of degree 2.
use Rattle.std.specs.Prelude.{◌≡◌, ◌≢◌, ℕ, ◌<◌, ◌≤◌, map}
use Rattle.ring_theory.specs.Scalars.{Scalars}
use Rattle.poly_law.specs.Polynomials.{Polynomial, StartsAtIn}
use Rattle.coord_change.specs.Moves.{at}
use Rattle.coord_change.specs.Carries.{carry}
use Rattle.move_law.specs.Moves.{pair_exponents}
use Rattle.move_law.specs.Split.{squares_in}
use Rattle.move_law.specs.Hessian.{entry, squares, hessian_move, corank}

-- up to degree 2, g is a sum of multiples of the squares of the variables from c on, none of them 0
pub record IsSumOfSquares {V : Type 0} (n : ℕ) (s : Scalars V) (c : ℕ) (g : Polynomial n V) : Type 0 where
  pub low : StartsAtIn n s.ops 2 g
  pub products : (i j : ℕ) → i < n → j < n → i ≢ j → at n s g (pair_exponents n i j) ≡ s.ops.zero
  pub residual : (i : ℕ) → i < c → at n s g (pair_exponents n i i) ≡ s.ops.zero
  pub squares : (i : ℕ) → c ≤ i → i < n → at n s g (pair_exponents n i i) ≢ s.ops.zero

-- f without terms of degree below 2, carried by the move of the Hessian: up to degree 2 the sum of the squares that were closed, in the order of closing
pub record IsDiagonalised {V : Type 0} (n : ℕ) (s : Scalars V) (f : Polynomial n V) : Type 0 where
  pub corank_at_most_n : corank n s f ≤ n
  pub sum : IsSumOfSquares n s (corank n s f) (carry n s 2 (hessian_move n s f) f)
  pub coefficients : let q = squares n s f in squares_in n s (corank n s f) (carry n s 2 (hessian_move n s f) f) ≡ map (λ i. entry n s q i i) q.closed

-- the move of the Hessian does so for every such f
abbrev pub HessianDiagonalises : {V : Type 0} → Scalars V → Type 0
HessianDiagonalises {V} s = (n : ℕ) (f : Polynomial n V) → StartsAtIn n s.ops 2 f → IsDiagonalised n s f
