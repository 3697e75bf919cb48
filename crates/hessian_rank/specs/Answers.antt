-- What `diagonalise` answers.
use Rattle.std.specs.Prelude.{◌≡◌, ◌≢◌, ℕ, ◌-◌, map, length, All}
use Rattle.ring_theory.specs.Rational.{Rational}
use Rattle.ring_theory.specs.Height.{rational_scalars}
use Rattle.ring_law.specs.Fraction.{IsFrac, frac_value, rational_meaning}
use Rattle.poly_law.specs.Polynomials.{Polynomial}
use Rattle.coord_change.specs.Carries.{carry}
use Rattle.move_law.specs.Split.{squares_in}
use Rattle.move_law.specs.Hessian.{hessian_move, corank}
use Rattle.coord_change.specs.MoveJets.{IsMoveExactly}
use Rattle.hessian_rank.specs.Diagonals.{IsSumOfSquares}
use Rattle.hessian_rank.specs.declared.diagonal.Diagonal.{Diagonal}

-- the change is the move of the Hessian of f, of order 16, and the corank that of f; the squares are valid fractions, not zero, the coefficients of the
-- squares of the variables from the corank on in what the move makes of f, and up to degree 2 that is the sum of these squares
pub record IsDiagonal (n : ℕ) (f : Polynomial n Rational) (d : Diagonal) : Type 0 where
  pub change : IsMoveExactly rational_meaning n 16 (hessian_move n rational_scalars f) d.change
  pub corank : d.corank ≡ corank n rational_scalars f
  pub valid : All IsFrac d.squares
  pub squares : map frac_value d.squares ≡ squares_in n rational_scalars d.corank (carry n rational_scalars 2 (hessian_move n rational_scalars f) f)
  pub count : length d.squares ≡ n - d.corank
  pub units : All (λ x. frac_value x ≢ rational_scalars.ops.zero) d.squares
  pub sum : IsSumOfSquares n rational_scalars d.corank (carry n rational_scalars 2 (hessian_move n rational_scalars f) f)
