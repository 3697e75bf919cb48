-- Moves over the rational numbers that bring a cubic to given monomials.
use Rattle.std.specs.Prelude.{◌≡◌, ◌≢◌, ℕ, false, Option, Some, None, List}
use Rattle.ring_theory.specs.Height.{rational_scalars}
use Rattle.ring_theory.specs.Rational.{Rational, rational_ops}
use Rattle.ring_theory.specs.Scalars.{Scalars}
use Rattle.ring_law.specs.Fraction.{rational_meaning}
use Rattle.ring_law.specs.declared.fraction.Frac.{Frac}
use Rattle.poly_law.specs.Polynomials.{Polynomial}
use Rattle.lin_row.specs.Lines.{EachOf}
use Rattle.coord_change.specs.declared.change.Change.{Change}
use Rattle.coord_change.specs.MoveJets.{IsMoveExactly}
use Rattle.ternary_law.specs.Matrices.{Matrix, linear_move, moved}
use Rattle.ternary_law.specs.Cubics.{HasMonomials}
use Rattle.ternary_law.specs.Routes.{Step, reached, matrix_after, matrix_by, divisors, IsPassable, Reaches}
use Rattle.ternary_law.specs.Rules.{cone_section, repeated_steps}
use Rattle.ternary_law.specs.Triangle.{is_distinct}
use Rattle.move_law.specs.Shapes.{cubic_shape}
use Rattle.tern_cubic.specs.Moving.{IsSingular, inverse_matrix}

-- the rational numbers
abbrev q : Scalars Rational
q = rational_scalars

-- the move of the matrix a and the steps after it, none of whose divisors is zero, which brings g to exactly these monomials; or none
module _ (g : Polynomial 3 Rational) (a : Matrix Rational) (steps : List (Step Rational)) (monomials : List (List ℕ)) where
  abbrev pub IsReachedBy : Option (Change Frac) → Type 0
  IsReachedBy (Some c) =
      IsMoveExactly rational_meaning 3 16 (linear_move 3 q (matrix_after q a steps (moved q a g))) c
      × EachOf (λ d. d ≢ rational_ops.zero) (divisors q steps (moved q a g)) × HasMonomials monomials (reached q steps (moved q a g))
  IsReachedBy None =
      EachOf (λ d. d ≢ rational_ops.zero) (divisors q steps (moved q a g)) → HasMonomials monomials (reached q steps (moved q a g))
      → IsSingular q (matrix_after q a steps (moved q a g))

-- the move of steps that bring g to exactly these monomials, with the inverse of its matrix; or none, where the steps do not do so
module _ (g : Polynomial 3 Rational) (steps : List (Step Rational)) (monomials : List (List ℕ)) where
  abbrev pub IsRationalMove : Option (Change Frac) → Type 0
  IsRationalMove (Some c) =
      IsMoveExactly rational_meaning 3 16 (linear_move 3 q (matrix_by q steps g)) c × Reaches g steps monomials (inverse_matrix rational_meaning c)
  IsRationalMove None = (inverse : Matrix Rational) → Reaches g steps monomials inverse → ⊥

-- the move of a cubic in fewer variables with a repeated line, by the vector v, with the inverse of its matrix; or none, where the lines are three
-- different ones or there is no such move
abbrev pub IsRepeatedMove : Polynomial 3 Rational → (ℕ → Rational) → Option (Change Frac) → Type 0
IsRepeatedMove g v (Some c) =
    (is_distinct (cubic_shape q (cone_section g v)) ≡ false)
    × IsMoveExactly rational_meaning 3 16 (linear_move 3 q (matrix_by q (repeated_steps g v) g)) c
    × IsPassable g (repeated_steps g v) (inverse_matrix rational_meaning c)
IsRepeatedMove g v None = is_distinct (cubic_shape q (cone_section g v)) ≡ false → (inverse : Matrix Rational) → IsPassable g (repeated_steps g v) inverse → ⊥
