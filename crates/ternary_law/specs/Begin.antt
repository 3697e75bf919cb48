-- What the linear move of a ternary cubic finds in a carried jet in n variables, of which the first three are the residual ones.
use Rattle.std.specs.Prelude.{ℕ}
use Rattle.ring_theory.specs.Height.{rational_scalars}
use Rattle.ring_theory.specs.Rational.{Rational}
use Rattle.poly_law.specs.Polynomials.{Polynomial}
use Rattle.normal_forms.specs.declared.pattern.Pattern.TheVariants as patterns
use Rattle.kill_law.specs.declared.part.Part.{Part}
use Rattle.kill_law.specs.declared.part.Part.TheVariants as parts
use Rattle.coord_change.specs.Moves.{identity}
use Rattle.move_law.specs.Binary.{Begun, unknown, past, found}
use Rattle.ternary_law.specs.Matrices.{linear_move}
use Rattle.move_law.specs.Algebras.{rationals}
use Rattle.ext_algebra.specs.Algebra.{scalars}
use Rattle.ternary_law.specs.Cubics.{cubic_coefficients}
use Rattle.ternary_law.specs.Routes.{LinearMove}
use Rattle.ternary_law.specs.Shapes.{Shape, no_form, repeated, concurrent, smooth, node, cusp, conic_secant, conic_tangent, triangle, other, HasShape}
use Rattle.ternary_law.specs.Heights.{IsShapeHigh}

module _ (n : ℕ) where
  -- a part after the linear move
  abbrev pub found_by : Part → LinearMove → Begun n
  found_by p m = found m.algebra p (linear_move n (scalars m.algebra) m.matrix)

  -- what each shape gives
  abbrev pub begun_of : Shape → Begun n
  begun_of no_form = past patterns.V (identity n rational_scalars)
  begun_of (repeated matrix inverse) = past patterns.V (linear_move n rational_scalars matrix)
  begun_of (concurrent m) = found_by parts.U m
  begun_of smooth = found rationals parts.P8 (identity n rational_scalars)
  begun_of (node m) = found_by parts.T m
  begun_of (cusp m) = found_by parts.Q m
  begun_of (conic_secant m) = found_by parts.T m
  begun_of (conic_tangent m) = found_by parts.S m
  begun_of (triangle m) = found_by parts.T m
  begun_of other = unknown

  -- the linear move of f finds this
  pub data Begins (f : Polynomial n Rational) : Begun n → Type 0 where
    by_shape : {t : Shape} → HasShape (cubic_coefficients rational_scalars n f) t → Begins f (begun_of t)

  -- some number of its formulas, roots, moves and their composites has height at least 2^120
  abbrev pub IsBeginHigh : Polynomial n Rational → Type 0
  IsBeginHigh f = IsShapeHigh (cubic_coefficients rational_scalars n f)
