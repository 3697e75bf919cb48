-- Triangles: three points of a binary cubic of the triangle in a plane, and the linear forms that are the gradients of the triangle there.
use Rattle.std.specs.Prelude.{◌≡◌, ◌≢◌, ℕ, pos, negsuc, ◌*◌, ◌<ℤ◌, Bool, true, false, Option, List, [], ◌∷◌, map, get_or}
use Rattle.ring_theory.specs.Height.{rational_scalars}
use Rattle.ring_theory.specs.Rational.{Rational, rational, rational_ops}
use Rattle.ring_theory.specs.Scalars.{Scalars, sum_of}
use Rattle.poly_law.specs.ExpList.{ExpList}
use Rattle.poly_law.specs.Polynomials.{Polynomial, derivative_in}
use Rattle.mono_exp.specs.Exponents.{numbers_below}
use Rattle.ext_theory.specs.Extension.{Cubic, cubic_at}
use Rattle.ext_theory.specs.Roots.{HasNoRoot, IsLeastRootOf, IsNoSquare}
use Rattle.ring_formula.specs.declared.Summand.{Summand}
use Rattle.ring_formula.specs.Formulas.{formula_value, multiplied}
use Rattle.kill_law.specs.Kill.{first}
use Rattle.move_law.specs.Moves.{whole, over, minus}
use Rattle.move_law.specs.Shapes.{CubicShape, zero_cubic, cube, double, distinct, cubic_shape, nth}
use Rattle.ternary_law.specs.Matrices.{Matrix, places, unit_row, moved}
use Rattle.ext_algebra.specs.declared.algebra.Algebra.{Algebra}
use Rattle.move_law.specs.Algebras.{cubic_algebra, tower_algebra, root_of}
use Rattle.ext_algebra.specs.Algebra.{Value, scalars}
use Rattle.ext_theory.specs.Tower.{tower_s}
use Rattle.ternary_law.specs.Hessian.{summand}
use Rattle.ternary_law.specs.Pairs.{Pair, IsPair, pair_algebra, pair_roots}
use Rattle.ternary_law.specs.Cubics.{coef}

-- the discriminant a1^2 a2^2 - 4 a1^3 - 4 a2^3 a0 - 27 a0^2 + 18 a0 a1 a2 of t^3 + a2 t^2 + a1 t + a0, in the letters a0, a1, a2
abbrev pub cubic_discriminant : List Summand
cubic_discriminant =
    summand (pos 1) (0 ∷ 2 ∷ 2 ∷ []) ∷ summand (negsuc 3) (0 ∷ 3 ∷ 0 ∷ []) ∷ summand (negsuc 3) (1 ∷ 0 ∷ 3 ∷ [])
    ∷ summand (negsuc 26) (2 ∷ 0 ∷ 0 ∷ []) ∷ summand (pos 18) (1 ∷ 1 ∷ 1 ∷ []) ∷ []

-- the lines of a binary cubic are three different ones
abbrev pub is_distinct : {V : Type 0} → CubicShape V → Bool
is_distinct zero_cubic = false
is_distinct (cube l) = false
is_distinct (double l) = false
is_distinct distinct = true

module _ (f : Polynomial 3 Rational) where
  -- the rational numbers
  abbrev s : Scalars Rational
  s = rational_scalars

  -- z goes to m x + m^2 y
  abbrev pub slanted : ℕ → Matrix Rational
  slanted m = unit_row s 0 ∷ unit_row s 1 ∷ (whole s m ∷ whole s (m * m) ∷ s.ops.zero ∷ []) ∷ []

  -- the coefficients of the binary cubic r(x, y) = f(x, y, m x + m^2 y)
  unfoldable pub plane_section : ℕ → List Rational
  plane_section m = let r = moved s (slanted m) f in coef s r 3 0 0 ∷ coef s r 2 1 0 ∷ coef s r 1 2 0 ∷ coef s r 0 3 0 ∷ []

  -- the first of 0, .., 6 for which r has three different lines
  unfoldable pub slant : Option ℕ
  slant = first (λ m. is_distinct (cubic_shape s (plane_section m))) (numbers_below 7)

-- ---- three points (x, y) on which r = r0 x^3 + r1 x^2 y + r2 x y^2 + r3 y^3 is zero

-- how they are found: the first is (1, 0), or (θ, 1) with a rational θ, and the other two stand on a pair of lines; or all three stand in the field of r
pub data Points : Type 0 where
  at_corner : Pair → Points
  at_rational : Rational → Pair → Points
  -- with the square root of the discriminant, in a cyclic field
  cyclic : Rational → Points
  -- in a tower, where the discriminant is no square
  in_tower : Points

module _ (r : List Rational) where
  -- the rational numbers
  abbrev q : Scalars Rational
  q = rational_scalars

  -- the coefficient of x^3
  abbrev pub r0 : Rational
  r0 = nth q r 0

  -- p = r(t, 1)/r0 = t^3 + a2 t^2 + a1 t + a0
  abbrev pub modulus : Cubic Rational
  modulus = record { c0 = over q (nth q r 3) r0; c1 = over q (nth q r 2) r0; c2 = over q (nth q r 1) r0 }

  -- its discriminant
  abbrev pub discriminant : Rational
  discriminant = formula_value q (modulus.c0 ∷ modulus.c1 ∷ modulus.c2 ∷ []) cubic_discriminant

  -- the coefficients of the quotient of r by y, where r0 is 0
  abbrev pub quotient_by_y : List Rational
  quotient_by_y = nth q r 1 ∷ nth q r 2 ∷ nth q r 3 ∷ []

  -- the coefficients of the quotient of r by x - θ y
  abbrev pub quotient_by : Rational → List Rational
  quotient_by θ =
      let first = q.ops.add (nth q r 1) (q.ops.mul θ r0) in
      r0 ∷ first ∷ q.ops.add (nth q r 2) (q.ops.mul θ first) ∷ []

  -- r(t, 1) over its first coefficient, at a rational number
  abbrev pub modulus_at : Rational → Rational
  modulus_at = cubic_at rational_ops modulus

-- the pair rule's case for a quadratic form whose first coefficient is not zero
abbrev pub IsPairOf : List Rational → Pair → Type 0
IsPairOf c p = (nth rational_scalars c 0 ≢ rational_ops.zero) × IsPair c p

-- which of the ways holds
abbrev pub IsWay : List Rational → Points → Type 0
IsWay r (at_corner p) = (r0 r ≡ rational_ops.zero) × IsPairOf (quotient_by_y r) p
IsWay r (at_rational θ p) = (r0 r ≢ rational_ops.zero) × IsLeastRootOf (modulus_at r) θ × IsPairOf (quotient_by r θ) p
IsWay r (cyclic σ) = (r0 r ≢ rational_ops.zero) × HasNoRoot (modulus_at r) × (rational_ops.mul σ σ ≡ discriminant r) × (pos 0 <ℤ σ.num)
IsWay r in_tower = (r0 r ≢ rational_ops.zero) × HasNoRoot (modulus_at r) × IsNoSquare (discriminant r)

-- the algebra of the points
abbrev pub algebra_of : List Rational → Points → Algebra
algebra_of r (at_corner p) = pair_algebra (quotient_by_y r) p
algebra_of r (at_rational θ p) = pair_algebra (quotient_by r θ) p
algebra_of r (cyclic σ) = cubic_algebra (modulus r)
algebra_of r in_tower = tower_algebra (modulus r) (discriminant r)

module _ {V : Type 0} (v : Scalars V) where
  -- half of x
  abbrev pub half_of : V → V
  half_of x = v.ops.mul x (v.rational (rational (pos 1) 2))

  -- p'(t) = 3 t^2 + 2 a2 t + a1
  abbrev pub slope_at : (a2 a1 : Rational) → V → V
  slope_at a2 a1 t =
      v.ops.add (v.ops.add (v.ops.mul (whole v 3) (v.ops.mul t t)) (v.ops.mul (v.ops.mul (whole v 2) (v.rational a2)) t)) (v.rational a1)

  -- the three roots t, (-a2 - t + σ/p'(t))/2 and (-a2 - t - σ/p'(t))/2 of a cubic with the root t and the square root σ of its discriminant
  abbrev pub three_roots : (a2 a1 : Rational) → (t σ : V) → List V
  three_roots a2 a1 t σ =
      let rest = minus v (v.ops.neg (v.rational a2)) t in
      let w = over v σ (slope_at a2 a1 t) in
      t ∷ half_of (v.ops.add rest w) ∷ half_of (minus v rest w) ∷ []

  -- the points (θ, 1)
  abbrev pub with_one : List V → List (V × V)
  with_one θs = map (λ θ. (θ, v.ops.one)) θs

-- the two points of a pair of lines
abbrev pub points_of_pair : (c : List Rational) (p : Pair) → List (Value (pair_algebra c p) × Value (pair_algebra c p))
points_of_pair c p = let both = pair_roots c p in with_one (scalars (pair_algebra c p)) (both.0 ∷ both.1 ∷ [])

-- the three points of a way
unfoldable pub points : (r : List Rational) (way : Points) → List (Value (algebra_of r way) × Value (algebra_of r way))
points r (at_corner p) = let v = scalars (pair_algebra (quotient_by_y r) p) in (v.ops.one, v.ops.zero) ∷ points_of_pair (quotient_by_y r) p
points r (at_rational θ p) = let v = scalars (pair_algebra (quotient_by r θ) p) in (v.rational θ, v.ops.one) ∷ points_of_pair (quotient_by r θ) p
points r (cyclic σ) =
    let m = modulus r in
    let v = scalars (cubic_algebra m) in with_one v (three_roots v m.c2 m.c1 (root_of (cubic_algebra m)) (v.rational σ))
points r in_tower =
    let m = modulus r in
    let a = tower_algebra m (discriminant r) in with_one (scalars a) (three_roots (scalars a) m.c2 m.c1 (root_of a) (tower_s rational_ops))

-- ---- the gradients

module _ {V : Type 0} (v : Scalars V) where
  -- a term at (x, y, z): its coefficient times the powers of x, y and z, multiplied from the left
  abbrev pub term_at : (x y z : V) → ExpList 3 × V → V
  term_at x y z t = multiplied v (multiplied v (multiplied v t.1 x (get_or t.0.entries 0 0)) y (get_or t.0.entries 1 0)) z (get_or t.0.entries 2 0)

  -- a form at (x, y, z)
  abbrev pub form_at : (x y z : V) → Polynomial 3 V → V
  form_at x y z f = sum_of v.ops (map (term_at x y z) f)

  -- the third coordinate of the point above (x, y): m x + m^2 y
  abbrev pub height_above : ℕ → V × V → V
  height_above m p = v.ops.add (v.ops.mul (whole v m) p.0) (v.ops.mul (whole v (m * m)) p.1)

  -- the gradient of f at that point
  abbrev pub gradient : Polynomial 3 V → ℕ → V × V → List V
  gradient f m p = map (λ i. form_at p.0 p.1 (height_above m p) (derivative_in 3 v.ops i f)) places

  -- the matrix of the gradients at some points
  unfoldable pub gradients : Polynomial 3 V → ℕ → List (V × V) → Matrix V
  gradients f m ps = map (gradient f m) ps
