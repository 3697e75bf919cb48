-- The linear moves of ternary cubics, step by step, by the vectors and lines that they are made from.
use Rattle.std.specs.Prelude.{ℕ, ◌+◌, ◌==◌, not, if◌then◌else◌, List, map, filter, get_or}
use Rattle.ring_theory.specs.Scalars.{Scalars}
use Rattle.poly_law.specs.Polynomials.{Polynomial}
use Rattle.move_law.specs.Moves.{whole, over}
use Rattle.coord_change.specs.Moves.{at}
use Rattle.ternary_law.specs.Matrices.{Matrix, places, matrix_of, unit_row, unit_matrix, two_in_row, with_row}
use Rattle.ternary_law.specs.Cubics.{coef}

-- the two other places, in order
abbrev pub other_places : ℕ → List ℕ
other_places p = filter (λ k. not (k == p)) places

-- the element of the other places of q that stands where k stands in the other places of p
abbrev pub partner : (p q k : ℕ) → ℕ
partner p q k = if k == get_or (other_places p) 0 3 then get_or (other_places q) 0 3 else get_or (other_places q) 1 3

module _ {V : Type 0} (s : Scalars V) where
  -- the last place where a vector is not zero
  abbrev pub last_place : (ℕ → V) → ℕ
  last_place v = if not (s.is_zero (v 2)) then 2 else (if not (s.is_zero (v 1)) then 1 else 0)

  -- the first place where a vector is not zero
  abbrev pub first_place : (ℕ → V) → ℕ
  first_place v = if not (s.is_zero (v 0)) then 0 else (if not (s.is_zero (v 1)) then 1 else 2)

  -- Axis rule: with v scaled to 1 at its last coefficient that is not zero, at the place j, the new variable p gets the column v; the other two new variables,
  -- in order, get the unit columns of the two other places, in order.
  unfoldable pub axis_matrix : ℕ → (ℕ → V) → Matrix V
  axis_matrix p v =
      let j = last_place v in
      matrix_of s (λ i k. if k == p then over s (v i) (v j) else (if i == partner p j k then s.ops.one else s.ops.zero))

  -- Plane rule: with l scaled to 1 at its first coefficient that is not zero, at the place i, l becomes the new variable p; the other new variables, in order, are
  -- the other old ones, in order.
  unfoldable pub plane_matrix : ℕ → (ℕ → V) → Matrix V
  plane_matrix p l =
      let i = first_place l in
      matrix_of s (λ o k.
      if o == i then (if k == p then s.ops.one else s.ops.neg (over s (l (partner p i k)) (l i)))
      else (if k == p then s.ops.zero else (if o == partner p i k then s.ops.one else s.ops.zero)))

  -- the coefficient of x_i^2 x_j
  abbrev pub square_times : Polynomial 3 V → (i j : ℕ) → V
  square_times f i j = at 3 s f (map (λ k. (if k == i then 2 else 0) + (if k == j then 1 else 0)) places)

  -- the first variable whose cube stands in f: 0, 1, or else 2
  abbrev pub first_cube : Polynomial 3 V → ℕ
  first_cube f = first_place (λ i. square_times f i i)

  -- three times the coefficient of that cube
  abbrev pub triple_cube : Polynomial 3 V → V
  triple_cube f = s.ops.mul (whole s 3) (square_times f (first_cube f) (first_cube f))

  -- the line of a multiple of the cube of a line: 1 at the first variable x_i whose cube is there, and coef(x_i^2 x_j) / (3 coef(x_i^3)) at j
  abbrev pub line_of_cube : Polynomial 3 V → ℕ → V
  line_of_cube f j = if j == first_cube f then s.ops.one else over s (square_times f (first_cube f) j) (triple_cube f)

  -- the row that takes a from variable j and b from variable k in variable i, for the three places i, j, k
  abbrev pub less_row : (i j k : ℕ) → V → V → List V
  less_row i j k a b = map (λ p. if p == i then s.ops.one else (if p == j then s.ops.neg a else s.ops.neg b)) places

  -- the matrix with one row that is not a unit row: x_i goes to x_i - a x_j - b x_k
  abbrev pub shear : (i j k : ℕ) → V → V → Matrix V
  shear i j k a b = with_row s i (less_row i j k a b) (unit_matrix s)

  -- ---- the steps after the first linear move of a rule, each by the cubic that it is made for, with its divisors

  -- Node, after the pair rule: with κ the coefficient of x y z, z goes to z - (coef(x^2 y)/κ) x - (coef(x y^2)/κ) y
  abbrev pub node_divisor : Polynomial 3 V → V
  node_divisor f = coef s f 1 1 1

  -- the matrix of that
  unfoldable pub node_step : Polynomial 3 V → Matrix V
  node_step f = let k = node_divisor f in shear 2 0 1 (over s (coef s f 2 1 0) k) (over s (coef s f 1 2 0) k)

  -- ConicSecant, after the pair rule: with κ the coefficient of x y z, y goes to y - (coef(x^2 z)/κ) x and z to z - (coef(x^2 y)/κ) x
  unfoldable pub secant_step : Polynomial 3 V → Matrix V
  secant_step f =
      let k = node_divisor f in
      with_row s 1 (less_row 1 0 2 (over s (coef s f 2 0 1) k) s.ops.zero) (with_row s 2 (less_row 2 0 1 (over s (coef s f 2 1 0) k) s.ops.zero) (unit_matrix s))

  -- with q0 and q1 given: where q0 is not 0, x goes to x_p - q1/(2 q0) x and x_p to x
  unfoldable pub swap_step : ℕ → (q0 q1 : V) → Matrix V
  swap_step p q0 q1 =
      if s.is_zero q0 then unit_matrix s
      else with_row s 0 (two_in_row s 0 (s.ops.neg (over s q1 (s.ops.mul (whole s 2) q0))) p s.ops.one) (with_row s p (unit_row s 0) (unit_matrix s))

  -- Cusp, after the axis rule: the step of y*(q0 x^2 + q1 x z + q2 z^2), with z; then x goes to x - coef(x^2 z)/(3 coef(x^3)) z;
  -- then, with κ the coefficient of y z^2, y goes to y - (coef(x z^2)/κ) x - (coef(z^3)/κ) z
  abbrev pub cusp_first : Polynomial 3 V → Matrix V
  cusp_first f = swap_step 2 (coef s f 2 1 0) (coef s f 1 1 1)

  -- 3 coef(x^3)
  abbrev pub cusp_second_divisor : Polynomial 3 V → V
  cusp_second_divisor f = s.ops.mul (whole s 3) (coef s f 3 0 0)

  -- the second step of a cusp
  unfoldable pub cusp_second : Polynomial 3 V → Matrix V
  cusp_second f = shear 0 2 1 (over s (coef s f 2 0 1) (cusp_second_divisor f)) s.ops.zero

  -- coef(y z^2)
  abbrev pub cusp_third_divisor : Polynomial 3 V → V
  cusp_third_divisor f = coef s f 0 1 2

  -- the third step of a cusp
  unfoldable pub cusp_third : Polynomial 3 V → Matrix V
  cusp_third f = let k = cusp_third_divisor f in shear 1 0 2 (over s (coef s f 1 0 2) k) (over s (coef s f 0 0 3) k)

  -- ConicTangent, after the plane rule: the step of z*(q0 x^2 + q1 x y + q2 y^2), with y; then, with κ the coefficient of y^2 z,
  -- y goes to y - coef(y z^2)/(2κ) z; then x goes to x - coef(z^3)/coef(x z^2) z
  abbrev pub tangent_first : Polynomial 3 V → Matrix V
  tangent_first f = swap_step 1 (coef s f 2 0 1) (coef s f 1 1 1)

  -- 2 coef(y^2 z)
  abbrev pub tangent_second_divisor : Polynomial 3 V → V
  tangent_second_divisor f = s.ops.mul (whole s 2) (coef s f 0 2 1)

  -- the second step of a conic with a tangent
  unfoldable pub tangent_second : Polynomial 3 V → Matrix V
  tangent_second f = shear 1 2 0 (over s (coef s f 0 1 2) (tangent_second_divisor f)) s.ops.zero

  -- coef(x z^2)
  abbrev pub tangent_third_divisor : Polynomial 3 V → V
  tangent_third_divisor f = coef s f 1 0 2

  -- the third step of a conic with a tangent
  unfoldable pub tangent_third : Polynomial 3 V → Matrix V
  tangent_third f = shear 0 2 1 (over s (coef s f 0 0 3) (tangent_third_divisor f)) s.ops.zero
