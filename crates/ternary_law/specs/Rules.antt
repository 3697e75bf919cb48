-- The steps and routes of the rules, by the vector or the line that each rule names.
use Rattle.std.specs.Prelude.{ℕ, ◌==◌, if◌then◌else◌, List, [], ◌∷◌, ◌++◌, map, flat_map}
use Rattle.ring_theory.specs.Height.{rational_scalars}
use Rattle.ring_theory.specs.Rational.{Rational}
use Rattle.ring_theory.specs.Scalars.{Scalars}
use Rattle.poly_law.specs.Polynomials.{Polynomial}
use Rattle.move_law.specs.Moves.{over}
use Rattle.move_law.specs.Shapes.{Line, vertical, CubicShape, zero_cubic, cube, double, distinct, cubic_shape, cubic_hessian, cubic_work, over_work, over_multiple_work}
use Rattle.move_law.specs.Work.{Work}
use Rattle.ternary_law.specs.Matrices.{places, moved}
use Rattle.ternary_law.specs.Cubics.{coef, value_at, raised}
use Rattle.ternary_law.specs.Pairs.{line_matrix}
use Rattle.ternary_law.specs.Steps
use Rattle.ternary_law.specs.Steps.{axis_matrix, plane_matrix, last_place, first_place, first_cube, square_times, line_of_cube, node_divisor}
use Rattle.ternary_law.specs.Routes.{Step, Route, fixed}

module _ {V : Type 0} (s : Scalars V) where
  -- the axis rule for a vector, and the plane rule for a linear form
  abbrev pub axis_step : ℕ → (ℕ → V) → Step V
  axis_step p v = let j = last_place s v in fixed s (axis_matrix s p v) (v j ∷ []) (flat_map (λ i. over_work s 3 (v i) (v j)) places)

  -- the plane rule for a linear form
  abbrev pub plane_step : ℕ → (ℕ → V) → Step V
  plane_step p l = let i = first_place s l in fixed s (plane_matrix s p l) (l i ∷ []) (flat_map (λ k. over_work s 3 (l k) (l i)) places)

  -- the line of the cube h becomes the new variable p
  abbrev pub cube_line_step : ℕ → Polynomial 3 V → Step V
  cube_line_step p h =
      let i = first_cube s h in
      let last = square_times s h i i in
      fixed s (plane_matrix s p (line_of_cube s h)) (last ∷ []) (flat_map (λ j. if j == i then [] else over_multiple_work s 3 3 (square_times s h i j) last) places)

  -- ---- steps by the cubic reached

  -- the last step of a node
  abbrev pub node_step : Step V
  node_step = record {
    matrix = Steps.node_step s;
    divisors = λ f. node_divisor s f ∷ [];
    works = λ f. over_work s 3 (coef s f 2 1 0) (node_divisor s f) ++ over_work s 3 (coef s f 1 2 0) (node_divisor s f);
  }

  -- the last step of a conic with a secant
  abbrev pub secant_step : Step V
  secant_step = record {
    matrix = Steps.secant_step s;
    divisors = λ f. node_divisor s f ∷ [];
    works = λ f. over_work s 3 (coef s f 2 0 1) (node_divisor s f) ++ over_work s 3 (coef s f 2 1 0) (node_divisor s f);
  }

  -- of q1/(2 q0), where q0 is not 0
  abbrev pub swap_work : (q0 q1 : V) → List (Work 3 V)
  swap_work q0 q1 = if s.is_zero q0 then [] else over_multiple_work s 3 2 q1 q0

  -- the steps of a cusp after the axis rule
  abbrev pub cusp_steps : List (Step V)
  cusp_steps =
      record { matrix = Steps.cusp_first s; divisors = λ f. []; works = λ f. swap_work (coef s f 2 1 0) (coef s f 1 1 1) }
      ∷ record { matrix = Steps.cusp_second s; divisors = λ f. coef s f 3 0 0 ∷ []; works = λ f. over_multiple_work s 3 3 (coef s f 2 0 1) (coef s f 3 0 0) }
      ∷ record {
        matrix = Steps.cusp_third s;
        divisors = λ f. coef s f 0 1 2 ∷ [];
        works = λ f. over_work s 3 (coef s f 1 0 2) (coef s f 0 1 2) ++ over_work s 3 (coef s f 0 0 3) (coef s f 0 1 2);
      } ∷ []

  -- the steps of a conic with a tangent after the plane rule
  abbrev pub tangent_steps : List (Step V)
  tangent_steps =
      record { matrix = Steps.tangent_first s; divisors = λ f. []; works = λ f. swap_work (coef s f 2 0 1) (coef s f 1 1 1) }
      ∷ record { matrix = Steps.tangent_second s; divisors = λ f. coef s f 0 2 1 ∷ []; works = λ f. over_multiple_work s 3 2 (coef s f 0 1 2) (coef s f 0 2 1) }
      ∷ record { matrix = Steps.tangent_third s; divisors = λ f. coef s f 1 0 2 ∷ []; works = λ f. over_work s 3 (coef s f 0 0 3) (coef s f 1 0 2) } ∷ []

-- the rational numbers
abbrev q : Scalars Rational
q = rational_scalars

-- the coefficients of the binary cubic in x and y
abbrev pub binary_part : Polynomial 3 Rational → List Rational
binary_part f = coef q f 3 0 0 ∷ coef q f 2 1 0 ∷ coef q f 1 2 0 ∷ coef q f 0 3 0 ∷ []

-- the repeated line of a binary cubic that has one
abbrev pub repeated_line : CubicShape Rational → Line Rational
repeated_line zero_cubic = vertical
repeated_line (cube l) = l
repeated_line (double l) = l
repeated_line distinct = vertical

-- it goes to x; the shape of the binary cubic belongs to the operations
abbrev pub line_step : Step Rational
line_step = record {
  matrix = λ f. line_matrix q (repeated_line (cubic_shape q (binary_part f)));
  divisors = λ f. [];
  works = λ f. cubic_work q 3 (binary_part f);
}

-- ---- the routes, for the cubic f

module _ (f : Polynomial 3 Rational) where
  -- a cube of a line: the line goes to x
  abbrev pub cube_steps : List (Step Rational)
  cube_steps = cube_line_step q 0 f ∷ []

  -- a cubic in fewer variables, with the vector v that the partials take to 0: v goes to the axis of z; it becomes the binary cubic with these coefficients
  abbrev pub cone_section : (ℕ → Rational) → List Rational
  cone_section v = binary_part (moved q (axis_matrix q 2 v) f)

  -- with a repeated line: it goes to x
  abbrev pub repeated_steps : (ℕ → Rational) → List (Step Rational)
  repeated_steps v = axis_step q 2 v ∷ line_step ∷ []

  -- with three different lines: the pair rule on the Hessian h0, h1, h2
  abbrev pub concurrent_route : (ℕ → Rational) → Route
  concurrent_route v = record {
    first = axis_step q 2 v;
    i = 0;
    j = 1;
    pair_form = λ g. cubic_hessian q (binary_part g);
    pair_form_work = λ g. cubic_work q 3 (binary_part g);
    next = λ V s. [];
  }

  -- the node: for the functional w, with i the last place where w(x_i^4) is not 0, the point with the coordinates w(x_i^3 x_j)/w(x_i^4)
  abbrev pub cube_of : ℕ → List ℕ
  cube_of i = map (λ k. if k == i then 3 else 0) places

  -- the last place i where w(x_i^4) is not 0
  abbrev pub node_place : (ℕ → Rational) → ℕ
  node_place w = last_place q (λ i. value_at w (raised (cube_of i) i))

  -- w(x_i^3 x_j)
  abbrev pub node_entry : (ℕ → Rational) → ℕ → Rational
  node_entry w j = value_at w (raised (cube_of (node_place w)) j)

  -- w(x_i^4)
  abbrev pub node_scale : (ℕ → Rational) → Rational
  node_scale w = node_entry w (node_place w)

  -- w(x_i^3 x_j)/w(x_i^4)
  abbrev pub node_point : (ℕ → Rational) → ℕ → Rational
  node_point w j = over q (node_entry w j) (node_scale w)

  -- it goes to the axis of z
  abbrev pub node_axis : (ℕ → Rational) → Step Rational
  node_axis w =
      fixed q (axis_matrix q 2 (node_point w)) (node_scale w ∷ [])
      (flat_map (λ j. over_work q 3 (node_entry w j) (node_scale w)) places
      ++ flat_map (λ j. over_work q 3 (node_point w j) (node_point w (last_place q (node_point w)))) places)

  -- then the pair rule on the tangents of the node, which have the coefficients of x^2 z, x y z and y^2 z
  abbrev pub node_route : (ℕ → Rational) → Route
  node_route w = record {
    first = node_axis w;
    i = 0;
    j = 1;
    pair_form = λ g. coef q g 2 0 1 ∷ coef q g 1 1 1 ∷ coef q g 0 2 1 ∷ [];
    pair_form_work = λ g. [];
    next = λ V s. node_step s ∷ [];
  }

  -- the cusp: the vector v that the partials of the Hessian determinant take to 0 goes to the axis of y
  abbrev pub all_cusp_steps : (ℕ → Rational) → List (Step Rational)
  all_cusp_steps v = axis_step q 1 v ∷ cusp_steps q

  -- the conic with a secant l: l goes to x; the pair rule in y and z on the coefficients of x y^2, x y z and x z^2
  abbrev pub secant_route : (ℕ → Rational) → Route
  secant_route l = record {
    first = plane_step q 0 l;
    i = 1;
    j = 2;
    pair_form = λ g. coef q g 1 2 0 ∷ coef q g 1 1 1 ∷ coef q g 1 0 2 ∷ [];
    pair_form_work = λ g. [];
    next = λ V s. secant_step s ∷ [];
  }

  -- the conic with a tangent: the line of the Hessian determinant h goes to z
  abbrev pub all_tangent_steps : Polynomial 3 Rational → List (Step Rational)
  all_tangent_steps h = cube_line_step q 2 h ∷ tangent_steps q
