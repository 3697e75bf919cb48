-- When finding the shape of a ternary cubic and its move forms a number of height at least 2^120: each operation of the rules, as far as the rules go.
use Rattle.std.specs.Prelude.{◌≡◌, ◌≢◌, ℕ, ◌<◌, ◌⊎◌, true, false, List, [], ◌∷◌, map, flat_map}
use Rattle.ring_theory.specs.Height.{rational_scalars}
use Rattle.ring_theory.specs.Rational.{Rational}
use Rattle.ring_theory.specs.Scalars.{Scalars, sum_of}
use Rattle.poly_law.specs.ExpList.{exps}
use Rattle.poly_law.specs.Polynomials.{Polynomial}
use Rattle.jet_law.specs.Heights.{IsHigh, derivative_heights}
use Rattle.lin_row.specs.Lines.{IsRising, AllBelow, EachOf}
use Rattle.lin_row.specs.Plain.{ReductionIsHigh, units_added, Among}
use Rattle.ring_formula.specs.Formulas.{formula_heights}
use Rattle.move_law.specs.Moves.{over}
use Rattle.move_law.specs.Shapes.{cubic_shape}
use Rattle.move_law.specs.Work as work
use Rattle.move_law.specs.Work.{Work, IsWorkHigh}
use Rattle.ternary_law.specs.Linear.{IsKernelOf, HasNoKernel}
use Rattle.ternary_law.specs.Cubics.{partial_rows, product_rows, cubic_monomials, value_at, raised}
use Rattle.ternary_law.specs.Hessian.{hessian3, hessian_table}
use Rattle.ternary_law.specs.Routes.{AreStepsHigh, IsRouteHigh}
use Rattle.ternary_law.specs.Rules.{cube_steps, cone_section, repeated_steps, concurrent_route, node_route, all_cusp_steps, secant_route, all_tangent_steps}
use Rattle.ternary_law.specs.Triangle.{is_distinct}
use Rattle.ternary_law.specs.TriangleWork.{IsTriangleHigh}
use Rattle.ternary_law.specs.Shapes.{form, hessian_form, IsCube, IsCone, IsOfRank, IsNode, IsCusp, IsConicSecant, IsConicTangent, IsTriangle}

-- the rational numbers
abbrev q : Scalars Rational
q = rational_scalars

-- the plain row reduction of rows, each with a unit column of its own behind the columns of the program, is high
abbrev pub AreRowsHigh : List (ℕ → Rational) → Type 0
AreRowsHigh rows = ReductionIsHigh q 4294967296 (units_added q 4294967296 0 rows)

-- a partial of f is high
pub record IsPartialHigh (f : Polynomial 3 Rational) : Type 0 where
  pub variable : ℕ
  pub inside : variable < 3
  pub high : IsHigh (derivative_heights (exps 3) q variable f)

-- a vector of the kernel of the rows, with 1 at its own column, the last one where it is not zero, and 0 at the columns of the others
pub record IsBasisVector (rows : List (ℕ → Rational)) (basis : List (ℕ × (ℕ → Rational))) (b : ℕ × (ℕ → Rational)) : Type 0 where
  pub in_kernel : IsKernelOf q.ops 15 rows b.1
  pub one : b.1 b.0 ≡ q.ops.one
  pub last : (d : ℕ) → b.0 < d → b.1 d ≡ q.ops.zero
  pub others : EachOf (λ a. a.0 ≢ b.0 → b.1 a.0 ≡ q.ops.zero) basis

-- the basis of the kernel of rows with 15 columns that the reduced echelon form gives, by rising columns without pivot
pub record IsKernelBasis (rows : List (ℕ → Rational)) (basis : List (ℕ × (ℕ → Rational))) : Type 0 where
  pub rising : IsRising basis
  pub below : AllBelow 15 basis
  pub each : EachOf (IsBasisVector rows basis) basis
  pub spans : (w : ℕ → Rational) → IsKernelOf q.ops 15 rows w → (d : ℕ) → d < 15 → w d ≡ sum_of q.ops (map (λ b. q.ops.mul (w b.0) (b.1 d)) basis)

-- for each functional of a basis and each cubic monomial m the values at x m, y m and z m
abbrev pub line_rows : List (ℕ × (ℕ → Rational)) → List (ℕ → Rational)
line_rows basis = flat_map (λ b. map (λ m i. value_at b.1 (raised m i)) cubic_monomials) basis

-- the test whether h is a multiple of c: the quotient at the first place where c is not zero, and its products with all coefficients
abbrev pub multiple_work : List Rational → List Rational → List Rational → List (Work 3 Rational)
multiple_work all [] c = []
multiple_work all (h ∷ hs) [] = []
multiple_work all (h ∷ hs) (k ∷ ks) =
    elim (q.is_zero k) [
      | true ↦ multiple_work all hs ks
      | false ↦ work.inverse k ∷ work.product h (q.inverse k) ∷ map (λ e. work.product (over q h k) e) all
    ]

-- the ten coefficients c
pub data IsShapeHigh (c : List Rational) : Type 0 where
  in_partials : IsPartialHigh (form c) → IsShapeHigh c
  in_kernel : AreRowsHigh (partial_rows q (form c)) → IsShapeHigh c
  in_cube : IsCube c → AreStepsHigh (form c) (cube_steps (form c)) → IsShapeHigh c
  in_cone : (v : ℕ → Rational) → IsCone c v → is_distinct (cubic_shape q (cone_section (form c) v)) ≡ false
      → AreStepsHigh (form c) (repeated_steps (form c) v) → IsShapeHigh c
  in_concurrent : (v : ℕ → Rational) → IsCone c v → is_distinct (cubic_shape q (cone_section (form c) v)) ≡ true
      → IsRouteHigh (form c) (concurrent_route (form c) v) → IsShapeHigh c
  in_rank : HasNoKernel q.ops 3 (partial_rows q (form c)) → AreRowsHigh (product_rows q (form c)) → IsShapeHigh c
  in_node : (w : ℕ → Rational) → IsNode c w → IsRouteHigh (form c) (node_route (form c) w) → IsShapeHigh c
  in_hessian : IsOfRank c 13 ⊎ IsOfRank c 12 → IsHigh (flat_map (formula_heights q c) hessian_table) → IsShapeHigh c
  in_hessian_partials : IsOfRank c 13 → IsPartialHigh (hessian_form c) → IsShapeHigh c
  in_hessian_kernel : IsOfRank c 13 → AreRowsHigh (partial_rows q (hessian_form c)) → IsShapeHigh c
  in_cusp : (v : ℕ → Rational) → IsCusp c v → AreStepsHigh (form c) (all_cusp_steps (form c) v) → IsShapeHigh c
  in_lines : (basis : List (ℕ × (ℕ → Rational))) → IsOfRank c 13 → HasNoKernel q.ops 3 (partial_rows q (hessian_form c))
      → IsKernelBasis (product_rows q (form c)) basis → AreRowsHigh (line_rows basis) → IsShapeHigh c
  in_secant : (l : ℕ → Rational) → IsConicSecant c l → IsRouteHigh (form c) (secant_route (form c) l) → IsShapeHigh c
  in_multiple : IsOfRank c 12 → Among (IsWorkHigh 3 q) (multiple_work c (hessian3 q c) c) → IsShapeHigh c
  in_tangent : IsConicTangent c → AreStepsHigh (form c) (all_tangent_steps (form c) (hessian_form c)) → IsShapeHigh c
  in_triangle : IsTriangle c → IsTriangleHigh (form c) → IsShapeHigh c
