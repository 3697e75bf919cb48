-- When a ternary cubic has another shape: the rule whose premises it meets fails, by one of the vectors, lines, pairs of roots or ways that the rule allows.
use Rattle.std.specs.Prelude.{◌≡◌, ◌≢◌, ℕ, ◌↔◌, true, false, Some, None, List, [], ◌∷◌}
use Rattle.ring_theory.specs.Height.{rational_scalars}
use Rattle.ring_theory.specs.Rational.{Rational}
use Rattle.ring_theory.specs.Scalars.{Scalars}
use Rattle.poly_law.specs.Polynomials.{Polynomial}
use Rattle.lin_row.specs.Lines.{EachOf}
use Rattle.ext_algebra.specs.Algebra.{Value}
use Rattle.move_law.specs.Binary.{Begun, unknown}
use Rattle.move_law.specs.Shapes.{cubic_shape}
use Rattle.ternary_law.specs.Linear.{SpansKernel, HasKernelPlane, HasNoKernel}
use Rattle.ternary_law.specs.Matrices.{Matrix}
use Rattle.ternary_law.specs.Cubics.{cubic_coefficients, partial_rows, product_rows, SpansCommonLines}
use Rattle.ternary_law.specs.Pairs.{Pair, IsPair, pair_algebra}
use Rattle.ternary_law.specs.Routes.{Step, Route, IsPassable, Reaches, pair_of, Arrives}
use Rattle.ternary_law.specs.Rules.{cube_steps, cone_section, repeated_steps, concurrent_route, node_route, all_cusp_steps, secant_route, all_tangent_steps}
use Rattle.ternary_law.specs.Triangle.{Points, IsWay, algebra_of, plane_section, slant, is_distinct}
use Rattle.ternary_law.specs.Shapes.{other, form, hessian_form, IsCube, IsCone, IsOfRank, IsNode, IsCusp, IsConicSecant, IsConicTangent, IsTriangle, IsTriangleMove, HasShape, x3, y3, xyz, xz2, yz2, y2z}
use Rattle.ternary_law.specs.Begin.{Begins}

-- the rational numbers
abbrev q : Scalars Rational
q = rational_scalars

-- a divisor of the steps is zero, or their matrix has no inverse
abbrev pub IsBlocked : Polynomial 3 Rational → List (Step Rational) → Type 0
IsBlocked f steps = (inverse : Matrix Rational) → IsPassable f steps inverse → ⊥

-- they are blocked, or the cubic that they reach has not exactly these monomials
abbrev pub Misses : Polynomial 3 Rational → List (Step Rational) → List (List ℕ) → Type 0
Misses f steps monomials = (inverse : Matrix Rational) → Reaches f steps monomials inverse → ⊥

-- a route does not arrive: a divisor of its first step is zero; the pair rule has no case; or by its case the route does not end at these monomials
pub data IsDeadEnd (f : Polynomial 3 Rational) (route : Route) (monomials : List (List ℕ)) : Type 0 where
  no_first : (EachOf (λ d. d ≢ q.ops.zero) (route.first.divisors f) → ⊥) → IsDeadEnd f route monomials
  no_pair : ((p : Pair) → IsPair (pair_of f route) p → ⊥) → IsDeadEnd f route monomials
  by_pair : (p : Pair) → IsPair (pair_of f route) p
      → ((inverse : Matrix (Value (pair_algebra (pair_of f route) p))) → Arrives f route p monomials inverse → ⊥) → IsDeadEnd f route monomials

-- a triangle has no move: no slant serves; its section has no way to three points; or by its way the gradients have no inverse, or it fails the test
pub data HasNoMove (f : Polynomial 3 Rational) : Type 0 where
  no_slant : slant f ≡ None → HasNoMove f
  no_way : (m : ℕ) → slant f ≡ Some m → ((way : Points) → IsWay (plane_section f m) way → ⊥) → HasNoMove f
  by_way : (m : ℕ) (way : Points) → slant f ≡ Some m → IsWay (plane_section f m) way
      → ((matrix : Matrix (Value (algebra_of (plane_section f m) way))) → IsTriangleMove f m way matrix → ⊥) → HasNoMove f

-- the rule whose premises the cubic with these coefficients meets, by one choice of the vector or the line that it names, fails; or the premises of no rule hold
pub data FailsRule (c : List Rational) : Type 0 where
  cube_fails : IsCube c → IsBlocked (form c) (cube_steps (form c)) → FailsRule c
  repeated_fails : (v : ℕ → Rational) → IsCone c v → is_distinct (cubic_shape q (cone_section (form c) v)) ≡ false
      → IsBlocked (form c) (repeated_steps (form c) v) → FailsRule c
  concurrent_fails : (v : ℕ → Rational) → IsCone c v → is_distinct (cubic_shape q (cone_section (form c) v)) ≡ true
      → IsDeadEnd (form c) (concurrent_route (form c) v) (x3 ∷ y3 ∷ []) → FailsRule c
  no_rank : (k : ℕ) → IsOfRank c k → k ≢ 15 → k ≢ 14 → k ≢ 13 → k ≢ 12 → FailsRule c
  no_functional : IsOfRank c 14 → ((w : ℕ → Rational) → SpansKernel q.ops 15 (product_rows q (form c)) w → ⊥) → FailsRule c
  node_fails : (w : ℕ → Rational) → IsNode c w → IsDeadEnd (form c) (node_route (form c) w) (x3 ∷ xyz ∷ y3 ∷ []) → FailsRule c
  cusp_fails : (v : ℕ → Rational) → IsCusp c v → Misses (form c) (all_cusp_steps (form c) v) (x3 ∷ yz2 ∷ []) → FailsRule c
  hessian_plane : IsOfRank c 13 → HasKernelPlane q.ops 3 (partial_rows q (hessian_form c)) → FailsRule c
  no_line : IsOfRank c 13 → HasNoKernel q.ops 3 (partial_rows q (hessian_form c)) → ((l : ℕ → Rational) → SpansCommonLines q (form c) l → ⊥) → FailsRule c
  secant_fails : (l : ℕ → Rational) → IsConicSecant c l → IsDeadEnd (form c) (secant_route (form c) l) (x3 ∷ xyz ∷ []) → FailsRule c
  tangent_fails : IsConicTangent c → Misses (form c) (all_tangent_steps (form c) (hessian_form c)) (xz2 ∷ y2z ∷ []) → FailsRule c
  triangle_fails : IsTriangle c → HasNoMove (form c) → FailsRule c

-- a cubic that fails its rule by one choice fails each rule by each choice: its shape is another one
abbrev pub FailingIsOther : Type 0
FailingIsOther = (c : List Rational) → FailsRule c → HasShape c other

-- what the linear move of f finds is neither a part nor a pattern exactly where the shape of the cubic terms is another one
abbrev pub OthersAreUnknown : Type 0
OthersAreUnknown =
    (n : ℕ) (f : Polynomial n Rational) (b : Begun n) → Begins n f b → ((b ≡ unknown) ↔ HasShape (cubic_coefficients rational_scalars n f) other)
