-- The shapes of ternary cubics, each with the linear move that brings it to its principal part, as a relation: one constructor for each rule.
-- The rules go by the kernel of the partials, by the rank of the products of quadratic monomials with the partials, and by the Hessian determinant.
-- Source: V. I. Arnold, S. M. Gusein-Zade, A. N. Varchenko, Singularities of Differentiable Maps, volume 1, chapter 15.
use Rattle.std.specs.Prelude.{◌≡◌, ℕ, true, false, Some, List, [], ◌∷◌}
use Rattle.ring_theory.specs.Height.{rational_scalars}
use Rattle.ring_theory.specs.Rational.{Rational}
use Rattle.ring_theory.specs.Scalars.{Scalars}
use Rattle.poly_law.specs.Polynomials.{Polynomial}
use Rattle.lin_row.specs.Lines.{EachOf}
use Rattle.move_law.specs.Shapes.{cubic_shape}
use Rattle.ternary_law.specs.Linear.{HasNoKernel, SpansKernel, HasKernelPlane, HasRank}
use Rattle.ternary_law.specs.Matrices.{Matrix, moved, AreInverse}
use Rattle.ext_algebra.specs.Algebra.{Value, scalars}
use Rattle.move_law.specs.Algebras.{lifted}
use Rattle.ternary_law.specs.Pairs.{Pair, pair_algebra}
use Rattle.ternary_law.specs.Cubics.{cubic_of, partial_rows, product_rows, SpansCommonLines, IsMultiple, HasMonomials, exponents3}
use Rattle.ternary_law.specs.Hessian.{hessian3}
use Rattle.ternary_law.specs.Routes.{LinearMove, matrix_by, IsPassable, Reaches, move_by, pair_of, Arrives, route_move}
use Rattle.ternary_law.specs.Rules.{cube_steps, cone_section, repeated_steps, concurrent_route, node_route, all_cusp_steps, secant_route, all_tangent_steps}
use Rattle.ternary_law.specs.Triangle.{Points, IsWay, algebra_of, points, gradients, plane_section, slant, is_distinct}

-- the shapes, with their moves: zero; a repeated line, which goes to x; three concurrent lines; a smooth cubic; a node; a cusp; a conic with a secant, or with a
-- tangent; a triangle; another one
pub data Shape : Type 0 where
  no_form : Shape
  repeated : (matrix inverse : Matrix Rational) → Shape
  concurrent : LinearMove → Shape
  smooth : Shape
  node : LinearMove → Shape
  cusp : LinearMove → Shape
  conic_secant : LinearMove → Shape
  conic_tangent : LinearMove → Shape
  triangle : LinearMove → Shape
  other : Shape

-- the rational numbers
abbrev q : Scalars Rational
q = rational_scalars

-- the exponents of the monomials that forms are made of: x^3
abbrev pub x3 : List ℕ
x3 = exponents3 3 0 0

-- y^3
abbrev pub y3 : List ℕ
y3 = exponents3 0 3 0

-- x y z
abbrev pub xyz : List ℕ
xyz = exponents3 1 1 1

-- x z^2
abbrev pub xz2 : List ℕ
xz2 = exponents3 1 0 2

-- y z^2
abbrev pub yz2 : List ℕ
yz2 = exponents3 0 1 2

-- y^2 z
abbrev pub y2z : List ℕ
y2z = exponents3 0 2 1

-- the move of a triangle f: the slant m, a way to three points of the plane section, and the matrix whose inverse has the gradients at these points as its
-- rows; the triangle becomes a multiple of x y z
pub record IsTriangleMove (f : Polynomial 3 Rational) (m : ℕ) (way : Points) (matrix : Matrix (Value (algebra_of (plane_section f m) way))) : Type 0 where
  pub is_slant : slant f ≡ Some m
  pub is_way : IsWay (plane_section f m) way
  pub invertible : let a = algebra_of (plane_section f m) way in
      AreInverse (scalars a) (gradients (scalars a) (lifted a f) m (points (plane_section f m) way)) matrix
  pub form : let a = algebra_of (plane_section f m) way in HasMonomials (xyz ∷ []) (moved (scalars a) matrix (lifted a f))

-- its linear move
abbrev pub triangle_move : (f : Polynomial 3 Rational) (m : ℕ) (way : Points) → Matrix (Value (algebra_of (plane_section f m) way)) → LinearMove
triangle_move f m way matrix =
    let a = algebra_of (plane_section f m) way in
    record { algebra = a; matrix = matrix; inverse = gradients (scalars a) (lifted a f) m (points (plane_section f m) way) }

-- what the rules ask of the cubic with the ten coefficients c
module _ (c : List Rational) where
  -- the cubic
  abbrev pub form : Polynomial 3 Rational
  form = cubic_of q c

  -- its Hessian determinant
  abbrev pub hessian_form : Polynomial 3 Rational
  hessian_form = cubic_of q (hessian3 q c)

  -- all coefficients are 0
  abbrev pub IsZeroForm : Type 0
  IsZeroForm = EachOf (λ k. k ≡ q.ops.zero) c

  -- a multiple of the cube of a line: not 0, and the partials have a kernel of dimension 2 or more
  pub record IsCube : Type 0 where
    pub not_zero : ¬ IsZeroForm
    pub kernel : HasKernelPlane q.ops 3 (partial_rows q form)

  -- a cone over the binary cubic that v as axis of z gives: the partials have a kernel of dimension 1, spanned by v
  abbrev pub IsCone : (ℕ → Rational) → Type 0
  IsCone v = SpansKernel q.ops 3 (partial_rows q form) v

  -- the partials have no kernel, and the rank of the products is k
  pub record IsOfRank (k : ℕ) : Type 0 where
    pub no_kernel : HasNoKernel q.ops 3 (partial_rows q form)
    pub rank : HasRank q.ops 15 (product_rows q form) k

  -- rank 14, and w spans the functionals that are 0 on the products
  pub record IsNode (w : ℕ → Rational) : Type 0 where
    pub rank : IsOfRank 14
    pub spans : SpansKernel q.ops 15 (product_rows q form) w

  -- rank 13, and v spans the kernel of the partials of the Hessian determinant
  pub record IsCusp (v : ℕ → Rational) : Type 0 where
    pub rank : IsOfRank 13
    pub spans : SpansKernel q.ops 3 (partial_rows q hessian_form) v

  -- rank 13, the partials of the Hessian determinant are independent, and l spans the lines whose products with all cubic monomials have value 0
  pub record IsConicSecant (l : ℕ → Rational) : Type 0 where
    pub rank : IsOfRank 13
    pub no_cusp : HasNoKernel q.ops 3 (partial_rows q hessian_form)
    pub spans : SpansCommonLines q form l

  -- rank 12, and the Hessian determinant is no multiple of the cubic
  pub record IsConicTangent : Type 0 where
    pub rank : IsOfRank 12
    pub no_triangle : ¬ IsMultiple q (hessian3 q c) c

  -- rank 12, and the Hessian determinant is a multiple of the cubic
  pub record IsTriangle : Type 0 where
    pub rank : IsOfRank 12
    pub multiple : IsMultiple q (hessian3 q c) c

-- the rule that applies, with its choices and its test
pub data ByRule (c : List Rational) : Shape → Type 0 where
  is_zero : IsZeroForm c → ByRule c no_form
  is_cube : (inverse : Matrix Rational) → IsCube c → IsPassable (form c) (cube_steps (form c)) inverse
      → ByRule c (repeated (matrix_by q (cube_steps (form c)) (form c)) inverse)
  is_repeated : (v : ℕ → Rational) (inverse : Matrix Rational) → IsCone c v → is_distinct (cubic_shape q (cone_section (form c) v)) ≡ false
      → IsPassable (form c) (repeated_steps (form c) v) inverse → ByRule c (repeated (matrix_by q (repeated_steps (form c) v) (form c)) inverse)
  is_concurrent : (v : ℕ → Rational) (p : Pair) (inverse : Matrix (Value (pair_algebra (pair_of (form c) (concurrent_route (form c) v)) p))) → IsCone c v
      → is_distinct (cubic_shape q (cone_section (form c) v)) ≡ true → Arrives (form c) (concurrent_route (form c) v) p (x3 ∷ y3 ∷ []) inverse
      → ByRule c (concurrent (route_move (form c) (concurrent_route (form c) v) p inverse))
  is_smooth : IsOfRank c 15 → ByRule c smooth
  is_node : (w : ℕ → Rational) (p : Pair) (inverse : Matrix (Value (pair_algebra (pair_of (form c) (node_route (form c) w)) p))) → IsNode c w
      → Arrives (form c) (node_route (form c) w) p (x3 ∷ xyz ∷ y3 ∷ []) inverse → ByRule c (node (route_move (form c) (node_route (form c) w) p inverse))
  is_cusp : (v : ℕ → Rational) (inverse : Matrix Rational) → IsCusp c v → Reaches (form c) (all_cusp_steps (form c) v) (x3 ∷ yz2 ∷ []) inverse
      → ByRule c (cusp (move_by (form c) (all_cusp_steps (form c) v) inverse))
  is_conic_secant : (l : ℕ → Rational) (p : Pair) (inverse : Matrix (Value (pair_algebra (pair_of (form c) (secant_route (form c) l)) p))) → IsConicSecant c l
      → Arrives (form c) (secant_route (form c) l) p (x3 ∷ xyz ∷ []) inverse → ByRule c (conic_secant (route_move (form c) (secant_route (form c) l) p inverse))
  is_conic_tangent : (inverse : Matrix Rational) → IsConicTangent c → Reaches (form c) (all_tangent_steps (form c) (hessian_form c)) (xz2 ∷ y2z ∷ []) inverse
      → ByRule c (conic_tangent (move_by (form c) (all_tangent_steps (form c) (hessian_form c)) inverse))
  is_triangle : (m : ℕ) (way : Points) (matrix : Matrix (Value (algebra_of (plane_section (form c) m) way))) → IsTriangle c
      → IsTriangleMove (form c) m way matrix → ByRule c (triangle (triangle_move (form c) m way matrix))

-- the shape of a cubic by its ten coefficients: that of its rule, and another one where no rule applies or its move does not exist or fails the test
pub data HasShape (c : List Rational) : Shape → Type 0 where
  by_rule : {t : Shape} → ByRule c t → HasShape c t
  by_none : ((t : Shape) → ByRule c t → ⊥) → HasShape c other
