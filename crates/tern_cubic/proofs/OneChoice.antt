-- A rule that fails by one choice of its vector, its line or its pair of roots fails by each, and the rules exclude each other: the shape is another one.
use Rattle.std.proofs.Common.{◌≡◌, ◌≢◌, ℕ, zero, suc, ◌<◌, ◌↔◌, Bool, true, false, if◌then◌else◌, List, [], ◌∷◌, refl, sym, ◌∙◌, ap, subst, arith}
use Rattle.std.specs.Prelude.{not}
use Rattle.ring_theory.specs.Ring.{RingOps, IsCommRing}
use Rattle.ring_theory.specs.Rational.{Rational, rational_mul, rational_ops}
use Rattle.ring_theory.specs.Height.{rational_scalars, is_zero_rational}
use Rattle.ring_theory.specs.Scalars.{Scalars}
use Rattle.ring_theory.proofs.RationalLaws.{rational_laws, rational_field}
use Rattle.ring_theory.proofs.RingReify.{by_ring, reify}
use Rattle.poly_law.specs.Polynomials.{Polynomial}
use Rattle.ext_algebra.specs.Algebra.{Value}
use Rattle.move_law.specs.Binary.{Begun, unknown}
use Rattle.move_law.specs.Shapes.{cubic_shape}
use Rattle.move_law.specs.Work.{Work}
use Rattle.ternary_law.specs.Linear.{HasNoKernel, SpansKernel, HasKernelPlane}
use Rattle.ternary_law.specs.Matrices.{Matrix, moved}
use Rattle.ternary_law.specs.Cubics.{cubic_coefficients, partial_rows, product_rows, SpansCommonLines}
use Rattle.ternary_law.specs.Pairs.{Pair, pair_algebra}
use Rattle.ternary_law.specs.Steps.{axis_matrix, plane_matrix, last_place, first_place}
use Rattle.ternary_law.specs.Routes.{Step, fixed, Route, IsPassable, Reaches, pair_of, Arrives}
use Rattle.ternary_law.specs.Rules.{cube_steps, cone_section, binary_part, line_step, repeated_steps, concurrent_route, node_point, node_route, cusp_steps, all_cusp_steps, secant_route, all_tangent_steps}
use Rattle.ternary_law.specs.Triangle.{Points, algebra_of, plane_section, is_distinct}
use Rattle.ternary_law.specs.Shapes.{Shape, no_form, repeated, concurrent, smooth, node, cusp, conic_secant, conic_tangent, triangle, other, form, hessian_form, IsCube, IsCone, IsOfRank, IsNode, IsCusp, IsConicSecant, IsConicTangent, IsTriangle, IsTriangleMove, ByRule, is_zero, is_cube, is_repeated, is_concurrent, is_smooth, is_node, is_cusp, is_conic_secant, is_conic_tangent, is_triangle, HasShape, by_none, x3, y3, xyz, xz2, yz2, y2z}
use Rattle.ternary_law.specs.Begin.{Begins, by_shape, begun_of}
use Rattle.ternary_law.proofs.Ranks.{kernel_multiple, not_trivial, no_plane, rank_unique}
use Rattle.ternary_law.proofs.OneShape.{one_shape}
use Rattle.ternary_law.proofs.Roots.{pair_unique}
use Rattle.ternary_law.proofs.Scaling.{is_other, is_none, axis_of_kernel, plane_of_lines, at_last}
use Rattle.tern_cubic.specs.OtherShapes.{IsBlocked, Misses, IsDeadEnd, no_first, no_pair, by_pair, FailsRule, cube_fails, repeated_fails, concurrent_fails, no_rank, no_functional, node_fails, cusp_fails, hessian_plane, no_line, secant_fails, tangent_fails, triangle_fails}
use Rattle.tern_cubic.proofs.ZeroCubics.{zero_plane}
use Rattle.tern_cubic.proofs.NodeAxes.{scale_other, same_axis}
use Rattle.tern_cubic.proofs.TriangleWays.{no_triangle_move}

abbrev q : Scalars Rational
q = rational_scalars

abbrev o : Rational
o = rational_ops.zero

-- two independent vectors are not 0
plane_not_trivial : (rows : List (ℕ → Rational)) → HasKernelPlane rational_ops 3 rows → HasNoKernel rational_ops 3 rows → ⊥
plane_not_trivial rows plane none =
    let both : (rational_ops.one ≡ o) × (o ≡ o)
    = plane.independent rational_ops.one o (λ d h. ap (λ v. rational_ops.add (rational_ops.mul rational_ops.one v) (rational_ops.mul o (plane.second d))) (none plane.first plane.first_in d h) ∙ nothing rational_ops rational_laws (plane.second d)) in
    rational_field.one-ne-zero both.0
  where
    nothing : {V : Type 0} (r : RingOps V) (laws : IsCommRing r) (x : V) → r.add (r.mul r.one r.zero) (r.mul r.zero x) ≡ r.zero
    nothing r laws x = by_ring laws (x ∷ []) (search reify depth 20) tt

-- a vector with an entry that is not 0 is not 0 at its first place
at_first : (v : ℕ → Rational) (place : ℕ) → place < 3 → v place ≢ o
    → (x y : Bool) → is_zero_rational (v 0) ≡ x → is_zero_rational (v 1) ≡ y → v (if not x then 0 else (if not y then 1 else 2)) ≢ o
at_first v place h s false y e f = is_other (v 0) e
at_first v place h s true false e f = is_other (v 1) f
at_first v zero h s true true e f = absurd (s (is_none (v 0) e))
at_first v (suc zero) h s true true e f = absurd (s (is_none (v 1) f))
at_first v (suc (suc zero)) h s true true e f = s
at_first v (suc (suc (suc k))) h s true true e f = absurd (omega arith)

-- ---- steps and routes depend on their first step by its matrix

module _ (f : Polynomial 3 Rational) where
  -- steps whose first one has the matrix m and the divisor d
  abbrev steps_by : Matrix Rational → Rational → List (Work 3 Rational) → List (Step Rational) → List (Step Rational)
  steps_by m d works rest = fixed q m (d ∷ []) works ∷ rest

  passable_by : (m n : Matrix Rational) → m ≡ n → (d e : Rational) → e ≢ o → (vs ws : List (Work 3 Rational)) (rest : List (Step Rational)) (inverse : Matrix Rational)
      → IsPassable f (steps_by m d vs rest) inverse → IsPassable f (steps_by n e ws rest) inverse
  passable_by m n same d e some vs ws rest inverse h =
      subst (λ u. IsPassable f (steps_by u e ws rest) inverse) same (record { divisors = (some, h.divisors.1); invertible = h.invertible })

  reaches_by : (m n : Matrix Rational) → m ≡ n → (d e : Rational) → e ≢ o → (vs ws : List (Work 3 Rational)) (rest : List (Step Rational)) (monomials : List (List ℕ))
      (inverse : Matrix Rational) → Reaches f (steps_by m d vs rest) monomials inverse → Reaches f (steps_by n e ws rest) monomials inverse
  reaches_by m n same d e some vs ws rest monomials inverse h =
      subst (λ u. Reaches f (steps_by u e ws rest) monomials inverse) same
      (record { passable = record { divisors = (some, h.passable.divisors.1); invertible = h.passable.invertible }; form = h.form })

  -- a route r with another first step
  abbrev route_by : Route → Matrix Rational → Rational → List (Work 3 Rational) → Route
  route_by r m d works = record { first = fixed q m (d ∷ []) works; i = r.i; j = r.j; pair_form = r.pair_form; pair_form_work = r.pair_form_work; next = r.next }

  module _ (r : Route) (d e : Rational) (vs ws : List (Work 3 Rational)) (monomials : List (List ℕ)) (some : d ≢ o → e ≢ o) where
    abbrev Entries : Route → Pair → Type 0
    Entries route p = Matrix (Value (pair_algebra (pair_of f route) p))

    -- an arrival by the matrix m is one by a matrix that is the same
    arrives_by : (m n : Matrix Rational) → m ≡ n → (p : Pair) (x : Entries (route_by r m d vs) p) → Arrives f (route_by r m d vs) p monomials x
        → (y : Entries (route_by r n e ws) p) × Arrives f (route_by r n e ws) p monomials y
    arrives_by m n same p x a =
        subst (λ u. (y : Entries (route_by r u e ws) p) × Arrives f (route_by r u e ws) p monomials y) same
        (x, record { is_pair = a.is_pair; first_divisors = (some a.first_divisors.0, tt); next_divisors = a.next_divisors; invertible = a.invertible; form = a.form })

    -- so none is where the route with the other matrix does not arrive
    no_arrival : (m n : Matrix Rational) → m ≡ n → IsDeadEnd f (route_by r n e ws) monomials
        → (p : Pair) (x : Entries (route_by r m d vs) p) → Arrives f (route_by r m d vs) p monomials x → ⊥
    no_arrival m n same (no_first none) p x a = none (some a.first_divisors.0, tt)
    no_arrival m n same (no_pair none) p x a = none p ((arrives_by m n same p x a).1).is_pair
    no_arrival m n same (by_pair s is_pair none) p x a =
        let b : (y : Entries (route_by r n e ws) p) × Arrives f (route_by r n e ws) p monomials y = arrives_by m n same p x a in
        subst (λ u. (y : Entries (route_by r n e ws) u) → Arrives f (route_by r n e ws) u monomials y → ⊥)
        (pair_unique (pair_of f (route_by r n e ws)) s p is_pair b.1.is_pair) none b.0 b.1

module _ (c : List Rational) where
  abbrev f : Polynomial 3 Rational
  f = form c

  abbrev partials : List (ℕ → Rational)
  partials = partial_rows q f

  -- ---- no move by any choice

  abbrev NoRepeated : Type 0
  NoRepeated = (v : ℕ → Rational) (inverse : Matrix Rational) → IsCone c v → is_distinct (cubic_shape q (cone_section f v)) ≡ false
      → IsPassable f (repeated_steps f v) inverse → ⊥

  abbrev NoConcurrent : Type 0
  NoConcurrent = (v : ℕ → Rational) (p : Pair) (inverse : Matrix (Value (pair_algebra (pair_of f (concurrent_route f v)) p))) → IsCone c v
      → is_distinct (cubic_shape q (cone_section f v)) ≡ true → Arrives f (concurrent_route f v) p (x3 ∷ y3 ∷ []) inverse → ⊥

  abbrev NoNode : Type 0
  NoNode = (w : ℕ → Rational) (p : Pair) (inverse : Matrix (Value (pair_algebra (pair_of f (node_route f w)) p))) → IsNode c w
      → Arrives f (node_route f w) p (x3 ∷ xyz ∷ y3 ∷ []) inverse → ⊥

  abbrev NoCusp : Type 0
  NoCusp = (v : ℕ → Rational) (inverse : Matrix Rational) → IsCusp c v → Reaches f (all_cusp_steps f v) (x3 ∷ yz2 ∷ []) inverse → ⊥

  abbrev NoSecant : Type 0
  NoSecant = (l : ℕ → Rational) (p : Pair) (inverse : Matrix (Value (pair_algebra (pair_of f (secant_route f l)) p))) → IsConicSecant c l
      → Arrives f (secant_route f l) p (x3 ∷ xyz ∷ []) inverse → ⊥

  abbrev NoTangent : Type 0
  NoTangent = (inverse : Matrix Rational) → IsConicTangent c → Reaches f (all_tangent_steps f (hessian_form c)) (xz2 ∷ y2z ∷ []) inverse → ⊥

  abbrev NoTriangle : Type 0
  NoTriangle = (m : ℕ) (way : Points) (matrix : Matrix (Value (algebra_of (plane_section f m) way))) → IsTriangle c → IsTriangleMove f m way matrix → ⊥

  -- ---- the rules exclude each other

  cone_plane : (v : ℕ → Rational) → IsCone c v → HasKernelPlane rational_ops 3 partials → ⊥
  cone_plane v h plane = no_plane rational_ops 3 partials rational_laws rational_field.one-ne-zero v h plane

  cone_none : (v : ℕ → Rational) → IsCone c v → HasNoKernel rational_ops 3 partials → ⊥
  cone_none v h none = not_trivial rational_ops 3 partials rational_laws v h none

  plane_none : HasKernelPlane rational_ops 3 partials → HasNoKernel rational_ops 3 partials → ⊥
  plane_none = plane_not_trivial partials

  module _ (h : IsCube c) (blocked : IsBlocked f (cube_steps f)) where
    no_cube_rule : (t : Shape) → ByRule c t → ⊥
    no_cube_rule _ (is_zero z) = h.not_zero z
    no_cube_rule _ (is_cube i k p) = blocked i p
    no_cube_rule _ (is_repeated v i k e p) = cone_plane v k h.kernel
    no_cube_rule _ (is_concurrent v p i k e a) = cone_plane v k h.kernel
    no_cube_rule _ (is_smooth k) = plane_none h.kernel k.no_kernel
    no_cube_rule _ (is_node w p i k a) = plane_none h.kernel k.rank.no_kernel
    no_cube_rule _ (is_cusp v i k a) = plane_none h.kernel k.rank.no_kernel
    no_cube_rule _ (is_conic_secant l p i k a) = plane_none h.kernel k.rank.no_kernel
    no_cube_rule _ (is_conic_tangent i k a) = plane_none h.kernel k.rank.no_kernel
    no_cube_rule _ (is_triangle m y i k a) = plane_none h.kernel k.rank.no_kernel

  module _ (u : ℕ → Rational) (h : IsCone c u) (none_repeated : NoRepeated) (none_concurrent : NoConcurrent) where
    no_cone_rule : (t : Shape) → ByRule c t → ⊥
    no_cone_rule _ (is_zero z) = cone_plane u h (zero_plane c z)
    no_cone_rule _ (is_cube i k p) = cone_plane u h k.kernel
    no_cone_rule _ (is_repeated v i k e p) = none_repeated v i k e p
    no_cone_rule _ (is_concurrent v p i k e a) = none_concurrent v p i k e a
    no_cone_rule _ (is_smooth k) = cone_none u h k.no_kernel
    no_cone_rule _ (is_node w p i k a) = cone_none u h k.rank.no_kernel
    no_cone_rule _ (is_cusp v i k a) = cone_none u h k.rank.no_kernel
    no_cone_rule _ (is_conic_secant l p i k a) = cone_none u h k.rank.no_kernel
    no_cone_rule _ (is_conic_tangent i k a) = cone_none u h k.rank.no_kernel
    no_cone_rule _ (is_triangle m y i k a) = cone_none u h k.rank.no_kernel

  -- the rank is j
  module _ (j : ℕ) (h : IsOfRank c j) where
    same_rank : (k : ℕ) → IsOfRank c k → j ≡ k
    same_rank k g = rank_unique rational_ops 15 (product_rows q f) j k h.rank g.rank

    no_ranked_rule : (j ≡ 15 → ⊥) → (j ≡ 14 → NoNode) → (j ≡ 13 → NoCusp) → (j ≡ 13 → NoSecant) → (j ≡ 12 → NoTangent) → (j ≡ 12 → NoTriangle)
        → (t : Shape) → ByRule c t → ⊥
    no_ranked_rule n15 n14 cusp13 secant13 tangent12 triangle12 _ (is_zero z) = plane_none (zero_plane c z) h.no_kernel
    no_ranked_rule n15 n14 cusp13 secant13 tangent12 triangle12 _ (is_cube i k p) = plane_none k.kernel h.no_kernel
    no_ranked_rule n15 n14 cusp13 secant13 tangent12 triangle12 _ (is_repeated v i k e p) = cone_none v k h.no_kernel
    no_ranked_rule n15 n14 cusp13 secant13 tangent12 triangle12 _ (is_concurrent v p i k e a) = cone_none v k h.no_kernel
    no_ranked_rule n15 n14 cusp13 secant13 tangent12 triangle12 _ (is_smooth k) = n15 (same_rank 15 k)
    no_ranked_rule n15 n14 cusp13 secant13 tangent12 triangle12 _ (is_node w p i k a) = n14 (same_rank 14 k.rank) w p i k a
    no_ranked_rule n15 n14 cusp13 secant13 tangent12 triangle12 _ (is_cusp v i k a) = cusp13 (same_rank 13 k.rank) v i k a
    no_ranked_rule n15 n14 cusp13 secant13 tangent12 triangle12 _ (is_conic_secant l p i k a) = secant13 (same_rank 13 k.rank) l p i k a
    no_ranked_rule n15 n14 cusp13 secant13 tangent12 triangle12 _ (is_conic_tangent i k a) = tangent12 (same_rank 12 k.rank) i k a
    no_ranked_rule n15 n14 cusp13 secant13 tangent12 triangle12 _ (is_triangle m y i k a) = triangle12 (same_rank 12 k.rank) m y i k a

  -- ---- one choice stands for all

  -- the axis rule for vectors that span one kernel
  last_other : (rows : List (ℕ → Rational)) (v : ℕ → Rational) → SpansKernel rational_ops 3 rows v → v (last_place q v) ≢ o
  last_other rows v h = at_last v h.place h.inside h.other (is_zero_rational (v 2)) (is_zero_rational (v 1)) refl refl

  first_other : (l : ℕ → Rational) → SpansCommonLines q f l → l (first_place q l) ≢ o
  first_other l h = at_first l h.place h.inside h.other (is_zero_rational (l 0)) (is_zero_rational (l 1)) refl refl

  section_same : (v w : ℕ → Rational) → IsCone c v → IsCone c w → cone_section f v ≡ cone_section f w
  section_same v w h k = ap (λ m. binary_part (moved q m f)) (axis_of_kernel partials 2 w v k h)

  lines_apart : (v w : ℕ → Rational) → IsCone c v → IsCone c w → is_distinct (cubic_shape q (cone_section f v)) ≡ false
      → is_distinct (cubic_shape q (cone_section f w)) ≡ true → ⊥
  lines_apart v w h k e d =
      let same : false ≡ true = sym e ∙ ap (λ s. is_distinct (cubic_shape q s)) (section_same v w h k) ∙ d in cc same

  no_repeated : (v : ℕ → Rational) → IsCone c v → IsBlocked f (repeated_steps f v) → NoRepeated
  no_repeated v h blocked w inverse k e p =
      blocked inverse (passable_by f (axis_matrix q 2 w) (axis_matrix q 2 v) (axis_of_kernel partials 2 v w h k) _ _ (last_other partials v h) _ _ (line_step ∷ []) inverse p)

  no_concurrent : (v : ℕ → Rational) → IsCone c v → IsDeadEnd f (concurrent_route f v) (x3 ∷ y3 ∷ []) → NoConcurrent
  no_concurrent v h dead w p inverse k e a =
      no_arrival f (concurrent_route f v) _ _ _ _ (x3 ∷ y3 ∷ []) (λ s. last_other partials v h) (axis_matrix q 2 w) (axis_matrix q 2 v)
      (axis_of_kernel partials 2 v w h k) dead p inverse a

  no_cusp : (v : ℕ → Rational) → IsCusp c v → Misses f (all_cusp_steps f v) (x3 ∷ yz2 ∷ []) → NoCusp
  no_cusp v h misses w inverse k a =
      let rows = partial_rows q (hessian_form c) in
      misses inverse
      (reaches_by f (axis_matrix q 1 w) (axis_matrix q 1 v) (axis_of_kernel rows 1 v w h.spans k.spans) _ _ (last_other rows v h.spans) _ _ (cusp_steps q)
      (x3 ∷ yz2 ∷ []) inverse a)

  no_secant : (l : ℕ → Rational) → IsConicSecant c l → IsDeadEnd f (secant_route f l) (x3 ∷ xyz ∷ []) → NoSecant
  no_secant l h dead k p inverse g a =
      no_arrival f (secant_route f l) _ _ _ _ (x3 ∷ xyz ∷ []) (λ s. first_other l h.spans) (plane_matrix q 0 k) (plane_matrix q 0 l)
      (plane_of_lines f 0 l k h.spans g.spans) dead p inverse a

  -- the node: the axis is the same where one of the two scales is not 0
  no_node : (w : ℕ → Rational) → IsNode c w → IsDeadEnd f (node_route f w) (x3 ∷ xyz ∷ y3 ∷ []) → NoNode
  no_node w h dead v p inverse k a =
      let m : (e : Rational) × (e ≢ o) × ((d : ℕ) → d < 15 → w d ≡ rational_mul e (v d)) = kernel_multiple rational_ops 15 (product_rows q f) rational_laws v w k.spans h.spans in
      no_arrival f (node_route f w) _ _ _ _ (x3 ∷ xyz ∷ y3 ∷ []) (λ s. scale_other f v w m.0 m.1 m.2 s) (axis_matrix q 2 (node_point f v)) (axis_matrix q 2 (node_point f w))
      (sym (same_axis f v w m.0 m.1 m.2 a.first_divisors.0)) dead p inverse a

  -- ---- each way to fail

  no_rule : FailsRule c → (t : Shape) → ByRule c t → ⊥
  no_rule (cube_fails h blocked) = no_cube_rule h blocked
  no_rule (repeated_fails v h e blocked) =
      no_cone_rule v h (no_repeated v h blocked) (λ w p i k d a. lines_apart v w h k e d)
  no_rule (concurrent_fails v h e dead) =
      no_cone_rule v h (λ w i k d p. lines_apart w v k h d e) (no_concurrent v h dead)
  no_rule (no_rank j h n15 n14 n13 n12) =
      no_ranked_rule j h n15 (λ e. absurd (n14 e)) (λ e. absurd (n13 e)) (λ e. absurd (n13 e)) (λ e. absurd (n12 e)) (λ e. absurd (n12 e))
  no_rule (no_functional h none) =
      no_ranked_rule 14 h (λ e. omega arith) (λ e w p i k a. none w k.spans) (λ e. absurd (omega arith)) (λ e. absurd (omega arith)) (λ e. absurd (omega arith))
      (λ e. absurd (omega arith))
  no_rule (node_fails w h dead) =
      no_ranked_rule 14 h.rank (λ e. omega arith) (λ e. no_node w h dead) (λ e. absurd (omega arith)) (λ e. absurd (omega arith)) (λ e. absurd (omega arith))
      (λ e. absurd (omega arith))
  no_rule (cusp_fails v h misses) =
      no_ranked_rule 13 h.rank (λ e. omega arith) (λ e. absurd (omega arith)) (λ e. no_cusp v h misses)
      (λ e l p i k a. not_trivial rational_ops 3 (partial_rows q (hessian_form c)) rational_laws v h.spans k.no_cusp) (λ e. absurd (omega arith)) (λ e. absurd (omega arith))
  no_rule (hessian_plane h plane) =
      let rows = partial_rows q (hessian_form c) in
      no_ranked_rule 13 h (λ e. omega arith) (λ e. absurd (omega arith))
      (λ e v i k a. no_plane rational_ops 3 rows rational_laws rational_field.one-ne-zero v k.spans plane)
      (λ e l p i k a. plane_not_trivial rows plane k.no_cusp) (λ e. absurd (omega arith)) (λ e. absurd (omega arith))
  no_rule (no_line h no_cusp none) =
      no_ranked_rule 13 h (λ e. omega arith) (λ e. absurd (omega arith))
      (λ e v i k a. not_trivial rational_ops 3 (partial_rows q (hessian_form c)) rational_laws v k.spans no_cusp)
      (λ e l p i k a. none l k.spans) (λ e. absurd (omega arith)) (λ e. absurd (omega arith))
  no_rule (secant_fails l h dead) =
      no_ranked_rule 13 h.rank (λ e. omega arith) (λ e. absurd (omega arith))
      (λ e v i k a. not_trivial rational_ops 3 (partial_rows q (hessian_form c)) rational_laws v k.spans h.no_cusp)
      (λ e. no_secant l h dead) (λ e. absurd (omega arith)) (λ e. absurd (omega arith))
  no_rule (tangent_fails h misses) =
      no_ranked_rule 12 h.rank (λ e. omega arith) (λ e. absurd (omega arith)) (λ e. absurd (omega arith)) (λ e. absurd (omega arith))
      (λ e i k a. misses i a) (λ e m way i k a. h.no_triangle k.multiple)
  no_rule (triangle_fails h none) =
      no_ranked_rule 12 h.rank (λ e. omega arith) (λ e. absurd (omega arith)) (λ e. absurd (omega arith)) (λ e. absurd (omega arith))
      (λ e i k a. k.no_triangle h.multiple) (λ e m way i k a. no_triangle_move f none m way i a)

  -- a cubic that fails its rule has another shape
  pub failing_is_other : FailsRule c → HasShape c other
  failing_is_other h = by_none (no_rule h)

-- ---- what the linear move finds

module _ (n : ℕ) where
  -- only another shape gives neither a part nor a pattern
  only_other : (t : Shape) → begun_of n t ≡ unknown → t ≡ other
  only_other no_form e = absurd (cc e)
  only_other (repeated m i) e = absurd (cc e)
  only_other (concurrent m) e = absurd (cc e)
  only_other smooth e = absurd (cc e)
  only_other (node m) e = absurd (cc e)
  only_other (cusp m) e = absurd (cc e)
  only_other (conic_secant m) e = absurd (cc e)
  only_other (conic_tangent m) e = absurd (cc e)
  only_other (triangle m) e = absurd (cc e)
  only_other other e = refl

  found_by_other : (g : Polynomial n Rational) (b : Begun n) → Begins n g b → b ≡ unknown → HasShape (cubic_coefficients q n g) other
  found_by_other g _ (by_shape {t = t} h) e = subst (HasShape (cubic_coefficients q n g)) (only_other t e) h

  unknown_by_other : (g : Polynomial n Rational) (b : Begun n) → Begins n g b → HasShape (cubic_coefficients q n g) other → b ≡ unknown
  unknown_by_other g _ (by_shape {t = t} h) k = ap (begun_of n) (one_shape (cubic_coefficients q n g) t other h k)

  -- what the linear move finds is unknown exactly where the shape is another one
  pub others_are_unknown : (g : Polynomial n Rational) (b : Begun n) → Begins n g b → ((b ≡ unknown) ↔ HasShape (cubic_coefficients q n g) other)
  others_are_unknown g b h = (found_by_other g b h, unknown_by_other g b h)
