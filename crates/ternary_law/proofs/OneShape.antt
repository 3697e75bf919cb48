-- A ternary cubic has one shape: the rules exclude each other, and each has one move.
use Rattle.std.proofs.Common.{◌≡◌, ◌≢◌, ℕ, zero, suc, ◌<◌, ◌<ℤ◌, ℤ, pos, negsuc, neg_ℤ, Bool, true, false, ◌==◌, cond, if◌then◌else◌, Option, Some, None, List, [], ◌∷◌, map, filter, refl, sym, ◌∙◌, ap, subst, arith}
use Rattle.std.specs.Prelude.{not}
use Rattle.std.specs.List.{zip}
use Rattle.ring_theory.specs.Gcd.{gcd}
use Rattle.ring_theory.specs.Ring.{RingOps, IsCommRing}
use Rattle.ring_theory.specs.Rational.{Rational, rational, rational_zero, rational_add, rational_mul, rational_neg, rational_ops}
use Rattle.ring_theory.specs.Height.{rational_scalars, is_zero_rational}
use Rattle.ring_theory.specs.Scalars.{Scalars}
use Rattle.ring_theory.proofs.RationalLaws.{rational_laws, rational_field}
use Rattle.ring_theory.proofs.RingReify.{by_ring, reify}
use Rattle.poly_law.specs.ExpList.{ExpList, exps}
use Rattle.poly_law.specs.Exps.{same}
use Rattle.poly_law.specs.Poly.{coefficient}
use Rattle.poly_law.specs.Polynomials.{Polynomial}
use Rattle.mono_exp.specs.Exponents.{monomials_of}
use Rattle.jet_law.specs.Canonical.{monomial_in, jet, terms_at}
use Rattle.lin_row.specs.Lines.{EachOf}
use Rattle.ext_algebra.specs.Algebra.{Value, scalars}
use Rattle.ext_algebra.specs.AlgebraLaws.{algebra_scalar_laws}
use Rattle.move_law.specs.Shapes.{cubic_shape}
use Rattle.move_law.specs.Algebras.{rationals, lifted}
use Rattle.move_law.specs.Moves.{over}
use Rattle.ternary_law.specs.Linear.{row_at, HasNoKernel, HasKernelPlane}
use Rattle.ternary_law.specs.Matrices.{Matrix, moved, AreInverse}
use Rattle.ternary_law.specs.Cubics.{cubic_of, cubic_monomials, partial_rows, product_rows, place_in, raised, value_at}
use Rattle.ternary_law.specs.Pairs.{Pair, IsPair, pair_algebra}
use Rattle.ternary_law.specs.Steps.{axis_matrix, plane_matrix, last_place}
use Rattle.ternary_law.specs.Routes.{Step, fixed, LinearMove, matrix_after, matrix_by, Route, pair_of, route_matrix, route_move, Arrives}
use Rattle.ternary_law.specs.Rules.{cube_steps, cone_section, binary_part, line_step, repeated_steps, concurrent_route, cube_of, node_place, node_entry, node_scale, node_point, node_route, cusp_steps, all_cusp_steps, secant_route}
use Rattle.ternary_law.specs.Triangle.{Points, at_corner, at_rational, cyclic, in_tower, IsWay, algebra_of, points, gradients, plane_section, is_distinct, quotient_by_y, quotient_by}
use Rattle.ternary_law.specs.Shapes.{Shape, repeated, concurrent, node, cusp, conic_secant, conic_tangent, triangle, form, hessian_form, IsZeroForm, IsCone, IsOfRank, IsNode, IsCusp, IsConicSecant, IsTriangleMove, triangle_move, ByRule, is_zero, is_cube, is_repeated, is_concurrent, is_smooth, is_node, is_cusp, is_conic_secant, is_conic_tangent, is_triangle, HasShape, by_rule, by_none}
use Rattle.ternary_law.proofs.Ranks.{kernel_multiple, not_trivial, no_plane, rank_unique}
use Rattle.ternary_law.proofs.Inverses.{inverse_unique}
use Rattle.ternary_law.proofs.Roots.{at_most_antisym, pair_unique, neg_num, restored}
use Rattle.ternary_law.proofs.Scaling.{axis_of_kernel, plane_of_lines, product_other, quotient_same, is_other, is_none, last_same, axis_same, at_last, last_inside}

abbrev q : Scalars Rational
q = rational_scalars

abbrev o : Rational
o = rational_ops.zero

-- ---- the zero form

-- all coefficients of a list of terms are 0
abbrev Zeros : Polynomial 3 Rational → Type 0
Zeros [] = Unit {0}
Zeros (t ∷ f) = (t.1 ≡ o) × Zeros f

kept : (b : Bool) (t : ExpList 3 × Rational) (f : Polynomial 3 Rational) → t.1 ≡ o → Zeros f → Zeros (if b then t ∷ f else f)
kept true t f e h = (e, h)
kept false t f e h = h

zeros_filter : (p : ExpList 3 × Rational → Bool) (f : Polynomial 3 Rational) → Zeros f → Zeros (filter p f)
zeros_filter p [] h = tt
zeros_filter p (t ∷ f) h = kept (p t) t (filter p f) h.0 (zeros_filter p f h.1)

none_added : {V : Type 0} (r : RingOps V) (laws : IsCommRing r) → r.add r.zero r.zero ≡ r.zero
none_added r laws = by_ring laws [] (search reify depth 20) tt

zeros_coefficient : (f : Polynomial 3 Rational) (m : ExpList 3) → Zeros f → coefficient (exps 3) rational_ops f m ≡ o
zeros_coefficient [] m h = refl
zeros_coefficient (t ∷ f) m h =
    (λ i. rational_ops.add (cond (same (exps 3) t.0 m) (h.0 i) o) (zeros_coefficient f m h.1 i))
    ∙ ap (λ v. rational_ops.add v o) (either (same (exps 3) t.0 m)) ∙ none_added rational_ops rational_laws
  where
    either : (b : Bool) → cond b o o ≡ o
    either true = refl
    either false = refl

zeros_zip : (ms : List (List ℕ)) (c : List Rational) → EachOf (λ k. k ≡ o) c → Zeros (map (λ p. (monomial_in 3 p.0, p.1)) (zip ms c))
zeros_zip [] c h = tt
zeros_zip (m ∷ ms) [] h = tt
zeros_zip (m ∷ ms) (v ∷ c) h = (h.0, zeros_zip ms c h.1)

-- no term of a list without coefficients other than 0 is left in canonical form
zero_terms : (f : Polynomial 3 Rational) (es : List (List ℕ)) → ((m : ExpList 3) → coefficient (exps 3) rational_ops f m ≡ o) → terms_at 3 q f es ≡ []
unfolding rational_zero rational gcd
zero_terms f [] h = refl
zero_terms f (e ∷ es) h =
    ap (λ v. filter (λ t. not (q.is_zero t.1)) ((monomial_in 3 e, v) ∷ map (λ u. (monomial_in 3 u, coefficient (exps 3) rational_ops f (monomial_in 3 u))) es)) (h (monomial_in 3 e))
    ∙ zero_terms f es h

zero_form : (c : List Rational) → IsZeroForm c → form c ≡ []
unfolding cubic_of jet
zero_form c h = zero_terms _ _ (λ m. zeros_coefficient _ m (zeros_filter _ _ (zeros_zip cubic_monomials c h)))

zero_row : {V : Type 0} (r : RingOps V) (laws : IsCommRing r) (x y z : V)
    → r.add (r.add (r.add r.zero (r.mul r.zero x)) (r.mul r.zero y)) (r.mul r.zero z) ≡ r.zero
zero_row r laws x y z = by_ring laws (x ∷ y ∷ z ∷ []) (search reify depth 20) tt

zero_rows : (w : ℕ → Rational) (ms : List (List ℕ)) → EachOf (λ row. row_at rational_ops 3 row w ≡ o) (map (λ m i. o) ms)
zero_rows w [] = tt
zero_rows w (m ∷ ms) = (zero_row rational_ops rational_laws (w 0) (w 1) (w 2), zero_rows w ms)

abbrev unit_at : ℕ → ℕ → Rational
unit_at i d = if d == i then rational_ops.one else o

alone : {V : Type 0} (r : RingOps V) (laws : IsCommRing r) (a b : V) → r.add (r.mul a r.one) (r.mul b r.zero) ≡ a
alone r laws a b = by_ring laws (a ∷ b ∷ []) (search reify depth 20) tt

alone_second : {V : Type 0} (r : RingOps V) (laws : IsCommRing r) (a b : V) → r.add (r.mul a r.zero) (r.mul b r.one) ≡ b
alone_second r laws a b = by_ring laws (a ∷ b ∷ []) (search reify depth 20) tt

plane_of_zero : HasKernelPlane rational_ops 3 (partial_rows q [])
plane_of_zero = record {
  first = unit_at 0;
  second = unit_at 1;
  first_in = zero_rows (unit_at 0) (monomials_of 3 2);
  second_in = zero_rows (unit_at 1) (monomials_of 3 2);
  independent = λ a b h. (sym (alone rational_ops rational_laws a b) ∙ h 0 (omega arith), sym (alone_second rational_ops rational_laws a b) ∙ h 1 (omega arith));
}

-- ---- the rules exclude each other

-- two independent vectors are not 0
plane_not_trivial : (rows : List (ℕ → Rational)) → HasKernelPlane rational_ops 3 rows → HasNoKernel rational_ops 3 rows → ⊥
plane_not_trivial rows plane none =
    let both : (rational_ops.one ≡ o) × (o ≡ o)
    = plane.independent rational_ops.one o (λ d h. ap (λ v. rational_ops.add (rational_ops.mul rational_ops.one v) (rational_ops.mul o (plane.second d))) (none plane.first plane.first_in d h) ∙ nothing rational_ops rational_laws (plane.second d)) in
    rational_field.one-ne-zero both.0
  where
    nothing : {V : Type 0} (r : RingOps V) (laws : IsCommRing r) (x : V) → r.add (r.mul r.one r.zero) (r.mul r.zero x) ≡ r.zero
    nothing r laws x = by_ring laws (x ∷ []) (search reify depth 20) tt

module _ (c : List Rational) where
  abbrev f : Polynomial 3 Rational
  f = form c

  abbrev partials : List (ℕ → Rational)
  partials = partial_rows q f

  zero_plane : IsZeroForm c → HasKernelPlane rational_ops 3 partials
  zero_plane h = subst (λ g. HasKernelPlane rational_ops 3 (partial_rows q g)) (sym (zero_form c h)) plane_of_zero

  cone_plane : (v : ℕ → Rational) → IsCone c v → HasKernelPlane rational_ops 3 partials → ⊥
  cone_plane v h plane = no_plane rational_ops 3 partials rational_laws rational_field.one-ne-zero v h plane

  cone_none : (v : ℕ → Rational) → IsCone c v → HasNoKernel rational_ops 3 partials → ⊥
  cone_none v h none = not_trivial rational_ops 3 partials rational_laws v h none

  ranks : (j k : ℕ) → IsOfRank c j → IsOfRank c k → j ≡ k
  ranks j k a b = rank_unique rational_ops 15 (product_rows q f) j k a.rank b.rank

  cusp_secant : (v l : ℕ → Rational) → IsCusp c v → IsConicSecant c l → ⊥
  cusp_secant v l a b = not_trivial rational_ops 3 (partial_rows q (hessian_form c)) rational_laws v a.spans b.no_cusp

  -- ---- each rule has one move

  by_matrix : (m n i j : Matrix Rational) → m ≡ n → AreInverse q m i → AreInverse q n j → repeated m i ≡ repeated n j
  by_matrix m n i j e a b =
      let k : i ≡ j = inverse_unique q rational_laws n i j (subst (λ u. AreInverse q u i) e a) b in λ t. repeated (e t) (k t)

  -- the move of a matrix over the rational numbers
  abbrev rational_move : Matrix Rational → Matrix Rational → LinearMove
  rational_move m i = record { algebra = rationals; matrix = m; inverse = i }

  by_rational_matrix : (m n i j : Matrix Rational) → m ≡ n → AreInverse q m i → AreInverse q n j → rational_move m i ≡ rational_move n j
  by_rational_matrix m n i j e a b =
      let k : i ≡ j = inverse_unique q rational_laws n i j (subst (λ u. AreInverse q u i) e a) b in λ t. rational_move (e t) (k t)

  -- a route whose first step has this matrix
  module _ (i j : ℕ) (pair_form : Polynomial 3 Rational → List Rational) (next : (V : Type 0) → Scalars V → List (Step V)) where
    abbrev route_by : Matrix Rational → Route
    route_by m = record { first = fixed q m [] []; i = i; j = j; pair_form = pair_form; pair_form_work = λ g. []; next = next }

    abbrev Entries : Matrix Rational → Pair → Type 0
    Entries m p = Matrix (Value (pair_algebra (pair_of f (route_by m)) p))

    abbrev IsInverseBy : (m : Matrix Rational) (p : Pair) → Entries m p → Type 0
    IsInverseBy m p x = AreInverse (scalars (pair_algebra (pair_of f (route_by m)) p)) (route_matrix f (route_by m) p) x

    route_same : (m n : Matrix Rational) → m ≡ n → (p s : Pair) → IsPair (pair_of f (route_by m)) p → IsPair (pair_of f (route_by n)) s
        → (x : Entries m p) (y : Entries n s) → IsInverseBy m p x → IsInverseBy n s y → route_move f (route_by m) p x ≡ route_move f (route_by n) s y
    route_same m n e p s hp hs x y hx hy =
        subst (λ u. (s : Pair) → IsPair (pair_of f (route_by u)) s → (y : Entries u s) → IsInverseBy u s y → route_move f (route_by m) p x ≡ route_move f (route_by u) s y)
        e (λ s hs y hy. subst (λ u. (y : Entries m u) → IsInverseBy m u y → route_move f (route_by m) p x ≡ route_move f (route_by m) u y)
        (pair_unique (pair_of f (route_by m)) p s hp hs)
        (λ y hy. ap (route_move f (route_by m) p)
        (inverse_unique (scalars (pair_algebra (pair_of f (route_by m)) p)) (algebra_scalar_laws (pair_algebra (pair_of f (route_by m)) p)).ring (route_matrix f (route_by m) p) x y hx hy))
        y hy) s hs y hy

  -- ---- the node

  at_column : {k : ℕ} (m : ℕ) → k ≡ m → m < 15 → k < 15
  at_column m e h = subst (λ k. k < 15) (sym e) h

  -- the columns of the products of the cube of one variable and a variable
  inside_columns : (i j : ℕ) → i < 3 → j < 3 → place_in (monomials_of 3 4) (raised (cube_of f i) j) < 15
  unfolding monomials_of
  inside_columns zero zero h k = at_column 0 refl (omega arith)
  inside_columns zero (suc zero) h k = at_column 1 refl (omega arith)
  inside_columns zero (suc (suc zero)) h k = at_column 2 refl (omega arith)
  inside_columns zero (suc (suc (suc j))) h k = absurd (omega arith)
  inside_columns (suc zero) zero h k = at_column 6 refl (omega arith)
  inside_columns (suc zero) (suc zero) h k = at_column 10 refl (omega arith)
  inside_columns (suc zero) (suc (suc zero)) h k = at_column 11 refl (omega arith)
  inside_columns (suc zero) (suc (suc (suc j))) h k = absurd (omega arith)
  inside_columns (suc (suc zero)) zero h k = at_column 9 refl (omega arith)
  inside_columns (suc (suc zero)) (suc zero) h k = at_column 13 refl (omega arith)
  inside_columns (suc (suc zero)) (suc (suc zero)) h k = at_column 14 refl (omega arith)
  inside_columns (suc (suc zero)) (suc (suc (suc j))) h k = absurd (omega arith)
  inside_columns (suc (suc (suc i))) j h k = absurd (omega arith)

  module _ (v w : ℕ → Rational) (k : Rational) (factor : k ≢ o) (multiple : (d : ℕ) → d < 15 → w d ≡ rational_mul k (v d)) (scale : node_scale f v ≢ o) where
    abbrev fourths : (ℕ → Rational) → ℕ → Rational
    fourths u i = value_at u (raised (cube_of f i) i)

    same_place : node_place f w ≡ node_place f v
    same_place = last_same k factor (fourths v) (fourths w) (λ d h. multiple _ (inside_columns d d h h))

    place_inside : node_place f v < 3
    place_inside = last_inside_of (fourths v)
      where
        last_inside_of : (u : ℕ → Rational) → last_place q u < 3
        last_inside_of u = either (is_zero_rational (u 2)) (is_zero_rational (u 1))
          where
            either : (x y : Bool) → (if not x then 2 else (if not y then 1 else 0)) < 3
            either false y = omega arith
            either true false = omega arith
            either true true = omega arith

    entry_multiple : (j : ℕ) → j < 3 → node_entry f w j ≡ rational_mul k (node_entry f v j)
    entry_multiple j h = ap (λ i. value_at w (raised (cube_of f i) j)) same_place ∙ multiple _ (inside_columns (node_place f v) j place_inside h)

    scale_multiple : node_scale f w ≡ rational_mul k (node_scale f v)
    scale_multiple = ap (λ i. node_entry f w i) same_place ∙ entry_multiple (node_place f v) place_inside

    same_point : (j : ℕ) → j < 3 → node_point f w j ≡ rational_mul rational_ops.one (node_point f v j)
    same_point j h =
        (λ t. over q (entry_multiple j h t) (scale_multiple t)) ∙ quotient_same k (node_entry f v j) (node_scale f v) factor scale
        ∙ sym (rational_laws.mul_one (node_point f v j)) ∙ rational_laws.mul_comm (node_point f v j) rational_ops.one

    point_other : node_point f v (node_place f v) ≢ o
    point_other e = rational_field.one-ne-zero (sym (rational_field.mul_inv (node_scale f v) scale) ∙ e)

    same_axis : axis_matrix q 2 (node_point f w) ≡ axis_matrix q 2 (node_point f v)
    same_axis =
        axis_same rational_ops.one rational_field.one-ne-zero (node_point f v) (node_point f w) same_point 2
        (last_inside (node_point f v) (node_place f v) place_inside point_other (is_zero_rational (node_point f v 2)) (is_zero_rational (node_point f v 1)))
        (at_last (node_point f v) (node_place f v) place_inside point_other (is_zero_rational (node_point f v 2)) (is_zero_rational (node_point f v 1)) refl refl)

-- ---- the triangle

-- numbers with one square, both positive, are equal
difference_of_squares : {V : Type 0} (r : RingOps V) (laws : IsCommRing r) (a b : V) → r.mul (r.add b (r.neg a)) (r.add b a) ≡ r.add (r.mul b b) (r.neg (r.mul a a))
difference_of_squares r laws a b = by_ring laws (a ∷ b ∷ []) (search reify depth 30) tt

nothing_left : {V : Type 0} (r : RingOps V) (laws : IsCommRing r) (a : V) → r.add a (r.neg a) ≡ r.zero
nothing_left r laws a = by_ring laws (a ∷ []) (search reify depth 20) tt

opposite_of_sum : {V : Type 0} (r : RingOps V) (laws : IsCommRing r) (a b : V) → b ≡ r.add (r.add b a) (r.neg a)
opposite_of_sum r laws a b = by_ring laws (a ∷ b ∷ []) (search reify depth 20) tt

minus_alone : {V : Type 0} (r : RingOps V) (laws : IsCommRing r) (a : V) → r.add r.zero (r.neg a) ≡ r.neg a
minus_alone r laws a = by_ring laws (a ∷ []) (search reify depth 20) tt

not_opposite : (n : ℤ) → pos 0 <ℤ n → pos 0 <ℤ neg_ℤ n → ⊥
not_opposite (pos zero) h k = absurd (omega arith)
not_opposite (pos (suc n)) h k = absurd (omega arith)
not_opposite (negsuc n) h k = absurd (omega arith)

one_root : (a b : Rational) → rational_mul a a ≡ rational_mul b b → pos 0 <ℤ a.num → pos 0 <ℤ b.num → a ≡ b
one_root a b e ha hb = step (is_zero_rational (rational_add b (rational_neg a))) refl
  where
    sum_other : rational_add b a ≢ o
    sum_other z =
        let opposite : b ≡ rational_neg a = opposite_of_sum rational_ops rational_laws a b ∙ ap (λ v. rational_add v (rational_neg a)) z ∙ minus_alone rational_ops rational_laws a in
        not_opposite a.num ha (subst (λ n. pos 0 <ℤ n) (ap (λ (v : Rational). v.num) opposite ∙ neg_num a) hb)

    step : (x : Bool) → is_zero_rational (rational_add b (rational_neg a)) ≡ x → a ≡ b
    step true z =
        sym (sym (restored rational_ops rational_laws a b) ∙ ap (λ v. rational_add v a) (is_none (rational_add b (rational_neg a)) z) ∙ zero_first rational_ops rational_laws a)
      where
        zero_first : {V : Type 0} (r : RingOps V) (laws : IsCommRing r) (x : V) → r.add r.zero x ≡ x
        zero_first r laws x = by_ring laws (x ∷ []) (search reify depth 20) tt
    step false z =
        absurd (product_other (rational_add b (rational_neg a)) (rational_add b a) (is_other (rational_add b (rational_neg a)) z) sum_other
        (difference_of_squares rational_ops rational_laws a b ∙ ap (λ v. rational_add v (rational_neg (rational_mul a a))) (sym e) ∙ nothing_left rational_ops rational_laws (rational_mul a a)))

-- a binary cubic has one way to its three points
way_unique : (r : List Rational) (p s : Points) → IsWay r p → IsWay r s → p ≡ s
way_unique r (at_corner p) (at_corner s) h k = ap at_corner (pair_unique (quotient_by_y r) p s h.1.1 k.1.1)
way_unique r (at_corner p) (at_rational θ s) h k = absurd (k.0 h.0)
way_unique r (at_corner p) (cyclic σ) h k = absurd (k.0 h.0)
way_unique r (at_corner p) in_tower h k = absurd (k.0 h.0)
way_unique r (at_rational θ p) (at_corner s) h k = absurd (h.0 k.0)
way_unique r (at_rational θ p) (at_rational η s) h k =
    let e : θ ≡ η = at_most_antisym θ η (h.1.least η k.1.root) (k.1.least θ h.1.root) in
    let same : p ≡ s = pair_unique (quotient_by r η) p s (subst (λ u. IsPair (quotient_by r u) p) e h.2.1) k.2.1 in λ t. at_rational (e t) (same t)
way_unique r (at_rational θ p) (cyclic σ) h k = absurd (k.1 θ h.1.root)
way_unique r (at_rational θ p) in_tower h k = absurd (k.1 θ h.1.root)
way_unique r (cyclic σ) (at_corner s) h k = absurd (h.0 k.0)
way_unique r (cyclic σ) (at_rational η s) h k = absurd (h.1 η k.1.root)
way_unique r (cyclic σ) (cyclic τ) h k = ap cyclic (one_root σ τ (h.2 ∙ sym k.2) h.3 k.3)
way_unique r (cyclic σ) in_tower h k = absurd (k.2 σ h.2)
way_unique r in_tower (at_corner s) h k = absurd (h.0 k.0)
way_unique r in_tower (at_rational η s) h k = absurd (h.1 η k.1.root)
way_unique r in_tower (cyclic τ) h k = absurd (h.2 τ k.2)
way_unique r in_tower in_tower h k = refl

some_same : (m k : ℕ) → Some m ≡ Some k → m ≡ k
some_same m k e = ap (λ (x : Option ℕ). elim x [ Some n ↦ n | None ↦ 0 ]) e

module _ (f : Polynomial 3 Rational) where
  abbrev Corner : ℕ → Points → Type 0
  Corner m way = Matrix (Value (algebra_of (plane_section f m) way))

  triangle_same : (m k : ℕ) (way way' : Points) (x : Corner m way) (y : Corner k way') → IsTriangleMove f m way x → IsTriangleMove f k way' y
      → triangle (triangle_move f m way x) ≡ triangle (triangle_move f k way' y)
  triangle_same m k way way' x y hx hy =
      subst (λ u. (way' : Points) (y : Corner u way') → IsTriangleMove f u way' y → triangle (triangle_move f m way x) ≡ triangle (triangle_move f u way' y))
      (some_same m k (sym hx.is_slant ∙ hy.is_slant))
      (λ way' y hy. subst (λ u. (y : Corner m u) → IsTriangleMove f m u y → triangle (triangle_move f m way x) ≡ triangle (triangle_move f m u y))
      (way_unique (plane_section f m) way way' hx.is_way hy.is_way)
      (λ y hy. let a = algebra_of (plane_section f m) way in ap (λ z. triangle (triangle_move f m way z))
      (inverse_unique (scalars a) (algebra_scalar_laws a).ring (gradients (scalars a) (lifted a f) m (points (plane_section f m) way)) x y hx.invertible hy.invertible))
      y hy)
      way' y hy

module _ (c : List Rational) where
  -- vectors that span one kernel give one axis
  same_axis_of : (p : ℕ) (v w : ℕ → Rational) → IsCone c v → IsCone c w → axis_matrix q p v ≡ axis_matrix q p w
  same_axis_of p v w h k = sym (axis_of_kernel (partials c) p v w h k)

  lines_apart : (v w : ℕ → Rational) → IsCone c v → IsCone c w → is_distinct (cubic_shape q (cone_section (form c) v)) ≡ false
      → is_distinct (cubic_shape q (cone_section (form c) w)) ≡ true → ⊥
  lines_apart v w h k e d =
      let same : false ≡ true = sym e ∙ ap (λ m. is_distinct (cubic_shape q (binary_part (moved q m (form c))))) (same_axis_of 2 v w h k) ∙ d in cc same

  other_ranks : (j k : ℕ) → (j ≡ k → ⊥) → IsOfRank c j → IsOfRank c k → ⊥
  other_ranks j k differ a b = differ (ranks c j k a b)

  repeated_matrix : (v w : ℕ → Rational) → IsCone c v → IsCone c w → matrix_by q (repeated_steps (form c) v) (form c) ≡ matrix_by q (repeated_steps (form c) w) (form c)
  repeated_matrix v w h k = ap (λ m. matrix_after q m (line_step ∷ []) (moved q m (form c))) (same_axis_of 2 v w h k)

  cusp_matrix : (v w : ℕ → Rational) → IsCusp c v → IsCusp c w → matrix_by q (all_cusp_steps (form c) v) (form c) ≡ matrix_by q (all_cusp_steps (form c) w) (form c)
  cusp_matrix v w h k =
      ap (λ m. matrix_after q m (cusp_steps q) (moved q m (form c))) (sym (axis_of_kernel (partial_rows q (hessian_form c)) 1 v w h.spans k.spans))

  concurrent_same : (v w : ℕ → Rational) → IsCone c v → IsCone c w → (p s : Pair) (x : Matrix (Value (pair_algebra (pair_of (form c) (concurrent_route (form c) v)) p)))
      (y : Matrix (Value (pair_algebra (pair_of (form c) (concurrent_route (form c) w)) s))) → {a b : List (List ℕ)}
      → Arrives (form c) (concurrent_route (form c) v) p a x → Arrives (form c) (concurrent_route (form c) w) s b y
      → route_move (form c) (concurrent_route (form c) v) p x ≡ route_move (form c) (concurrent_route (form c) w) s y
  concurrent_same v w h k p s x y a b =
      let r = concurrent_route (form c) v in
      route_same c r.i r.j r.pair_form r.next (axis_matrix q 2 v) (axis_matrix q 2 w) (same_axis_of 2 v w h k) p s a.is_pair b.is_pair x y a.invertible b.invertible

  secant_same : (v w : ℕ → Rational) → IsConicSecant c v → IsConicSecant c w → (p s : Pair) (x : Matrix (Value (pair_algebra (pair_of (form c) (secant_route (form c) v)) p)))
      (y : Matrix (Value (pair_algebra (pair_of (form c) (secant_route (form c) w)) s))) → {a b : List (List ℕ)}
      → Arrives (form c) (secant_route (form c) v) p a x → Arrives (form c) (secant_route (form c) w) s b y
      → route_move (form c) (secant_route (form c) v) p x ≡ route_move (form c) (secant_route (form c) w) s y
  secant_same v w h k p s x y a b =
      let r = secant_route (form c) v in
      route_same c r.i r.j r.pair_form r.next (plane_matrix q 0 v) (plane_matrix q 0 w) (sym (plane_of_lines (form c) 0 v w h.spans k.spans)) p s a.is_pair b.is_pair x y a.invertible b.invertible

  node_same : (v w : ℕ → Rational) → IsNode c v → IsNode c w → (p s : Pair) (x : Matrix (Value (pair_algebra (pair_of (form c) (node_route (form c) v)) p)))
      (y : Matrix (Value (pair_algebra (pair_of (form c) (node_route (form c) w)) s))) → {a b : List (List ℕ)}
      → Arrives (form c) (node_route (form c) v) p a x → Arrives (form c) (node_route (form c) w) s b y
      → route_move (form c) (node_route (form c) v) p x ≡ route_move (form c) (node_route (form c) w) s y
  node_same v w h k p s x y a b =
      let r = node_route (form c) v in
      let m : (e : Rational) × (e ≢ o) × ((d : ℕ) → d < 15 → w d ≡ rational_mul e (v d)) = kernel_multiple rational_ops 15 (product_rows q (form c)) rational_laws v w h.spans k.spans in
      route_same c r.i r.j r.pair_form r.next (axis_matrix q 2 (node_point (form c) v)) (axis_matrix q 2 (node_point (form c) w))
      (sym (same_axis c v w m.0 m.1 m.2 a.first_divisors.0)) p s a.is_pair b.is_pair x y a.invertible b.invertible

  -- two rules that apply to a cubic give one shape
  same_rule : {t u : Shape} → ByRule c t → ByRule c u → t ≡ u
  same_rule (is_zero z) (is_zero z') = refl
  same_rule (is_zero z) (is_cube i' k' p') = absurd (k'.not_zero z)
  same_rule (is_zero z) (is_repeated v' i' k' e' p') = absurd (cone_plane c v' k' (zero_plane c z))
  same_rule (is_zero z) (is_concurrent v' p' i' k' e' a') = absurd (cone_plane c v' k' (zero_plane c z))
  same_rule (is_zero z) (is_smooth k') = absurd (plane_not_trivial (partials c) (zero_plane c z) k'.no_kernel)
  same_rule (is_zero z) (is_node w' p' i' k' a') = absurd (plane_not_trivial (partials c) (zero_plane c z) k'.rank.no_kernel)
  same_rule (is_zero z) (is_cusp v' i' k' a') = absurd (plane_not_trivial (partials c) (zero_plane c z) k'.rank.no_kernel)
  same_rule (is_zero z) (is_conic_secant l' p' i' k' a') = absurd (plane_not_trivial (partials c) (zero_plane c z) k'.rank.no_kernel)
  same_rule (is_zero z) (is_conic_tangent i' k' a') = absurd (plane_not_trivial (partials c) (zero_plane c z) k'.rank.no_kernel)
  same_rule (is_zero z) (is_triangle m' y' i' k' a') = absurd (plane_not_trivial (partials c) (zero_plane c z) k'.rank.no_kernel)
  same_rule (is_cube i k p) (is_zero z') = absurd (k.not_zero z')
  same_rule (is_cube i k p) (is_cube i' k' p') = ap (repeated (matrix_by q (cube_steps (form c)) (form c))) (inverse_unique q rational_laws (matrix_by q (cube_steps (form c)) (form c)) i i' p.invertible p'.invertible)
  same_rule (is_cube i k p) (is_repeated v' i' k' e' p') = absurd (cone_plane c v' k' k.kernel)
  same_rule (is_cube i k p) (is_concurrent v' p' i' k' e' a') = absurd (cone_plane c v' k' k.kernel)
  same_rule (is_cube i k p) (is_smooth k') = absurd (plane_not_trivial (partials c) k.kernel k'.no_kernel)
  same_rule (is_cube i k p) (is_node w' p' i' k' a') = absurd (plane_not_trivial (partials c) k.kernel k'.rank.no_kernel)
  same_rule (is_cube i k p) (is_cusp v' i' k' a') = absurd (plane_not_trivial (partials c) k.kernel k'.rank.no_kernel)
  same_rule (is_cube i k p) (is_conic_secant l' p' i' k' a') = absurd (plane_not_trivial (partials c) k.kernel k'.rank.no_kernel)
  same_rule (is_cube i k p) (is_conic_tangent i' k' a') = absurd (plane_not_trivial (partials c) k.kernel k'.rank.no_kernel)
  same_rule (is_cube i k p) (is_triangle m' y' i' k' a') = absurd (plane_not_trivial (partials c) k.kernel k'.rank.no_kernel)
  same_rule (is_repeated v i k e p) (is_zero z') = absurd (cone_plane c v k (zero_plane c z'))
  same_rule (is_repeated v i k e p) (is_cube i' k' p') = absurd (cone_plane c v k k'.kernel)
  same_rule (is_repeated v i k e p) (is_repeated v' i' k' e' p') = by_matrix c _ _ i i' (repeated_matrix v v' k k') p.invertible p'.invertible
  same_rule (is_repeated v i k e p) (is_concurrent v' p' i' k' e' a') = absurd (lines_apart v v' k k' e e')
  same_rule (is_repeated v i k e p) (is_smooth k') = absurd (cone_none c v k k'.no_kernel)
  same_rule (is_repeated v i k e p) (is_node w' p' i' k' a') = absurd (cone_none c v k k'.rank.no_kernel)
  same_rule (is_repeated v i k e p) (is_cusp v' i' k' a') = absurd (cone_none c v k k'.rank.no_kernel)
  same_rule (is_repeated v i k e p) (is_conic_secant l' p' i' k' a') = absurd (cone_none c v k k'.rank.no_kernel)
  same_rule (is_repeated v i k e p) (is_conic_tangent i' k' a') = absurd (cone_none c v k k'.rank.no_kernel)
  same_rule (is_repeated v i k e p) (is_triangle m' y' i' k' a') = absurd (cone_none c v k k'.rank.no_kernel)
  same_rule (is_concurrent v p i k e a) (is_zero z') = absurd (cone_plane c v k (zero_plane c z'))
  same_rule (is_concurrent v p i k e a) (is_cube i' k' p') = absurd (cone_plane c v k k'.kernel)
  same_rule (is_concurrent v p i k e a) (is_repeated v' i' k' e' p') = absurd (lines_apart v' v k' k e' e)
  same_rule (is_concurrent v p i k e a) (is_concurrent v' p' i' k' e' a') = ap concurrent (concurrent_same v v' k k' p p' i i' a a')
  same_rule (is_concurrent v p i k e a) (is_smooth k') = absurd (cone_none c v k k'.no_kernel)
  same_rule (is_concurrent v p i k e a) (is_node w' p' i' k' a') = absurd (cone_none c v k k'.rank.no_kernel)
  same_rule (is_concurrent v p i k e a) (is_cusp v' i' k' a') = absurd (cone_none c v k k'.rank.no_kernel)
  same_rule (is_concurrent v p i k e a) (is_conic_secant l' p' i' k' a') = absurd (cone_none c v k k'.rank.no_kernel)
  same_rule (is_concurrent v p i k e a) (is_conic_tangent i' k' a') = absurd (cone_none c v k k'.rank.no_kernel)
  same_rule (is_concurrent v p i k e a) (is_triangle m' y' i' k' a') = absurd (cone_none c v k k'.rank.no_kernel)
  same_rule (is_smooth k) (is_zero z') = absurd (plane_not_trivial (partials c) (zero_plane c z') k.no_kernel)
  same_rule (is_smooth k) (is_cube i' k' p') = absurd (plane_not_trivial (partials c) k'.kernel k.no_kernel)
  same_rule (is_smooth k) (is_repeated v' i' k' e' p') = absurd (cone_none c v' k' k.no_kernel)
  same_rule (is_smooth k) (is_concurrent v' p' i' k' e' a') = absurd (cone_none c v' k' k.no_kernel)
  same_rule (is_smooth k) (is_smooth k') = refl
  same_rule (is_smooth k) (is_node w' p' i' k' a') = absurd (other_ranks 15 14 (λ e. omega arith) k k'.rank)
  same_rule (is_smooth k) (is_cusp v' i' k' a') = absurd (other_ranks 15 13 (λ e. omega arith) k k'.rank)
  same_rule (is_smooth k) (is_conic_secant l' p' i' k' a') = absurd (other_ranks 15 13 (λ e. omega arith) k k'.rank)
  same_rule (is_smooth k) (is_conic_tangent i' k' a') = absurd (other_ranks 15 12 (λ e. omega arith) k k'.rank)
  same_rule (is_smooth k) (is_triangle m' y' i' k' a') = absurd (other_ranks 15 12 (λ e. omega arith) k k'.rank)
  same_rule (is_node w p i k a) (is_zero z') = absurd (plane_not_trivial (partials c) (zero_plane c z') k.rank.no_kernel)
  same_rule (is_node w p i k a) (is_cube i' k' p') = absurd (plane_not_trivial (partials c) k'.kernel k.rank.no_kernel)
  same_rule (is_node w p i k a) (is_repeated v' i' k' e' p') = absurd (cone_none c v' k' k.rank.no_kernel)
  same_rule (is_node w p i k a) (is_concurrent v' p' i' k' e' a') = absurd (cone_none c v' k' k.rank.no_kernel)
  same_rule (is_node w p i k a) (is_smooth k') = absurd (other_ranks 14 15 (λ e. omega arith) k.rank k')
  same_rule (is_node w p i k a) (is_node w' p' i' k' a') = ap node (node_same w w' k k' p p' i i' a a')
  same_rule (is_node w p i k a) (is_cusp v' i' k' a') = absurd (other_ranks 14 13 (λ e. omega arith) k.rank k'.rank)
  same_rule (is_node w p i k a) (is_conic_secant l' p' i' k' a') = absurd (other_ranks 14 13 (λ e. omega arith) k.rank k'.rank)
  same_rule (is_node w p i k a) (is_conic_tangent i' k' a') = absurd (other_ranks 14 12 (λ e. omega arith) k.rank k'.rank)
  same_rule (is_node w p i k a) (is_triangle m' y' i' k' a') = absurd (other_ranks 14 12 (λ e. omega arith) k.rank k'.rank)
  same_rule (is_cusp v i k a) (is_zero z') = absurd (plane_not_trivial (partials c) (zero_plane c z') k.rank.no_kernel)
  same_rule (is_cusp v i k a) (is_cube i' k' p') = absurd (plane_not_trivial (partials c) k'.kernel k.rank.no_kernel)
  same_rule (is_cusp v i k a) (is_repeated v' i' k' e' p') = absurd (cone_none c v' k' k.rank.no_kernel)
  same_rule (is_cusp v i k a) (is_concurrent v' p' i' k' e' a') = absurd (cone_none c v' k' k.rank.no_kernel)
  same_rule (is_cusp v i k a) (is_smooth k') = absurd (other_ranks 13 15 (λ e. omega arith) k.rank k')
  same_rule (is_cusp v i k a) (is_node w' p' i' k' a') = absurd (other_ranks 13 14 (λ e. omega arith) k.rank k'.rank)
  same_rule (is_cusp v i k a) (is_cusp v' i' k' a') = ap cusp (by_rational_matrix c _ _ i i' (cusp_matrix v v' k k') a.passable.invertible a'.passable.invertible)
  same_rule (is_cusp v i k a) (is_conic_secant l' p' i' k' a') = absurd (cusp_secant c v l' k k')
  same_rule (is_cusp v i k a) (is_conic_tangent i' k' a') = absurd (other_ranks 13 12 (λ e. omega arith) k.rank k'.rank)
  same_rule (is_cusp v i k a) (is_triangle m' y' i' k' a') = absurd (other_ranks 13 12 (λ e. omega arith) k.rank k'.rank)
  same_rule (is_conic_secant l p i k a) (is_zero z') = absurd (plane_not_trivial (partials c) (zero_plane c z') k.rank.no_kernel)
  same_rule (is_conic_secant l p i k a) (is_cube i' k' p') = absurd (plane_not_trivial (partials c) k'.kernel k.rank.no_kernel)
  same_rule (is_conic_secant l p i k a) (is_repeated v' i' k' e' p') = absurd (cone_none c v' k' k.rank.no_kernel)
  same_rule (is_conic_secant l p i k a) (is_concurrent v' p' i' k' e' a') = absurd (cone_none c v' k' k.rank.no_kernel)
  same_rule (is_conic_secant l p i k a) (is_smooth k') = absurd (other_ranks 13 15 (λ e. omega arith) k.rank k')
  same_rule (is_conic_secant l p i k a) (is_node w' p' i' k' a') = absurd (other_ranks 13 14 (λ e. omega arith) k.rank k'.rank)
  same_rule (is_conic_secant l p i k a) (is_cusp v' i' k' a') = absurd (cusp_secant c v' l k' k)
  same_rule (is_conic_secant l p i k a) (is_conic_secant l' p' i' k' a') = ap conic_secant (secant_same l l' k k' p p' i i' a a')
  same_rule (is_conic_secant l p i k a) (is_conic_tangent i' k' a') = absurd (other_ranks 13 12 (λ e. omega arith) k.rank k'.rank)
  same_rule (is_conic_secant l p i k a) (is_triangle m' y' i' k' a') = absurd (other_ranks 13 12 (λ e. omega arith) k.rank k'.rank)
  same_rule (is_conic_tangent i k a) (is_zero z') = absurd (plane_not_trivial (partials c) (zero_plane c z') k.rank.no_kernel)
  same_rule (is_conic_tangent i k a) (is_cube i' k' p') = absurd (plane_not_trivial (partials c) k'.kernel k.rank.no_kernel)
  same_rule (is_conic_tangent i k a) (is_repeated v' i' k' e' p') = absurd (cone_none c v' k' k.rank.no_kernel)
  same_rule (is_conic_tangent i k a) (is_concurrent v' p' i' k' e' a') = absurd (cone_none c v' k' k.rank.no_kernel)
  same_rule (is_conic_tangent i k a) (is_smooth k') = absurd (other_ranks 12 15 (λ e. omega arith) k.rank k')
  same_rule (is_conic_tangent i k a) (is_node w' p' i' k' a') = absurd (other_ranks 12 14 (λ e. omega arith) k.rank k'.rank)
  same_rule (is_conic_tangent i k a) (is_cusp v' i' k' a') = absurd (other_ranks 12 13 (λ e. omega arith) k.rank k'.rank)
  same_rule (is_conic_tangent i k a) (is_conic_secant l' p' i' k' a') = absurd (other_ranks 12 13 (λ e. omega arith) k.rank k'.rank)
  same_rule (is_conic_tangent i k a) (is_conic_tangent i' k' a') = ap conic_tangent (by_rational_matrix c _ _ i i' refl a.passable.invertible a'.passable.invertible)
  same_rule (is_conic_tangent i k a) (is_triangle m' y' i' k' a') = absurd (k.no_triangle k'.multiple)
  same_rule (is_triangle m y i k a) (is_zero z') = absurd (plane_not_trivial (partials c) (zero_plane c z') k.rank.no_kernel)
  same_rule (is_triangle m y i k a) (is_cube i' k' p') = absurd (plane_not_trivial (partials c) k'.kernel k.rank.no_kernel)
  same_rule (is_triangle m y i k a) (is_repeated v' i' k' e' p') = absurd (cone_none c v' k' k.rank.no_kernel)
  same_rule (is_triangle m y i k a) (is_concurrent v' p' i' k' e' a') = absurd (cone_none c v' k' k.rank.no_kernel)
  same_rule (is_triangle m y i k a) (is_smooth k') = absurd (other_ranks 12 15 (λ e. omega arith) k.rank k')
  same_rule (is_triangle m y i k a) (is_node w' p' i' k' a') = absurd (other_ranks 12 14 (λ e. omega arith) k.rank k'.rank)
  same_rule (is_triangle m y i k a) (is_cusp v' i' k' a') = absurd (other_ranks 12 13 (λ e. omega arith) k.rank k'.rank)
  same_rule (is_triangle m y i k a) (is_conic_secant l' p' i' k' a') = absurd (other_ranks 12 13 (λ e. omega arith) k.rank k'.rank)
  same_rule (is_triangle m y i k a) (is_conic_tangent i' k' a') = absurd (k'.no_triangle k.multiple)
  same_rule (is_triangle m y i k a) (is_triangle m' y' i' k' a') = triangle_same (form c) m m' y y' i i' a a'

  -- a cubic has one shape
  pub one_shape : (t u : Shape) → HasShape c t → HasShape c u → t ≡ u
  one_shape t u (by_rule h) (by_rule k) = same_rule h k
  one_shape t _ (by_rule h) (by_none none) = absurd (none t h)
  one_shape _ u (by_none none) (by_rule h) = absurd (none u h)
  one_shape _ _ (by_none none) (by_none none') = refl
