-- The operations of a triangle's move, whose heights count.
use Rattle.std.specs.Prelude.{◌≡◌, ◌≢◌, ℕ, suc, pos, ◌*◌, ◌≤◌, ◌^◌, Some, None, List, [], ◌∷◌, ◌++◌, map, flat_map, get_or}
use Rattle.ring_theory.specs.Height.{rational_scalars}
use Rattle.ring_theory.specs.Rational.{Rational, rational, rational_ops}
use Rattle.ring_theory.specs.Scalars.{Scalars}
use Rattle.poly_law.specs.ExpList.{ExpList}
use Rattle.poly_law.specs.Polynomials.{Polynomial, derivative_in}
use Rattle.mono_exp.specs.Exponents.{numbers_below}
use Rattle.ext_theory.specs.Roots.{HasNoRoot, IsLeastRootOf}
use Rattle.small_frac.specs.Roots.{QuadraticIsHigh, cubic_root_height}
use Rattle.lin_row.specs.Plain.{Among}
use Rattle.ring_formula.specs.Formulas.{multiplied}
use Rattle.move_law.specs.Moves.{whole, over, minus}
use Rattle.move_law.specs.Shapes.{nth, cubic_work, over_work}
use Rattle.move_law.specs.Work as work
use Rattle.move_law.specs.Work.{Work, IsWorkHigh}
use Rattle.ternary_law.specs.Matrices.{Matrix, places, linear_move, AreInverse}
use Rattle.ext_algebra.specs.Algebra.{Value, scalars}
use Rattle.move_law.specs.Algebras.{root_of, lifted}
use Rattle.ext_theory.specs.Tower.{tower_s}
use Rattle.ternary_law.specs.Pairs.{monic, pair_asking, pair_root_work}
use Rattle.ternary_law.specs.Triangle.{Points, at_corner, at_rational, cyclic, in_tower, IsWay, algebra_of, points, slanted, plane_section, slant, r0, modulus, modulus_at, cubic_discriminant, quotient_by_y, quotient_by, slope_at, term_at, height_above, gradients}

-- the rational numbers
abbrev q : Scalars Rational
q = rational_scalars

-- the sections of f by the planes of the slants 0, .., m, and the shapes of these binary cubics
abbrev pub sections_work : Polynomial 3 Rational → ℕ → List (Work 3 Rational)
sections_work f m = flat_map (λ k. work.carried 3 (linear_move 3 q (slanted f k)) f ∷ cubic_work q 3 (plane_section f k)) (numbers_below (suc m))

module _ (r : List Rational) where
  -- the quotients of p = r(t, 1)/r0
  abbrev pub modulus_work : List (Work 3 Rational)
  modulus_work = over_work q 3 (nth q r 1) (r0 r) ++ over_work q 3 (nth q r 2) (r0 r) ++ over_work q 3 (nth q r 3) (r0 r)

  -- r divided by x - θ y
  abbrev pub quotient_work : Rational → List (Work 3 Rational)
  quotient_work θ =
      let c = quotient_by r θ in
      work.product θ (nth q c 0) ∷ work.sum (nth q r 1 ∷ q.ops.mul θ (nth q c 0) ∷ [])
      ∷ work.product θ (nth q c 1) ∷ work.sum (nth q r 2 ∷ q.ops.mul θ (nth q c 1) ∷ []) ∷ []

  -- the discriminant of p
  abbrev pub discriminant_work : List (Work 3 Rational)
  discriminant_work = work.formula ((modulus r).c0 ∷ (modulus r).c1 ∷ (modulus r).c2 ∷ []) cubic_discriminant ∷ []

module _ {V : Type 0} (v : Scalars V) where
  -- the roots of a cubic by one root t and the square root σ of the discriminant
  abbrev pub three_roots_work : (a2 a1 : Rational) → (t σ : V) → List (Work 3 V)
  three_roots_work a2 a1 t σ =
      let tt = v.ops.mul t t in
      let first = v.ops.mul (whole v 3) tt in
      let double = v.ops.mul (whole v 2) (v.rational a2) in
      let second = v.ops.mul double t in
      let rest = minus v (v.ops.neg (v.rational a2)) t in
      let slope = slope_at v a2 a1 t in
      let w = over v σ slope in
      let half = v.rational (rational (pos 1) 2) in
      work.product t t ∷ work.product (whole v 3) tt ∷ work.product (whole v 2) (v.rational a2) ∷ work.product double t
      ∷ work.sum (first ∷ second ∷ v.rational a1 ∷ []) ∷ over_work v 3 σ slope
      ++ (work.sum (v.ops.neg (v.rational a2) ∷ v.ops.neg t ∷ w ∷ []) ∷ work.sum (v.ops.neg (v.rational a2) ∷ v.ops.neg t ∷ v.ops.neg w ∷ [])
      ∷ work.product (v.ops.add rest w) half ∷ work.product (minus v rest w) half ∷ [])

  -- the products v x^0, .., v x^k
  abbrev powers_work : V → V → ℕ → List (Work 3 V)
  powers_work u x k = map (λ i. work.product (multiplied v u x i) x) (numbers_below k)

  -- a term at a point
  abbrev term_work : (x y z : V) → ExpList 3 × V → List (Work 3 V)
  term_work x y z t =
      let a = get_or t.0.entries 0 0 in
      let b = get_or t.0.entries 1 0 in
      let first = multiplied v t.1 x a in
      let second = multiplied v first y b in powers_work t.1 x a ++ powers_work first y b ++ powers_work second z (get_or t.0.entries 2 0)

  -- a form at a point: its terms and their sum
  abbrev form_work : (x y z : V) → Polynomial 3 V → List (Work 3 V)
  form_work x y z f = flat_map (term_work x y z) f ++ work.sum (map (term_at v x y z) f) ∷ []

  -- the partial in variable i
  abbrev partial_work : Polynomial 3 V → ℕ → List (Work 3 V)
  partial_work f i = map (λ t. work.product (whole v (get_or t.0.entries i 0)) t.1) f

  -- the gradient at the point above (x, y)
  abbrev gradient_work : Polynomial 3 V → ℕ → V × V → List (Work 3 V)
  gradient_work f m p =
      let a = v.ops.mul (whole v m) p.0 in
      let b = v.ops.mul (whole v (m * m)) p.1 in
      work.product (whole v m) p.0 ∷ work.product (whole v (m * m)) p.1 ∷ work.sum (a ∷ b ∷ [])
      ∷ flat_map (λ i. form_work p.0 p.1 (height_above v m p) (derivative_in 3 v.ops i f)) places

  -- of the gradients at several points
  abbrev pub gradients_work : Polynomial 3 V → ℕ → List (V × V) → List (Work 3 V)
  gradients_work f m ps = flat_map (partial_work f) places ++ flat_map (gradient_work f m) ps

-- the roots of the way
abbrev pub way_work : (r : List Rational) (way : Points) → List (Work 3 (Value (algebra_of r way)))
way_work r (at_corner p) = pair_root_work (quotient_by_y r) p
way_work r (at_rational θ p) = pair_root_work (quotient_by r θ) p
way_work r (cyclic σ) =
    let v = scalars (algebra_of r (cyclic σ)) in three_roots_work v (modulus r).c2 (modulus r).c1 (root_of (algebra_of r (cyclic σ))) (v.rational σ)
way_work r in_tower =
    let v = scalars (algebra_of r in_tower) in
    three_roots_work v (modulus r).c2 (modulus r).c1 (root_of (algebra_of r in_tower)) (tower_s rational_ops)

-- some operation of the move of the triangle f is high: of the search for a slant m, where none of 0, .., 6 serves the whole search; then, for the binary
-- cubic r of the slant, of the ways to its points; of the points and gradients; of the inverse of their matrix; of the test
pub data IsTriangleHigh (f : Polynomial 3 Rational) : Type 0 where
  in_sections : (m : ℕ) → slant f ≡ Some m → Among (IsWorkHigh 3 q) (sections_work f m) → IsTriangleHigh f
  in_all_sections : slant f ≡ None → Among (IsWorkHigh 3 q) (sections_work f 6) → IsTriangleHigh f
  in_modulus : (m : ℕ) → slant f ≡ Some m → r0 (plane_section f m) ≢ q.ops.zero → Among (IsWorkHigh 3 q) (modulus_work (plane_section f m)) → IsTriangleHigh f
  in_root_search : (m : ℕ) → slant f ≡ Some m → r0 (plane_section f m) ≢ q.ops.zero
      → 2 ^ 120 ≤ cubic_root_height (modulus (plane_section f m)) → IsTriangleHigh f
  at_corner_pair : (m : ℕ) → slant f ≡ Some m → r0 (plane_section f m) ≡ q.ops.zero
      → Among (IsWorkHigh 3 q) (pair_asking (quotient_by_y (plane_section f m))) → IsTriangleHigh f
  at_corner_roots : (m : ℕ) → slant f ≡ Some m → r0 (plane_section f m) ≡ q.ops.zero → QuadraticIsHigh (monic (quotient_by_y (plane_section f m))) → IsTriangleHigh f
  at_rational_pair : (m : ℕ) (θ : Rational) → slant f ≡ Some m → r0 (plane_section f m) ≢ q.ops.zero → IsLeastRootOf (modulus_at (plane_section f m)) θ
      → Among (IsWorkHigh 3 q) (quotient_work (plane_section f m) θ ++ pair_asking (quotient_by (plane_section f m) θ)) → IsTriangleHigh f
  at_rational_roots : (m : ℕ) (θ : Rational) → slant f ≡ Some m → r0 (plane_section f m) ≢ q.ops.zero → IsLeastRootOf (modulus_at (plane_section f m)) θ
      → QuadraticIsHigh (monic (quotient_by (plane_section f m) θ)) → IsTriangleHigh f
  in_discriminant : (m : ℕ) → slant f ≡ Some m → r0 (plane_section f m) ≢ q.ops.zero → HasNoRoot (modulus_at (plane_section f m))
      → Among (IsWorkHigh 3 q) (discriminant_work (plane_section f m)) → IsTriangleHigh f
  in_gradients : (m : ℕ) (way : Points) → slant f ≡ Some m → IsWay (plane_section f m) way
      → (let a = algebra_of (plane_section f m) way in
      let ps = points (plane_section f m) way in
      Among (IsWorkHigh 3 (scalars a)) (way_work (plane_section f m) way ++ gradients_work (scalars a) (lifted a f) m ps
      ++ work.inverted (linear_move 3 (scalars a) (gradients (scalars a) (lifted a f) m ps)) ∷ [])) → IsTriangleHigh f
  in_test : (m : ℕ) (way : Points) (matrix : Matrix (Value (algebra_of (plane_section f m) way))) → slant f ≡ Some m → IsWay (plane_section f m) way
      → (let a = algebra_of (plane_section f m) way in AreInverse (scalars a) (gradients (scalars a) (lifted a f) m (points (plane_section f m) way)) matrix)
      → (let a = algebra_of (plane_section f m) way in Among (IsWorkHigh 3 (scalars a)) (work.carried 3 (linear_move 3 (scalars a) matrix) (lifted a f) ∷ []))
      → IsTriangleHigh f
