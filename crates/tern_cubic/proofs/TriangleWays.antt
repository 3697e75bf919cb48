-- A binary cubic has one way to its three points, so a triangle has no move where it has none by one way.
use Rattle.std.proofs.Common.{◌≡◌, ◌≢◌, ℕ, zero, suc, ℤ, pos, negsuc, neg_ℤ, ◌<ℤ◌, Bool, true, false, Option, Some, None, List, [], ◌∷◌, refl, sym, ◌∙◌, ap, subst, arith}
use Rattle.ring_theory.specs.Ring.{RingOps, IsCommRing}
use Rattle.ring_theory.specs.Rational.{Rational, rational_add, rational_mul, rational_neg, rational_ops}
use Rattle.ring_theory.specs.Height.{is_zero_rational}
use Rattle.ring_theory.proofs.RationalLaws.{rational_laws}
use Rattle.ring_theory.proofs.RingReify.{by_ring, reify}
use Rattle.poly_law.specs.Polynomials.{Polynomial}
use Rattle.ext_algebra.specs.Algebra.{Value}
use Rattle.ternary_law.specs.Matrices.{Matrix}
use Rattle.ternary_law.specs.Pairs.{IsPair}
use Rattle.ternary_law.specs.Triangle.{Points, at_corner, at_rational, cyclic, in_tower, IsWay, algebra_of, plane_section, quotient_by_y, quotient_by}
use Rattle.ternary_law.specs.Shapes.{IsTriangleMove}
use Rattle.ternary_law.proofs.Roots.{at_most_antisym, pair_unique, neg_num, restored}
use Rattle.ternary_law.proofs.Scaling.{product_other, is_other, is_none}
use Rattle.tern_cubic.specs.OtherShapes.{HasNoMove, no_slant, no_way, by_way}

abbrev o : Rational
o = rational_ops.zero

difference_of_squares : {V : Type 0} (r : RingOps V) (laws : IsCommRing r) (a b : V) → r.mul (r.add b (r.neg a)) (r.add b a) ≡ r.add (r.mul b b) (r.neg (r.mul a a))
difference_of_squares r laws a b = by_ring laws (a ∷ b ∷ []) (search reify depth 30) tt

nothing_left : {V : Type 0} (r : RingOps V) (laws : IsCommRing r) (a : V) → r.add a (r.neg a) ≡ r.zero
nothing_left r laws a = by_ring laws (a ∷ []) (search reify depth 20) tt

-- b = -a where b + a = 0
opposite_of_sum : {V : Type 0} (r : RingOps V) (laws : IsCommRing r) (a b : V) → b ≡ r.add (r.add b a) (r.neg a)
opposite_of_sum r laws a b = by_ring laws (a ∷ b ∷ []) (search reify depth 20) tt

minus_alone : {V : Type 0} (r : RingOps V) (laws : IsCommRing r) (a : V) → r.add r.zero (r.neg a) ≡ r.neg a
minus_alone r laws a = by_ring laws (a ∷ []) (search reify depth 20) tt

zero_first : {V : Type 0} (r : RingOps V) (laws : IsCommRing r) (x : V) → r.add r.zero x ≡ x
zero_first r laws x = by_ring laws (x ∷ []) (search reify depth 20) tt

not_opposite : (n : ℤ) → pos 0 <ℤ n → pos 0 <ℤ neg_ℤ n → ⊥
not_opposite (pos zero) h k = absurd (omega arith)
not_opposite (pos (suc n)) h k = absurd (omega arith)
not_opposite (negsuc n) h k = absurd (omega arith)

-- positive numbers with one square are equal
one_root : (a b : Rational) → rational_mul a a ≡ rational_mul b b → pos 0 <ℤ a.num → pos 0 <ℤ b.num → a ≡ b
one_root a b e ha hb = step (is_zero_rational (rational_add b (rational_neg a))) refl
  where
    sum_other : rational_add b a ≢ o
    sum_other z =
        let opposite : b ≡ rational_neg a = opposite_of_sum rational_ops rational_laws a b ∙ ap (λ v. rational_add v (rational_neg a)) z ∙ minus_alone rational_ops rational_laws a in
        not_opposite a.num ha (subst (λ n. pos 0 <ℤ n) (ap (λ (v : Rational). v.num) opposite ∙ neg_num a) hb)

    step : (x : Bool) → is_zero_rational (rational_add b (rational_neg a)) ≡ x → a ≡ b
    step true z =
        sym (sym (restored rational_ops rational_laws a b) ∙ ap (λ v. rational_add v a) (is_none (rational_add b (rational_neg a)) z) ∙ zero_first rational_ops rational_laws a)
    step false z =
        absurd (product_other (rational_add b (rational_neg a)) (rational_add b a) (is_other (rational_add b (rational_neg a)) z) sum_other
        (difference_of_squares rational_ops rational_laws a b ∙ ap (λ v. rational_add v (rational_neg (rational_mul a a))) (sym e) ∙ nothing_left rational_ops rational_laws (rational_mul a a)))

-- a binary cubic has one way to its three points
way_unique : (r : List Rational) (p s : Points) → IsWay r p → IsWay r s → p ≡ s
way_unique r (at_corner p) (at_corner s) h k = ap at_corner (pair_unique (quotient_by_y r) p s h.1.1 k.1.1)
way_unique r (at_corner p) (at_rational θ s) h k = absurd (k.0 h.0)
way_unique r (at_corner p) (cyclic σ) h k = absurd (k.0 h.0)
way_unique r (at_corner p) in_tower h k = absurd (k.0 h.0)
way_unique r (at_rational θ p) (at_corner s) h k = absurd (h.0 k.0)
way_unique r (at_rational θ p) (at_rational η s) h k =
    let e : θ ≡ η = at_most_antisym θ η (h.1.least η k.1.root) (k.1.least θ h.1.root) in
    let same : p ≡ s = pair_unique (quotient_by r η) p s (subst (λ u. IsPair (quotient_by r u) p) e h.2.1) k.2.1 in λ t. at_rational (e t) (same t)
way_unique r (at_rational θ p) (cyclic σ) h k = absurd (k.1 θ h.1.root)
way_unique r (at_rational θ p) in_tower h k = absurd (k.1 θ h.1.root)
way_unique r (cyclic σ) (at_corner s) h k = absurd (h.0 k.0)
way_unique r (cyclic σ) (at_rational η s) h k = absurd (h.1 η k.1.root)
way_unique r (cyclic σ) (cyclic τ) h k = ap cyclic (one_root σ τ (h.2 ∙ sym k.2) h.3 k.3)
way_unique r (cyclic σ) in_tower h k = absurd (k.2 σ h.2)
way_unique r in_tower (at_corner s) h k = absurd (h.0 k.0)
way_unique r in_tower (at_rational η s) h k = absurd (h.1 η k.1.root)
way_unique r in_tower (cyclic τ) h k = absurd (h.2 τ k.2)
way_unique r in_tower in_tower h k = refl

some_same : (m k : ℕ) → Some m ≡ Some k → m ≡ k
some_same m k e = ap (λ (x : Option ℕ). elim x [ Some n ↦ n | None ↦ 0 ]) e

none_some : (k : ℕ) → ◌≡◌ {A = Option ℕ} None (Some k) → ⊥
none_some k e = cc e

module _ (f : Polynomial 3 Rational) where
  abbrev Entries : ℕ → Points → Type 0
  Entries m way = Matrix (Value (algebra_of (plane_section f m) way))

  -- no way moves a triangle that has no move by its own
  pub no_triangle_move : HasNoMove f → (k : ℕ) (way : Points) (y : Entries k way) → IsTriangleMove f k way y → ⊥
  no_triangle_move (no_slant e) k way y h = none_some k (sym e ∙ h.is_slant)
  no_triangle_move (no_way m e none) k way y h =
      none way (subst (λ u. IsWay (plane_section f u) way) (some_same k m (sym h.is_slant ∙ e)) h.is_way)
  no_triangle_move (by_way m way e is_way none) k way' y h =
      subst (λ u. (way' : Points) (y : Entries u way') → IsTriangleMove f u way' y → ⊥) (some_same m k (sym e ∙ h.is_slant))
      (λ way' y h. subst (λ u. (y : Entries m u) → IsTriangleMove f m u y → ⊥) (way_unique (plane_section f m) way way' is_way h.is_way) none y h)
      way' y h
