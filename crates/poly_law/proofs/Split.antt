-- Mather rows of a split form and of its residual part.
use mathlib.Core.Path.{fun_ext}
use Rattle.std.proofs.Common.{◌≡◌, ℕ, suc, ◌+◌, ◌<◌, ◌≤◌, inl, inr, ◌&&◌, [], ◌∷◌, map, filter, Bool, true, false, cond, eqb, ltb, eqb-true, ne_eqb, eq-eqb, lt-ltb, le-ltb, ap, sym, ◌∙◌, refl, ap₂, subst, arith}
use Rattle.ring_theory.specs.Ring.{RingOps, IsCommRing}
use Rattle.poly_law.specs.Sums.{total, sum_to, multiple}
use Rattle.poly_law.specs.Exps.{Exps, IsExps, plus, lower, variable, same, degree}
use Rattle.poly_law.specs.Poly.{Terms, coefficient, times, derivative, Same, StartsAt, term, MatherRow, MatherRows, square, IsSplit}
use Rattle.poly_law.proofs.Sums
use Rattle.poly_law.proofs.Rows
use Rattle.poly_law.proofs.Rows.{Row}
use Rattle.poly_law.proofs.ExpLaws
use Rattle.poly_law.proofs.Pair
use Rattle.poly_law.proofs.Pair.{pair, at_only}
use Rattle.poly_law.proofs.PolyRing
use Rattle.poly_law.proofs.PolyRing.{Poly}
use Rattle.poly_law.proofs.Order
use Rattle.poly_law.proofs.Near
use Rattle.poly_law.proofs.Linear
use Rattle.poly_law.proofs.Place

module _ {E F V : Type 0} (x : Exps E) (l : IsExps x) (y : Exps F) (m : IsExps y) (fewer : y.count ≤ x.count) (r : RingOps V) (c : IsCommRing r) (s : IsSet V) where
  abbrev pub placed : F → E
  placed = Place.placed x l y m fewer

  abbrev pub restrict : E → F
  restrict = Place.restrict x l y m fewer

  abbrev pub pure : E → Bool
  pure = Place.pure x l y m fewer

  -- the terms without the other variables, and back
  pub down : Terms E V → Terms F V
  down f = map (λ t. (restrict t.0, t.1)) (filter (λ t. pure t.0) f)

  pub up : Terms F V → Terms E V
  up g = map (λ t. (placed t.0, t.1)) g

  pub pair-down : (f : Terms E V) (w : F → V) → pair r (down f) w ≡ pair r f (λ a. cond (pure a) (w (restrict a)) r.zero)
  unfolding down
  pair-down f w =
      Sums.total-map r c (λ t. r.mul t.1 (w t.0)) (λ t. (restrict t.0, t.1)) (filter (λ t. pure t.0) f)
      ∙ Sums.total-filter r c (λ t. r.mul t.1 (w (restrict t.0))) (λ t. pure t.0) f
      ∙ ap (λ k. total r k f) (fun_ext λ t. step (pure t.0) t.1 (w (restrict t.0)))
    where
      step : (b : Bool) (u v : V) → cond b (r.mul u v) r.zero ≡ r.mul u (cond b v r.zero)
      step true u v = refl
      step false u v = sym (Sums.mul_zero r c u)

  pub pair-up : (g : Terms F V) (w : E → V) → pair r (up g) w ≡ pair r g (λ b. w (placed b))
  unfolding up
  pair-up g w = Sums.total-map r c (λ t. r.mul t.1 (w t.0)) (λ t. (placed t.0, t.1)) g

  -- a monomial of y, seen in x
  point : (b : F) (a : E) → cond (pure a) (at_only y r b (restrict a)) r.zero ≡ at_only x r (placed b) a
  point b a = step (pure a) (same y (restrict a) b) refl refl
    where
      other : (restrict a ≡ b → ⊥) → a ≡ placed b → ⊥
      other ne e = ne (ap restrict e ∙ Place.restrict-placed x l y m fewer b)

      no_same : same y (restrict a) b ≡ false → restrict a ≡ b → ⊥
      no_same q e = bad (sym q ∙ ap (λ z. same y z b) e ∙ ExpLaws.same_refl y m b)
        where
          bad : false ≡ true → ⊥
          bad e = cc e

      step : (p q : Bool) → pure a ≡ p → same y (restrict a) b ≡ q → cond p (cond (same y (restrict a) b) r.one r.zero) r.zero ≡ cond (same x a (placed b)) r.one r.zero
      step true true ep eq =
          ap (λ t. cond t r.one r.zero) eq
          ∙ sym (ap (λ t. cond t r.one r.zero) (ap (λ z. same x z (placed b)) (Place.pure-is x l y m fewer a ep ∙ ap placed (ExpLaws.same-eq y m (restrict a) b eq)) ∙ ExpLaws.same_refl x l (placed b)))
      step true false ep eq =
          ap (λ t. cond t r.one r.zero) eq
          ∙ sym (ap (λ t. cond t r.one r.zero) (ExpLaws.same-no x l a (placed b) (other (no_same eq))))
      step false q ep eq = sym (ap (λ t. cond t r.one r.zero) (ExpLaws.same-no x l a (placed b) (Place.not_placed x l y m fewer a ep b)))

  pub coefficient-down : (f : Terms E V) (b : F) → coefficient y r (down f) b ≡ coefficient x r f (placed b)
  coefficient-down f b =
      Pair.coefficient_is y r c (down f) b ∙ pair-down f (at_only y r b) ∙ ap (pair r f) (fun_ext λ a. point b a)
      ∙ sym (Pair.coefficient_is x r c f (placed b))

  at_only-placed : (b b' : F) → at_only x r (placed b') (placed b) ≡ at_only y r b' b
  at_only-placed b b' =
      sym (point b' (placed b)) ∙ ap (λ t. cond t (at_only y r b' (restrict (placed b))) r.zero) (Place.pure-placed x l y m fewer b)
      ∙ ap (at_only y r b') (Place.restrict-placed x l y m fewer b)

  pub coefficient-up : (g : Terms F V) (b : F) → coefficient x r (up g) (placed b) ≡ coefficient y r g b
  coefficient-up g b =
      Pair.coefficient_is x r c (up g) (placed b) ∙ pair-up g (at_only x r (placed b)) ∙ ap (pair r g) (fun_ext λ b'. at_only-placed b' b)
      ∙ sym (Pair.coefficient_is y r c g b)

  pub coefficient-up_other : (g : Terms F V) (a : E) → ((b : F) → a ≡ placed b → ⊥) → coefficient x r (up g) a ≡ r.zero
  coefficient-up_other g a ne =
      Pair.coefficient_is x r c (up g) a ∙ pair-up g (at_only x r a)
      ∙ ap (pair r g) (fun_ext λ b. ap (λ t. cond t r.one r.zero) (ExpLaws.same-no x l (placed b) a (λ e. ne b (sym e))))
      ∙ Order.pair-zero y m r c g

  pub down_times : (f f' : Terms E V) → Same y r (down (times x r f f')) (times y r (down f) (down f'))
  down_times f f' b =
      coefficient-down (times x r f f') b ∙ Order.coefficient-times x l r c f f' (placed b)
      ∙ ap (pair r f) (fun_ext λ a. ap (pair r f') (fun_ext λ a'. sym (point b (plus x a a')) ∙ ap₂ (λ t z. cond t (at_only y r b z) r.zero) (Place.pure-plus x l y m fewer a a') (Place.restrict-plus x l y m fewer a a') ∙ parts (pure a) (pure a') (at_only y r b (plus y (restrict a) (restrict a'))))
      ∙ pulled (pure a) (λ a'. cond (pure a') (at_only y r b (plus y (restrict a) (restrict a'))) r.zero)
      ∙ ap (λ z. cond (pure a) z r.zero) (sym (pair-down f' (λ b'. at_only y r b (plus y (restrict a) b')))))
      ∙ sym (pair-down f (λ a. pair r (down f') (λ b'. at_only y r b (plus y a b'))))
      ∙ sym (Order.coefficient-times y m r c (down f) (down f') b)
    where
      parts : (p q : Bool) (v : V) → cond (p && q) v r.zero ≡ cond p (cond q v r.zero) r.zero
      parts true q v = refl
      parts false q v = refl

      pulled : (p : Bool) (w : E → V) → pair r f' (λ a'. cond p (w a') r.zero) ≡ cond p (pair r f' w) r.zero
      pulled true w = refl
      pulled false w = Order.pair-zero x l r c f'

  pub up_times : (g g' : Terms F V) → Same x r (up (times y r g g')) (times x r (up g) (up g'))
  up_times g g' = Pair.same_from_pair x l r c (up (times y r g g')) (times x r (up g) (up g')) λ w.
      pair-up (times y r g g') w ∙ Pair.pair-times y r c g g' (λ b. w (placed b))
      ∙ ap (pair r g) (fun_ext λ b. ap (pair r g') (fun_ext λ b'. ap w (Place.placed-plus x l y m fewer b b')) ∙ sym (pair-up g' (λ a'. w (plus x (placed b) a'))))
      ∙ sym (pair-up g (λ a. pair r (up g') (λ a'. w (plus x a a'))))
      ∙ sym (Pair.pair-times x r c (up g) (up g') w)

  starts_down : (d : ℕ) (f : Terms E V) → StartsAt x r d f → StartsAt y r d (down f)
  starts_down d f t b h = coefficient-down f b ∙ t (placed b) (let e = Place.degree-placed x l y m fewer b in omega arith)

  pub times_nothing : (f : Terms F V) → Same y r (times y r f []) []
  times_nothing f = Pair.same_from_pair y m r c (times y r f []) [] λ w. Pair.pair-times y r c f [] w ∙ Order.pair-zero y m r c f

  module _ (f : Terms E V) (g : Terms F V) (split : IsSplit x y r f g) where
    -- what is neither in the first variables nor a square has no coefficient
    other : (a : E) → ((b : F) → a ≡ placed b → ⊥) → ((w : ℕ) → y.count ≤ w → w < x.count → a ≡ square x y r w → ⊥) → coefficient x r f a ≡ r.zero
    other a not_placed not_square =
        elim (ExpLaws.find_past y.count x.count (x.at a)) [
          | inl z ↦ absurd (not_placed (restrict a) (Place.placed-restrict x l y m fewer a z))
          | inr v ↦ split.others a v.0 v.1 v.2 v.3 (not_square v.0 v.1 v.2)
        ]

    -- the partials of a split form
    pub down_front : (i : ℕ) → i < y.count → Same y r (down (derivative x r i f)) (derivative y r i g)
    down_front i h b =
        coefficient-down (derivative x r i f) b
        ∙ Place.coefficient-derivative x l r c i (omega arith) f (placed b)
        ∙ ap₂ (λ k z. multiple r (suc k) (coefficient x r f z)) (Place.at-placed_front x l y m fewer b i h)
        (ap (plus x (placed b)) (sym (Place.placed-variable x l y m fewer i h)) ∙ sym (Place.placed-plus x l y m fewer b (variable y i)))
        ∙ ap (multiple r (suc (y.at b i))) (sym (split.residual (plus y b (variable y i))))
        ∙ sym (Place.coefficient-derivative y m r c i h g b)

    at-square : (w i : ℕ) → i < x.count → x.at (square x y r w) i ≡ cond {A = ℕ} (eqb i w) 1 0 + cond {A = ℕ} (eqb i w) 1 0
    at-square w i h = ExpLaws.at-plus x l (variable x w) (variable x w) i h ∙ ap₂ (λ u v. u + v) (ExpLaws.at-variable x l w i h) (ExpLaws.at-variable x l w i h)

    -- past the first variables a partial has no term in the first variables alone
    pub down_past : (w : ℕ) → y.count ≤ w → w < x.count → Same y r (down (derivative x r w f)) []
    down_past w h g' b =
        coefficient-down (derivative x r w f) b
        ∙ Place.coefficient-derivative x l r c w g' f (placed b)
        ∙ ap (multiple r (suc (x.at (placed b) w))) (other (plus x (placed b) (variable x w)) not_pure not_square)
        ∙ Place.multiple-zero x l r c (suc (x.at (placed b) w))
      where
        one_there : x.at (plus x (placed b) (variable x w)) w ≡ 1
        one_there = ExpLaws.plus_at x l (placed b) w g' ∙ ap suc (Place.at-placed_past x l y m fewer b w h g')

        not_pure : (b' : F) → plus x (placed b) (variable x w) ≡ placed b' → ⊥
        not_pure b' e = let z : x.at (plus x (placed b) (variable x w)) w ≡ x.at (placed b') w = ap (λ a. x.at a w) e in let z' = Place.at-placed_past x l y m fewer b' w h g' in let o = one_there in omega arith

        two_one : (t : Bool) → cond {A = ℕ} t 1 0 + cond {A = ℕ} t 1 0 ≡ 1 → ⊥
        two_one true e = omega arith
        two_one false e = omega arith

        not_square : (v : ℕ) → y.count ≤ v → v < x.count → plus x (placed b) (variable x w) ≡ square x y r v → ⊥
        not_square v _ _ e = two_one (eqb w v) (sym (at-square v w g') ∙ ap (λ a. x.at a w) (sym e) ∙ one_there)

    -- rows of the split form give rows of its residual part
    pub rows_of_residual : (k : ℕ) → MatherRows x r k f → MatherRows y r k g
    rows_of_residual k rows b e = Rows.mather_row y r k g b (out (Rows.row_of x r k f (placed b) (rows (placed b) (Place.degree-placed x l y m fewer b ∙ e))))
      where
        out : Row x r k f (placed b) → Row y r k g b
        out w = record {
          multiplier = λ i. down (w.multiplier i);
          order_two = λ i. starts_down 2 (w.multiplier i) (w.order_two i);
          adds_up = λ b' h.
              Linear.coefficient-sum_to y m r c y.count (λ i. times y r (down (w.multiplier i)) (derivative y r i g)) b'
              ∙ Sums.sum_to-cong r y.count (λ i. coefficient y r (times y r (down (w.multiplier i)) (derivative y r i g)) b') (λ i. coefficient x r (times x r (w.multiplier i) (derivative x r i f)) (placed b')) (λ i q. front i q b')
              ∙ sym (Sums.sum_to-front r c y.count x.count (λ i. coefficient x r (times x r (w.multiplier i) (derivative x r i f)) (placed b')) fewer (λ i q q'. past i q q' b'))
              ∙ sym (Linear.coefficient-sum_to x l r c x.count (λ i. times x r (w.multiplier i) (derivative x r i f)) (placed b'))
              ∙ w.adds_up (placed b') (let z = Place.degree-placed x l y m fewer b' in omega arith)
              ∙ Near.coefficient-term x l r c s (placed b) (placed b') ∙ at_only-placed b b' ∙ sym (Near.coefficient-term y m r c s b b');
        }
          where
            front : (i : ℕ) → i < y.count → (b' : F) → coefficient y r (times y r (down (w.multiplier i)) (derivative y r i g)) b' ≡ coefficient x r (times x r (w.multiplier i) (derivative x r i f)) (placed b')
            front i q b' =
                sym (PolyRing.times_right y m r c (down (w.multiplier i)) (down (derivative x r i f)) (derivative y r i g) (down_front i q) b')
                ∙ sym (down_times (w.multiplier i) (derivative x r i f) b')
                ∙ coefficient-down (times x r (w.multiplier i) (derivative x r i f)) b'

            past : (i : ℕ) → y.count ≤ i → i < x.count → (b' : F) → coefficient x r (times x r (w.multiplier i) (derivative x r i f)) (placed b') ≡ r.zero
            past i q q' b' =
                sym (coefficient-down (times x r (w.multiplier i) (derivative x r i f)) b')
                ∙ down_times (w.multiplier i) (derivative x r i f) b'
                ∙ PolyRing.times_right y m r c (down (w.multiplier i)) (down (derivative x r i f)) [] (down_past i q q') b'
                ∙ times_nothing (down (w.multiplier i)) b'

    -- the partials of a split form, in its own variables
    pub up_front : (i : ℕ) → i < y.count → Same x r (derivative x r i f) (up (derivative y r i g))
    up_front i h a = step (pure a) refl
      where
        step : (t : Bool) → pure a ≡ t → coefficient x r (derivative x r i f) a ≡ coefficient x r (up (derivative y r i g)) a
        step true e =
            ap (coefficient x r (derivative x r i f)) (Place.pure-is x l y m fewer a e)
            ∙ sym (coefficient-down (derivative x r i f) (restrict a)) ∙ down_front i h (restrict a) ∙ sym (coefficient-up (derivative y r i g) (restrict a))
            ∙ ap (coefficient x r (up (derivative y r i g))) (sym (Place.pure-is x l y m fewer a e))
        step false e =
            Place.coefficient-derivative x l r c i (omega arith) f a
            ∙ ap (multiple r (suc (x.at a i))) (other (plus x a (variable x i)) not_pure not_square)
            ∙ Place.multiple-zero x l r c (suc (x.at a i))
            ∙ sym (coefficient-up_other (derivative y r i g) a (Place.not_placed x l y m fewer a e))
          where
            bad : false ≡ true → ⊥
            bad e = cc e

            not_pure : (b : F) → plus x a (variable x i) ≡ placed b → ⊥
            not_pure b q = bad (sym e ∙ Place.pure-from x l y m fewer a λ v z z'.
                let e₁ : x.at (plus x a (variable x i)) v ≡ x.at (placed b) v = ap (λ a. x.at a v) q in
                let e₂ = Place.at-placed_past x l y m fewer b v z z' in
                let e₃ = ExpLaws.at-plus x l a (variable x i) v z' in
                omega arith)

            not_square : (v : ℕ) → y.count ≤ v → v < x.count → plus x a (variable x i) ≡ square x y r v → ⊥
            not_square v z z' q =
                let e₁ : x.at (plus x a (variable x i)) i ≡ x.at (square x y r v) i = ap (λ a. x.at a i) q in
                let e₂ = ExpLaws.plus_at x l a i (omega arith) in
                let e₃ = at-square v i (omega arith) in
                let e₄ = ExpLaws.unit_no i v (λ w. omega arith) in
                omega arith

    abbrev pub slope_at : ℕ → Terms E V
    slope_at w = (variable x w, multiple r 2 (coefficient x r f (square x y r w))) ∷ []

    pub up_past : (w : ℕ) → y.count ≤ w → w < x.count → Same x r (derivative x r w f) (slope_at w)
    up_past w h g' a = Place.coefficient-derivative x l r c w g' f a ∙ step (same x (variable x w) a) refl
      where
        bad : false ≡ true → ⊥
        bad e = cc e

        step : (t : Bool) → same x (variable x w) a ≡ t
            → multiple r (suc (x.at a w)) (coefficient x r f (plus x a (variable x w))) ≡ r.add (cond t (multiple r 2 (coefficient x r f (square x y r w))) r.zero) r.zero
        step true e =
            ap (λ z. multiple r (suc (x.at z w)) (coefficient x r f (plus x z (variable x w)))) (sym (ExpLaws.same-eq x l (variable x w) a e))
            ∙ ap (λ k. multiple r (suc k) (coefficient x r f (square x y r w))) (ExpLaws.at-variable x l w w g' ∙ ExpLaws.unit_yes w w refl)
            ∙ sym (c.add_zero (multiple r 2 (coefficient x r f (square x y r w))))
        step false e =
            ap (multiple r (suc (x.at a w))) (other (plus x a (variable x w)) not_pure not_square)
            ∙ Place.multiple-zero x l r c (suc (x.at a w)) ∙ sym (c.add_zero r.zero)
          where
            not_pure : (b : F) → plus x a (variable x w) ≡ placed b → ⊥
            not_pure b q =
                let e₁ : x.at (plus x a (variable x w)) w ≡ x.at (placed b) w = ap (λ a. x.at a w) q in
                let e₂ = Place.at-placed_past x l y m fewer b w h g' in
                let e₃ = ExpLaws.plus_at x l a w g' in
                omega arith

            not_square : (v : ℕ) → y.count ≤ v → v < x.count → plus x a (variable x w) ≡ square x y r v → ⊥
            not_square v z z' q = cases (eqb w v) refl
              where
                cases : (t : Bool) → eqb w v ≡ t → ⊥
                cases true d =
                    let d' : v ≡ w = sym (eqb-true w v d) in
                    let q' : plus x a (variable x w) ≡ plus x (variable x w) (variable x w) = q ∙ ap (square x y r) d' in
                    bad (sym e ∙ ap (same x (variable x w)) (sym (ExpLaws.lower-variable x l w a g') ∙ ap (lower x w) q' ∙ ExpLaws.lower-variable x l w (variable x w) g') ∙ ExpLaws.same_refl x l (variable x w))
                cases false d =
                    let e₁ : x.at (plus x a (variable x w)) w ≡ x.at (square x y r v) w = ap (λ a. x.at a w) q in
                    let e₂ = ExpLaws.plus_at x l a w g' in
                    let e₃ = at-square v w g' in
                    let e₄ : cond {A = ℕ} (eqb w v) 1 0 ≡ 0 = ap (λ t. cond {A = ℕ} t 1 0) d in
                    omega arith

    starts_up : (d : ℕ) (b : Terms F V) → StartsAt y r d b → StartsAt x r d (up b)
    starts_up d b t a h = step (pure a) refl
      where
        step : (t : Bool) → pure a ≡ t → coefficient x r (up b) a ≡ r.zero
        step true e =
            ap (coefficient x r (up b)) (Place.pure-is x l y m fewer a e) ∙ coefficient-up b (restrict a)
            ∙ t (restrict a) (let e₁ = Place.degree-placed x l y m fewer (restrict a) in let e₂ : degree x a ≡ degree x (placed (restrict a)) = ap (degree x) (Place.pure-is x l y m fewer a e) in omega arith)
        step false e = coefficient-up_other b a (Place.not_placed x l y m fewer a e)

    module _ (inverse : ℕ → V) (units : (w : ℕ) → y.count ≤ w → w < x.count → r.mul (inverse w) (multiple r 2 (coefficient x r f (square x y r w))) ≡ r.one) where
      -- the row of a monomial in the first variables
      row_up : (k : ℕ) (b : F) → Row y r k g b → Row x r k f (placed b)
      row_up k b w = record {
        multiplier = multiplier;
        order_two = λ i. two (ltb i y.count) i;
        adds_up = λ a h.
            Linear.coefficient-sum_to x l r c x.count (λ i. times x r (multiplier i) (derivative x r i f)) a
            ∙ Sums.sum_to-front r c y.count x.count (λ i. coefficient x r (times x r (multiplier i) (derivative x r i f)) a) fewer (λ i z z'. past i z a)
            ∙ Sums.sum_to-cong r y.count (λ i. coefficient x r (times x r (multiplier i) (derivative x r i f)) a) (λ i. coefficient x r (up (times y r (w.multiplier i) (derivative y r i g))) a) (λ i z. front i z a)
            ∙ step a h (pure a) refl;
      }
        where
          multiplier : ℕ → Terms E V
          multiplier i = cond (ltb i y.count) (up (w.multiplier i)) []

          two : (t : Bool) (i : ℕ) → StartsAt x r 2 (cond t (up (w.multiplier i)) [])
          two true i = starts_up 2 (w.multiplier i) (w.order_two i)
          two false i = λ a h. refl

          past : (i : ℕ) → y.count ≤ i → (a : E) → coefficient x r (times x r (multiplier i) (derivative x r i f)) a ≡ r.zero
          past i z a = ap (λ t. coefficient x r (times x r (cond t (up (w.multiplier i)) []) (derivative x r i f)) a) (le-ltb i y.count z)

          front : (i : ℕ) → i < y.count → (a : E) → coefficient x r (times x r (multiplier i) (derivative x r i f)) a ≡ coefficient x r (up (times y r (w.multiplier i) (derivative y r i g))) a
          front i z a =
              ap (λ t. coefficient x r (times x r (cond t (up (w.multiplier i)) []) (derivative x r i f)) a) (lt-ltb i y.count z)
              ∙ PolyRing.times_right x l r c (up (w.multiplier i)) (derivative x r i f) (up (derivative y r i g)) (up_front i z) a
              ∙ sym (up_times (w.multiplier i) (derivative y r i g) a)

          step : (a : E) → degree x a ≤ k + 1 → (t : Bool) → pure a ≡ t → sum_to r y.count (λ i. coefficient x r (up (times y r (w.multiplier i) (derivative y r i g))) a) ≡ coefficient x r (term x r (placed b)) a
          step a h true e =
              ap (λ z. sum_to r y.count (λ i. coefficient x r (up (times y r (w.multiplier i) (derivative y r i g))) z)) (Place.pure-is x l y m fewer a e)
              ∙ ap (sum_to r y.count) (fun_ext λ i. coefficient-up (times y r (w.multiplier i) (derivative y r i g)) (restrict a))
              ∙ sym (Linear.coefficient-sum_to y m r c y.count (λ i. times y r (w.multiplier i) (derivative y r i g)) (restrict a))
              ∙ w.adds_up (restrict a) (let e₁ = Place.degree-placed x l y m fewer (restrict a) in let e₂ : degree x a ≡ degree x (placed (restrict a)) = ap (degree x) (Place.pure-is x l y m fewer a e) in omega arith)
              ∙ Near.coefficient-term y m r c s b (restrict a) ∙ sym (at_only-placed b (restrict a)) ∙ sym (Near.coefficient-term x l r c s (placed b) (placed (restrict a)))
              ∙ ap (coefficient x r (term x r (placed b))) (sym (Place.pure-is x l y m fewer a e))
          step a h false e =
              Sums.sum_to-nothing r c y.count (λ i. coefficient x r (up (times y r (w.multiplier i) (derivative y r i g))) a) (λ i z. coefficient-up_other (times y r (w.multiplier i) (derivative y r i g)) a (Place.not_placed x l y m fewer a e))
              ∙ sym (Near.coefficient-term x l r c s (placed b) a ∙ ap (λ t. cond t r.one r.zero) (ExpLaws.same-no x l (placed b) a (λ z. Place.not_placed x l y m fewer a e b (sym z))))

      -- the row of a monomial with another variable: one term
      row_square : (k : ℕ) → 2 ≤ k → (a : E) → degree x a ≡ k + 1 → (w : ℕ) → y.count ≤ w → w < x.count → 0 < x.at a w → Row x r k f a
      row_square k two a e w h h' p = record {
        multiplier = multiplier;
        order_two = λ i. starts (eqb i w);
        adds_up = λ b z.
            Linear.coefficient-sum_to x l r c x.count (λ i. times x r (multiplier i) (derivative x r i f)) b
            ∙ Sums.sum_to-single r c x.count w (λ i. coefficient x r (times x r (multiplier i) (derivative x r i f)) b) h' (λ i q ne. ap (λ t. coefficient x r (times x r (cond t only []) (derivative x r i f)) b) (ne_eqb i w ne))
            ∙ ap (λ t. coefficient x r (times x r (cond t only []) (derivative x r w f)) b) (eq-eqb w w refl)
            ∙ PolyRing.times_right x l r c only (derivative x r w f) (slope_at w) (up_past w h h') b
            ∙ product b;
      }
        where
          only : Terms E V
          only = (lower x w a, inverse w) ∷ []

          multiplier : ℕ → Terms E V
          multiplier i = cond (eqb i w) only []

          starts : (t : Bool) → StartsAt x r 2 (cond t only [])
          starts true b z = c.add_zero (cond (same x (lower x w a) b) (inverse w) r.zero) ∙ ap (λ t. cond t (inverse w) r.zero) (ExpLaws.same-no x l (lower x w a) b
              (λ q. let q' : degree x (lower x w a) ≡ degree x b = ap (degree x) q in let d = ExpLaws.degree-lower x l w a p h' in omega arith))
          starts false b z = refl

          product : Same x r (times x r only (slope_at w)) (term x r a)
          product = Pair.same_from_pair x l r c (times x r only (slope_at w)) (term x r a) λ v.
              Pair.pair-times x r c only (slope_at w) v
              ∙ ap (λ z. r.add z r.zero)
              (ap (r.mul (inverse w)) (c.add_zero (r.mul (multiple r 2 (coefficient x r f (square x y r w))) (v (plus x (lower x w a) (variable x w)))))
              ∙ sym (c.mul_assoc (inverse w) (multiple r 2 (coefficient x r f (square x y r w))) (v (plus x (lower x w a) (variable x w))))
              ∙ ap₂ r.mul (units w h h') (ap v (ExpLaws.plus_comm x l (lower x w a) (variable x w) ∙ ExpLaws.variable-lower x l w a p)))

      -- rows of the residual part give rows of the split form
      pub rows_of_split : (k : ℕ) → 2 ≤ k → MatherRows y r k g → MatherRows x r k f
      rows_of_split k two rows a e =
          elim (ExpLaws.find_past y.count x.count (x.at a)) [
            | inl z ↦
                let q : a ≡ placed (restrict a) = Place.placed-restrict x l y m fewer a z in
                subst (MatherRow x r k f) (sym q) (Rows.mather_row x r k f (placed (restrict a)) (row_up k (restrict a) (Rows.row_of y r k g (restrict a) (rows (restrict a) (sym (Place.degree-placed x l y m fewer (restrict a)) ∙ ap (degree x) (sym q) ∙ e)))))
            | inr v ↦ Rows.mather_row x r k f a (row_square k two a e v.0 v.1 v.2 v.3)
          ]
