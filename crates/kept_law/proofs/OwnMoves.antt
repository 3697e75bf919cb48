-- A change that adds to the first variables terms in these alone, and leaves the others: how it acts on a split form.
use mathlib.Core.Path.{fun_ext}
use Rattle.std.proofs.Common.{◌≡◌, ◌≢◌, ℕ, zero, suc, ◌+◌, ◌-◌, ◌*◌, ◌<◌, ◌≤◌, ◌⊎◌, inl, inr, Bool, true, false, not, cond, eqb, eqb-true, eq-eqb, leb, leb-true, leb-false, ltb, lt-ltb, le-ltb, [], ◌∷◌, filter, refl, sym, ap, ap₂, subst, ◌∙◌, arith}
use Rattle.ring_theory.specs.Ring.{RingOps, IsCommRing}
use Rattle.ring_theory.specs.Scalars.{Scalars, ScalarLaws}
use Rattle.ring_theory.proofs.ValueSet.{values_are_set}
use Rattle.poly_law.specs.Sums.{total, product_to, power}
use Rattle.poly_law.specs.Exps.{Exps, IsExps, plus, none, lower, variable, same, degree}
use Rattle.poly_law.specs.Poly.{Terms, coefficient, times, times_term, poly_ops, combination, derivative, term, Same, StartsAt, monomial_of, subst_in}
use Rattle.poly_law.proofs.Sums
use Rattle.poly_law.proofs.ExpLaws
use Rattle.poly_law.proofs.Pair
use Rattle.poly_law.proofs.Pair.{pair, at_only}
use Rattle.poly_law.proofs.Linear
use Rattle.poly_law.proofs.Order
use Rattle.poly_law.proofs.Subst
use Rattle.poly_law.proofs.SubstOrder
use Rattle.poly_law.proofs.Near
use Rattle.mono_exp.proofs.Lists.{Each, each-append}
use Rattle.split_lemma.proofs.SplitOff
use Rattle.kill_law.proofs.Taylor
use Rattle.kill_law.proofs.Taylor.{AllFrom}

three : (i j : ℕ) → (i < j) ⊎ ((j < i) ⊎ (i ≡ j))
three i j = grind arith

pub low_or_high : (d k : ℕ) → (d ≤ k) ⊎ (k < d)
low_or_high d k = grind arith

same_or_not : (a b : ℕ) → (a ≡ b) ⊎ (a ≢ b)
same_or_not a b = step (eqb a b) refl
  where
    step : (t : Bool) → eqb a b ≡ t → (a ≡ b) ⊎ (a ≢ b)
    step true e = inl (eqb-true a b e)
    step false e = inr (λ q. let bad : false ≡ true = sym e ∙ eq-eqb a b q in cc bad)

module _ {E V : Type 0} (x : Exps E) (l : IsExps x) (s : Scalars V) (laws : ScalarLaws s) where
  abbrev r : RingOps V
  r = s.ops

  abbrev c : IsCommRing r
  c = laws.ring

  abbrev set : IsSet V
  set = values_are_set s laws

  -- sums over the terms of f depend on what stands at monomials with a coefficient other than zero
  pub pair_where : (f : Terms E V) (v w : E → V) → ((a : E) → coefficient x r f a ≢ r.zero → v a ≡ w a) → pair r f v ≡ pair r f w
  pair_where f v w h =
      Pair.pair_same x l r c f kept is_kept v
      ∙ Sums.total-filter r c (λ t. r.mul t.1 (v t.0)) (λ t. there t.0) f
      ∙ ap (λ (k : E × V → V). total r k f) (fun_ext λ t. step t.0 t.1 (there t.0) refl)
      ∙ sym (Sums.total-filter r c (λ t. r.mul t.1 (w t.0)) (λ t. there t.0) f)
      ∙ sym (Pair.pair_same x l r c f kept is_kept w)
    where
      there : E → Bool
      there a = not (s.is_zero (coefficient x r f a))

      kept : Terms E V
      kept = filter (λ t. there t.0) f

      is_kept : Same x r f kept
      is_kept m = choose (s.is_zero (coefficient x r f m)) refl ∙ sym (Order.coefficient-filter x l r c there f m)
        where
          choose : (b : Bool) → s.is_zero (coefficient x r f m) ≡ b → coefficient x r f m ≡ cond (not b) (coefficient x r f m) r.zero
          choose true e = (laws.zero_test (coefficient x r f m)).0 e
          choose false e = refl

      step : (a : E) (u : V) (b : Bool) → there a ≡ b → cond b (r.mul u (v a)) r.zero ≡ cond b (r.mul u (w a)) r.zero
      step a u true e = ap (r.mul u) (h a (λ z. bad (sym e ∙ ap not ((laws.zero_test (coefficient x r f a)).1 z))))
        where
          bad : true ≡ false → ⊥
          bad q = cc q
      step a u false e = refl

  -- ---- exponents of one variable in all terms

  -- the exponent of w in each monomial of f is k
  abbrev pub HasExponent : ℕ → ℕ → Terms E V → Type 0
  HasExponent w k f = Each (λ t. x.at t.0 w ≡ k) f

  exponent-times_term : (w : ℕ) → w < x.count → (j k : ℕ) (t : E × V) (g : Terms E V) → x.at t.0 w ≡ j → HasExponent w k g → HasExponent w (j + k) (times_term x r t g)
  exponent-times_term w h j k t [] a b = tt
  exponent-times_term w h j k t (u ∷ g) a b = (ExpLaws.at-plus x l t.0 u.0 w h ∙ ap₂ (λ y z. y + z) a b.0, exponent-times_term w h j k t g a b.1)

  exponent-times : (w : ℕ) → w < x.count → (j k : ℕ) (f g : Terms E V) → HasExponent w j f → HasExponent w k g → HasExponent w (j + k) (times x r f g)
  exponent-times w h j k [] g a b = tt
  exponent-times w h j k (t ∷ f) g a b = each-append (λ t. x.at t.0 w ≡ j + k) (times_term x r t g) (times x r f g) (exponent-times_term w h j k t g a.0 b) (exponent-times w h j k f g a.1 b)

  exponent-power : (w : ℕ) → w < x.count → (j : ℕ) (f : Terms E V) → HasExponent w j f → (k : ℕ) → HasExponent w (k * j) (power (poly_ops x r) f k)
  exponent-power w h j f a zero = (ExpLaws.at-none x l w h ∙ (let z : 0 ≡ 0 * j = omega arith in z), tt)
  exponent-power w h j f a (suc k) =
      subst (λ z. HasExponent w z (power (poly_ops x r) f (suc k))) (let z : k * j + j ≡ suc k * j = grind arith in z)
      (exponent-times w h (k * j) j (power (poly_ops x r) f k) f (exponent-power w h j f a k) a)

  exponent-zero : (w : ℕ) (g : Terms E V) (k : ℕ) → HasExponent w k g → (m : E) → x.at m w ≢ k → coefficient x r g m ≡ r.zero
  exponent-zero w [] k a m ne = refl
  exponent-zero w (t ∷ g) k a m ne =
      ap₂ r.add (ap (λ b. cond b t.1 r.zero) (ExpLaws.same-no x l t.0 m (λ e. ne (sym (ap (λ z. x.at z w) e) ∙ a.0)))) (exponent-zero w g k a.1 m ne)
      ∙ c.add_zero r.zero

  -- ---- Taylor's first order for a weight of monomials

  -- the terms of weight at least d
  abbrev heavy : (E → ℕ) → ℕ → Terms E V → Terms E V
  heavy weight d f = filter (λ t. leb d (weight t.0)) f

  heavy_same : (weight : E → ℕ) (d : ℕ) (f : Terms E V) → ((m : E) → weight m < d → coefficient x r f m ≡ r.zero) → Same x r f (heavy weight d f)
  heavy_same weight d f light m = step (leb d (weight m)) refl ∙ sym (Order.coefficient-filter x l r c (λ a. leb d (weight a)) f m)
    where
      step : (b : Bool) → leb d (weight m) ≡ b → coefficient x r f m ≡ cond b (coefficient x r f m) r.zero
      step true q = refl
      step false q = light m (leb-false d (weight m) q)

  all_heavy : (weight : E → ℕ) (d : ℕ) (f : Terms E V) → AllFrom weight d (heavy weight d f)
  all_heavy weight d [] = tt
  all_heavy weight d (t ∷ f) = step (leb d (weight t.0)) refl (all_heavy weight d f)
    where
      step : (b : Bool) → leb d (weight t.0) ≡ b → AllFrom weight d (heavy weight d f) → AllFrom weight d (cond b (t ∷ heavy weight d f) (heavy weight d f))
      step true q rest = (leb-true d (weight t.0) q, rest)
      step false q rest = rest

  -- where the u(i) weigh e more than x(i), and f at least d, f becomes f and the sum of the u(i) times its partial derivatives, up to weight d + 2*e
  pub first_by_weight : (weight : E → ℕ) → ((a b : E) → weight (plus x a b) ≡ weight a + weight b) → (d e : ℕ) (u : ℕ → Terms E V)
      → ((i : ℕ) → i < x.count → AllFrom weight (weight (variable x i) + e) (u i)) → (f : Terms E V) → ((m : E) → weight m < d → coefficient x r f m ≡ r.zero) → (m : E) → weight m < d + (e + e)
      → coefficient x r (subst_in x x r (λ i. (variable x i, r.one) ∷ u i) f) m ≡ r.add (coefficient x r f m) (coefficient x r (combination x r u f) m)
  first_by_weight weight adds d e u high f light m h =
      let g = heavy weight d f in
      let equal = heavy_same weight d f light in
      Subst.subst_same x l x l r c set (λ i. (variable x i, r.one) ∷ u i) f g equal m
      ∙ Taylor.taylor x l r c set weight adds u e high d g (all_heavy weight d f) m h
      ∙ Order.coefficient-append x l r c g (combination x r u g) m
      ∙ ap₂ r.add (sym (equal m)) (sym (SplitOff.combination_same x l r c set u f g equal m))

  -- ---- the change

  module _ (first : ℕ) (u : ℕ → Terms E V)
      (own : (i : ℕ) → i < first → i < x.count → (w : ℕ) → first ≤ w → w < x.count → HasExponent w 0 (u i))
      (nothing : (i : ℕ) → first ≤ i → i < x.count → u i ≡ [])
      (low : (i : ℕ) → i < x.count → StartsAt x r 1 (u i)) where
    abbrev pub parts : ℕ → Terms E V
    parts i = (variable x i, r.one) ∷ u i

    abbrev image : E → Terms E V
    image a = monomial_of x x r parts a

    abbrev pub moved : Terms E V → E → V
    moved f m = coefficient x r (subst_in x x r parts f) m

    -- the exponent of a square variable in what is put for variable i
    part_exponent : (i : ℕ) → i < x.count → (w : ℕ) → first ≤ w → w < x.count → HasExponent w (cond (eqb w i) 1 0) (parts i)
    part_exponent i h w past g = elim (low_or_high first i) [
      | inl q ↦ (ExpLaws.at-variable x l i w g, subst (HasExponent w (cond (eqb w i) 1 0)) (sym (nothing i q h)) tt)
      | inr q ↦ (ExpLaws.at-variable x l i w g, subst (λ z. HasExponent w z (u i)) (sym (ExpLaws.unit_no w i (λ z. omega arith))) (own i q h w past g))
    ]

    -- and in the image of a monomial: its own
    image_exponent : (a : E) (w : ℕ) → first ≤ w → w < x.count → (n : ℕ) → n ≤ x.count → HasExponent w (cond (ltb w n) (x.at a w) 0) (product_to (poly_ops x r) n (λ i. power (poly_ops x r) (parts i) (x.at a i)))
    image_exponent a w past inside zero h = (ExpLaws.at-none x l w inside ∙ sym (ap (λ b. cond b (x.at a w) 0) (le-ltb w 0 (omega arith))), tt)
    image_exponent a w past inside (suc n) h =
        subst (λ z. HasExponent w z (product_to (poly_ops x r) (suc n) (λ i. power (poly_ops x r) (parts i) (x.at a i)))) (added (three w n))
        (exponent-times w inside (cond (ltb w n) (x.at a w) 0) (x.at a n * cond (eqb w n) 1 0) (product_to (poly_ops x r) n (λ i. power (poly_ops x r) (parts i) (x.at a i))) (power (poly_ops x r) (parts n) (x.at a n))
        (image_exponent a w past inside n (omega arith))
        (exponent-power w inside (cond (eqb w n) 1 0) (parts n) (part_exponent n (omega arith) w past inside) (x.at a n)))
      where
        none_of : (j k : ℕ) → j + k * 0 ≡ j
        none_of j k = omega arith

        one_of : (k : ℕ) → 0 + k * 1 ≡ k
        one_of k = omega arith

        added : (w < n) ⊎ ((n < w) ⊎ (w ≡ n)) → cond (ltb w n) (x.at a w) 0 + x.at a n * cond (eqb w n) 1 0 ≡ cond (ltb w (suc n)) (x.at a w) 0
        added (inl q) =
            ap₂ (λ b k. cond b (x.at a w) 0 + x.at a n * k) (lt-ltb w n q) (ExpLaws.unit_no w n (λ z. omega arith))
            ∙ none_of (x.at a w) (x.at a n)
            ∙ sym (ap (λ b. cond b (x.at a w) 0) (lt-ltb w (suc n) (omega arith)))
        added (inr (inl q)) =
            ap₂ (λ b k. cond b (x.at a w) 0 + x.at a n * k) (le-ltb w n (omega arith)) (ExpLaws.unit_no w n (λ z. omega arith))
            ∙ none_of 0 (x.at a n)
            ∙ sym (ap (λ b. cond b (x.at a w) 0) (le-ltb w (suc n) (omega arith)))
        added (inr (inr q)) =
            ap₂ (λ b k. cond b (x.at a w) 0 + x.at a n * k) (le-ltb w n (omega arith)) (ExpLaws.unit_yes w n q)
            ∙ one_of (x.at a n) ∙ sym (ap (x.at a) q)
            ∙ sym (ap (λ b. cond b (x.at a w) 0) (lt-ltb w (suc n) (omega arith)))

    -- a monomial with another exponent of a square variable does not stand in the image of a
    pub other_square : (a m : E) (w : ℕ) → first ≤ w → w < x.count → x.at m w ≢ x.at a w → coefficient x r (image a) m ≡ r.zero
    other_square a m w past inside ne =
        exponent-zero w (image a) (x.at a w) (subst (λ b. HasExponent w (cond b (x.at a w) 0) (image a)) (lt-ltb w x.count inside) (image_exponent a w past inside x.count (omega arith))) m ne

    starts : (i : ℕ) → i < x.count → StartsAt x r 1 (parts i)
    starts i h = Order.starts_append x l r c 1 (term x r (variable x i)) (u i) (Near.variables_start x l r c set i h) (low i h)

    -- a monomial of higher degree than m does not give m
    higher : (a m : E) → degree x m < degree x a → coefficient x r (image a) m ≡ r.zero
    higher a m h = SubstOrder.starts_monomial x l r c x.count parts (x.at a) starts m h

    -- ---- squares

    abbrev square_of : ℕ → E
    square_of w = plus x (variable x w) (variable x w)

    square_zero : (w i : ℕ) → i < x.count → (i ≡ w → ⊥) → x.at (square_of w) i ≡ 0
    square_zero w i h ne = let a = ExpLaws.at-plus x l (variable x w) (variable x w) i h in let b = ExpLaws.at-variable x l w i h in let z = ExpLaws.unit_no i w ne in omega arith

    -- the image of the square of a square variable is that square
    image_square : (w : ℕ) → first ≤ w → w < x.count → (m : E) → coefficient x r (image (square_of w)) m ≡ at_only x r m (square_of w)
    image_square w past inside m =
        ap (λ f. coefficient x r f m) (Sums.product_to-cong (poly_ops x r) x.count (λ i. power (poly_ops x r) (parts i) (x.at (square_of w) i)) (λ i. power (poly_ops x r) (term x r (variable x i)) (x.at (square_of w) i))
        (λ i h. elim (same_or_not i w) [
          | inl q ↦ ap (λ f. power (poly_ops x r) ((variable x i, r.one) ∷ f) (x.at (square_of w) i)) (nothing i (subst (λ z. first ≤ z) (sym q) past) h)
          | inr ne ↦ ap (power (poly_ops x r) (parts i)) (square_zero w i h ne) ∙ sym (ap (power (poly_ops x r) (term x r (variable x i))) (square_zero w i h ne))
        ]))
        ∙ Near.image_variables x l r c set (square_of w) m
        ∙ Near.coefficient-term x l r c set (square_of w) m

    -- a monomial has no square variable, or the first of them
    pub some_square : (a : E) (n : ℕ) → n ≤ x.count → ((w : ℕ) → first ≤ w → w < n → x.at a w ≡ 0) ⊎ ((w : ℕ) × (first ≤ w) × (w < x.count) × (0 < x.at a w))
    some_square a n h = elim (ExpLaws.find_past first n (x.at a)) [ inl free ↦ inl free | inr v ↦ inr (v.0, v.1, (let q : v.0 < n = v.2 in omega arith), v.3) ]

    -- ---- split forms

    module _ (f : Terms E V) (k : ℕ) (split : SplitOff.IsSplitTo x l r c set first k f) where
      -- the square variables stand in what f becomes by their squares alone
      pub stays_split : SplitOff.IsSplitTo x l r c set first k (subst_in x x r parts f)
      stays_split m w past inside has ne low =
          SubstOrder.coefficient-subst x l x l r c set parts f m
          ∙ pair_where f (λ a. coefficient x r (image a) m) (λ a. r.zero) (λ a there. at a there (some_square a x.count (omega arith)) (low_or_high (degree x a) k))
          ∙ Order.pair-zero x l r c f
        where
          at : (a : E) → coefficient x r f a ≢ r.zero → ((w : ℕ) → first ≤ w → w < x.count → x.at a w ≡ 0) ⊎ ((w : ℕ) × (first ≤ w) × (w < x.count) × (0 < x.at a w)) → (degree x a ≤ k) ⊎ (k < degree x a)
              → coefficient x r (image a) m ≡ r.zero
          at a there (inl free) d = other_square a m w past inside (λ z. let y = free w past inside in omega arith)
          at a there (inr v) (inr d) = higher a m (omega arith)
          at a there (inr v) (inl d) = is_square (same x a (square_of v.0)) refl
            where
              is_square : (b : Bool) → same x a (square_of v.0) ≡ b → coefficient x r (image a) m ≡ r.zero
              is_square false q = absurd (there (split a v.0 v.1 v.2 v.3 (λ z. bad (sym q ∙ ap (λ y. same x y (square_of v.0)) z ∙ ExpLaws.same_refl x l (square_of v.0))) d))
                where
                  bad : false ≡ true → ⊥
                  bad y = cc y
              is_square true q =
                  ap (λ y. coefficient x r (image y) m) (ExpLaws.same-eq x l a (square_of v.0) q)
                  ∙ image_square v.0 v.1 v.2 m
                  ∙ ap (λ b. cond b r.one r.zero) (ExpLaws.same-no x l (square_of v.0) m (λ z. elim (same_or_not w v.0) [
                    | inl y ↦ ne (sym z ∙ ap square_of (sym y))
                    | inr y ↦ (let y0 = square_zero v.0 w inside y in let y1 = ap (λ z. x.at z w) z in omega arith)
                  ]))

      -- the terms without square variables
      module _ (pure : E → Bool) (pure_yes : (a : E) → pure a ≡ true → (w : ℕ) → first ≤ w → w < x.count → x.at a w ≡ 0) (pure_no : (a : E) → pure a ≡ false → ((w : ℕ) → first ≤ w → w < x.count → x.at a w ≡ 0) → ⊥) where
        abbrev pub pure_terms : Terms E V
        pure_terms = filter (λ t. pure t.0) f

        -- they alone give the monomials without square variables
        pub pure_moved : (m : E) → ((w : ℕ) → first ≤ w → w < x.count → x.at m w ≡ 0) → moved f m ≡ moved pure_terms m
        pure_moved m free =
            SubstOrder.coefficient-subst x l x l r c set parts f m
            ∙ ap (λ (k : E × V → V). total r k f) (fun_ext λ t. step t.0 t.1 (pure t.0) refl (some_square t.0 x.count (omega arith)))
            ∙ sym (Sums.total-filter r c (λ t. r.mul t.1 (coefficient x r (image t.0) m)) (λ t. pure t.0) f)
            ∙ sym (SubstOrder.coefficient-subst x l x l r c set parts pure_terms m)
          where
            step : (a : E) (v : V) (b : Bool) → pure a ≡ b → ((w : ℕ) → first ≤ w → w < x.count → x.at a w ≡ 0) ⊎ ((w : ℕ) × (first ≤ w) × (w < x.count) × (0 < x.at a w))
                → r.mul v (coefficient x r (image a) m) ≡ cond b (r.mul v (coefficient x r (image a) m)) r.zero
            step a v true q o = refl
            step a v false q (inl none) = absurd (pure_no a q none)
            step a v false q (inr y) = ap (r.mul v) (other_square a m y.0 y.1 y.2 (λ z. let y0 = free y.0 y.1 y.2 in let y1 : 0 < x.at a y.0 = y.3 in omega arith)) ∙ Sums.mul_zero r c v

        pub coefficient-pure : (m : E) → ((w : ℕ) → first ≤ w → w < x.count → x.at m w ≡ 0) → coefficient x r pure_terms m ≡ coefficient x r f m
        coefficient-pure m free = Order.coefficient-filter x l r c pure f m ∙ step (pure m) refl
          where
            step : (b : Bool) → pure m ≡ b → cond b (coefficient x r f m) r.zero ≡ coefficient x r f m
            step true q = refl
            step false q = absurd (pure_no m q free)

        -- for a weight of monomials: where the u(i) weigh e more than x(i), and these terms at least d, they give themselves and the sum of the u(i) times their partial
        -- derivatives, up to weight d + 2*e
        module _ (weight : E → ℕ) (adds : (a b : E) → weight (plus x a b) ≡ weight a + weight b) (d e : ℕ)
            (high : (i : ℕ) → i < x.count → AllFrom weight (weight (variable x i) + e) (u i))
            (light : (m : E) → weight m < d → coefficient x r pure_terms m ≡ r.zero) where
          pub pure_first : (m : E) → ((w : ℕ) → first ≤ w → w < x.count → x.at m w ≡ 0) → weight m < d + (e + e)
              → moved f m ≡ r.add (coefficient x r f m) (coefficient x r (combination x r u pure_terms) m)
          pure_first m free h =
              pure_moved m free
              ∙ first_by_weight weight adds d e u high pure_terms light m h
              ∙ ap (λ z. r.add z (coefficient x r (combination x r u pure_terms) m)) (coefficient-pure m free)

          -- below weight d + e nothing changes
          pub pure_below : 0 < e → (m : E) → ((w : ℕ) → first ≤ w → w < x.count → x.at m w ≡ 0) → weight m < d + e → moved f m ≡ coefficient x r f m
          pure_below positive m free h =
              pure_first m free (omega arith)
              ∙ ap (r.add (coefficient x r f m))
              (SplitOff.combination_same x l r c set u pure_terms (heavy weight d pure_terms) (heavy_same weight d pure_terms light) m
              ∙ Linear.coefficient-sum_to x l r c x.count (λ i. times x r (u i) (derivative x r i (heavy weight d pure_terms))) m
              ∙ Sums.sum_to-nothing r c x.count (λ i. coefficient x r (times x r (u i) (derivative x r i (heavy weight d pure_terms))) m)
              (λ i g.
              let v = weight (variable x i) in
              Taylor.low_zero x l r c set weight adds (v + e + (d - v)) (times x r (u i) (derivative x r i (heavy weight d pure_terms)))
              (Taylor.from_times x l r c set weight adds (v + e) (d - v) (u i) (derivative x r i (heavy weight d pure_terms)) (high i g)
              (Taylor.from_derivative x l r c set weight adds i g d (heavy weight d pure_terms) (all_heavy weight d pure_terms))) m (omega arith)))
              ∙ c.add_zero (coefficient x r f m)

      -- a monomial of degree at most 2 with w twice is the square of w
      only_square : (a : E) (w : ℕ) → w < x.count → x.at a w ≡ 2 → degree x a ≤ 2 → a ≡ square_of w
      only_square a w inside two h =
          let once = ExpLaws.variable-lower x l w a (omega arith) in
          let down = ExpLaws.at-lower x l w a w inside in
          let same_one : cond (eqb w w) (x.at a w - 1) (x.at a w) ≡ x.at a w - 1 = ap (λ b. cond b (x.at a w - 1) (x.at a w)) (eq-eqb w w refl) in
          let less = ExpLaws.degree-lower x l w a (omega arith) inside in
          let again = ExpLaws.variable-lower x l w (lower x w a) (omega arith) in
          let least = ExpLaws.degree-lower x l w (lower x w a) (omega arith) inside in
          let nothing_left = ExpLaws.none_of_degree x l (lower x w (lower x w a)) (omega arith) in
          sym once ∙ ap (plus x (variable x w)) (sym again ∙ ap (plus x (variable x w)) nothing_left ∙ ExpLaws.plus-none x l (variable x w))

      -- squares of square variables keep their coefficients
      pub square_kept : (w : ℕ) → first ≤ w → w < x.count → moved f (square_of w) ≡ coefficient x r f (square_of w)
      square_kept w past inside =
          SubstOrder.coefficient-subst x l x l r c set parts f (square_of w)
          ∙ pair_where f (λ a. coefficient x r (image a) (square_of w)) (at_only x r (square_of w)) (λ a there. at a (same x a (square_of w)) refl (low_or_high (degree x a) 2))
          ∙ sym (Pair.coefficient_is x r c f (square_of w))
        where
          double : x.at (square_of w) w ≡ 2
          double = let a = ExpLaws.at-plus x l (variable x w) (variable x w) w inside in let b = ExpLaws.at-variable x l w w inside in let z = ExpLaws.unit_yes w w refl in omega arith

          of_degree : degree x (square_of w) ≡ 2
          of_degree = let a = ExpLaws.degree-plus x l (variable x w) (variable x w) in let b = ExpLaws.degree-variable x l w inside in omega arith

          at : (a : E) (b : Bool) → same x a (square_of w) ≡ b → (degree x a ≤ 2) ⊎ (2 < degree x a) → coefficient x r (image a) (square_of w) ≡ cond (same x a (square_of w)) r.one r.zero
          at a true q o =
              ap (λ y. coefficient x r (image y) (square_of w)) (ExpLaws.same-eq x l a (square_of w) q) ∙ image_square w past inside (square_of w)
              ∙ ap (λ y. cond (same x y (square_of w)) r.one r.zero) (sym (ExpLaws.same-eq x l a (square_of w) q))
          at a false q (inr above) = higher a (square_of w) (let d = of_degree in omega arith) ∙ sym (ap (λ b. cond b r.one r.zero) q)
          at a false q (inl h) =
              other_square a (square_of w) w past inside (λ z. bad (sym q ∙ ap (λ y. same x y (square_of w)) (only_square a w inside (sym z ∙ double) h) ∙ ExpLaws.same_refl x l (square_of w)))
              ∙ sym (ap (λ b. cond b r.one r.zero) q)
            where
              bad : false ≡ true → ⊥
              bad y = cc y
