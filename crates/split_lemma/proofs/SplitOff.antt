-- The splitting lemma in one degree, over a commutative ring: by Taylor's first order, what is put for the square variables takes from the terms of the degree those that have one.
use Rattle.std.proofs.Common.{◌≡◌, ℕ, zero, suc, ◌+◌, ◌-◌, ◌<◌, ◌≤◌, Bool, true, false, cond, eqb, eqb-true, eq-eqb, leb, leb-true, ltb, ltb-false, le-ltb, [], ◌∷◌, ◌++◌, flat_map, filter, refl, sym, ap, ap₂, subst, ◌∙◌, arith}
use Rattle.ring_theory.specs.Ring.{RingOps, IsCommRing}
use Rattle.poly_law.specs.Sums.{sum_to, multiple}
use Rattle.poly_law.specs.Exps.{Exps, IsExps, plus, lower, variable, same, degree}
use Rattle.poly_law.specs.Poly.{Terms, coefficient, scale, times, derivative, combination, Same, SameTo, StartsAt, subst_in}
use Rattle.ring_theory.proofs.RingReify.{by_ring, reify}
use Rattle.poly_law.proofs.Sums
use Rattle.poly_law.proofs.ExpLaws
use Rattle.poly_law.proofs.Pair
use Rattle.poly_law.proofs.PolyRing
use Rattle.poly_law.proofs.Order
use Rattle.poly_law.proofs.Linear
use Rattle.poly_law.proofs.Derivative
use Rattle.poly_law.proofs.Place
use Rattle.poly_law.proofs.Subst
use Rattle.kill_law.proofs.Taylor
use Rattle.kill_law.proofs.Taylor.{AllFrom}

module _ {E V : Type 0} (x : Exps E) (l : IsExps x) (r : RingOps V) (c : IsCommRing r) (s : IsSet V) where
  -- ---- the substitution, for what starts at degree 2 and takes parts of degree o

  -- the terms of degree at least d
  abbrev from_degree : ℕ → Terms E V → Terms E V
  from_degree d f = filter (λ t. leb d (degree x t.0)) f

  all_from : (d : ℕ) (f : Terms E V) → AllFrom (degree x) d (from_degree d f)
  all_from d [] = tt
  all_from d (t ∷ f) = step (leb d (degree x t.0)) refl (all_from d f)
    where
      step : (b : Bool) → leb d (degree x t.0) ≡ b → AllFrom (degree x) d (from_degree d f) → AllFrom (degree x) d (cond b (t ∷ from_degree d f) (from_degree d f))
      step true e rest = (leb-true d (degree x t.0) e, rest)
      step false e rest = rest

  pub combination_same : (u : ℕ → Terms E V) (f g : Terms E V) → Same x r f g → Same x r (combination x r u f) (combination x r u g)
  combination_same u f g e m =
      Linear.coefficient-sum_to x l r c x.count (λ i. times x r (u i) (derivative x r i f)) m
      ∙ Sums.sum_to-cong r x.count (λ i. coefficient x r (times x r (u i) (derivative x r i f)) m) (λ i. coefficient x r (times x r (u i) (derivative x r i g)) m)
      (λ i h. PolyRing.times_right x l r c (u i) (derivative x r i f) (derivative x r i g) (Derivative.derivative_same x l r c i f g e) m)
      ∙ sym (Linear.coefficient-sum_to x l r c x.count (λ i. times x r (u i) (derivative x r i g)) m)

  -- f becomes f and the sum of the u(i) times its partial derivatives, up to degree d + 2*e, where f starts at d and u(i) at 1 + e
  pub first_order : (u : ℕ → Terms E V) (d e : ℕ) → ((i : ℕ) → i < x.count → AllFrom (degree x) (suc e) (u i)) → (f : Terms E V) → StartsAt x r d f → (m : E) → degree x m < d + (e + e)
      → coefficient x r (subst_in x x r (λ i. (variable x i, r.one) ∷ u i) f) m ≡ r.add (coefficient x r f m) (coefficient x r (combination x r u f) m)
  first_order u d e high f start m h =
      let g = from_degree d f in
      let equal = Order.keep_high x l r c d f start in
      let adds = ExpLaws.degree-plus x l in
      Subst.subst_same x l x l r c s (λ i. (variable x i, r.one) ∷ u i) f g equal m
      ∙ Taylor.taylor x l r c s (degree x) adds u e (λ i k. subst (λ z. AllFrom (degree x) z (u i)) (let v = ExpLaws.degree-variable x l i k in let q : suc e ≡ degree x (variable x i) + e = omega arith in q) (high i k)) d g (all_from d f) m h
      ∙ Order.coefficient-append x l r c g (combination x r u g) m
      ∙ ap₂ r.add (sym (equal m)) (sym (combination_same u f g equal m))

  -- the sum of the u(i) times the partial derivatives of f starts at d + e, where f starts at d and u(i) at 1 + e
  pub combination_starts : (u : ℕ → Terms E V) (d e : ℕ) → ((i : ℕ) → i < x.count → StartsAt x r (suc e) (u i)) → (f : Terms E V) → StartsAt x r d f → (m : E) → degree x m < d + e
      → coefficient x r (combination x r u f) m ≡ r.zero
  combination_starts u zero e high f start m h =
      Linear.coefficient-sum_to x l r c x.count (λ i. times x r (u i) (derivative x r i f)) m
      ∙ Sums.sum_to-nothing r c x.count (λ i. coefficient x r (times x r (u i) (derivative x r i f)) m)
      (λ i k. Order.starts_times x l r c (suc e) 0 (u i) (derivative x r i f) (high i k) (λ a g. absurd (omega arith)) m (omega arith))
  combination_starts u (suc d) e high f start m h =
      Linear.coefficient-sum_to x l r c x.count (λ i. times x r (u i) (derivative x r i f)) m
      ∙ Sums.sum_to-nothing r c x.count (λ i. coefficient x r (times x r (u i) (derivative x r i f)) m)
      (λ i k. Order.starts_times x l r c (suc e) d (u i) (derivative x r i f) (high i k) (Order.starts_derivative x l r c i d f k start) m (omega arith))

  -- ---- the square variables, from `first` on

  module _ (first : ℕ) where
    -- up to degree k, the square variables stand in f by their squares alone
    abbrev pub IsSplitTo : ℕ → Terms E V → Type 0
    IsSplitTo k f = (m : E) (w : ℕ) → first ≤ w → w < x.count → 0 < x.at m w → (m ≡ plus x (variable x w) (variable x w) → ⊥) → degree x m ≤ k → coefficient x r f m ≡ r.zero

    -- the partial derivative in a square variable w, up to degree 1: twice the coefficient of its square times w
    slope : (f : Terms E V) → StartsAt x r 2 f → IsSplitTo 2 f → (w : ℕ) → first ≤ w → w < x.count
        → SameTo x r 1 (derivative x r w f) ((variable x w, multiple r 2 (coefficient x r f (plus x (variable x w) (variable x w)))) ∷ [])
    slope f start split w past inside =
        Linear.same_to_one x l r c (derivative x r w f) ((variable x w, multiple r 2 q) ∷ []) (Order.starts_derivative x l r c w 1 f inside start)
        (λ m h. c.add_zero _ ∙ ap (λ b. cond b (multiple r 2 q) r.zero) (ExpLaws.same-no x l (variable x w) m (λ e. let a = ExpLaws.degree-variable x l w inside in let b = ap (degree x) e in omega arith)))
        (λ k g.
        Place.coefficient-derivative x l r c w inside f (variable x k)
        ∙ step k g (eqb w k) refl)
      where
        q : V
        q = coefficient x r f (plus x (variable x w) (variable x w))

        differ : (k : ℕ) → k < x.count → (w ≡ k → ⊥) → variable x w ≡ variable x k → ⊥
        differ k g ne e =
            let a : x.at (variable x w) w ≡ x.at (variable x k) w = ap (λ z. x.at z w) e in
            let b = ExpLaws.at-variable x l w w inside in
            let d = ExpLaws.at-variable x l k w inside in
            let y = ExpLaws.unit_yes w w refl in
            let n = ExpLaws.unit_no w k ne in
            omega arith

        mixed : (k : ℕ) → k < x.count → (w ≡ k → ⊥) → coefficient x r f (plus x (variable x k) (variable x w)) ≡ r.zero
        mixed k g ne =
            let at = ExpLaws.at-plus x l (variable x k) (variable x w) w inside in
            let here = ExpLaws.at-variable x l w w inside in
            let there = ExpLaws.at-variable x l k w inside in
            let y = ExpLaws.unit_yes w w refl in
            let n = ExpLaws.unit_no w k ne in
            let d = ExpLaws.degree-plus x l (variable x k) (variable x w) in
            let d₁ = ExpLaws.degree-variable x l k g in
            let d₂ = ExpLaws.degree-variable x l w inside in
            split (plus x (variable x k) (variable x w)) w past inside (omega arith)
            (λ e.
            let a : x.at (plus x (variable x k) (variable x w)) w ≡ x.at (plus x (variable x w) (variable x w)) w = ap (λ z. x.at z w) e in
            let b = ExpLaws.at-plus x l (variable x w) (variable x w) w inside in
            omega arith)
            (omega arith)

        step : (k : ℕ) → k < x.count → (b : Bool) → eqb w k ≡ b
            → multiple r (suc (x.at (variable x k) w)) (coefficient x r f (plus x (variable x k) (variable x w))) ≡ coefficient x r ((variable x w, multiple r 2 q) ∷ []) (variable x k)
        step k g true e =
            let z : w ≡ k = eqb-true w k e in
            ap (λ j. multiple r (suc (x.at (variable x j) w)) (coefficient x r f (plus x (variable x j) (variable x w)))) (sym z)
            ∙ ap (λ j. multiple r (suc j) q) (ExpLaws.at-variable x l w w inside ∙ ExpLaws.unit_yes w w refl)
            ∙ sym (c.add_zero _ ∙ ap (λ b. cond b (multiple r 2 q) r.zero) (ap (same x (variable x w)) (ap (variable x) (sym z)) ∙ ExpLaws.same_refl x l (variable x w)))
        step k g false e =
            let ne : w ≡ k → ⊥ = λ z. (let bad : false ≡ true = sym e ∙ eq-eqb w k z in cc bad) in
            ap (multiple r (suc (x.at (variable x k) w))) (mixed k g ne)
            ∙ Place.multiple-zero x l r c (suc (x.at (variable x k) w))
            ∙ sym (c.add_zero _ ∙ ap (λ b. cond b (multiple r 2 q) r.zero) (ExpLaws.same-no x l (variable x w) (variable x k) (differ k g ne)))

    -- ---- what the split move takes

    module _ (belongs : ℕ → E → Bool) (o : ℕ) (two : 2 ≤ o)
        (has : (w : ℕ) (a : E) → belongs w a ≡ true → 0 < x.at a w)
        (of_degree : (w : ℕ) (a : E) → belongs w a ≡ true → degree x a ≡ suc o)
        (f : Terms E V) (inverse : ℕ → V) where
      -- what a term gives for w
      abbrev pub given : ℕ → E × V → Terms E V
      given w t = cond (belongs w t.0) ((lower x w t.0, r.neg (r.mul t.1 (inverse w))) ∷ []) []

      abbrev pub taken : ℕ → Terms E V
      taken w = flat_map (given w) f

      -- it has degree o
      pub taken_from : (w : ℕ) → w < x.count → AllFrom (degree x) o (taken w)
      taken_from w inside = all f
        where
          all : (f : Terms E V) → AllFrom (degree x) o (flat_map (given w) f)
          all [] = tt
          all (t ∷ f) = step (belongs w t.0) refl (all f)
            where
              step : (b : Bool) → belongs w t.0 ≡ b → AllFrom (degree x) o (flat_map (given w) f)
                  → AllFrom (degree x) o (cond b ((lower x w t.0, r.neg (r.mul t.1 (inverse w))) ∷ []) [] ++ flat_map (given w) f)
              step true e rest = (let a = ExpLaws.degree-lower x l w t.0 (has w t.0 e) inside in let d = of_degree w t.0 e in omega arith, rest)
              step false e rest = rest

      -- times a multiple of the variable: multiples of the terms that belong to it
      returned : (w : ℕ) → w < x.count → (double : V) → (m : E)
          → coefficient x r (times x r (taken w) ((variable x w, double) ∷ [])) m ≡ r.mul (r.neg (r.mul (inverse w) double)) (cond (belongs w m) (coefficient x r f m) r.zero)
      returned w inside double m =
          ap (λ g. coefficient x r g m) (lists f)
          ∙ Pair.coefficient_is x r c (scale x r (r.neg (r.mul (inverse w) double)) (filter (λ t. belongs w t.0) f)) m
          ∙ Pair.pair-scale x r c (r.neg (r.mul (inverse w) double)) (filter (λ t. belongs w t.0) f) (Pair.at_only x r m)
          ∙ ap (r.mul (r.neg (r.mul (inverse w) double))) (sym (Pair.coefficient_is x r c (filter (λ t. belongs w t.0) f) m) ∙ Order.coefficient-filter x l r c (belongs w) f m)
        where
          back : (v i d : V) → r.mul (r.neg (r.mul v i)) d ≡ r.mul (r.neg (r.mul i d)) v
          back v i d = by_ring c (v ∷ i ∷ d ∷ []) (search reify depth 20) tt

          lists : (f : Terms E V) → times x r (flat_map (given w) f) ((variable x w, double) ∷ []) ≡ scale x r (r.neg (r.mul (inverse w) double)) (filter (λ t. belongs w t.0) f)
          lists [] = refl
          lists (t ∷ f) = step (belongs w t.0) refl (lists f)
            where
              step : (b : Bool) → belongs w t.0 ≡ b → times x r (flat_map (given w) f) ((variable x w, double) ∷ []) ≡ scale x r (r.neg (r.mul (inverse w) double)) (filter (λ t. belongs w t.0) f)
                  → times x r (cond b ((lower x w t.0, r.neg (r.mul t.1 (inverse w))) ∷ []) [] ++ flat_map (given w) f) ((variable x w, double) ∷ [])
                  ≡ scale x r (r.neg (r.mul (inverse w) double)) (cond b (t ∷ filter (λ t. belongs w t.0) f) (filter (λ t. belongs w t.0) f))
              step true e rest =
                  ap₂ (λ u us. u ∷ us)
                  (ap₂ (λ a v. (a, v)) (ExpLaws.plus_comm x l (lower x w t.0) (variable x w) ∙ ExpLaws.variable-lower x l w t.0 (has w t.0 e)) (back t.1 (inverse w) double))
                  rest
              step false e rest = rest

      -- the residual variables stay
      abbrev pub put_more : ℕ → Terms E V
      put_more w = cond (ltb w first) [] (taken w)

      more_from : (w : ℕ) → w < x.count → AllFrom (degree x) o (put_more w)
      more_from w inside = step (ltb w first)
        where
          step : (b : Bool) → AllFrom (degree x) o (cond b [] (taken w))
          step true = tt
          step false = taken_from w inside

      more_starts : (w : ℕ) → w < x.count → StartsAt x r o (put_more w)
      more_starts w inside = Taylor.low_zero x l r c s (degree x) (ExpLaws.degree-plus x l) o (put_more w) (more_from w inside)

      module _ (start : StartsAt x r 2 f) where
        abbrev moved : E → V
        moved m = coefficient x r (subst_in x x r (λ i. (variable x i, r.one) ∷ put_more i) f) m

        abbrev down : ℕ
        down = o - 1

        down_is : suc down ≡ o
        down_is = omega arith

        first_two : (m : E) → degree x m ≤ suc o → moved m ≡ r.add (coefficient x r f m) (coefficient x r (combination x r put_more f) m)
        first_two m h =
            let e = down_is in
            first_order put_more 2 down (λ i g. subst (λ z. AllFrom (degree x) z (put_more i)) (sym e) (more_from i g)) f start m (omega arith)

        -- nothing changes below
        pub unchanged : (m : E) → degree x m ≤ o → moved m ≡ coefficient x r f m
        unchanged m h =
            let e = down_is in
            first_two m (omega arith)
            ∙ ap (r.add (coefficient x r f m)) (combination_starts put_more 2 down (λ i g. subst (λ z. StartsAt x r z (put_more i)) (sym e) (more_starts i g)) f start m (omega arith))
            ∙ c.add_zero (coefficient x r f m)

        module _ (split : IsSplitTo 2 f) where
          -- twice the coefficient of the square of w
          abbrev double : ℕ → V
          double w = multiple r 2 (coefficient x r f (plus x (variable x w) (variable x w)))

          -- what w takes in degree o + 1
          abbrev share : E → ℕ → V
          share m w = cond (ltb w first) r.zero (r.mul (r.neg (r.mul (inverse w) (double w))) (cond (belongs w m) (coefficient x r f m) r.zero))

          takes : (m : E) → degree x m ≤ suc o → (w : ℕ) → w < x.count → coefficient x r (times x r (put_more w) (derivative x r w f)) m ≡ share m w
          takes m h w inside = step (ltb w first) refl
            where
              step : (b : Bool) → ltb w first ≡ b
                  → coefficient x r (times x r (cond b [] (taken w)) (derivative x r w f)) m ≡ cond b r.zero (r.mul (r.neg (r.mul (inverse w) (double w))) (cond (belongs w m) (coefficient x r f m) r.zero))
              step true e = refl
              step false e =
                  let past : first ≤ w = ltb-false w first e in
                  Order.times_near x l r c o 1 (taken w) (taken w) (derivative x r w f) ((variable x w, double w) ∷ [])
                  (Taylor.low_zero x l r c s (degree x) (ExpLaws.degree-plus x l) o (taken w) (taken_from w inside))
                  (λ a g. c.add_zero _ ∙ ap (λ b. cond b (double w) r.zero) (ExpLaws.same-no x l (variable x w) a (λ q. let d = ExpLaws.degree-variable x l w inside in let y = ap (degree x) q in omega arith)))
                  (λ a g. refl) (slope f start split w past inside) m (omega arith)
                  ∙ returned w inside (double w) m

          total_is : (m : E) → degree x m ≤ suc o → moved m ≡ r.add (coefficient x r f m) (sum_to r x.count (share m))
          total_is m h =
              first_two m h
              ∙ ap (r.add (coefficient x r f m))
              (Linear.coefficient-sum_to x l r c x.count (λ i. times x r (put_more i) (derivative x r i f)) m
              ∙ Sums.sum_to-cong r x.count (λ i. coefficient x r (times x r (put_more i) (derivative x r i f)) m) (share m) (takes m h))

          none_belongs : (m : E) (w : ℕ) → (first ≤ w → belongs w m ≡ false) → share m w ≡ r.zero
          none_belongs m w h = step (ltb w first) refl
            where
              step : (b : Bool) → ltb w first ≡ b → cond b r.zero (r.mul (r.neg (r.mul (inverse w) (double w))) (cond (belongs w m) (coefficient x r f m) r.zero)) ≡ r.zero
              step true e = refl
              step false e = ap (λ b. r.mul (r.neg (r.mul (inverse w) (double w))) (cond b (coefficient x r f m) r.zero)) (h (ltb-false w first e)) ∙ Sums.mul_zero r c (r.neg (r.mul (inverse w) (double w)))

          -- a monomial that belongs to no square variable keeps its coefficient
          pub kept : (m : E) → degree x m ≤ suc o → ((w : ℕ) → first ≤ w → w < x.count → belongs w m ≡ false) → moved m ≡ coefficient x r f m
          kept m h free =
              total_is m h
              ∙ ap (r.add (coefficient x r f m)) (Sums.sum_to-nothing r c x.count (share m) (λ w g. none_belongs m w (λ past. free w past g)))
              ∙ c.add_zero (coefficient x r f m)

          -- and one that belongs to just one loses it, where the double of the coefficient of its square is a unit
          pub cleared : (m : E) → degree x m ≤ suc o → (w : ℕ) → first ≤ w → w < x.count → r.mul (inverse w) (double w) ≡ r.one → belongs w m ≡ true
              → ((v : ℕ) → (v ≡ w → ⊥) → first ≤ v → v < x.count → belongs v m ≡ false) → moved m ≡ r.zero
          cleared m h w past inside unit here others =
              total_is m h
              ∙ ap (r.add (coefficient x r f m))
              (Sums.sum_to-single r c x.count w (share m) inside (λ v g ne. none_belongs m v (λ p. others v ne p g))
              ∙ ap (λ b. cond b r.zero (r.mul (r.neg (r.mul (inverse w) (double w))) (cond (belongs w m) (coefficient x r f m) r.zero))) (le-ltb w first past)
              ∙ ap₂ (λ u b. r.mul (r.neg u) (cond b (coefficient x r f m) r.zero)) unit here
              ∙ Sums.neg_mul r c r.one (coefficient x r f m) ∙ ap r.neg (c.mul_comm r.one (coefficient x r f m) ∙ c.mul_one (coefficient x r f m)))
              ∙ c.add_neg (coefficient x r f m)
