-- Linear equations over a field: with more unknowns than equations there is a solution other than 0, and what that says of square matrices.
use Rattle.std.proofs.Common.{◌≡◌, ◌≢◌, ℕ, zero, suc, ◌-◌, ◌<◌, ◌≤◌, ◌⊎◌, inl, inr, Bool, true, false, cond, eqb, ltb, [], ◌∷◌, ltb-true, ltb-false, lt-ltb, le-ltb, eq-eqb, ne_eqb, ap, ap₂, sym, ◌∙◌, refl, arith}
use Rattle.std.proofs.Math.Decide.{dec_le}
use Rattle.ring_theory.specs.Scalars.{Scalars, ScalarLaws, HasInverses}
use Rattle.ring_theory.proofs.RingReify.{by_ring, reify}
use Rattle.poly_law.specs.Sums.{sum_to}
use Rattle.poly_law.proofs.Sums

-- the numbers but p, in order
abbrev pub skip : ℕ → ℕ → ℕ
skip p d = cond (ltb d p) d (suc d)

-- the place of a number among these
abbrev unskip : ℕ → ℕ → ℕ
unskip p d = cond (ltb d p) d (d - 1)

skip-low : (p d : ℕ) → d < p → skip p d ≡ d
skip-low p d h = ap (λ b. cond b d (suc d)) (lt-ltb d p h)

skip-high : (p d : ℕ) → p ≤ d → skip p d ≡ suc d
skip-high p d h = ap (λ b. cond b d (suc d)) (le-ltb d p h)

skip_differs : (p d : ℕ) → skip p d ≡ p → ⊥
skip_differs p d = step (ltb d p) refl
  where
    step : (b : Bool) → ltb d p ≡ b → cond b d (suc d) ≡ p → ⊥
    step true e q = let h = ltb-true d p e in omega arith
    step false e q = let h = ltb-false d p e in omega arith

skip_inside : (m p d : ℕ) → d < m → skip p d < suc m
skip_inside m p d h = step (ltb d p)
  where
    step : (b : Bool) → cond b d (suc d) < suc m
    step true = omega arith
    step false = omega arith

unskip-skip : (p d : ℕ) → unskip p (skip p d) ≡ d
unskip-skip p d = step (ltb d p) refl
  where
    step : (b : Bool) → ltb d p ≡ b → unskip p (cond b d (suc d)) ≡ d
    step true e = ap (λ b. cond b d (d - 1)) e
    step false e = ap (λ b. cond b (suc d) (suc d - 1)) (let h = ltb-false d p e in le-ltb (suc d) p (omega arith)) ∙ (let z : suc d - 1 ≡ d = omega arith in z)

skip-unskip : (p d : ℕ) → (d ≡ p → ⊥) → skip p (unskip p d) ≡ d
skip-unskip p d ne = step (ltb d p) refl
  where
    step : (b : Bool) → ltb d p ≡ b → skip p (cond b d (d - 1)) ≡ d
    step true e = ap (λ b. cond b d (suc d)) e
    step false e = let h = ltb-false d p e in let past : p < d = after p d h ne in skip-high p (d - 1) (omega arith) ∙ (let z : suc (d - 1) ≡ d = omega arith in z)
      where
        after : (p d : ℕ) → p ≤ d → (d ≡ p → ⊥) → p < d
        after p d h ne = grind arith

unskip_inside : (n p d : ℕ) → p < suc n → d < suc n → (d ≡ p → ⊥) → unskip p d < n
unskip_inside n p d k h ne = step (ltb d p) refl
  where
    after : (p d : ℕ) → p ≤ d → (d ≡ p → ⊥) → p < d
    after p d h ne = grind arith

    step : (b : Bool) → ltb d p ≡ b → cond b d (d - 1) < n
    step true e = let h' = ltb-true d p e in omega arith
    step false e = let past = after p d (ltb-false d p e) ne in omega arith

pub same_or : (a b : ℕ) → (a ≡ b) ⊎ (a ≢ b)
same_or a b = elim (dec_le a b) [
  | yes h ↦ elim (dec_le b a) [ yes k ↦ inl (omega arith) | no k ↦ inr (λ e. omega arith) ]
  | no h ↦ inr (λ e. omega arith)
]

module _ {V : Type 0} (s : Scalars V) (laws : ScalarLaws s) where
  open s.ops use {add, mul, neg}

  -- a sum without one of its summands, and that one
  sum-skip : (m p : ℕ) → p ≤ m → (w : ℕ → V) → sum_to s.ops (suc m) w ≡ add (sum_to s.ops m (λ d. w (skip p d))) (w p)
  sum-skip zero p h w = ap (λ z. add s.ops.zero (w z)) (let z : 0 ≡ p = omega arith in z)
  sum-skip (suc m) p h w = elim (Sums.last_or_before (suc m) p (omega arith)) [
    | inl b ↦
        ap (λ z. add z (w (suc m))) (sum-skip m p (omega arith) w)
        ∙ by_ring laws.ring (sum_to s.ops m (λ d. w (skip p d)) ∷ w p ∷ w (suc m) ∷ []) (search reify depth 20) tt
        ∙ ap (λ z. add (add (sum_to s.ops m (λ d. w (skip p d))) (w z)) (w p)) (sym (skip-high p m (omega arith)))
    | inr e ↦ ap₂ add (Sums.sum_to-cong s.ops (suc m) w (λ d. w (skip p d)) (λ d g. ap w (sym (skip-low p d (omega arith))))) (ap w (sym e))
  ]

  -- g(0)*x(0) + .. + g(m - 1)*x(m - 1)
  abbrev pub form : ℕ → (ℕ → V) → (ℕ → V) → V
  form m g x = sum_to s.ops m (λ d. mul (g d) (x d))

  -- the first k of the forms f(i) in m unknowns vanish at values x that are not all 0
  pub record Nontrivial (k m : ℕ) (f : ℕ → ℕ → V) : Type 0 where
    pub x : ℕ → V
    pub place : ℕ
    pub inside : place < m
    pub other : x place ≢ s.ops.zero
    pub solves : (i : ℕ) → i < k → form m (f i) x ≡ s.ops.zero

  -- all coefficients are 0, or one is not
  find : (m : ℕ) (g : ℕ → V) → ((d : ℕ) → d < m → g d ≡ s.ops.zero) ⊎ ((p : ℕ) × (p < m) × (g p ≢ s.ops.zero))
  find zero g = inl (λ d h. absurd (omega arith))
  find (suc m) g = elim (find m g) [
    | inr p ↦ inr (p.0, (let h = p.1 in omega arith), p.2)
    | inl all ↦ step all (s.is_zero (g m)) refl
  ]
    where
      step : ((d : ℕ) → d < m → g d ≡ s.ops.zero) → (b : Bool) → s.is_zero (g m) ≡ b → ((d : ℕ) → d < suc m → g d ≡ s.ops.zero) ⊎ ((p : ℕ) × (p < suc m) × (g p ≢ s.ops.zero))
      step all true e = inl (λ d h. elim (Sums.last_or_before m d h) [ inl b ↦ all d b | inr q ↦ ap g q ∙ (laws.zero_test (g m)).0 e ])
      step all false e = inr (m, omega arith, (λ z. let bad : false ≡ true = sym e ∙ (laws.zero_test (g m)).1 z in cc bad))

  module _ (inverts : HasInverses s) where
    -- one equation more, whose coefficient at p is not 0: the others without unknown p, and the value of that one
    module _ (k m p : ℕ) (f : ℕ → ℕ → V) (h : p < suc m) (ne : f k p ≢ s.ops.zero) where
      abbrev quotient : V
      quotient = s.inverse (f k p)

      abbrev eliminated : ℕ → ℕ → V
      eliminated i d = add (f i (skip p d)) (neg (mul (mul (f i p) quotient) (f k (skip p d))))

      module _ (v : Nontrivial k m eliminated) where
        abbrev at_rest : (ℕ → V) → V
        at_rest g = form m (λ d. g (skip p d)) v.x

        abbrev value_here : V
        value_here = neg (mul quotient (at_rest (f k)))

        abbrev values : ℕ → V
        values d = cond (eqb d p) value_here (v.x (unskip p d))

        values-skip : (d : ℕ) → values (skip p d) ≡ v.x d
        values-skip d = ap (λ b. cond b value_here (v.x (unskip p (skip p d)))) (ne_eqb (skip p d) p (skip_differs p d)) ∙ ap v.x (unskip-skip p d)

        values-here : values p ≡ value_here
        values-here = ap (λ b. cond b value_here (v.x (unskip p p))) (eq-eqb p p refl)

        form-values : (g : ℕ → V) → form (suc m) g values ≡ add (at_rest g) (mul (g p) value_here)
        form-values g =
            sum-skip m p (omega arith) (λ d. mul (g d) (values d))
            ∙ ap₂ add (Sums.sum_to-cong s.ops m (λ d. mul (g (skip p d)) (values (skip p d))) (λ d. mul (g (skip p d)) (v.x d)) (λ d z. ap (mul (g (skip p d))) (values-skip d)))
            (ap (mul (g p)) values-here)

        form-eliminated : (i : ℕ) → form m (eliminated i) v.x ≡ add (at_rest (f i)) (neg (mul (mul (f i p) quotient) (at_rest (f k))))
        form-eliminated i =
            Sums.sum_to-cong s.ops m (λ d. mul (eliminated i d) (v.x d)) (λ d. add (mul (f i (skip p d)) (v.x d)) (mul (neg (mul (f i p) quotient)) (mul (f k (skip p d)) (v.x d))))
            (λ d z. by_ring laws.ring (f i (skip p d) ∷ f i p ∷ quotient ∷ f k (skip p d) ∷ v.x d ∷ []) (search reify depth 30) tt)
            ∙ Sums.sum_to-add s.ops laws.ring m (λ d. mul (f i (skip p d)) (v.x d)) (λ d. mul (neg (mul (f i p) quotient)) (mul (f k (skip p d)) (v.x d)))
            ∙ ap (add (at_rest (f i))) (Sums.sum_to-mul s.ops laws.ring m (neg (mul (f i p) quotient)) (λ d. mul (f k (skip p d)) (v.x d)) ∙ Sums.neg_mul s.ops laws.ring (mul (f i p) quotient) (at_rest (f k)))

        of_others : (i : ℕ) → i < k → form (suc m) (f i) values ≡ s.ops.zero
        of_others i g =
            form-values (f i)
            ∙ by_ring laws.ring (at_rest (f i) ∷ f i p ∷ quotient ∷ at_rest (f k) ∷ []) (search reify depth 30) tt
            ∙ sym (form-eliminated i) ∙ v.solves i g

        of_last : form (suc m) (f k) values ≡ s.ops.zero
        of_last =
            form-values (f k)
            ∙ by_ring laws.ring (at_rest (f k) ∷ f k p ∷ quotient ∷ []) (search reify depth 30) tt
            ∙ ap (λ z. add (at_rest (f k)) (neg (mul z (at_rest (f k))))) (inverts.mul_inverse (f k p) ne)
            ∙ by_ring laws.ring (at_rest (f k) ∷ []) (search reify depth 20) tt

        one_more : Nontrivial (suc k) (suc m) f
        one_more = record {
          x = values;
          place = skip p v.place;
          inside = skip_inside m p v.place v.inside;
          other = λ z. v.other (sym (values-skip v.place) ∙ z);
          solves = λ i g. elim (Sums.last_or_before k i g) [ inl b ↦ of_others i b | inr e ↦ ap (λ z. form (suc m) (f z) values) e ∙ of_last ];
        }

    -- one equation more, without a coefficient
    vanishing : (k m : ℕ) (f : ℕ → ℕ → V) → ((d : ℕ) → d < m → f k d ≡ s.ops.zero) → Nontrivial k m f → Nontrivial (suc k) m f
    vanishing k m f all v = record {
      x = v.x;
      place = v.place;
      inside = v.inside;
      other = v.other;
      solves = λ i g. elim (Sums.last_or_before k i g) [
        | inl b ↦ v.solves i b
        | inr e ↦ ap (λ z. form m (f z) v.x) e ∙ Sums.sum_to-nothing s.ops laws.ring m (λ d. mul (f k d) (v.x d)) (λ d z. ap (λ y. mul y (v.x d)) (all d z) ∙ Sums.zero_mul s.ops laws.ring (v.x d))
      ];
    }

    -- k equations in more than k unknowns
    pub solution : (k m : ℕ) (f : ℕ → ℕ → V) → k < m → Nontrivial k m f
    solution zero m f h = record { x = λ d. s.ops.one; place = 0; inside = h; other = laws.nontrivial; solves = λ i g. absurd (omega arith) }
    solution (suc k) zero f h = absurd (omega arith)
    solution (suc k) (suc m) f h = elim (find (suc m) (f k)) [
      | inl all ↦ vanishing k (suc m) f all (solution k (suc m) f (omega arith))
      | inr p ↦ one_more k m p.0 f p.1 p.2 (solution k m (eliminated k m p.0 f p.1 p.2) (omega arith))
    ]

  -- values of n unknowns at which each row of a matrix with n rows vanishes are 0
  abbrev pub IsInjective : ℕ → (ℕ → ℕ → V) → Type 0
  IsInjective n w = (x : ℕ → V) → ((i : ℕ) → i < n → form n (w i) x ≡ s.ops.zero) → (d : ℕ) → d < n → x d ≡ s.ops.zero

  -- values that are not all 0, at which each row but row k vanishes
  pub record AlmostKernel (n k : ℕ) (w : ℕ → ℕ → V) : Type 0 where
    pub x : ℕ → V
    pub place : ℕ
    pub inside : place < n
    pub other : x place ≢ s.ops.zero
    pub solves : (i : ℕ) → i < n → (i ≡ k → ⊥) → form n (w i) x ≡ s.ops.zero

  pub almost_kernel : HasInverses s → (n k : ℕ) → k < n → (w : ℕ → ℕ → V) → AlmostKernel n k w
  almost_kernel inverts zero k h w = absurd (omega arith)
  almost_kernel inverts (suc n) k h w = of_rows (solution inverts n (suc n) (λ i. w (skip k i)) (omega arith))
    where
      of_rows : Nontrivial n (suc n) (λ i. w (skip k i)) → AlmostKernel (suc n) k w
      of_rows v = record {
        x = v.x;
        place = v.place;
        inside = v.inside;
        other = v.other;
        solves = λ i g ne. ap (λ z. form (suc n) (w z) v.x) (sym (skip-unskip k i ne)) ∙ v.solves (unskip k i) (unskip_inside n k i h g ne);
      }

  -- no combination of the rows of an injective matrix vanishes, unless its coefficients are 0
  pub no_combination : HasInverses s → (n : ℕ) (w : ℕ → ℕ → V) → IsInjective n w → (a : ℕ → V) → ((d : ℕ) → d < n → sum_to s.ops n (λ i. mul (a i) (w i d)) ≡ s.ops.zero)
      → (k : ℕ) → k < n → a k ≢ s.ops.zero → ⊥
  no_combination inverts n w injective a none k h ne = contradiction (almost_kernel inverts n k h w)
    where
      contradiction : AlmostKernel n k w → ⊥
      contradiction v = v.other (injective v.x all v.place v.inside)
        where
          -- Σ a(i) * (row i at x), in two ways
          exchanged : sum_to s.ops n (λ i. mul (a i) (form n (w i) v.x)) ≡ s.ops.zero
          exchanged =
              Sums.sum_to-cong s.ops n (λ i. mul (a i) (form n (w i) v.x)) (λ i. sum_to s.ops n (λ d. mul (mul (a i) (w i d)) (v.x d)))
              (λ i g. sym (Sums.sum_to-mul s.ops laws.ring n (a i) (λ d. mul (w i d) (v.x d))) ∙ Sums.sum_to-cong s.ops n (λ d. mul (a i) (mul (w i d) (v.x d))) (λ d. mul (mul (a i) (w i d)) (v.x d))
              (λ d z. sym (laws.ring.mul_assoc (a i) (w i d) (v.x d))))
              ∙ Sums.sum_to-sum_to s.ops laws.ring n n (λ i d. mul (mul (a i) (w i d)) (v.x d))
              ∙ Sums.sum_to-nothing s.ops laws.ring n (λ d. sum_to s.ops n (λ i. mul (mul (a i) (w i d)) (v.x d)))
              (λ d g. Sums.sum_to-mul_right s.ops laws.ring n (λ i. mul (a i) (w i d)) (v.x d) ∙ ap (λ z. mul z (v.x d)) (none d g) ∙ Sums.zero_mul s.ops laws.ring (v.x d))

          one_row : mul (a k) (form n (w k) v.x) ≡ s.ops.zero
          one_row =
              sym (Sums.sum_to-single s.ops laws.ring n k (λ i. mul (a i) (form n (w i) v.x)) h
              (λ i g differ. ap (mul (a i)) (v.solves i g differ) ∙ Sums.mul_zero s.ops laws.ring (a i)))
              ∙ exchanged

          last : form n (w k) v.x ≡ s.ops.zero
          last =
              sym (ap (λ z. mul z (form n (w k) v.x)) (inverts.mul_inverse (a k) ne) ∙ laws.ring.mul_comm s.ops.one (form n (w k) v.x) ∙ laws.ring.mul_one (form n (w k) v.x))
              ∙ by_ring laws.ring (a k ∷ s.inverse (a k) ∷ form n (w k) v.x ∷ []) (search reify depth 20) tt
              ∙ ap (mul (s.inverse (a k))) one_row ∙ Sums.mul_zero s.ops laws.ring (s.inverse (a k))

          all : (i : ℕ) → i < n → form n (w i) v.x ≡ s.ops.zero
          all i g = elim (same_or i k) [ inl e ↦ ap (λ z. form n (w z) v.x) e ∙ last | inr differ ↦ v.solves i g differ ]
