-- A product that is gathered term by term: each sum that is formed is that of a part of the summands at a monomial.
use Rattle.std.proofs.Common.{◌≡◌, ℕ, suc, ◌+◌, ◌<◌, ◌≤◌, ◌^◌, Bool, true, false, cond, leb, List, [], ◌∷◌, ◌++◌, map, length, get_or, take, drop, refl, sym, ap, ap₂, subst, ◌∙◌, append_assoc, take-append-drop, add-one, drop-cons}
use Rattle.std.specs.List.{filter, flat_map}
use Rattle.std.proofs.lemmas.List.{map-append}
use Rattle.ring_theory.specs.Ring.{IsCommRing}
use Rattle.ring_theory.specs.Scalars.{Scalars, SumIsHigh, sum_of}
use Rattle.ring_theory.proofs.Sums.{next_high}
use Rattle.poly_law.specs.Exps.{Exps, IsExps, plus, same, degree}
use Rattle.poly_law.specs.Poly.{Terms, coefficient, cut, times, times_term, Same}
use Rattle.poly_law.proofs.ExpLaws
use Rattle.poly_law.proofs.Sums
use Rattle.jet_law.specs.Heights.{IsHigh, summands_at, sums_heights, products_heights, product_heights}
use Rattle.jet_law.proofs.High.{high_head, high_left, high_right}

pub filter-append : {X : Type 0} (p : X → Bool) (xs ys : List X) → filter p (xs ++ ys) ≡ filter p xs ++ filter p ys
filter-append p [] ys = refl
filter-append p (x ∷ xs) ys = step (p x) (filter-append p xs ys)
  where
    step : (b : Bool) → filter p (xs ++ ys) ≡ filter p xs ++ filter p ys → cond b (x ∷ filter p (xs ++ ys)) (filter p (xs ++ ys)) ≡ cond b (x ∷ filter p xs) (filter p xs) ++ filter p ys
    step true e = ap (λ z. x ∷ z) e
    step false e = e

pub flat_map-append : {X Y : Type 0} (g : X → List Y) (xs ys : List X) → flat_map g (xs ++ ys) ≡ flat_map g xs ++ flat_map g ys
flat_map-append g [] ys = refl
flat_map-append g (x ∷ xs) ys = ap (λ z. g x ++ z) (flat_map-append g xs ys) ∙ sym (append_assoc (g x) (flat_map g xs) (flat_map g ys))

-- a list at one of its places
pub at_place : {X : Type 0} (xs : List X) (i : ℕ) (x : X) → i < length xs → x ≡ get_or xs i x → xs ≡ take i xs ++ x ∷ drop (i + 1) xs
at_place xs i x h e =
    let rest : drop i xs ≡ x ∷ drop (i + 1) xs = rw (add-one, drop-cons xs i x) (ap (λ y. y ∷ drop (suc i) xs) (sym e)) in
    sym (take-append-drop i xs) ∙ ap (λ ys. take i xs ++ ys) rest

module _ {E V : Type 0} (x : Exps E) (l : IsExps x) (s : Scalars V) (c : IsCommRing s.ops) where
  -- a coefficient is the sum of the summands
  pub coefficient_is_sum : (f : Terms E V) (m : E) → coefficient x s.ops f m ≡ sum_of s.ops (summands_at x s f m)
  coefficient_is_sum [] m = refl
  coefficient_is_sum (t ∷ f) m = step (same x t.0 m) (coefficient_is_sum f m)
    where
      step : (b : Bool) → coefficient x s.ops f m ≡ sum_of s.ops (summands_at x s f m)
          → s.ops.add (cond b t.1 s.ops.zero) (coefficient x s.ops f m) ≡ sum_of s.ops (map (λ t. t.1) (cond b (t ∷ filter (λ t. same x t.0 m) f) (filter (λ t. same x t.0 m) f)))
      step true e = ap (s.ops.add t.1) e
      step false e = Sums.zero_add s.ops c (coefficient x s.ops f m) ∙ e

  summands-append : (f g : Terms E V) (m : E) → summands_at x s (f ++ g) m ≡ summands_at x s f m ++ summands_at x s g m
  summands-append f g m = ap (map (λ t. t.1)) (filter-append (λ t. same x t.0 m) f g) ∙ map-append (λ t. t.1) (filter (λ t. same x t.0 m) f) (filter (λ t. same x t.0 m) g)

  -- the sum of what came before the term t at its monomial, and t, may be refused only where the sum of all is high
  pub gathered_high : (now front rest : Terms E V) (t : E × V) → Same x s.ops now front → SumIsHigh s (coefficient x s.ops now t.0) t.1 → 2 ^ 120 ≤ s.sum_height (summands_at x s (front ++ t ∷ rest) t.0)
  gathered_high now front rest t e high =
      let before = e t.0 ∙ coefficient_is_sum front t.0 in
      let here : summands_at x s (t ∷ rest) t.0 ≡ t.1 ∷ summands_at x s rest t.0 = ap (λ b. map (λ t. t.1) (cond b (t ∷ filter (λ u. same x u.0 t.0) rest) (filter (λ u. same x u.0 t.0) rest))) (ExpLaws.same_refl x l t.0) in
      subst (λ z. 2 ^ 120 ≤ s.sum_height z) (sym (summands-append front (t ∷ rest) t.0 ∙ ap (λ z. summands_at x s front t.0 ++ z) here))
      (next_high s c (summands_at x s front t.0) t.1 (summands_at x s rest t.0) (subst (λ z. SumIsHigh s z t.1) before high))

  pub sums_high : (now front rest : Terms E V) (t : E × V) → Same x s.ops now front → SumIsHigh s (coefficient x s.ops now t.0) t.1 → IsHigh (sums_heights x s (front ++ t ∷ rest))
  sums_high now front rest t e high =
      let all = front ++ t ∷ rest in
      subst IsHigh (sym (map-append (λ u. s.sum_height (summands_at x s all u.0)) front (t ∷ rest)))
      (high_right (map (λ u. s.sum_height (summands_at x s all u.0)) front) (map (λ u. s.sum_height (summands_at x s all u.0)) (t ∷ rest))
      (high_head (s.sum_height (summands_at x s all t.0)) (map (λ u. s.sum_height (summands_at x s all u.0)) rest) (gathered_high now front rest t e high)))

  -- ---- the product cut at k, at the term of u and t

  abbrev keep : ℕ → E × V → Bool
  keep k t = leb (degree x t.0) k

  abbrev term_of : E × V → E × V → E × V
  term_of u t = (plus x u.0 t.0, s.ops.mul u.1 t.1)

  -- what was gathered before the term of u and t
  abbrev pub before : ℕ → (f₁ g₁ g : Terms E V) → E × V → Terms E V
  before k f₁ g₁ g u = cut x s.ops k (times x s.ops f₁ g) ++ cut x s.ops k (times_term x s.ops u g₁)

  abbrev after : ℕ → (f₂ g₂ g : Terms E V) → E × V → Terms E V
  after k f₂ g₂ g u = cut x s.ops k (times_term x s.ops u g₂) ++ cut x s.ops k (times x s.ops f₂ g)

  split_row : (k : ℕ) (g₁ g₂ : Terms E V) (u t : E × V) → keep k (term_of u t) ≡ true
      → cut x s.ops k (times_term x s.ops u (g₁ ++ t ∷ g₂)) ≡ cut x s.ops k (times_term x s.ops u g₁) ++ term_of u t ∷ cut x s.ops k (times_term x s.ops u g₂)
  split_row k g₁ g₂ u t h =
      ap (filter (keep k)) (map-append (term_of u) g₁ (t ∷ g₂)) ∙ filter-append (keep k) (map (term_of u) g₁) (map (term_of u) (t ∷ g₂))
      ∙ ap (λ z. cut x s.ops k (times_term x s.ops u g₁) ++ z) (ap (λ b. cond b (term_of u t ∷ cut x s.ops k (times_term x s.ops u g₂)) (cut x s.ops k (times_term x s.ops u g₂))) h)

  split_product : (k : ℕ) (f₁ f₂ g₁ g₂ : Terms E V) (u t : E × V) → keep k (term_of u t) ≡ true
      → cut x s.ops k (times x s.ops (f₁ ++ u ∷ f₂) (g₁ ++ t ∷ g₂)) ≡ before k f₁ g₁ (g₁ ++ t ∷ g₂) u ++ term_of u t ∷ after k f₂ g₂ (g₁ ++ t ∷ g₂) u
  split_product k f₁ f₂ g₁ g₂ u t h =
      let g = g₁ ++ t ∷ g₂ in
      let A = cut x s.ops k (times x s.ops f₁ g) in
      let B = cut x s.ops k (times_term x s.ops u g₁) in
      let C = cut x s.ops k (times_term x s.ops u g₂) in
      let D = cut x s.ops k (times x s.ops f₂ g) in
      ap (filter (keep k)) (flat_map-append (λ u. times_term x s.ops u g) f₁ (u ∷ f₂))
      ∙ filter-append (keep k) (times x s.ops f₁ g) (times_term x s.ops u g ++ times x s.ops f₂ g)
      ∙ ap (λ z. A ++ z) (filter-append (keep k) (times_term x s.ops u g) (times x s.ops f₂ g) ∙ ap (λ z. z ++ D) (split_row k g₁ g₂ u t h) ∙ append_assoc B (term_of u t ∷ C) D)
      ∙ sym (append_assoc A B (term_of u t ∷ (C ++ D)))

  -- adding the term of u and t to what was gathered before is refused only where the product cut at k is high
  pub add_high : (k : ℕ) (f g now : Terms E V) (i j : ℕ) (u t : E × V) → i < length f → u ≡ get_or f i u → j < length g → t ≡ get_or g j t → keep k (term_of u t) ≡ true
      → Same x s.ops now (before k (take i f) (take j g) g u) → SumIsHigh s (coefficient x s.ops now (plus x u.0 t.0)) (s.ops.mul u.1 t.1) → IsHigh (product_heights x s k f g)
  unfolding product_heights
  add_high k f g now i j u t hi ei hj ej h e high =
      let whole = ap₂ (λ f g. cut x s.ops k (times x s.ops f g)) (at_place f i u hi ei) (at_place g j t hj ej) ∙ split_product k (take i f) (drop (i + 1) f) (take j g) (drop (j + 1) g) u t h in
      let e' = subst (λ g'. Same x s.ops now (before k (take i f) (take j g) g' u)) (at_place g j t hj ej) e in
      high_right _ (sums_heights x s (cut x s.ops k (times x s.ops f g)))
      (subst (λ z. IsHigh (sums_heights x s z)) (sym whole) (sums_high now (before k (take i f) (take j g) (take j g ++ t ∷ drop (j + 1) g) u) (after k (drop (i + 1) f) (drop (j + 1) g) (take j g ++ t ∷ drop (j + 1) g) u) (term_of u t) e' high))

  -- and so is the product of their coefficients
  pub mul_high : (k : ℕ) (f g : Terms E V) (i j : ℕ) (u t : E × V) → i < length f → u ≡ get_or f i u → j < length g → t ≡ get_or g j t → keep k (term_of u t) ≡ true
      → 2 ^ 120 ≤ s.product_height u.1 t.1 → IsHigh (product_heights x s k f g)
  unfolding product_heights
  mul_high k f g i j u t hi ei hj ej h high =
      let row : E × V → List ℕ = λ v. map (λ w. s.product_height v.1 w.1) (filter (λ w. leb (degree x (plus x v.0 w.0)) k) g) in
      high_left _ (sums_heights x s (cut x s.ops k (times x s.ops f g))) (high_right (map (λ t. s.height t.1) f ++ map (λ t. s.height t.1) g) (products_heights x s k f g)
      (Rattle.jet_law.proofs.High.high_in row f i u hi ei (Rattle.jet_law.proofs.High.high_kept (λ w. leb (degree x (plus x u.0 w.0)) k) (λ w. s.product_height u.1 w.1) g j t hj ej h high)))
