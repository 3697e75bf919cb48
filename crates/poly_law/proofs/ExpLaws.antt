-- Exponents: a commutative monoid, with a test of equality.
use Rattle.std.proofs.Common.{◌≡◌, ℕ, zero, suc, ◌+◌, ◌-◌, ◌<◌, ◌≤◌, ◌⊎◌, inl, inr, Bool, true, false, cond, ◌&&◌, eqb, eqb-true, ne_eqb, le_of_eq, add-zero, ltb, lt-ltb, le-ltb, eq-eqb, ap, ap₂, sym, ◌∙◌, refl, arith, add_comm, subst}
use Rattle.poly_law.specs.Exps.{Exps, IsExps, all_to, nat_sum_to, plus, none, lower, variable, same, degree}

and_left : (a b : Bool) → (a && b) ≡ true → a ≡ true
and_left true b e = refl
and_left false b e = e

and_right : (a b : Bool) → (a && b) ≡ true → b ≡ true
and_right true b e = e
and_right false b e = absurd (cc e)

and_both : (a b : Bool) → a ≡ true → b ≡ true → (a && b) ≡ true
and_both true b e h = h
and_both false b e h = absurd (cc e)

below_suc : (i n : ℕ) → i < suc n → (i < n) ⊎ (i ≡ n)
below_suc i n h = grind arith

pub all_to_at : (n : ℕ) (p : ℕ → Bool) → all_to n p ≡ true → (i : ℕ) → i < n → p i ≡ true
all_to_at zero p e i h = absurd (omega arith)
all_to_at (suc n) p e i h =
    elim (below_suc i n h) [
      | inl g ↦ all_to_at n p (and_left (all_to n p) (p n) e) i g
      | inr g ↦ ap p g ∙ and_right (all_to n p) (p n) e
    ]

pub all_to_from : (n : ℕ) (p : ℕ → Bool) → ((i : ℕ) → i < n → p i ≡ true) → all_to n p ≡ true
all_to_from zero p h = refl
all_to_from (suc n) p h = and_both (all_to n p) (p n) (all_to_from n p (λ i g. h i (omega arith))) (h n (omega arith))

pub nat_sum_to-cong : (n : ℕ) (v w : ℕ → ℕ) → ((i : ℕ) → i < n → v i ≡ w i) → nat_sum_to n v ≡ nat_sum_to n w
nat_sum_to-cong zero v w h = refl
nat_sum_to-cong (suc n) v w h = ap₂ (λ a b. a + b) (nat_sum_to-cong n v w (λ i g. h i (omega arith))) (h n (omega arith))

pub nat_sum_to-add : (n : ℕ) (v w : ℕ → ℕ) → nat_sum_to n (λ i. v i + w i) ≡ nat_sum_to n v + nat_sum_to n w
nat_sum_to-add zero v w = omega arith
nat_sum_to-add (suc n) v w = let e = nat_sum_to-add n v w in omega arith

pub nat_sum_to-zero : (n : ℕ) → nat_sum_to n (λ i. 0) ≡ 0
nat_sum_to-zero zero = refl
nat_sum_to-zero (suc n) = ap (λ z. z + 0) (nat_sum_to-zero n)

-- one less at j takes one from the sum
sum_lower_past : (n j : ℕ) (w : ℕ → ℕ) → n ≤ j → nat_sum_to n (λ i. cond (eqb i j) (w i - 1) (w i)) ≡ nat_sum_to n w
sum_lower_past n j w h = nat_sum_to-cong n (λ i. cond (eqb i j) (w i - 1) (w i)) w (λ i g. ap (λ b. cond b (w i - 1) (w i)) (ne_eqb i j (λ e. omega arith)))

sum_lower : (n j : ℕ) (w : ℕ → ℕ) → 0 < w j → j < n → nat_sum_to n (λ i. cond (eqb i j) (w i - 1) (w i)) + 1 ≡ nat_sum_to n w
sum_lower zero j w p h = absurd (omega arith)
sum_lower (suc n) j w p h =
    elim (below_suc j n h) [
      | inl g ↦ let e = sum_lower n j w p g in let e' : cond (eqb n j) (w n - 1) (w n) ≡ w n = ap (λ b. cond b (w n - 1) (w n)) (ne_eqb n j (λ e. omega arith)) in omega arith
      | inr g ↦
          let e = sum_lower_past n j w (le_of_eq (sym g)) in
          let e' : cond (eqb n j) (w n - 1) (w n) ≡ w n - 1 = ap (λ b. cond b (w n - 1) (w n)) (eq-eqb n j (sym g)) in
          let p' : 0 < w n = subst (λ z. 0 < w z) g p in
          omega arith
    ]

sum_unit_past : (n j : ℕ) → n ≤ j → nat_sum_to n (λ i. cond (eqb i j) 1 0) ≡ 0
sum_unit_past n j h = nat_sum_to-cong n (λ i. cond (eqb i j) 1 0) (λ i. 0) (λ i g. ap (λ b. cond b 1 0) (ne_eqb i j (λ e. omega arith))) ∙ nat_sum_to-zero n

sum_unit : (n j : ℕ) → j < n → nat_sum_to n (λ i. cond (eqb i j) 1 0) ≡ 1
sum_unit zero j h = absurd (omega arith)
sum_unit (suc n) j h =
    elim (below_suc j n h) [
      | inl g ↦ ap₂ (λ a b. a + b) (sum_unit n j g) (ap (λ b. cond b 1 0) (ne_eqb n j (λ e. omega arith)))
      | inr g ↦ ap₂ (λ a b. a + b) (sum_unit_past n j (le_of_eq (sym g))) (ap (λ b. cond b 1 0) (eq-eqb n j (sym g)))
    ]

below_two : (k : ℕ) → k ≤ 1 → (k ≡ 0) ⊎ (k ≡ 1)
below_two k h = grind arith

at-le-sum : (n : ℕ) (w : ℕ → ℕ) (i : ℕ) → i < n → w i ≤ nat_sum_to n w
at-le-sum zero w i h = absurd (omega arith)
at-le-sum (suc n) w i h =
    elim (below_suc i n h) [
      | inl g ↦ let e = at-le-sum n w i g in omega arith
      | inr g ↦ let e : w i ≡ w n = ap w g in omega arith
    ]

pub unit_no : (i j : ℕ) → (i ≡ j → ⊥) → cond {A = ℕ} (eqb i j) 1 0 ≡ 0
unit_no i j h = ap (λ b. cond b 1 0) (ne_eqb i j h)

pub unit_yes : (i j : ℕ) → i ≡ j → cond {A = ℕ} (eqb i j) 1 0 ≡ 1
unit_yes i j h = ap (λ b. cond b 1 0) (eq-eqb i j h)

unit_last : (n : ℕ) (w : ℕ → ℕ) → nat_sum_to (suc n) w ≡ 1 → nat_sum_to n w ≡ 0 → (i : ℕ) → i < suc n → w i ≡ cond {A = ℕ} (eqb i n) 1 0
unit_last n w e z i h =
    elim (below_suc i n h) [
      | inl g ↦ let a = at-le-sum n w i g in let b = unit_no i n (λ e. omega arith) in omega arith
      | inr g ↦ let a : w i ≡ w n = ap w g in let b = unit_yes i n g in omega arith
    ]

unit_before : (n : ℕ) (w : ℕ → ℕ) (j : ℕ) → nat_sum_to (suc n) w ≡ 1 → nat_sum_to n w ≡ 1 → j < n → ((i : ℕ) → i < n → w i ≡ cond {A = ℕ} (eqb i j) 1 0)
    → (i : ℕ) → i < suc n → w i ≡ cond {A = ℕ} (eqb i j) 1 0
unit_before n w j e o y v i h =
    elim (below_suc i n h) [
      | inl g ↦ v i g
      | inr g ↦ let a : w i ≡ w n = ap w g in let b = unit_no i j (λ e. omega arith) in omega arith
    ]

le_suc : (j n : ℕ) → j < n → j < suc n
le_suc j n h = omega arith

unit_of_sum : (n : ℕ) (w : ℕ → ℕ) → nat_sum_to n w ≡ 1 → (j : ℕ) × (j < n) × ((i : ℕ) → i < n → w i ≡ cond {A = ℕ} (eqb i j) 1 0)
unit_of_sum zero w e = absurd (omega arith)
unit_of_sum (suc n) w e =
    elim (below_two (nat_sum_to n w) (omega arith)) [
      | inl z ↦ (n, omega arith, unit_last n w e z)
      | inr o ↦ let v = unit_of_sum n w o in (v.0, le_suc v.0 n v.1, unit_before n w v.0 e o v.1 v.2)
    ]

pub zero_or_not : (k : ℕ) → (k ≡ 0) ⊎ (0 < k)
zero_or_not k = grind arith

-- a sum that is not 0 has a term that is not
pub positive_term : (n : ℕ) (w : ℕ → ℕ) → 0 < nat_sum_to n w → (j : ℕ) × (j < n) × (0 < w j)
positive_term zero w h = absurd (omega arith)
positive_term (suc n) w h =
    elim (zero_or_not (w n)) [
      | inl z ↦ let v = positive_term n w (omega arith) in (v.0, le_suc v.0 n v.1, v.2)
      | inr p ↦ (n, omega arith, p)
    ]

before_or_all : (m n : ℕ) → m ≤ suc n → (m ≤ n) ⊎ (m ≡ suc n)
before_or_all m n h = grind arith

le_or_past : (m n : ℕ) → (m ≤ n) ⊎ (n < m)
le_or_past m n = grind arith

-- the sum of the first m numbers
pub nat_sum_to-front : (m n : ℕ) (w : ℕ → ℕ) → m ≤ n → nat_sum_to n (λ i. cond (ltb i m) (w i) 0) ≡ nat_sum_to m w
nat_sum_to-front m zero w h = ap (λ k. nat_sum_to k w) (let e : 0 ≡ m = omega arith in e)
nat_sum_to-front m (suc n) w h =
    elim (before_or_all m n h) [
      | inl g ↦
          ap₂ (λ a b. a + b) (nat_sum_to-front m n w g) (ap (λ b. cond b (w n) 0) (le-ltb n m g)) ∙ add-zero (nat_sum_to m w)
      | inr g ↦
          nat_sum_to-cong (suc n) (λ i. cond (ltb i m) (w i) 0) w (λ i y. ap (λ b. cond b (w i) 0) (lt-ltb i m (omega arith)))
          ∙ ap (λ k. nat_sum_to k w) (sym g)
    ]

-- all numbers from m on are 0, or one is not
pub find_past : (m n : ℕ) (w : ℕ → ℕ) → ((i : ℕ) → m ≤ i → i < n → w i ≡ 0) ⊎ ((i : ℕ) × (m ≤ i) × (i < n) × (0 < w i))
find_past m zero w = inl (λ i g h. absurd (omega arith))
find_past m (suc n) w =
    elim (find_past m n w) [
      | inr v ↦ inr (v.0, v.1, le_suc v.0 n v.2, v.3)
      | inl u ↦ elim (zero_or_not (w n)) [
        | inl z ↦ inl (λ i g h. elim (below_suc i n h) [ inl e ↦ u i g e | inr e ↦ ap w e ∙ z ])
        | inr p ↦ elim (le_or_past m n) [
          | inl g ↦ inr (n, g, omega arith, p)
          | inr g ↦ inl (λ i y h. absurd (omega arith))
        ]
      ]
    ]

module _ {E : Type 0} (x : Exps E) (l : IsExps x) where
  pub at-plus : (a b : E) (i : ℕ) → i < x.count → x.at (plus x a b) i ≡ x.at a i + x.at b i
  at-plus a b i h = l.at_make (λ i. x.at a i + x.at b i) i h

  pub at-none : (i : ℕ) → i < x.count → x.at (none x) i ≡ 0
  at-none i h = l.at_make (λ i. 0) i h

  pub plus_comm : (a b : E) → plus x a b ≡ plus x b a
  plus_comm a b = ap x.make λ k i. add_comm (x.at a i) (x.at b i) k

  pub plus_assoc : (a b d : E) → plus x (plus x a b) d ≡ plus x a (plus x b d)
  plus_assoc a b d = l.same_at (plus x (plus x a b) d) (plus x a (plus x b d)) λ i h.
      let e₁ = at-plus (plus x a b) d i h in
      let e₂ = at-plus a b i h in
      let e₃ = at-plus a (plus x b d) i h in
      let e₄ = at-plus b d i h in
      omega arith

  pub plus-none : (a : E) → plus x a (none x) ≡ a
  plus-none a = l.same_at (plus x a (none x)) a λ i h.
      let e₁ = at-plus a (none x) i h in
      let e₂ = at-none i h in
      omega arith

  pub same-eq : (a b : E) → same x a b ≡ true → a ≡ b
  same-eq a b e = l.same_at a b λ i h. eqb-true (x.at a i) (x.at b i) (all_to_at x.count (λ i. eqb (x.at a i) (x.at b i)) e i h)

  pub same_refl : (a : E) → same x a a ≡ true
  same_refl a = all_to_from x.count (λ i. eqb (x.at a i) (x.at a i)) λ i h. eq-eqb (x.at a i) (x.at a i) refl

  pub degree-plus : (a b : E) → degree x (plus x a b) ≡ degree x a + degree x b
  degree-plus a b =
      nat_sum_to-cong x.count (x.at (plus x a b)) (λ i. x.at a i + x.at b i) (λ i h. at-plus a b i h)
      ∙ nat_sum_to-add x.count (x.at a) (x.at b)

  pub at-lower : (j : ℕ) (a : E) (i : ℕ) → i < x.count → x.at (lower x j a) i ≡ cond (eqb i j) (x.at a i - 1) (x.at a i)
  at-lower j a i h = l.at_make (λ i. cond (eqb i j) (x.at a i - 1) (x.at a i)) i h

  pub lower-plus : (j : ℕ) (a b : E) → 0 < x.at a j → j < x.count → lower x j (plus x a b) ≡ plus x (lower x j a) b
  lower-plus j a b p _ = l.same_at (lower x j (plus x a b)) (plus x (lower x j a) b) λ i h.
      let e₁ = at-plus (lower x j a) b i h in
      let e₂ = at-plus a b i h in
      at-lower j (plus x a b) i h ∙ step i (eqb i j) refl e₂ ∙ ap (λ z. z + x.at b i) (sym (at-lower j a i h)) ∙ sym e₁
    where
      step : (i : ℕ) (t : Bool) → eqb i j ≡ t → x.at (plus x a b) i ≡ x.at a i + x.at b i
          → cond t (x.at (plus x a b) i - 1) (x.at (plus x a b) i) ≡ cond t (x.at a i - 1) (x.at a i) + x.at b i
      step i true q e = let s : i ≡ j = eqb-true i j q in let p' : 0 < x.at a i = subst (λ k. 0 < x.at a k) (sym s) p in omega arith
      step i false q e = e

  pub lower-plus_right : (j : ℕ) (a b : E) → 0 < x.at b j → j < x.count → lower x j (plus x a b) ≡ plus x a (lower x j b)
  lower-plus_right j a b p h = ap (lower x j) (plus_comm a b) ∙ lower-plus j b a p h ∙ plus_comm (lower x j b) a

  pub degree-lower : (j : ℕ) (a : E) → 0 < x.at a j → j < x.count → degree x (lower x j a) + 1 ≡ degree x a
  degree-lower j a p h =
      ap (λ z. z + 1) (nat_sum_to-cong x.count (x.at (lower x j a)) (λ i. cond (eqb i j) (x.at a i - 1) (x.at a i)) (λ i g. at-lower j a i g))
      ∙ sum_lower x.count j (x.at a) p h

  pub degree-none : degree x (none x) ≡ 0
  degree-none = nat_sum_to-cong x.count (x.at (none x)) (λ i. 0) (λ i h. at-none i h) ∙ nat_sum_to-zero x.count

  pub same-no : (a b : E) → (a ≡ b → ⊥) → same x a b ≡ false
  same-no a b h = step (same x a b) refl
    where
      step : (t : Bool) → same x a b ≡ t → same x a b ≡ false
      step true e = absurd (h (same-eq a b e))
      step false e = e

  pub at-variable : (j i : ℕ) → i < x.count → x.at (variable x j) i ≡ cond (eqb i j) 1 0
  at-variable j i h = l.at_make (λ i. cond (eqb i j) 1 0) i h

  pub degree-variable : (j : ℕ) → j < x.count → degree x (variable x j) ≡ 1
  degree-variable j h = nat_sum_to-cong x.count (x.at (variable x j)) (λ i. cond (eqb i j) 1 0) (λ i g. at-variable j i g) ∙ sum_unit x.count j h

  -- the monomials of degree at most 1
  pub none_of_degree : (a : E) → degree x a ≡ 0 → a ≡ none x
  none_of_degree a e = l.same_at a (none x) λ i h. let e₁ = at-none i h in let e₂ = at-le-sum x.count (x.at a) i h in omega arith

  pub variable_of_degree : (a : E) → degree x a ≡ 1 → (j : ℕ) × (j < x.count) × (a ≡ variable x j)
  variable_of_degree a e =
      let w = unit_of_sum x.count (x.at a) e in
      (w.0, w.1, l.same_at a (variable x w.0) λ i h. w.2 i h ∙ sym (at-variable w.0 i h))

  pub low_degree : (a : E) → degree x a ≤ 1 → (degree x a ≡ 0) ⊎ (degree x a ≡ 1)
  low_degree a h = below_two (degree x a) h

  -- a monomial is a variable of it times the rest
  pub variable-lower : (j : ℕ) (a : E) → 0 < x.at a j → plus x (variable x j) (lower x j a) ≡ a
  variable-lower j a p = l.same_at (plus x (variable x j) (lower x j a)) a λ i h.
      at-plus (variable x j) (lower x j a) i h ∙ ap₂ (λ y z. y + z) (at-variable j i h) (at-lower j a i h) ∙ step i (eqb i j) refl
    where
      step : (i : ℕ) (t : Bool) → eqb i j ≡ t → cond {A = ℕ} t 1 0 + cond t (x.at a i - 1) (x.at a i) ≡ x.at a i
      step i true q = let p' : 0 < x.at a i = subst (λ k. 0 < x.at a k) (sym (eqb-true i j q)) p in omega arith
      step i false q = omega arith

  pub lower-variable : (j : ℕ) (a : E) → j < x.count → lower x j (plus x a (variable x j)) ≡ a
  lower-variable j a _ = l.same_at (lower x j (plus x a (variable x j))) a λ i h.
      at-lower j (plus x a (variable x j)) i h ∙ ap (λ k. cond (eqb i j) (k - 1) k) (at-plus a (variable x j) i h ∙ ap (λ k. x.at a i + k) (at-variable j i h)) ∙ step (x.at a i) (eqb i j)
    where
      step : (k : ℕ) (t : Bool) → cond t (k + cond {A = ℕ} t 1 0 - 1) (k + cond {A = ℕ} t 1 0) ≡ k
      step k true = omega arith
      step k false = omega arith

  pub plus_at : (a : E) (j : ℕ) → j < x.count → x.at (plus x a (variable x j)) j ≡ suc (x.at a j)
  plus_at a j h = at-plus a (variable x j) j h ∙ ap (λ k. x.at a j + k) (at-variable j j h ∙ unit_yes j j refl) ∙ omega arith
