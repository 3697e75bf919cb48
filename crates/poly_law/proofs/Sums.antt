-- Sums over lists, in a commutative ring.
use Rattle.std.proofs.Common.{◌≡◌, ℕ, zero, suc, List, [], ◌∷◌, ◌++◌, map, flat_map, filter, Bool, true, false, cond, ap, sym, ◌∙◌, refl, ap₂, ◌+◌, ◌<◌, ◌≤◌, ◌⊎◌, inl, inr, eqb, ne_eqb, eqb-true, eq-eqb, le_of_eq, arith, add-zero, add-suc}
use Rattle.ring_theory.specs.Ring.{RingOps, IsCommRing}
use Rattle.poly_law.specs.Sums.{total, sum_to, product_to, power, multiple, unit_at}

pub eqb_swap : (i j : ℕ) → eqb i j ≡ eqb j i
eqb_swap i j = step (eqb i j) (eqb j i) refl refl
  where
    step : (a b : Bool) → eqb i j ≡ a → eqb j i ≡ b → eqb i j ≡ eqb j i
    step true b p q = p ∙ sym (eq-eqb j i (sym (eqb-true i j p)))
    step false true p q = absurd (let e : true ≡ false = sym (eq-eqb i j (sym (eqb-true j i q))) ∙ p in cc e)
    step false false p q = p ∙ sym q

le_or_next : (n m : ℕ) → m ≤ suc n → (m ≤ n) ⊎ (m ≡ suc n)
le_or_next n m h = grind arith

pub last_or_before : (n j : ℕ) → j < suc n → (j < n) ⊎ (j ≡ n)
last_or_before n j h = grind arith

module _ {V : Type 0} (r : RingOps V) (c : IsCommRing r) where
  open r use {add, mul, neg}

  pub zero_add : (a : V) → add r.zero a ≡ a
  zero_add a = c.add_comm r.zero a ∙ c.add_zero a

  pub add_left_comm : (a b d : V) → add a (add b d) ≡ add b (add a d)
  add_left_comm a b d = sym (c.add_assoc a b d) ∙ ap (λ z. add z d) (c.add_comm a b) ∙ c.add_assoc b a d

  pub mul_left_comm : (a b d : V) → mul a (mul b d) ≡ mul b (mul a d)
  mul_left_comm a b d = sym (c.mul_assoc a b d) ∙ ap (λ z. mul z d) (c.mul_comm a b) ∙ c.mul_assoc b a d

  pub distrib_right : (a b d : V) → mul (add a b) d ≡ add (mul a d) (mul b d)
  distrib_right a b d = c.distrib a b d

  pub distrib_left : (a b d : V) → mul a (add b d) ≡ add (mul a b) (mul a d)
  distrib_left a b d = c.mul_comm a (add b d) ∙ c.distrib b d a ∙ ap₂ add (c.mul_comm b a) (c.mul_comm d a)

  pub add_swap : (a b d e : V) → add (add a b) (add d e) ≡ add (add a d) (add b e)
  add_swap a b d e = simp (c.add_assoc, add_left_comm)

  pub add_cancel : (a b d : V) → add a b ≡ add a d → b ≡ d
  add_cancel a b d e =
      sym (zero_add b) ∙ ap (λ z. add z b) (sym (c.add_neg a) ∙ c.add_comm a (neg a)) ∙ c.add_assoc (neg a) a b
      ∙ ap (add (neg a)) e ∙ sym (c.add_assoc (neg a) a d) ∙ ap (λ z. add z d) (c.add_comm (neg a) a ∙ c.add_neg a) ∙ zero_add d

  pub mul_zero : (a : V) → mul a r.zero ≡ r.zero
  mul_zero a = add_cancel (mul a r.zero) (mul a r.zero) r.zero (sym (distrib_left a r.zero r.zero) ∙ ap (mul a) (c.add_zero r.zero) ∙ sym (c.add_zero (mul a r.zero)))

  pub zero_mul : (a : V) → mul r.zero a ≡ r.zero
  zero_mul a = c.mul_comm r.zero a ∙ mul_zero a

  pub mul_neg : (a b : V) → mul a (neg b) ≡ neg (mul a b)
  mul_neg a b = add_cancel (mul a b) (mul a (neg b)) (neg (mul a b)) (sym (distrib_left a b (neg b)) ∙ ap (mul a) (c.add_neg b) ∙ mul_zero a ∙ sym (c.add_neg (mul a b)))

  pub neg_unique : (a b : V) → add a b ≡ r.zero → b ≡ neg a
  neg_unique a b e = add_cancel a b (neg a) (e ∙ sym (c.add_neg a))

  pub neg_mul : (a b : V) → mul (neg a) b ≡ neg (mul a b)
  neg_mul a b = c.mul_comm (neg a) b ∙ mul_neg b a ∙ ap neg (c.mul_comm b a)

  pub neg_zero : neg r.zero ≡ r.zero
  neg_zero = sym (neg_unique r.zero r.zero (c.add_zero r.zero))

  pub neg_add : (a b : V) → neg (add a b) ≡ add (neg a) (neg b)
  neg_add a b = sym (neg_unique (add a b) (add (neg a) (neg b)) (add_swap a b (neg a) (neg b) ∙ ap₂ add (c.add_neg a) (c.add_neg b) ∙ c.add_zero r.zero))

  pub equal_from_sub : (a b : V) → add a (neg b) ≡ r.zero → a ≡ b
  equal_from_sub a b e = sym (c.add_zero a) ∙ ap (add a) (sym (c.add_neg b) ∙ c.add_comm b (neg b)) ∙ sym (c.add_assoc a (neg b) b) ∙ ap (λ z. add z b) e ∙ zero_add b

  pub add_sub : (a b : V) → add a (add b (neg a)) ≡ b
  add_sub a b = add_left_comm a b (neg a) ∙ ap (add b) (c.add_neg a) ∙ c.add_zero b

  -- sums over a list
  pub total-append : {X : Type 0} (w : X → V) (xs ys : List X) → total r w (xs ++ ys) ≡ add (total r w xs) (total r w ys)
  total-append w [] ys = sym (zero_add (total r w ys))
  total-append w (t ∷ xs) ys = ap (add (w t)) (total-append w xs ys) ∙ sym (c.add_assoc (w t) (total r w xs) (total r w ys))

  pub total-map : {X Y : Type 0} (w : Y → V) (h : X → Y) (xs : List X) → total r w (map h xs) ≡ total r (λ t. w (h t)) xs
  total-map w h [] = refl
  total-map w h (t ∷ xs) = ap (add (w (h t))) (total-map w h xs)

  pub total-flat_map : {X Y : Type 0} (w : Y → V) (h : X → List Y) (xs : List X) → total r w (flat_map h xs) ≡ total r (λ t. total r w (h t)) xs
  total-flat_map w h [] = refl
  total-flat_map w h (t ∷ xs) = total-append w (h t) (flat_map h xs) ∙ ap (add (total r w (h t))) (total-flat_map w h xs)

  total-filter-step : {X : Type 0} (w : X → V) (t : X) (xs : List X) (rest : V) (b : Bool) → total r w xs ≡ rest
      → total r w (cond b (t ∷ xs) xs) ≡ add (cond b (w t) r.zero) rest
  total-filter-step w t xs rest true e = ap (add (w t)) e
  total-filter-step w t xs rest false e = e ∙ sym (zero_add rest)

  pub total-filter : {X : Type 0} (w : X → V) (p : X → Bool) (xs : List X) → total r w (filter p xs) ≡ total r (λ t. cond (p t) (w t) r.zero) xs
  total-filter w p [] = refl
  total-filter w p (t ∷ xs) = total-filter-step w t (filter p xs) (total r (λ s. cond (p s) (w s) r.zero) xs) (p t) (total-filter w p xs)

  pub total-zero : {X : Type 0} (xs : List X) → total r (λ t. r.zero) xs ≡ r.zero
  total-zero [] = refl
  total-zero (t ∷ xs) = ap (add r.zero) (total-zero xs) ∙ c.add_zero r.zero

  pub total-add : {X : Type 0} (v w : X → V) (xs : List X) → total r (λ t. add (v t) (w t)) xs ≡ add (total r v xs) (total r w xs)
  total-add v w [] = sym (c.add_zero r.zero)
  total-add v w (t ∷ xs) = ap (add (add (v t) (w t))) (total-add v w xs) ∙ add_swap (v t) (w t) (total r v xs) (total r w xs)

  pub total-mul : {X : Type 0} (a : V) (w : X → V) (xs : List X) → total r (λ t. mul a (w t)) xs ≡ mul a (total r w xs)
  total-mul a w [] = sym (mul_zero a)
  total-mul a w (t ∷ xs) = ap (add (mul a (w t))) (total-mul a w xs) ∙ sym (distrib_left a (w t) (total r w xs))

  -- two sums change places
  pub total-total : {X Y : Type 0} (w : X → Y → V) (xs : List X) (ys : List Y)
      → total r (λ s. total r (λ t. w s t) ys) xs ≡ total r (λ t. total r (λ s. w s t) xs) ys
  total-total w [] ys = sym (total-zero ys)
  total-total w (s ∷ xs) ys = ap (add (total r (w s) ys)) (total-total w xs ys) ∙ sym (total-add (w s) (λ t. total r (λ u. w u t) xs) ys)

  pub total-neg : {X : Type 0} (w : X → V) (xs : List X) → total r (λ t. neg (w t)) xs ≡ neg (total r w xs)
  total-neg w [] = sym neg_zero
  total-neg w (t ∷ xs) = ap (add (neg (w t))) (total-neg w xs) ∙ sym (neg_add (w t) (total r w xs))

  -- multiples by whole numbers
  pub multiple_is : (k : ℕ) (a : V) → multiple r k a ≡ mul (multiple r k r.one) a
  multiple_is zero a = sym (zero_mul a)
  multiple_is (suc k) a = ap₂ add (multiple_is k a) (sym (c.mul_one a) ∙ c.mul_comm a r.one) ∙ sym (distrib_right (multiple r k r.one) r.one a)

  pub multiple-plus : (m n : ℕ) (a : V) → multiple r (m + n) a ≡ add (multiple r m a) (multiple r n a)
  multiple-plus m zero a = rw add-zero (sym (c.add_zero (multiple r m a)))
  multiple-plus m (suc n) a = rw add-suc (ap (λ z. add z a) (multiple-plus m n a) ∙ c.add_assoc (multiple r m a) (multiple r n a) a)

  pub multiple-mul : (k : ℕ) (a b : V) → multiple r k (mul a b) ≡ mul a (multiple r k b)
  multiple-mul k a b = multiple_is k (mul a b) ∙ mul_left_comm (multiple r k r.one) a b ∙ ap (mul a) (sym (multiple_is k b))

  pub multiple-mul_left : (k : ℕ) (a b : V) → mul (multiple r k a) b ≡ multiple r k (mul a b)
  multiple-mul_left k a b = c.mul_comm (multiple r k a) b ∙ sym (multiple-mul k b a) ∙ ap (multiple r k) (c.mul_comm b a)

  pub multiple-add : (k : ℕ) (a b : V) → multiple r k (add a b) ≡ add (multiple r k a) (multiple r k b)
  multiple-add zero a b = sym (c.add_zero r.zero)
  multiple-add (suc k) a b = ap (λ z. add z (add a b)) (multiple-add k a b) ∙ add_swap (multiple r k a) (multiple r k b) a b

  -- sums and products over the numbers below n
  pub power-plus : (a : V) (m n : ℕ) → power r a (m + n) ≡ mul (power r a m) (power r a n)
  power-plus a m zero = rw add-zero (sym (c.mul_one (power r a m)))
  power-plus a m (suc n) = rw add-suc (ap (λ z. mul z a) (power-plus a m n) ∙ c.mul_assoc (power r a m) (power r a n) a)

  pub mul_swap : (a b d e : V) → mul (mul a b) (mul d e) ≡ mul (mul a d) (mul b e)
  mul_swap a b d e = simp (c.mul_assoc, mul_left_comm)

  pub product_to-mul : (n : ℕ) (v w : ℕ → V) → product_to r n (λ i. mul (v i) (w i)) ≡ mul (product_to r n v) (product_to r n w)
  product_to-mul zero v w = sym (c.mul_one r.one)
  product_to-mul (suc n) v w = ap (λ z. mul z (mul (v n) (w n))) (product_to-mul n v w) ∙ mul_swap (product_to r n v) (product_to r n w) (v n) (w n)

  pub sum_to-add : (n : ℕ) (v w : ℕ → V) → sum_to r n (λ i. add (v i) (w i)) ≡ add (sum_to r n v) (sum_to r n w)
  sum_to-add zero v w = sym (c.add_zero r.zero)
  sum_to-add (suc n) v w = ap (λ z. add z (add (v n) (w n))) (sum_to-add n v w) ∙ add_swap (sum_to r n v) (sum_to r n w) (v n) (w n)

  pub sum_to-mul : (n : ℕ) (a : V) (w : ℕ → V) → sum_to r n (λ i. mul a (w i)) ≡ mul a (sum_to r n w)
  sum_to-mul zero a w = sym (mul_zero a)
  sum_to-mul (suc n) a w = ap (λ z. add z (mul a (w n))) (sum_to-mul n a w) ∙ sym (distrib_left a (sum_to r n w) (w n))

  pub sum_to-mul_right : (n : ℕ) (w : ℕ → V) (a : V) → sum_to r n (λ i. mul (w i) a) ≡ mul (sum_to r n w) a
  sum_to-mul_right zero w a = sym (zero_mul a)
  sum_to-mul_right (suc n) w a = ap (λ z. add z (mul (w n) a)) (sum_to-mul_right n w a) ∙ sym (distrib_right (sum_to r n w) (w n) a)

  pub sum_to-zero : (n : ℕ) → sum_to r n (λ i. r.zero) ≡ r.zero
  sum_to-zero zero = refl
  sum_to-zero (suc n) = ap (λ z. add z r.zero) (sum_to-zero n) ∙ c.add_zero r.zero

  pub sum_to-sum_to : (m n : ℕ) (w : ℕ → ℕ → V) → sum_to r m (λ i. sum_to r n (w i)) ≡ sum_to r n (λ j. sum_to r m (λ i. w i j))
  sum_to-sum_to zero n w = sym (sum_to-zero n)
  sum_to-sum_to (suc m) n w = ap (λ z. add z (sum_to r n (w m))) (sum_to-sum_to m n w) ∙ sym (sum_to-add n (λ j. sum_to r m (λ i. w i j)) (w m))

-- a sum and a product see their terms below n only
pub sum_to-cong : {V : Type 0} (r : RingOps V) (n : ℕ) (v w : ℕ → V) → ((i : ℕ) → i < n → v i ≡ w i) → sum_to r n v ≡ sum_to r n w
sum_to-cong r zero v w h = refl
sum_to-cong r (suc n) v w h = ap₂ r.add (sum_to-cong r n v w (λ i g. h i (omega arith))) (h n (omega arith))

pub product_to-cong : {V : Type 0} (r : RingOps V) (n : ℕ) (v w : ℕ → V) → ((i : ℕ) → i < n → v i ≡ w i) → product_to r n v ≡ product_to r n w
product_to-cong r zero v w h = refl
product_to-cong r (suc n) v w h = ap₂ r.mul (product_to-cong r n v w (λ i g. h i (omega arith))) (h n (omega arith))

module _ {V : Type 0} (r : RingOps V) (c : IsCommRing r) where
  pub sum_to-neg : (n : ℕ) (w : ℕ → V) → sum_to r n (λ i. r.neg (w i)) ≡ r.neg (sum_to r n w)
  sum_to-neg zero w = sym (neg_zero r c)
  sum_to-neg (suc n) w = ap (λ z. r.add z (r.neg (w n))) (sum_to-neg n w) ∙ sym (neg_add r c (sum_to r n w) (w n))

  -- only the term at j is there
  pub sum_to-none : (n j : ℕ) (w : ℕ → V) (a : V) → n ≤ j → sum_to r n (λ i. r.mul (cond (eqb i j) a r.zero) (w i)) ≡ r.zero
  sum_to-none n j w a g =
      sum_to-cong r n (λ i. r.mul (cond (eqb i j) a r.zero) (w i)) (λ i. r.zero) (λ i h. ap (λ b. r.mul (cond b a r.zero) (w i)) (ne_eqb i j (λ e. omega arith)) ∙ zero_mul r c (w i))
      ∙ sum_to-zero r c n

  pub sum_to-one : (n j : ℕ) (w : ℕ → V) (a : V) → j < n → sum_to r n (λ i. r.mul (cond (eqb i j) a r.zero) (w i)) ≡ r.mul a (w j)
  sum_to-one zero j w a g = absurd (omega arith)
  sum_to-one (suc n) j w a g =
      elim (last_or_before n j g) [
        | inl h ↦
            ap₂ r.add (sum_to-one n j w a h) (ap (λ b. r.mul (cond b a r.zero) (w n)) (ne_eqb n j (λ e. omega arith)) ∙ zero_mul r c (w n))
            ∙ c.add_zero (r.mul a (w j))
        | inr h ↦
            ap₂ r.add (sum_to-none n j w a (le_of_eq (sym h))) (ap (λ b. r.mul (cond b a r.zero) (w n)) (eq-eqb n j (sym h)) ∙ ap (λ i. r.mul a (w i)) (sym h))
            ∙ zero_add r c (r.mul a (w j))
      ]

  -- only the factor at j is there
  pub product_to-none : (n : ℕ) (w : ℕ → V) → ((i : ℕ) → i < n → w i ≡ r.one) → product_to r n w ≡ r.one
  product_to-none zero w h = refl
  product_to-none (suc n) w h = ap₂ r.mul (product_to-none n w (λ i g. h i (omega arith))) (h n (omega arith)) ∙ c.mul_one r.one

  pub product_to-one : (n j : ℕ) (w : ℕ → V) → j < n → ((i : ℕ) → i < n → (i ≡ j → ⊥) → w i ≡ r.one) → product_to r n w ≡ w j
  product_to-one zero j w g h = absurd (omega arith)
  product_to-one (suc n) j w g h =
      elim (last_or_before n j g) [
        | inl e ↦ ap₂ r.mul (product_to-one n j w e (λ i y. h i (omega arith))) (h n (omega arith) (λ z. omega arith)) ∙ c.mul_one (w j)
        | inr e ↦ ap (λ z. r.mul z (w n)) (product_to-none n w (λ i y. h i (omega arith) (λ z. omega arith))) ∙ c.mul_comm r.one (w n) ∙ c.mul_one (w n) ∙ ap w (sym e)
      ]

  pub sum_to-unit : (n j : ℕ) (w : ℕ → V) → j < n → sum_to r n (λ i. r.mul (w i) (unit_at r i j)) ≡ w j
  sum_to-unit n j w g =
      sum_to-cong r n (λ i. r.mul (w i) (unit_at r i j)) (λ i. r.mul (unit_at r i j) (w i)) (λ i h. c.mul_comm (w i) (unit_at r i j))
      ∙ sum_to-one n j w r.one g ∙ c.mul_comm r.one (w j) ∙ c.mul_one (w j)

  -- the terms past m are 0
  pub sum_to-front : (m n : ℕ) (w : ℕ → V) → m ≤ n → ((i : ℕ) → m ≤ i → i < n → w i ≡ r.zero) → sum_to r n w ≡ sum_to r m w
  sum_to-front m zero w g h = ap (λ k. sum_to r k w) (let e : 0 ≡ m = omega arith in e)
  sum_to-front m (suc n) w g h =
      elim (le_or_next n m g) [
        | inl e ↦ ap₂ r.add (sum_to-front m n w e (λ i y z. h i y (omega arith))) (h n e (omega arith)) ∙ c.add_zero (sum_to r m w)
        | inr e ↦ ap (λ k. sum_to r k w) (sym e)
      ]

  pub sum_to-nothing : (n : ℕ) (w : ℕ → V) → ((i : ℕ) → i < n → w i ≡ r.zero) → sum_to r n w ≡ r.zero
  sum_to-nothing n w h = sum_to-cong r n w (λ i. r.zero) h ∙ sum_to-zero r c n

  pub sum_to-single : (n j : ℕ) (w : ℕ → V) → j < n → ((i : ℕ) → i < n → (i ≡ j → ⊥) → w i ≡ r.zero) → sum_to r n w ≡ w j
  sum_to-single zero j w g h = absurd (omega arith)
  sum_to-single (suc n) j w g h =
      elim (last_or_before n j g) [
        | inl e ↦ ap₂ r.add (sum_to-single n j w e (λ i y. h i (omega arith))) (h n (omega arith) (λ z. omega arith)) ∙ c.add_zero (w j)
        | inr e ↦ ap (λ z. r.add z (w n)) (sum_to-nothing n w (λ i y. h i (omega arith) (λ z. omega arith))) ∙ zero_add r c (w n) ∙ ap w (sym e)
      ]

pub unit_at-swap : {V : Type 0} (r : RingOps V) (i j : ℕ) → unit_at r i j ≡ unit_at r j i
unit_at-swap r i j = ap (λ b. cond b r.one r.zero) (eqb_swap i j)
