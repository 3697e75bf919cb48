-- A solver for equations in a commutative ring: two expressions with one polynomial denote equal elements.
use Rattle.std.proofs.Common.{◌≡◌, ℕ, zero, suc, ◌+◌, List, [], ◌∷◌, ℤ, pos, negsuc, ◌+ℤ◌, ◌*ℤ◌, neg_ℤ, T, refl, sym, ◌∙◌, ap, ap₂, zero-add, suc-add}
use Rattle.std.proofs.Math.IntN.{suc_ℤ, pred_ℤ, suc-pred, suc_ℤ-+ℤ, pred_ℤ-+ℤ, suc_ℤ-*ℤ, pred_ℤ-*ℤ, +ℤ_idl, zero-*ℤ}
use native.Mathlib.Omega.{compare-eq}
use Prim.Native.Nat.{compare, Ordering}
use Rattle.ring_theory.specs.Ring.{RingOps, IsCommRing}
use Rattle.ring_theory.proofs.RingExpr.{Expr, var, lit, ◌⊞◌, ◌⊠◌, ⊟◌, Mono, Poly, end, term, mono_var, mono_mul, mono_compare, term_nonzero, merge_term, poly_add, poly_scale, poly_mul, poly_neg, normal, is_end, agree}

-- induction over ℤ by successor and predecessor
pub by_steps : (P : ℤ → Type 0) → P (pos 0) → ((k : ℤ) → P k → P (suc_ℤ k)) → ((k : ℤ) → P k → P (pred_ℤ k)) → (k : ℤ) → P k
by_steps P base up down (pos zero) = base
by_steps P base up down (pos (suc n)) = up (pos n) (by_steps P base up down (pos n))
by_steps P base up down (negsuc zero) = down (pos 0) base
by_steps P base up down (negsuc (suc n)) = down (negsuc n) (by_steps P base up down (negsuc n))

mono_compare-eq : (m n : Mono) → mono_compare m n ≡ Ordering.eq → m ≡ n
mono_compare-eq [] [] e = refl
mono_compare-eq [] (k ∷ ks) e = cc
mono_compare-eq (j ∷ js) [] e = cc
mono_compare-eq (j ∷ js) (k ∷ ks) e = go (mono_compare-eq js ks) (compare j k) refl e
  where
    go : (mono_compare js ks ≡ Ordering.eq → js ≡ ks) → (o : Ordering) → compare j k ≡ o → elim o [ Ordering.lt ↦ Ordering.lt | Ordering.eq ↦ mono_compare js ks | Ordering.gt ↦ Ordering.gt ] ≡ Ordering.eq → j ∷ js ≡ k ∷ ks
    go ih Ordering.lt q h = cc
    go ih Ordering.eq q h = ap₂ ◌∷◌ (compare-eq j k q) (ih h)
    go ih Ordering.gt q h = cc

module _ {V : Type 0} (r : RingOps V) where
  -- the variable i, by the list of the variables' values
  abbrev pub lookup : List V → ℕ → V
  lookup [] i = r.one
  lookup (x ∷ xs) zero = x
  lookup (x ∷ xs) (suc i) = lookup xs i

  abbrev pub of_ℕ : ℕ → V
  of_ℕ zero = r.zero
  of_ℕ (suc zero) = r.one
  of_ℕ (suc (suc n)) = r.add r.one (of_ℕ (suc n))

  abbrev pub of_ℤ : ℤ → V
  of_ℤ (pos n) = of_ℕ n
  of_ℤ (negsuc n) = r.neg (of_ℕ (suc n))

  -- the element that an expression denotes
  abbrev pub denote : List V → Expr → V
  denote xs (var i) = lookup xs i
  denote xs (lit k) = of_ℤ k
  denote xs (e ⊞ f) = r.add (denote xs e) (denote xs f)
  denote xs (e ⊠ f) = r.mul (denote xs e) (denote xs f)
  denote xs (⊟ e) = r.neg (denote xs e)

  abbrev power : V → ℕ → V
  power x zero = r.one
  power x (suc n) = r.mul x (power x n)

  abbrev mono_denote : List V → Mono → V
  mono_denote xs [] = r.one
  mono_denote [] (k ∷ ks) = r.one
  mono_denote (x ∷ xs) (k ∷ ks) = r.mul (power x k) (mono_denote xs ks)

  abbrev poly_denote : List V → Poly → V
  poly_denote xs end = r.zero
  poly_denote xs (term c m p) = r.add (r.mul (of_ℤ c) (mono_denote xs m)) (poly_denote xs p)

-- what follows from the laws
module _ {V : Type 0} (r : RingOps V) (laws : IsCommRing r) where
  open r use {zero as 𝟘, one as 𝟙, add as ◌⊕◌, mul as ◌⊗◌, neg as ⊖◌}

  infixl 6 ◌⊕◌
  infixl 7 ◌⊗◌
  infix 8 ⊖◌
  open laws use {add_assoc, add_comm, add_zero, add_neg, mul_assoc, mul_comm, mul_one, distrib}

  pub zero_add : (a : V) → 𝟘 ⊕ a ≡ a
  zero_add a = add_comm 𝟘 a ∙ add_zero a

  pub one_mul : (a : V) → 𝟙 ⊗ a ≡ a
  one_mul a = mul_comm 𝟙 a ∙ mul_one a

  pub neg_add_cancel : (a : V) → ⊖ a ⊕ a ≡ 𝟘
  neg_add_cancel a = add_comm (⊖ a) a ∙ add_neg a

  pub distrib_left : (a b c : V) → a ⊗ (b ⊕ c) ≡ a ⊗ b ⊕ a ⊗ c
  distrib_left a b c = mul_comm a (b ⊕ c) ∙ distrib b c a ∙ ap₂ ◌⊕◌ (mul_comm b a) (mul_comm c a)

  pub add_swap : (a b c d : V) → (a ⊕ b) ⊕ (c ⊕ d) ≡ (a ⊕ c) ⊕ (b ⊕ d)
  add_swap a b c d = add_assoc a b (c ⊕ d) ∙ ap (λ x. a ⊕ x) (sym (add_assoc b c d) ∙ ap (λ x. x ⊕ d) (add_comm b c) ∙ add_assoc c b d) ∙ sym (add_assoc a c (b ⊕ d))

  pub mul_swap : (a b c d : V) → (a ⊗ b) ⊗ (c ⊗ d) ≡ (a ⊗ c) ⊗ (b ⊗ d)
  mul_swap a b c d = mul_assoc a b (c ⊗ d) ∙ ap (λ x. a ⊗ x) (sym (mul_assoc b c d) ∙ ap (λ x. x ⊗ d) (mul_comm b c) ∙ mul_assoc c b d) ∙ sym (mul_assoc a c (b ⊗ d))

  pub add_left_comm : (a b c : V) → a ⊕ (b ⊕ c) ≡ b ⊕ (a ⊕ c)
  add_left_comm a b c = sym (add_assoc a b c) ∙ ap (λ x. x ⊕ c) (add_comm a b) ∙ add_assoc b a c

  -- an opposite is determined
  pub neg_unique : (a b : V) → a ⊕ b ≡ 𝟘 → b ≡ ⊖ a
  neg_unique a b e =
      sym (zero_add b) ∙ ap (λ x. x ⊕ b) (sym (neg_add_cancel a)) ∙ add_assoc (⊖ a) a b ∙ ap (λ x. ⊖ a ⊕ x) e ∙ add_zero (⊖ a)

  pub neg_zero : ⊖ 𝟘 ≡ 𝟘
  neg_zero = sym (neg_unique 𝟘 𝟘 (add_zero 𝟘))

  pub neg_neg : (a : V) → ⊖ (⊖ a) ≡ a
  neg_neg a = sym (neg_unique (⊖ a) a (neg_add_cancel a))

  pub neg_add : (a b : V) → ⊖ (a ⊕ b) ≡ ⊖ a ⊕ ⊖ b
  neg_add a b = sym (neg_unique (a ⊕ b) (⊖ a ⊕ ⊖ b) (add_swap a b (⊖ a) (⊖ b) ∙ ap₂ ◌⊕◌ (add_neg a) (add_neg b) ∙ add_zero 𝟘))

  -- what is its own double is zero
  pub zero_of_double : (a : V) → a ⊕ a ≡ a → a ≡ 𝟘
  zero_of_double a e = sym (add_zero a) ∙ ap (λ x. a ⊕ x) (sym (add_neg a)) ∙ sym (add_assoc a a (⊖ a)) ∙ ap (λ x. x ⊕ ⊖ a) e ∙ add_neg a

  pub zero_mul : (a : V) → 𝟘 ⊗ a ≡ 𝟘
  zero_mul a = zero_of_double (𝟘 ⊗ a) (sym (distrib 𝟘 𝟘 a) ∙ ap (λ x. x ⊗ a) (add_zero 𝟘))

  pub neg_mul : (a b : V) → ⊖ a ⊗ b ≡ ⊖ (a ⊗ b)
  neg_mul a b = neg_unique (a ⊗ b) (⊖ a ⊗ b) (sym (distrib a (⊖ a) b) ∙ ap (λ x. x ⊗ b) (add_neg a) ∙ zero_mul b)

  -- equal where the difference is zero
  pub eq_of_sub : (a b : V) → a ⊕ ⊖ b ≡ 𝟘 → a ≡ b
  eq_of_sub a b e = sym (neg_neg a) ∙ ap ⊖◌ (sym (neg_unique a (⊖ b) e)) ∙ neg_neg b

  -- ---- the integers in the ring

  of_ℕ-suc : (n : ℕ) → of_ℕ r (suc n) ≡ 𝟙 ⊕ of_ℕ r n
  of_ℕ-suc zero = sym (add_zero 𝟙)
  of_ℕ-suc (suc n) = refl

  of_ℤ-suc : (k : ℤ) → of_ℤ r (suc_ℤ k) ≡ 𝟙 ⊕ of_ℤ r k
  of_ℤ-suc (pos n) = of_ℕ-suc n
  of_ℤ-suc (negsuc zero) = sym (add_neg 𝟙)
  of_ℤ-suc (negsuc (suc n)) =
      sym (zero_add _) ∙ ap (λ x. x ⊕ ⊖ of_ℕ r (suc n)) (sym (add_neg 𝟙)) ∙ add_assoc 𝟙 (⊖ 𝟙) (⊖ of_ℕ r (suc n)) ∙ ap (λ x. 𝟙 ⊕ x) (sym (neg_add 𝟙 (of_ℕ r (suc n))))

  of_ℤ-pred : (k : ℤ) → of_ℤ r (pred_ℤ k) ≡ ⊖ 𝟙 ⊕ of_ℤ r k
  of_ℤ-pred k =
      sym (zero_add _) ∙ ap (λ x. x ⊕ of_ℤ r (pred_ℤ k)) (sym (neg_add_cancel 𝟙)) ∙ add_assoc (⊖ 𝟙) 𝟙 _ ∙ ap (λ x. ⊖ 𝟙 ⊕ x) (sym (of_ℤ-suc (pred_ℤ k)) ∙ ap (of_ℤ r) (suc-pred k))

  of_ℤ-add : (k l : ℤ) → of_ℤ r (k +ℤ l) ≡ of_ℤ r k ⊕ of_ℤ r l
  of_ℤ-add k l =
      by_steps (λ j. of_ℤ r (j +ℤ l) ≡ of_ℤ r j ⊕ of_ℤ r l)
      (ap (of_ℤ r) (+ℤ_idl l) ∙ sym (zero_add _))
      (λ j ih. ap (of_ℤ r) (suc_ℤ-+ℤ j l) ∙ of_ℤ-suc (j +ℤ l) ∙ ap (λ x. 𝟙 ⊕ x) ih ∙ sym (add_assoc _ _ _) ∙ ap (λ x. x ⊕ of_ℤ r l) (sym (of_ℤ-suc j)))
      (λ j ih. ap (of_ℤ r) (pred_ℤ-+ℤ j l) ∙ of_ℤ-pred (j +ℤ l) ∙ ap (λ x. ⊖ 𝟙 ⊕ x) ih ∙ sym (add_assoc _ _ _) ∙ ap (λ x. x ⊕ of_ℤ r l) (sym (of_ℤ-pred j)))
      k

  of_ℤ-neg : (k : ℤ) → of_ℤ r (neg_ℤ k) ≡ ⊖ of_ℤ r k
  of_ℤ-neg (pos zero) = sym neg_zero
  of_ℤ-neg (pos (suc n)) = refl
  of_ℤ-neg (negsuc n) = sym (neg_neg _)

  of_ℤ-mul : (k l : ℤ) → of_ℤ r (k *ℤ l) ≡ of_ℤ r k ⊗ of_ℤ r l
  of_ℤ-mul k l =
      by_steps (λ j. of_ℤ r (j *ℤ l) ≡ of_ℤ r j ⊗ of_ℤ r l)
      (ap (of_ℤ r) (zero-*ℤ l) ∙ sym (zero_mul _))
      (λ j ih. ap (of_ℤ r) (suc_ℤ-*ℤ j l) ∙ of_ℤ-add (j *ℤ l) l ∙ ap₂ ◌⊕◌ ih (sym (one_mul _)) ∙ add_comm _ _ ∙ sym (distrib 𝟙 (of_ℤ r j) (of_ℤ r l)) ∙ ap (λ x. x ⊗ of_ℤ r l) (sym (of_ℤ-suc j)))
      (λ j ih. ap (of_ℤ r) (pred_ℤ-*ℤ j l) ∙ of_ℤ-add (j *ℤ l) (neg_ℤ l) ∙ ap₂ ◌⊕◌ ih (of_ℤ-neg l ∙ ap ⊖◌ (sym (one_mul _)) ∙ sym (neg_mul 𝟙 _)) ∙ add_comm _ _ ∙ sym (distrib (⊖ 𝟙) (of_ℤ r j) (of_ℤ r l)) ∙ ap (λ x. x ⊗ of_ℤ r l) (sym (of_ℤ-pred j)))
      k

  -- ---- monomials

  power-add : (x : V) (j k : ℕ) → power r x (j + k) ≡ power r x j ⊗ power r x k
  power-add x zero k = ap (power r x) (zero-add k) ∙ sym (one_mul _)
  power-add x (suc j) k = ap (power r x) (suc-add j k) ∙ ap (λ y. x ⊗ y) (power-add x j k) ∙ sym (mul_assoc _ _ _)

  mono_var-denote : (xs : List V) (i : ℕ) → mono_denote r xs (mono_var i) ≡ lookup r xs i
  mono_var-denote [] zero = refl
  mono_var-denote [] (suc i) = refl
  mono_var-denote (x ∷ xs) zero = ap₂ ◌⊗◌ (mul_one x) (nil xs) ∙ mul_one x
    where
      nil : (ys : List V) → mono_denote r ys [] ≡ 𝟙
      nil ys = refl
  mono_var-denote (x ∷ xs) (suc i) = one_mul _ ∙ mono_var-denote xs i

  mono_mul-denote : (xs : List V) (m n : Mono) → mono_denote r xs (mono_mul m n) ≡ mono_denote r xs m ⊗ mono_denote r xs n
  mono_mul-denote xs [] n = sym (one_mul _)
  mono_mul-denote xs (j ∷ js) [] = sym (mul_one _)
  mono_mul-denote [] (j ∷ js) (k ∷ ks) = sym (mul_one 𝟙)
  mono_mul-denote (x ∷ xs) (j ∷ js) (k ∷ ks) = ap₂ ◌⊗◌ (power-add x j k) (mono_mul-denote xs js ks) ∙ mul_swap _ _ _ _

  -- ---- polynomials

  term_nonzero-denote : (xs : List V) (c : ℤ) (m : Mono) (p : Poly) → poly_denote r xs (term_nonzero c m p) ≡ of_ℤ r c ⊗ mono_denote r xs m ⊕ poly_denote r xs p
  term_nonzero-denote xs (pos zero) m p = sym (zero_add _) ∙ ap (λ y. y ⊕ poly_denote r xs p) (sym (zero_mul _))
  term_nonzero-denote xs (pos (suc n)) m p = refl
  term_nonzero-denote xs (negsuc n) m p = refl

  merge_term-denote : (xs : List V) (c : ℤ) (m : Mono) (p : Poly) (rest : Poly → Poly) → ((q : Poly) → poly_denote r xs (rest q) ≡ poly_denote r xs p ⊕ poly_denote r xs q)
      → (q : Poly) → poly_denote r xs (merge_term c m p rest q) ≡ of_ℤ r c ⊗ mono_denote r xs m ⊕ poly_denote r xs p ⊕ poly_denote r xs q
  merge_term-denote xs c m p rest h end = sym (add_zero _)
  merge_term-denote xs c m p rest h (term d n q) = go (merge_term-denote xs c m p rest h q) (mono_compare m n) refl
    where
      go : poly_denote r xs (merge_term c m p rest q) ≡ of_ℤ r c ⊗ mono_denote r xs m ⊕ poly_denote r xs p ⊕ poly_denote r xs q → (o : Ordering) → mono_compare m n ≡ o
          → poly_denote r xs (elim o [ Ordering.lt ↦ term c m (rest (term d n q)) | Ordering.eq ↦ term_nonzero (c +ℤ d) m (rest q) | Ordering.gt ↦ term d n (merge_term c m p rest q) ])
          ≡ of_ℤ r c ⊗ mono_denote r xs m ⊕ poly_denote r xs p ⊕ (of_ℤ r d ⊗ mono_denote r xs n ⊕ poly_denote r xs q)
      go ih Ordering.lt e = ap (λ y. of_ℤ r c ⊗ mono_denote r xs m ⊕ y) (h (term d n q)) ∙ sym (add_assoc _ _ _)
      go ih Ordering.eq e =
          term_nonzero-denote xs (c +ℤ d) m (rest q)
          ∙ ap₂ ◌⊕◌ (ap (λ y. y ⊗ mono_denote r xs m) (of_ℤ-add c d) ∙ distrib _ _ _) (h q)
          ∙ add_swap _ _ _ _
          ∙ ap (λ n'. of_ℤ r c ⊗ mono_denote r xs m ⊕ poly_denote r xs p ⊕ (of_ℤ r d ⊗ mono_denote r xs n' ⊕ poly_denote r xs q)) (mono_compare-eq m n e)
      go ih Ordering.gt e = ap (λ y. of_ℤ r d ⊗ mono_denote r xs n ⊕ y) ih ∙ add_left_comm _ _ _

  poly_add-denote : (xs : List V) (p q : Poly) → poly_denote r xs (poly_add p q) ≡ poly_denote r xs p ⊕ poly_denote r xs q
  poly_add-denote xs end q = sym (zero_add _)
  poly_add-denote xs (term c m p) q = merge_term-denote xs c m p (poly_add p) (poly_add-denote xs p) q

  poly_scale-denote : (xs : List V) (c : ℤ) (m : Mono) (p : Poly) → poly_denote r xs (poly_scale c m p) ≡ of_ℤ r c ⊗ mono_denote r xs m ⊗ poly_denote r xs p
  poly_scale-denote xs c m end = sym (mul_comm _ _ ∙ zero_mul _)
  poly_scale-denote xs c m (term d n p) =
      ap₂ ◌⊕◌ (ap₂ ◌⊗◌ (of_ℤ-mul c d) (mono_mul-denote xs m n) ∙ mul_swap _ _ _ _) (poly_scale-denote xs c m p)
      ∙ sym (distrib_left _ _ _)

  poly_mul-denote : (xs : List V) (p q : Poly) → poly_denote r xs (poly_mul p q) ≡ poly_denote r xs p ⊗ poly_denote r xs q
  poly_mul-denote xs end q = sym (zero_mul _)
  poly_mul-denote xs (term c m p) q = poly_add-denote xs (poly_scale c m q) (poly_mul p q) ∙ ap₂ ◌⊕◌ (poly_scale-denote xs c m q) (poly_mul-denote xs p q) ∙ sym (distrib _ _ _)

  poly_neg-denote : (xs : List V) (p : Poly) → poly_denote r xs (poly_neg p) ≡ ⊖ poly_denote r xs p
  poly_neg-denote xs end = sym neg_zero
  poly_neg-denote xs (term c m p) = ap₂ ◌⊕◌ (ap (λ y. y ⊗ mono_denote r xs m) (of_ℤ-neg c) ∙ neg_mul _ _) (poly_neg-denote xs p) ∙ sym (neg_add _ _)

  normal-denote : (xs : List V) (e : Expr) → poly_denote r xs (normal e) ≡ denote r xs e
  normal-denote xs (var i) = add_zero _ ∙ one_mul _ ∙ mono_var-denote xs i
  normal-denote xs (lit k) = term_nonzero-denote xs k [] end ∙ add_zero _ ∙ mul_one _
  normal-denote xs (e ⊞ f) = poly_add-denote xs (normal e) (normal f) ∙ ap₂ ◌⊕◌ (normal-denote xs e) (normal-denote xs f)
  normal-denote xs (e ⊠ f) = poly_mul-denote xs (normal e) (normal f) ∙ ap₂ ◌⊗◌ (normal-denote xs e) (normal-denote xs f)
  normal-denote xs (⊟ e) = poly_neg-denote xs (normal e) ∙ ap ⊖◌ (normal-denote xs e)

  is_end-denote : (xs : List V) (p : Poly) → T (is_end p) → poly_denote r xs p ≡ 𝟘
  is_end-denote xs end t = refl
  is_end-denote xs (term c m p) t = absurd t

  -- two expressions with one polynomial denote equal elements; `tt` is the test's proof
  pub ring : (xs : List V) (e f : Expr) → T (agree e f) → denote r xs e ≡ denote r xs f
  ring xs e f t = eq_of_sub _ _ (sym (normal-denote xs (e ⊞ ⊟ f)) ∙ is_end-denote xs (normal (e ⊞ ⊟ f)) t)

  -- an equation from another one, c times: the premise is an identity, for `ring` or `by_ring`
  pub linear_combination : (c : V) {a b x y : V} → a ≡ b → x ⊕ c ⊗ b ≡ y ⊕ c ⊗ a → x ≡ y
  linear_combination c {a = a} {b = b} {x = x} {y = y} h e =
      eq_of_sub x y (sym (add_zero _) ∙ ap (λ z. x ⊕ ⊖ y ⊕ z) (sym (add_neg (c ⊗ b))) ∙ add_swap x (⊖ y) (c ⊗ b) (⊖ (c ⊗ b))
      ∙ ap₂ ◌⊕◌ (e ∙ ap (λ z. y ⊕ c ⊗ z) h) refl ∙ add_swap y (c ⊗ b) (⊖ y) (⊖ (c ⊗ b)) ∙ ap₂ ◌⊕◌ (add_neg y) (add_neg (c ⊗ b)) ∙ add_zero 𝟘)
