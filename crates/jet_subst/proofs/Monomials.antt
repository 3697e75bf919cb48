-- Products of powers of the parts, variable by variable.
use Rattle.std.proofs.Common.{◌≡◌, ℕ, ◌+◌, ◌-◌, ◌<◌, ◌≤◌, ◌⊎◌, inl, inr, Bool, true, false, cond, eqb, eqb-true, eq-eqb, ne_eqb, ltb, lt-ltb, le-ltb, ap, ap₂, sym, ◌∙◌, refl, subst, arith}
use Rattle.ring_theory.specs.Ring.{IsCommRing}
use Rattle.ring_theory.specs.Scalars.{Scalars}
use Rattle.poly_law.specs.Sums.{power}
use Rattle.poly_law.specs.Exps.{Exps, IsExps, plus, none}
use Rattle.poly_law.specs.Poly.{Terms, times, constant, poly_ops, monomial_of}
use Rattle.poly_law.proofs.ExpLaws
use Rattle.poly_law.proofs.PolyRing
use Rattle.poly_law.proofs.Subst
use Rattle.jet_law.specs.Heights.{IsHigh, product_heights}
use Rattle.jet_subst.specs.Powers.{IsTruncation, ArePowersHigh}
use Rattle.jet_subst.specs.Substitutions.{ArePowersOfHigh}
use Rattle.jet_subst.proofs.Reduced

module _ {E : Type 0} (x : Exps E) (l : IsExps x) where
  -- a power of variable i; the exponents of a below and above variable i
  abbrev pub single : ℕ → ℕ → E
  single i e = x.make (λ j. cond (eqb j i) e 0)

  abbrev pub prefix : ℕ → E → E
  prefix i a = x.make (λ j. cond (ltb j i) (x.at a j) 0)

  abbrev suffix : ℕ → E → E
  suffix i a = x.make (λ j. cond (ltb i j) (x.at a j) 0)

  pub prefix-zero : (a : E) → prefix 0 a ≡ none x
  prefix-zero a = l.same_at (prefix 0 a) (none x) λ j h.
      l.at_make (λ j. cond (ltb j 0) (x.at a j) 0) j h ∙ ap (λ b. cond b (x.at a j) 0) (le-ltb j 0 (omega arith)) ∙ sym (ExpLaws.at-none x l j h)

  pub prefix-all : (n : ℕ) (a : E) → x.count ≤ n → prefix n a ≡ a
  prefix-all n a g = l.same_at (prefix n a) a λ j h.
      l.at_make (λ j. cond (ltb j n) (x.at a j) 0) j h ∙ ap (λ b. cond b (x.at a j) 0) (lt-ltb j n (omega arith))

  pub prefix-next : (i : ℕ) (a : E) → prefix (i + 1) a ≡ plus x (prefix i a) (single i (x.at a i))
  prefix-next i a = l.same_at (prefix (i + 1) a) (plus x (prefix i a) (single i (x.at a i))) λ j h.
      l.at_make (λ j. cond (ltb j (i + 1)) (x.at a j) 0) j h
      ∙ step j (below_or j i)
      ∙ sym (ExpLaws.at-plus x l (prefix i a) (single i (x.at a i)) j h
      ∙ ap₂ (λ p q. p + q) (l.at_make (λ j. cond (ltb j i) (x.at a j) 0) j h) (l.at_make (λ j. cond (eqb j i) (x.at a i) 0) j h))
    where
      below_or : (j i : ℕ) → (j < i) ⊎ ((j ≡ i) ⊎ (i < j))
      below_or j i = grind arith

      step : (j : ℕ) → (j < i) ⊎ ((j ≡ i) ⊎ (i < j)) → cond {A = ℕ} (ltb j (i + 1)) (x.at a j) 0 ≡ cond {A = ℕ} (ltb j i) (x.at a j) 0 + cond {A = ℕ} (eqb j i) (x.at a i) 0
      step j (inl h) =
          ap (λ b. cond {A = ℕ} b (x.at a j) 0) (lt-ltb j (i + 1) (omega arith)) ∙ (let z : x.at a j ≡ x.at a j + 0 = omega arith in z)
          ∙ sym (ap₂ (λ b d. cond {A = ℕ} b (x.at a j) 0 + cond {A = ℕ} d (x.at a i) 0) (lt-ltb j i h) (ne_eqb j i (λ e. omega arith)))
      step j (inr (inl e)) =
          ap (λ b. cond {A = ℕ} b (x.at a j) 0) (lt-ltb j (i + 1) (omega arith)) ∙ ap (x.at a) e ∙ (let z : x.at a i ≡ 0 + x.at a i = omega arith in z)
          ∙ sym (ap₂ (λ b d. cond {A = ℕ} b (x.at a j) 0 + cond {A = ℕ} d (x.at a i) 0) (le-ltb j i (omega arith)) (eq-eqb j i e))
      step j (inr (inr h)) =
          ap (λ b. cond {A = ℕ} b (x.at a j) 0) (le-ltb j (i + 1) (omega arith)) ∙ (let z : 0 ≡ 0 + 0 = omega arith in z)
          ∙ sym (ap₂ (λ b d. cond {A = ℕ} b (x.at a j) 0 + cond {A = ℕ} d (x.at a i) 0) (le-ltb j i (omega arith)) (ne_eqb j i (λ e. omega arith)))

  pub prefix-skip : (i : ℕ) (a : E) → x.at a i ≡ 0 → prefix (i + 1) a ≡ prefix i a
  prefix-skip i a e = l.same_at (prefix (i + 1) a) (prefix i a) λ j h.
      ap (λ m. x.at m j) (prefix-next i a) ∙ ExpLaws.at-plus x l (prefix i a) (single i (x.at a i)) j h
      ∙ ap (λ z. x.at (prefix i a) j + z) (l.at_make (λ j. cond (eqb j i) (x.at a i) 0) j h ∙ ap (λ z. cond {A = ℕ} (eqb j i) z 0) e ∙ same_both (eqb j i))
      ∙ (let z : x.at (prefix i a) j + 0 ≡ x.at (prefix i a) j = omega arith in z)
    where
      same_both : (b : Bool) → cond {A = ℕ} b 0 0 ≡ 0
      same_both true = refl
      same_both false = refl

  -- a is what is below, at and above variable i
  three_parts : (i : ℕ) (a : E) → plus x (plus x (prefix i a) (single i (x.at a i))) (suffix i a) ≡ a
  three_parts i a = ap (λ m. plus x m (suffix i a)) (sym (prefix-next i a)) ∙ l.same_at (plus x (prefix (i + 1) a) (suffix i a)) a λ j h.
      ExpLaws.at-plus x l (prefix (i + 1) a) (suffix i a) j h
      ∙ ap₂ (λ p q. p + q) (l.at_make (λ j. cond (ltb j (i + 1)) (x.at a j) 0) j h) (l.at_make (λ j. cond (ltb i j) (x.at a j) 0) j h)
      ∙ step j (below_or j i)
    where
      below_or : (j i : ℕ) → (j < i + 1) ⊎ (i < j)
      below_or j i = grind arith

      step : (j : ℕ) → (j < i + 1) ⊎ (i < j) → cond {A = ℕ} (ltb j (i + 1)) (x.at a j) 0 + cond {A = ℕ} (ltb i j) (x.at a j) 0 ≡ x.at a j
      step j (inl h) = ap₂ (λ b d. cond {A = ℕ} b (x.at a j) 0 + cond {A = ℕ} d (x.at a j) 0) (lt-ltb j (i + 1) h) (le-ltb i j (omega arith)) ∙ (let z : x.at a j + 0 ≡ x.at a j = omega arith in z)
      step j (inr h) = ap₂ (λ b d. cond {A = ℕ} b (x.at a j) 0 + cond {A = ℕ} d (x.at a j) 0) (le-ltb j (i + 1) (omega arith)) (lt-ltb i j h) ∙ (let z : 0 + x.at a j ≡ x.at a j = omega arith in z)

  -- two powers of variable i, and the rest of a
  two_powers : (i p q : ℕ) (a : E) → p + q ≤ x.at a i → plus x (plus x (single i p) (single i q)) (x.make (λ j. x.at a j - cond (eqb j i) (p + q) 0)) ≡ a
  two_powers i p q a g = l.same_at (plus x (plus x (single i p) (single i q)) (x.make (λ j. x.at a j - cond (eqb j i) (p + q) 0))) a λ j h.
      ExpLaws.at-plus x l (plus x (single i p) (single i q)) (x.make (λ j. x.at a j - cond (eqb j i) (p + q) 0)) j h
      ∙ ap₂ (λ u v. u + v)
      (ExpLaws.at-plus x l (single i p) (single i q) j h ∙ ap₂ (λ u v. u + v) (l.at_make (λ j. cond (eqb j i) p 0) j h) (l.at_make (λ j. cond (eqb j i) q 0) j h))
      (l.at_make (λ j. x.at a j - cond (eqb j i) (p + q) 0) j h)
      ∙ step j (eqb j i) refl
    where
      step : (j : ℕ) (b : Bool) → eqb j i ≡ b → cond {A = ℕ} b p 0 + cond {A = ℕ} b q 0 + (x.at a j - cond {A = ℕ} b (p + q) 0) ≡ x.at a j
      step j true e = let z : x.at a j ≡ x.at a i = ap (x.at a) (eqb-true j i e) in omega arith
      step j false e = omega arith

module _ {E F V : Type 0} (x : Exps E) (l : IsExps x) (y : Exps F) (m : IsExps y) (s : Scalars V) (c : IsCommRing s.ops) (h : IsSet V) (k : ℕ) (parts : ℕ → Terms F V) where
  abbrev image : E → Terms F V
  image = monomial_of x y s.ops parts

  -- powers of one part are powers for a monomial with enough of its variable
  pub powers_of_part : (i : ℕ) (a : E) → i < x.count → ArePowersHigh y s k (parts i) (x.at a i) → ArePowersOfHigh x y s k parts a
  powers_of_part i a g q = record {
    first = single x l i q.first;
    second = single x l i q.second;
    rest = x.make (λ j. x.at a j - cond (eqb j i) (q.first + q.second) 0);
    divides = two_powers x l i q.first q.second a q.together;
    left = q.left;
    right = q.right;
    left_is = at_single q.first q.left q.left_is;
    right_is = at_single q.second q.right q.right_is;
    high = q.high;
  }
    where
      at_single : (e : ℕ) (p : Terms F V) → IsTruncation y s.ops k (power (poly_ops y s.ops) (parts i) e) p → IsTruncation y s.ops k (image (single x l i e)) p
      at_single e p t = Reduced.truncation_same_to y m s.ops c k (power (poly_ops y s.ops) (parts i) e) (image (single x l i e)) p
          (λ b _. sym (Subst.monomial_of-single x l y m s.ops c h parts i e g b)) t

  -- the product of what is there below variable i and a power of part i
  pub more_variables : (i : ℕ) (a : E) (p q u : Terms F V) → i < x.count → IsTruncation y s.ops k (image (prefix x l i a)) p → IsTruncation y s.ops k (power (poly_ops y s.ops) (parts i) (x.at a i)) q
      → IsTruncation y s.ops k (times y s.ops p q) u → IsTruncation y s.ops k (image (prefix x l (i + 1) a)) u
  more_variables i a p q u g tp tq tu =
      Reduced.truncation_same_to y m s.ops c k (times y s.ops (image (prefix x l i a)) (power (poly_ops y s.ops) (parts i) (x.at a i))) (image (prefix x l (i + 1) a)) u
      (λ b _.
      sym (ap (λ e. Rattle.poly_law.specs.Poly.coefficient y s.ops (image e) b) (prefix-next x l i a)
      ∙ Subst.monomial_of-plus x l y m s.ops c h parts (prefix x l i a) (single x l i (x.at a i)) b
      ∙ PolyRing.times_right y m s.ops c (image (prefix x l i a)) (image (single x l i (x.at a i))) (power (poly_ops y s.ops) (parts i) (x.at a i))
      (Subst.monomial_of-single x l y m s.ops c h parts i (x.at a i) g) b))
      (Reduced.truncation_times y m s.ops c k (image (prefix x l i a)) (power (poly_ops y s.ops) (parts i) (x.at a i)) p q u tp tq tu)

  -- that product is high
  pub product_high : (i : ℕ) (a : E) (p q : Terms F V) → i < x.count → IsTruncation y s.ops k (image (prefix x l i a)) p → IsTruncation y s.ops k (power (poly_ops y s.ops) (parts i) (x.at a i)) q
      → IsHigh (product_heights y s k p q) → ArePowersOfHigh x y s k parts a
  product_high i a p q g tp tq high = record {
    first = prefix x l i a;
    second = single x l i (x.at a i);
    rest = suffix x l i a;
    divides = three_parts x l i a;
    left = p;
    right = q;
    left_is = tp;
    right_is = Reduced.truncation_same_to y m s.ops c k (power (poly_ops y s.ops) (parts i) (x.at a i)) (image (single x l i (x.at a i))) q
        (λ b _. sym (Subst.monomial_of-single x l y m s.ops c h parts i (x.at a i) g b)) tq;
    high = high;
  }

  pub no_variables : (a : E) (p : Terms F V) → IsTruncation y s.ops k (constant y s.ops s.ops.one) p → IsTruncation y s.ops k (image (prefix x l 0 a)) p
  no_variables a p t = subst (λ e. IsTruncation y s.ops k (image e) p) (sym (prefix-zero x l a))
      (Reduced.truncation_same_to y m s.ops c k (constant y s.ops s.ops.one) (image (none x)) p (λ b _. sym (Subst.monomial_of-none x l y m s.ops c h parts b)) t)
