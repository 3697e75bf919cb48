-- The first squares and products, as they are looked for, and the coefficients of a form.
use Rattle.std.proofs.Common.{◌≡◌, ℕ, zero, suc, ◌+◌, ◌<◌, ◌≤◌, Bool, true, false, not, cond, ◌||◌, eqb, eqb-true, eq-eqb, ne_eqb, List, [], ◌∷◌, ◌++◌, map, length, get_or, set, drop, Some, None, IsTrue, ◌↔◌, ap, ap₂, sym, ◌∙◌, refl, subst, arith}
use Rattle.std.proofs.lemmas.List.{get_or-set_same, get_or-set_other, length-set}
use Rattle.ring_theory.specs.Scalars.{ScalarLaws, Meaning}
use Rattle.poly_law.proofs.ExpLists.{exps_are}
use Rattle.mono_exp.specs.declared.exponent.Exp.{Exp}
use Rattle.mono_exp.specs.Exponents.{IsIn}
use Rattle.jet_law.specs.Terms.{exp_of}
use Rattle.jet_law.specs.Canonical.{monomial_in}
use Rattle.jet_law.proofs.TermLemmas.{at-exp_of}
use Rattle.jet_subst.proofs.Reduced.{zeros}
use Rattle.kill_law.specs.Kill.{first}
use Rattle.coord_change.specs.Linear.{one_at}
use Rattle.move_law.specs.Moves.{pair_exponents}
use Rattle.move_law.specs.Hessian.{pairs}
use Rattle.hessian_rank.proofs.PairExponents

-- ---- the exponents of x(i) x(j) in eight variables

-- the exponents of x(i)
one_at-at : (i j : ℕ) → i < 8 → get_or (one_at i) j 0 ≡ cond {A = ℕ} (eqb j i) 1 0
one_at-at i j h = step (eqb j i) refl
  where
    step : (b : Bool) → eqb j i ≡ b → get_or (one_at i) j 0 ≡ cond {A = ℕ} b 1 0
    step true e = ap (λ z. get_or (one_at i) z 0) (eqb-true j i e) ∙ get_or-set_same (0 ∷ 0 ∷ 0 ∷ 0 ∷ 0 ∷ 0 ∷ 0 ∷ 0 ∷ []) i 1 0 h
    step false e = get_or-set_other (0 ∷ 0 ∷ 0 ∷ 0 ∷ 0 ∷ 0 ∷ 0 ∷ 0 ∷ []) i j 1 0 (λ q. let bad : true ≡ false = sym (eq-eqb j i q) ∙ e in cc bad) ∙ zeros j

-- they are at most 1
pub at_most_1 : (i j : ℕ) → i < 8 → (e : List ℕ) → e ≡ one_at i → get_or e j 0 ≤ 1
at_most_1 i j h e is = subst (λ z. z ≤ 1) (sym (ap (λ z. get_or z j 0) is ∙ one_at-at i j h)) (step (eqb j i))
  where
    step : (b : Bool) → cond {A = ℕ} b 1 0 ≤ 1
    step true = omega arith
    step false = omega arith

-- one more at x(j) in x(i)
pub pair_at : (i j k : ℕ) → i < 8 → j < 8 → get_or (set (one_at i) j (get_or (one_at i) j 0 + 1)) k 0 ≡ PairExponents.exponent i j k
pair_at i j k hi hj = step (eqb k j) refl ∙ PairExponents.adds_up i j k
  where
    step : (b : Bool) → eqb k j ≡ b → get_or (set (one_at i) j (get_or (one_at i) j 0 + 1)) k 0 ≡ cond {A = ℕ} (eqb k i) 1 0 + cond {A = ℕ} b 1 0
    step true e =
        ap (λ z. get_or (set (one_at i) j (get_or (one_at i) j 0 + 1)) z 0) (eqb-true k j e) ∙ get_or-set_same (one_at i) j (get_or (one_at i) j 0 + 1) 0 (let l : length (one_at i) ≡ 8 = length-set (0 ∷ 0 ∷ 0 ∷ 0 ∷ 0 ∷ 0 ∷ 0 ∷ 0 ∷ []) i 1 in omega arith)
        ∙ ap (λ z. z + 1) (one_at-at i j hi ∙ ap (λ z. cond {A = ℕ} (eqb z i) 1 0) (sym (eqb-true k j e)))
    step false e =
        get_or-set_other (one_at i) j k (get_or (one_at i) j 0 + 1) 0 (λ q. let bad : false ≡ true = sym e ∙ eq-eqb k j q in cc bad)
        ∙ one_at-at i k hi ∙ (let a : (z : ℕ) → z ≡ z + 0 = λ z. omega arith in a (cond (eqb k i) 1 0))

module _ (n : ℕ) (few : n ≤ 8) (i j : ℕ) (hi : i < n) (hj : j < n) (a : Exp) (is : a.e ≡ set (one_at i) j (get_or (one_at i) j 0 + 1)) where
  at_here : (k : ℕ) → get_or a.e k 0 ≡ PairExponents.exponent i j k
  at_here k = ap (λ z. get_or z k 0) is ∙ pair_at i j k (omega arith) (omega arith)

  -- it is a monomial in the first n variables
  pub pair_in : IsIn n a.e
  pair_in k h = at_here k ∙ outside (ne_eqb k i (λ e. omega arith)) (ne_eqb k j (λ e. omega arith)) (eqb i j)
    where
      outside : eqb k i ≡ false → eqb k j ≡ false → (b : Bool) → cond {A = ℕ} b (cond (eqb k i) 2 0) (cond (eqb k i || eqb k j) 1 0) ≡ 0
      outside p q true = ap (λ b. cond {A = ℕ} b 2 0) p
      outside p q false = ap₂ (λ b d. cond {A = ℕ} (b || d) 1 0) p q

  -- and is x(i) x(j)
  pub pair_is : exp_of n a ≡ monomial_in n (pair_exponents n i j)
  pair_is = (exps_are n).same_at (exp_of n a) (monomial_in n (pair_exponents n i j)) (λ k h. at-exp_of n a k h ∙ at_here k ∙ sym (PairExponents.at_monomial n i j k h))

-- ---- tests

-- a number is not zero, as a test says it
pub test_is : {E V : Type 0} (m : Meaning E V) → ScalarLaws m.scalars → (b : Bool) (x y : E) (v : V) → (IsTrue b ↔ (m.value x ≡ m.value y)) → m.value y ≡ m.scalars.ops.zero → m.value x ≡ v → not b ≡ not (m.scalars.is_zero v)
test_is m laws b x y v test z e = ap not (step b (m.scalars.is_zero v) refl test)
  where
    step : (b t : Bool) → m.scalars.is_zero v ≡ t → (IsTrue b ↔ (m.value x ≡ m.value y)) → b ≡ t
    step true true q w = refl
    step false false q w = refl
    step true false q w = let bad : false ≡ true = sym q ∙ (laws.zero_test v).1 (sym e ∙ w.0 refl ∙ z) in absurd (cc bad)
    step false true q w = let bad : IsTrue false = w.1 (e ∙ (laws.zero_test v).0 q ∙ sym z) in absurd (cc bad)

-- ---- the first of a list

module _ {A : Type 0} (p : A → Bool) where
  -- one that passes, at its place
  pub first_here : (xs : List A) (k : ℕ) (x : A) → k < length xs → x ≡ get_or xs k x → p x ≡ true → first p (drop k xs) ≡ Some x
  first_here [] k x h e t = absurd (omega arith)
  first_here (y ∷ ys) zero x h e t = ap (λ z. first p (z ∷ ys)) (sym e) ∙ ap (λ b. cond b (Some x) (first p ys)) t
  first_here (y ∷ ys) (suc k) x h e t = first_here ys k x (omega arith) e t

  -- one that does not
  pub first_later : (xs : List A) (k : ℕ) (x : A) → k < length xs → x ≡ get_or xs k x → p x ≡ false → first p (drop k xs) ≡ first p (drop (k + 1) xs)
  first_later xs k x h e t = later xs k h e ∙ ap (λ z. first p (drop z xs)) (let s : suc k ≡ k + 1 = omega arith in s)
    where
      later : (xs : List A) (k : ℕ) → k < length xs → x ≡ get_or xs k x → first p (drop k xs) ≡ first p (drop (suc k) xs)
      later [] k h e = absurd (omega arith)
      later (y ∷ ys) zero h e = ap (λ z. first p (z ∷ ys)) (sym e) ∙ ap (λ b. cond b (Some x) (first p ys)) t
      later (y ∷ ys) (suc k) h e = later ys k (omega arith) e

  -- at the end there is none
  pub first_end : (xs : List A) (k : ℕ) → length xs ≤ k → first p (drop k xs) ≡ None
  first_end [] zero h = refl
  first_end [] (suc k) h = refl
  first_end (x ∷ xs) zero h = absurd (omega arith)
  first_end (x ∷ xs) (suc k) h = first_end xs k (omega arith)

  -- the first of the first list
  pub first_left : (xs ys : List A) (x : A) → first p xs ≡ Some x → first p (xs ++ ys) ≡ Some x
  first_left [] ys x e = let bad : ⊥ = cc e in absurd bad
  first_left (z ∷ zs) ys x e = step (p z) (first_left zs ys x) e
    where
      step : (b : Bool) → (first p zs ≡ Some x → first p (zs ++ ys) ≡ Some x) → cond b (Some z) (first p zs) ≡ Some x → cond b (Some z) (first p (zs ++ ys)) ≡ Some x
      step true rest h = h
      step false rest h = rest h

  -- where that has none, the first of the second
  pub first_right : (xs ys : List A) → first p xs ≡ None → first p (xs ++ ys) ≡ first p ys
  first_right [] ys e = refl
  first_right (z ∷ zs) ys e = step (p z) (first_right zs ys) e
    where
      step : (b : Bool) → (first p zs ≡ None → first p (zs ++ ys) ≡ first p ys) → cond b (Some z) (first p zs) ≡ None → cond b (Some z) (first p (zs ++ ys)) ≡ first p ys
      step true rest h = let bad : ⊥ = cc h in absurd bad
      step false rest h = rest h

-- the same of what a list is mapped to
module _ {X A : Type 0} (p : A → Bool) (f : X → A) where
  -- one that passes
  pub mapped_here : (xs : List X) (k : ℕ) (d : X) → k < length xs → p (f (get_or xs k d)) ≡ true → first p (map f (drop k xs)) ≡ Some (f (get_or xs k d))
  mapped_here [] k d h t = absurd (omega arith)
  mapped_here (y ∷ ys) zero d h t = ap (λ b. cond b (Some (f y)) (first p (map f ys))) t
  mapped_here (y ∷ ys) (suc k) d h t = mapped_here ys k d (omega arith) t

  -- one that does not
  mapped_next : (xs : List X) (k : ℕ) (d : X) → k < length xs → p (f (get_or xs k d)) ≡ false → first p (map f (drop k xs)) ≡ first p (map f (drop (suc k) xs))
  mapped_next [] k d h t = absurd (omega arith)
  mapped_next (y ∷ ys) zero d h t = ap (λ b. cond b (Some (f y)) (first p (map f ys))) t
  mapped_next (y ∷ ys) (suc k) d h t = mapped_next ys k d (omega arith) t

  -- one that does not, and the place after it
  pub mapped_later : (xs : List X) (k : ℕ) (d : X) → k < length xs → p (f (get_or xs k d)) ≡ false → first p (map f (drop k xs)) ≡ first p (map f (drop (k + 1) xs))
  mapped_later xs k d h t = mapped_next xs k d h t ∙ ap (λ z. first p (map f (drop z xs))) (let s : suc k ≡ k + 1 = omega arith in s)

  -- at the end there is none
  pub mapped_end : (xs : List X) (k : ℕ) → length xs ≤ k → first p (map f (drop k xs)) ≡ None
  mapped_end [] zero h = refl
  mapped_end [] (suc k) h = refl
  mapped_end (x ∷ xs) zero h = absurd (omega arith)
  mapped_end (x ∷ xs) (suc k) h = mapped_end xs k (omega arith)

-- no pairs are left at the end
pub pairs_end : (xs : List ℕ) (k : ℕ) → length xs ≤ k → pairs (drop k xs) ≡ []
pairs_end [] zero h = refl
pairs_end [] (suc k) h = refl
pairs_end (x ∷ xs) zero h = absurd (omega arith)
pairs_end (x ∷ xs) (suc k) h = pairs_end xs k (omega arith)

-- the pairs of the numbers from a place on begin with those of the number there
pub pairs_from : (xs : List ℕ) (k x : ℕ) → k < length xs → x ≡ get_or xs k x → pairs (drop k xs) ≡ map (λ y. (x, y)) (drop (k + 1) xs) ++ pairs (drop (k + 1) xs)
pairs_from xs k x h e = ap pairs (here xs k h e)
  where
    next : (k : ℕ) (xs : List ℕ) → drop (suc k) xs ≡ drop (k + 1) xs
    next k xs = ap (λ z. drop z xs) (let s : suc k ≡ k + 1 = omega arith in s)

    here' : (xs : List ℕ) (k : ℕ) → k < length xs → x ≡ get_or xs k x → drop k xs ≡ x ∷ drop (suc k) xs
    here' [] k h e = absurd (omega arith)
    here' (y ∷ ys) zero h e = ap (λ z. z ∷ ys) (sym e)
    here' (y ∷ ys) (suc k) h e = here' ys k (omega arith) e

    here : (xs : List ℕ) (k : ℕ) → k < length xs → x ≡ get_or xs k x → drop k xs ≡ x ∷ drop (k + 1) xs
    here xs k h e = here' xs k h e ∙ ap (λ z. x ∷ z) (next k xs)
