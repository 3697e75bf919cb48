-- A change whose linear part is the identity changes no lowest terms.
use mathlib.Core.Path.{fun_ext}
use Rattle.poly_law.specs.Poly
use mathlib.Core.Quot.{mk, sound}
use Rattle.std.proofs.Common.{◌≡◌, ℕ, zero, suc, ◌+◌, ◌*◌, ◌<◌, ◌≤◌, Bool, true, false, cond, eqb, ltb, eqb-true, eq-eqb, ltb-true, ltb-false, lt-ltb, le-ltb, ap, sym, ◌∙◌, refl, ap₂, arith}
use Rattle.ring_theory.specs.Ring.{RingOps, IsCommRing}
use Rattle.poly_law.specs.Sums.{power, monomial}
use Rattle.poly_law.specs.Exps.{Exps, IsExps, plus, none, variable}
use Rattle.poly_law.specs.Poly.{Terms, coefficient, times_term, times, poly_ops, Same, SameTo, StartsAt, monomial_of, subst_in}
use Rattle.poly_law.proofs.ExpLaws
use Rattle.poly_law.proofs.Pair
use Rattle.poly_law.proofs.Pair.{pair, at_only}
use Rattle.poly_law.proofs.PolyRing.{Poly, poly_ring}
use Rattle.poly_law.proofs.Order
use Rattle.poly_law.proofs.Subst
use Rattle.poly_law.proofs.SubstOrder

module _ {E V : Type 0} (x : Exps E) (l : IsExps x) (r : RingOps V) (c : IsCommRing r) (s : IsSet V) where
  abbrev term : E → Terms E V
  term a = Poly.term x r a

  pub pair-term : (a : E) (w : E → V) → pair r (term a) w ≡ w a
  pair-term a w = c.add_zero (r.mul r.one (w a)) ∙ c.mul_comm r.one (w a) ∙ c.mul_one (w a)

  pub coefficient-term : (a m : E) → coefficient x r (term a) m ≡ at_only x r m a
  coefficient-term a m = Pair.coefficient_is x r c (term a) m ∙ pair-term a (at_only x r m)

  pub times_term_term : (a b : E) → Same x r (times x r (term a) (term b)) (term (plus x a b))
  times_term_term a b = Pair.same_from_pair x l r c (times x r (term a) (term b)) (term (plus x a b)) λ w.
      Pair.pair-times x r c (term a) (term b) w
      ∙ pair-term a (λ a'. pair r (term b) (λ b'. w (plus x a' b')))
      ∙ pair-term b (λ b'. w (plus x a b'))
      ∙ sym (pair-term (plus x a b) w)

  abbrev many : ℕ → E → E
  many k a = x.make (λ i. k * x.at a i)

  power_term : (a : E) (k : ℕ) → ◌≡◌ {A = Poly x r} (mk (power (poly_ops x r) (term a) k)) (mk (term (many k a)))
  power_term a zero = ap (λ z. mk (term z)) (l.same_at (none x) (many 0 a) λ i h. let e₁ = ExpLaws.at-none x l i h in let e₂ = l.at_make (λ i. 0 * x.at a i) i h in omega arith)
  power_term a (suc k) =
      ap (λ z. (poly_ring x l r c).mul z (mk (term a))) (power_term a k)
      ∙ sound (times_term_term (many k a) a)
      ∙ ap (λ z. mk (term z)) (l.same_at (plus x (many k a) a) (many (suc k) a) λ i h.
      let e₁ = ExpLaws.at-plus x l (many k a) a i h in
      let e₂ = l.at_make (λ i. k * x.at a i) i h in
      let e₃ = l.at_make (λ i. suc k * x.at a i) i h in
      omega arith)

  abbrev front : ℕ → E → E
  front n a = x.make (λ i. cond (ltb i n) (x.at a i) 0)

  abbrev variables : ℕ → Terms E V
  variables i = term (variable x i)

  front-suc : (a : E) (n : ℕ) → n < x.count → plus x (front n a) (many (x.at a n) (variable x n)) ≡ front (suc n) a
  front-suc a n g = l.same_at (plus x (front n a) (many (x.at a n) (variable x n))) (front (suc n) a) λ i h.
      let e₁ = ExpLaws.at-plus x l (front n a) (many (x.at a n) (variable x n)) i h in
      let e₂ = l.at_make (λ i. cond (ltb i n) (x.at a i) 0) i h in
      let e₃ = l.at_make (λ i. x.at a n * x.at (variable x n) i) i h in
      let e₄ = l.at_make (λ i. cond (eqb i n) 1 0) i h in
      let e₅ = l.at_make (λ i. cond (ltb i (suc n)) (x.at a i) 0) i h in
      e₁ ∙ ap₂ (λ y z. y + z) e₂ (e₃ ∙ ap (λ z. x.at a n * z) e₄) ∙ step i (ltb i n) (eqb i n) refl refl ∙ sym e₅
    where
      step : (i : ℕ) (p q : Bool) → ltb i n ≡ p → eqb i n ≡ q → cond p (x.at a i) 0 + x.at a n * cond q 1 0 ≡ cond (ltb i (suc n)) (x.at a i) 0
      step i true true h h' = absurd (let e = ltb-true i n h in let e' = eqb-true i n h' in omega arith)
      step i true false h h' = let e = ltb-true i n h in let z : cond (ltb i (suc n)) (x.at a i) 0 ≡ x.at a i = ap (λ b. cond b (x.at a i) 0) (lt-ltb i (suc n) (omega arith)) in omega arith
      step i false true h h' =
          let e = eqb-true i n h' in let z : cond (ltb i (suc n)) (x.at a i) 0 ≡ x.at a i = ap (λ b. cond b (x.at a i) 0) (lt-ltb i (suc n) (omega arith)) in
          let y : x.at a n ≡ x.at a i = ap (x.at a) (sym e) in omega arith
      step i false false h h' =
          let e = ltb-false i n h in
          let ne : i ≡ n → ⊥ = λ y. absurd_from (sym h' ∙ eq-eqb i n y) in
          let z : cond (ltb i (suc n)) (x.at a i) 0 ≡ 0 = ap (λ b. cond b (x.at a i) 0) (le-ltb i (suc n) (past i e ne)) in omega arith
        where
          absurd_from : false ≡ true → ⊥
          absurd_from e = cc e

          past : (i : ℕ) → n ≤ i → (i ≡ n → ⊥) → suc n ≤ i
          past i e ne = grind arith

  -- the product of the variables' powers is the monomial
  front_image : (a : E) (n : ℕ) → n ≤ x.count → ◌≡◌ {A = Poly x r} (mk (monomial (poly_ops x r) n variables (x.at a))) (mk (term (front n a)))
  front_image a zero g = ap (λ z. mk (term z)) (l.same_at (none x) (front 0 a) λ i h.
      let e₁ = ExpLaws.at-none x l i h in let e₂ = l.at_make (λ i. cond (ltb i 0) (x.at a i) 0) i h in
      let e₃ : cond (ltb i 0) (x.at a i) 0 ≡ 0 = ap (λ b. cond b (x.at a i) 0) (le-ltb i 0 (omega arith)) in omega arith)
  front_image a (suc n) g =
      ap₂ (poly_ring x l r c).mul (front_image a n (omega arith)) (power_term (variable x n) (x.at a n))
      ∙ sound (times_term_term (front n a) (many (x.at a n) (variable x n)))
      ∙ ap (λ z. mk (term z)) (front-suc a n (omega arith))

  pub image_variables : (a : E) → Same x r (monomial_of x x r variables a) (term a)
  image_variables a = Subst.same_from_path x l r c s (monomial_of x x r variables a) (term a)
      (front_image a x.count (omega arith) ∙ ap (λ z. mk (term z)) (l.same_at (front x.count a) a λ i h.
      l.at_make (λ i. cond (ltb i x.count) (x.at a i) 0) i h ∙ ap (λ b. cond b (x.at a i) 0) (lt-ltb i x.count h)))

  pub variables_start : (i : ℕ) → i < x.count → StartsAt x r 1 (variables i)
  variables_start i h m g = coefficient-term (variable x i) m ∙ Order.at_only_high x l r c m (variable x i) (let e = ExpLaws.degree-variable x l i h in omega arith)

  -- substituting the variables themselves
  pub subst_variables : (f : Terms E V) → Same x r (subst_in x x r variables f) f
  subst_variables f m =
      SubstOrder.coefficient-subst x l x l r c s variables f m
      ∙ ap (pair r f) (fun_ext λ a. image_variables a m ∙ coefficient-term a m)
      ∙ sym (Pair.coefficient_is x r c f m)

  module _ (parts : ℕ → Terms E V) (starts : (i : ℕ) → i < x.count → StartsAt x r 1 (parts i)) (near : (i : ℕ) → i < x.count → SameTo x r 1 (parts i) (variables i)) where
    pub near_identity : (d : ℕ) (f : Terms E V) → StartsAt x r d f → SameTo x r d (subst_in x x r parts f) f
    near_identity d f t m h =
        SubstOrder.coefficient-subst x l x l r c s parts f m
        ∙ Order.pair_high x l r c d f t (λ a. coefficient x r (monomial_of x x r parts a) m) (at_only x r m) (λ a ha.
        SubstOrder.monomial_near x l r c x.count parts variables (x.at a) starts variables_start near m (omega arith)
        ∙ image_variables a m ∙ coefficient-term a m)
        ∙ sym (Pair.coefficient_is x r c f m)
