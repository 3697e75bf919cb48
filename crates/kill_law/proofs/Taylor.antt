-- Taylor's first order for weights: where x(i) + u(i) is put for each variable x(i), and u(i) has the weight of x(i) and e more, a polynomial f of weight d and more
-- becomes f and the sum of the u(i) times its partial derivatives, up to terms of weight d + 2*e and more.
use mathlib.Core.Quot.{mk, sound}
use Rattle.std.proofs.Common.{◌≡◌, ℕ, zero, suc, ◌+◌, ◌-◌, ◌<◌, ◌≤◌, inl, inr, Bool, true, false, cond, eqb, eqb-true, [], ◌∷◌, ◌++◌, refl, sym, ap, ap₂, subst, ◌∙◌, append-nil, arith}
use Rattle.ring_theory.specs.Ring.{RingOps, IsCommRing}
use Rattle.ring_theory.proofs.RingReify.{by_ring, reify}
use Rattle.poly_law.specs.Sums.{sum_to, multiple}
use Rattle.poly_law.specs.Exps.{Exps, IsExps, plus, none, lower, variable, same, degree}
use Rattle.poly_law.specs.Poly.{Terms, coefficient, times, times_term, constant, poly_ops, derivative, Same, subst_in, term, combination}
use Rattle.poly_law.proofs.Sums
use Rattle.poly_law.proofs.ExpLaws
use Rattle.poly_law.proofs.Pair
use Rattle.poly_law.proofs.PolyRing.{Poly, poly_ring, poly_is_ring}
use Rattle.poly_law.proofs.Derivative.{partial, partial_is, partial_constant}
use Rattle.poly_law.proofs.Order
use Rattle.poly_law.proofs.Subst
use Rattle.poly_law.proofs.Near
use Rattle.poly_law.proofs.Change
use Rattle.poly_law.specs.Poly as poly
use Rattle.poly_law.proofs.Filtration.{IsFiltration}

-- each term has at least the weight d
abbrev pub AllFrom : {E V : Type 0} → (E → ℕ) → ℕ → Terms E V → Type 0
AllFrom weight d [] = Unit {0}
AllFrom weight d (t ∷ f) = (d ≤ weight t.0) × AllFrom weight d f

module _ {E V : Type 0} (x : Exps E) (l : IsExps x) (r : RingOps V) (c : IsCommRing r) (s : IsSet V) (weight : E → ℕ) (adds : (a b : E) → weight (plus x a b) ≡ weight a + weight b) where
  abbrev ring : RingOps (Poly x r)
  ring = poly_ring x l r c

  abbrev laws : IsCommRing ring
  laws = poly_is_ring x l r c

  pub from_append : (d : ℕ) (f g : Terms E V) → AllFrom weight d f → AllFrom weight d g → AllFrom weight d (f ++ g)
  from_append d [] g h k = k
  from_append d (t ∷ f) g h k = (h.0, from_append d f g h.1 k)

  pub from_lower : (d e : ℕ) (f : Terms E V) → e ≤ d → AllFrom weight d f → AllFrom weight e f
  from_lower d e [] g h = tt
  from_lower d e (t ∷ f) g h = let q : d ≤ weight t.0 = h.0 in (omega arith, from_lower d e f g h.1)

  from_neg : (d : ℕ) (f : Terms E V) → AllFrom weight d f → AllFrom weight d ((poly_ops x r).neg f)
  from_neg d [] h = tt
  from_neg d (t ∷ f) h = (h.0, from_neg d f h.1)

  from_term : (d e : ℕ) (t : E × V) (g : Terms E V) → d ≤ weight t.0 → AllFrom weight e g → AllFrom weight (d + e) (times_term x r t g)
  from_term d e t [] h k = tt
  from_term d e t (u ∷ g) h k =
      let q : e ≤ weight u.0 = k.0 in
      (subst (λ z. d + e ≤ z) (sym (adds t.0 u.0)) (omega arith), from_term d e t g h k.1)

  pub from_times : (d e : ℕ) (f g : Terms E V) → AllFrom weight d f → AllFrom weight e g → AllFrom weight (d + e) (times x r f g)
  from_times d e [] g h k = tt
  from_times d e (t ∷ f) g h k = from_append (d + e) (times_term x r t g) (times x r f g) (from_term d e t g h.0 k) (from_times d e f g h.1 k)

  weight-none : weight (none x) ≡ 0
  weight-none = let q = adds (none x) (none x) in let p : weight (plus x (none x) (none x)) ≡ weight (none x) = ap weight (ExpLaws.plus-none x l (none x)) in omega arith

  weight-lower : (j : ℕ) → j < x.count → (a : E) → weight a ≤ weight (lower x j a) + weight (variable x j)
  weight-lower j h a = elim (ExpLaws.zero_or_not (x.at a j)) [
    | inl z ↦
        let same_one : lower x j a ≡ a = l.same_at (lower x j a) a (λ i g. ExpLaws.at-lower x l j a i g ∙ step i (eqb i j) refl z) in
        subst (λ b. weight a ≤ weight b + weight (variable x j)) (sym same_one) (omega arith)
    | inr p ↦
        let q = adds (variable x j) (lower x j a) in
        let e : weight (plus x (variable x j) (lower x j a)) ≡ weight a = ap weight (ExpLaws.variable-lower x l j a p) in
        omega arith
  ]
    where
      step : (i : ℕ) (b : Bool) → eqb i j ≡ b → x.at a j ≡ 0 → cond b (x.at a i - 1) (x.at a i) ≡ x.at a i
      step i true q z = let e : x.at a i ≡ 0 = ap (x.at a) (eqb-true i j q) ∙ z in omega arith
      step i false q z = refl

  pub from_derivative : (j : ℕ) → j < x.count → (d : ℕ) (f : Terms E V) → AllFrom weight d f → AllFrom weight (d - weight (variable x j)) (derivative x r j f)
  from_derivative j h d [] k = tt
  from_derivative j h d (t ∷ f) k =
      let q : d ≤ weight t.0 = k.0 in
      let w = weight-lower j h t.0 in
      (omega arith, from_derivative j h d f k.1)

  -- no coefficient of lower weight
  pub low_zero : (d : ℕ) (f : Terms E V) → AllFrom weight d f → (m : E) → weight m < d → coefficient x r f m ≡ r.zero
  low_zero d [] h m g = refl
  low_zero d (t ∷ f) h m g = ap₂ r.add (step (same x t.0 m) refl) (low_zero d f h.1 m g) ∙ c.add_zero r.zero
    where
      step : (b : Bool) → same x t.0 m ≡ b → cond b t.1 r.zero ≡ r.zero
      step true q = let e : weight t.0 ≡ weight m = ap weight (ExpLaws.same-eq x l t.0 m q) in let p : d ≤ weight t.0 = h.0 in absurd (omega arith)
      step false q = refl

  -- a polynomial that has a list of terms of weight d and more
  pub record Ord (d : ℕ) (p : Poly x r) : Type 0 where
    pub list : Terms E V
    pub is : ◌≡◌ {A = Poly x r} (mk list) p
    pub from : AllFrom weight d list

  pub filtration : IsFiltration ring Ord
  filtration = record {
    zero_in = λ d. record { list = []; is = refl; from = tt };
    add_in = λ d a b u v. record { list = u.list ++ v.list; is = ap₂ ring.add u.is v.is; from = from_append d u.list v.list u.from v.from };
    neg_in = λ d a u. record { list = (poly_ops x r).neg u.list; is = ap ring.neg u.is; from = from_neg d u.list u.from };
    mul_in = λ d e a b u v. record { list = times x r u.list v.list; is = ap₂ ring.mul u.is v.is; from = from_times d e u.list v.list u.from v.from };
    lower_in = λ d e a h u. record { list = u.list; is = u.is; from = from_lower d e u.list h u.from };
  }

  module _ (u : ℕ → Terms E V) (e : ℕ) (high : (i : ℕ) → i < x.count → AllFrom weight (weight (variable x i) + e) (u i)) where
    -- the variables and u
    abbrev pub parts : ℕ → Terms E V
    parts i = (variable x i, r.one) ∷ u i

    abbrev S : Poly x r → Poly x r
    S = Subst.at_parts x l x l r c s parts

    -- the sum of the u(i) times the partial derivatives
    abbrev T : Poly x r → Poly x r
    T p = sum_to ring x.count (λ j. ring.mul (mk (u j)) (partial x l r c j p))

    T-add : (p q : Poly x r) → T (ring.add p q) ≡ ring.add (T p) (T q)
    T-add p q =
        Sums.sum_to-cong ring x.count (λ j. ring.mul (mk (u j)) (partial x l r c j (ring.add p q))) (λ j. ring.add (ring.mul (mk (u j)) (partial x l r c j p)) (ring.mul (mk (u j)) (partial x l r c j q)))
        (λ j h. ap (ring.mul (mk (u j))) ((partial_is x l r c j h).of_add p q) ∙ Sums.distrib_left ring laws (mk (u j)) (partial x l r c j p) (partial x l r c j q))
        ∙ Sums.sum_to-add ring laws x.count (λ j. ring.mul (mk (u j)) (partial x l r c j p)) (λ j. ring.mul (mk (u j)) (partial x l r c j q))

    by_product : (a p q dp dq : Poly x r) → ring.mul a (ring.add (ring.mul dp q) (ring.mul p dq)) ≡ ring.add (ring.mul (ring.mul a dp) q) (ring.mul p (ring.mul a dq))
    by_product a p q dp dq = by_ring laws (a ∷ p ∷ q ∷ dp ∷ dq ∷ []) (search reify depth 30) tt

    T-mul : (p q : Poly x r) → T (ring.mul p q) ≡ ring.add (ring.mul (T p) q) (ring.mul p (T q))
    T-mul p q =
        let v : ℕ → Poly x r = λ j. ring.mul (mk (u j)) (partial x l r c j p) in
        let w : ℕ → Poly x r = λ j. ring.mul (mk (u j)) (partial x l r c j q) in
        Sums.sum_to-cong ring x.count (λ j. ring.mul (mk (u j)) (partial x l r c j (ring.mul p q))) (λ j. ring.add (ring.mul (v j) q) (ring.mul p (w j)))
        (λ j h. ap (ring.mul (mk (u j))) ((partial_is x l r c j h).of_mul p q) ∙ by_product (mk (u j)) p q (partial x l r c j p) (partial x l r c j q))
        ∙ Sums.sum_to-add ring laws x.count (λ j. ring.mul (v j) q) (λ j. ring.mul p (w j))
        ∙ ap₂ ring.add (Sums.sum_to-mul_right ring laws x.count v q) (Sums.sum_to-mul ring laws x.count p w)

    T-constant : (v : V) → T (mk (constant x r v)) ≡ ring.zero
    T-constant v = Sums.sum_to-nothing ring laws x.count (λ j. ring.mul (mk (u j)) (partial x l r c j (mk (constant x r v)))) λ j h.
        ap (ring.mul (mk (u j))) (partial_constant x l r c j h v) ∙ Sums.mul_zero ring laws (mk (u j))

    -- p of weight d and more becomes p and T p, up to weight d + 2*e
    record IsNear (d : ℕ) (p : Poly x r) : Type 0 where
      inside : Ord d p
      shift : Ord (d + e) (T p)
      close : Ord (d + (e + e)) (ring.add (S p) (ring.neg (ring.add p (T p))))

    near_lower : (d b : ℕ) (p : Poly x r) → b ≤ d → IsNear d p → IsNear b p
    near_lower d b p h n = record {
      inside = filtration.lower_in d b p h n.inside;
      shift = filtration.lower_in (d + e) (b + e) (T p) (omega arith) n.shift;
      close = filtration.lower_in (d + (e + e)) (b + (e + e)) (ring.add (S p) (ring.neg (ring.add p (T p)))) (omega arith) n.close;
    }

    added : (sp sq p q tp tq : Poly x r) → ring.add (ring.add sp (ring.neg (ring.add p tp))) (ring.add sq (ring.neg (ring.add q tq))) ≡ ring.add (ring.add sp sq) (ring.neg (ring.add (ring.add p q) (ring.add tp tq)))
    added sp sq p q tp tq = by_ring laws (sp ∷ sq ∷ p ∷ q ∷ tp ∷ tq ∷ []) (search reify depth 30) tt

    near_add : (d : ℕ) (p q : Poly x r) → IsNear d p → IsNear d q → IsNear d (ring.add p q)
    near_add d p q a b = record {
      inside = filtration.add_in d p q a.inside b.inside;
      shift = subst (Ord (d + e)) (sym (T-add p q)) (filtration.add_in (d + e) (T p) (T q) a.shift b.shift);
      close = subst (Ord (d + (e + e)))
          (added (S p) (S q) p q (T p) (T q)
          ∙ ap₂ (λ y z. ring.add y (ring.neg (ring.add (ring.add p q) z))) (sym ((Subst.at_parts_is x l x l r c s parts).of_add p q)) (sym (T-add p q)))
          (filtration.add_in (d + (e + e)) (ring.add (S p) (ring.neg (ring.add p (T p)))) (ring.add (S q) (ring.neg (ring.add q (T q)))) a.close b.close);
    }

    back_to : (sp p tp : Poly x r) → ring.add (ring.add sp (ring.neg (ring.add p tp))) (ring.add p tp) ≡ sp
    back_to sp p tp = by_ring laws (sp ∷ p ∷ tp ∷ []) (search reify depth 30) tt

    multiplied : (sp sq p q tp tq : Poly x r)
        → ring.add (ring.mul (ring.add sp (ring.neg (ring.add p tp))) sq) (ring.add (ring.mul (ring.add p tp) (ring.add sq (ring.neg (ring.add q tq)))) (ring.mul tp tq))
        ≡ ring.add (ring.mul sp sq) (ring.neg (ring.add (ring.mul p q) (ring.add (ring.mul tp q) (ring.mul p tq))))
    multiplied sp sq p q tp tq = by_ring laws (sp ∷ sq ∷ p ∷ q ∷ tp ∷ tq ∷ []) (search reify depth 40) tt

    -- the image has the weight of p
    image_in : (d : ℕ) (p : Poly x r) → IsNear d p → Ord d (S p)
    image_in d p n = subst (Ord d) (back_to (S p) p (T p))
        (filtration.add_in d (ring.add (S p) (ring.neg (ring.add p (T p)))) (ring.add p (T p)) (filtration.lower_in (d + (e + e)) d (ring.add (S p) (ring.neg (ring.add p (T p)))) (omega arith) n.close)
        (filtration.add_in d p (T p) n.inside (filtration.lower_in (d + e) d (T p) (omega arith) n.shift)))

    near_mul : (d b : ℕ) (p q : Poly x r) → IsNear d p → IsNear b q → IsNear (d + b) (ring.mul p q)
    near_mul d b p q a k =
        let dp = ring.add (S p) (ring.neg (ring.add p (T p))) in
        let dq = ring.add (S q) (ring.neg (ring.add q (T q))) in
        let first : Ord (d + b + (e + e)) (ring.mul dp (S q)) = subst (λ z. Ord z (ring.mul dp (S q))) (let y : d + (e + e) + b ≡ d + b + (e + e) = omega arith in y) (filtration.mul_in (d + (e + e)) b dp (S q) a.close (image_in b q k)) in
        let whole : Ord d (ring.add p (T p)) = filtration.add_in d p (T p) a.inside (filtration.lower_in (d + e) d (T p) (omega arith) a.shift) in
        let second : Ord (d + b + (e + e)) (ring.mul (ring.add p (T p)) dq) = subst (λ z. Ord z (ring.mul (ring.add p (T p)) dq)) (let y : d + (b + (e + e)) ≡ d + b + (e + e) = omega arith in y) (filtration.mul_in d (b + (e + e)) (ring.add p (T p)) dq whole k.close) in
        let third : Ord (d + b + (e + e)) (ring.mul (T p) (T q)) = subst (λ z. Ord z (ring.mul (T p) (T q))) (let y : d + e + (b + e) ≡ d + b + (e + e) = omega arith in y) (filtration.mul_in (d + e) (b + e) (T p) (T q) a.shift k.shift) in
        record {
          inside = filtration.mul_in d b p q a.inside k.inside;
          shift = subst (Ord (d + b + e)) (sym (T-mul p q))
              (filtration.add_in (d + b + e) (ring.mul (T p) q) (ring.mul p (T q))
              (subst (λ z. Ord z (ring.mul (T p) q)) (let y : d + e + b ≡ d + b + e = omega arith in y) (filtration.mul_in (d + e) b (T p) q a.shift k.inside))
              (subst (λ z. Ord z (ring.mul p (T q))) (let y : d + (b + e) ≡ d + b + e = omega arith in y) (filtration.mul_in d (b + e) p (T q) a.inside k.shift)));
          close = subst (Ord (d + b + (e + e)))
              (multiplied (S p) (S q) p q (T p) (T q)
              ∙ ap₂ (λ y z. ring.add y (ring.neg (ring.add (ring.mul p q) z))) (sym ((Subst.at_parts_is x l x l r c s parts).of_mul p q)) (sym (T-mul p q)))
              (filtration.add_in (d + b + (e + e)) (ring.mul dp (S q)) (ring.add (ring.mul (ring.add p (T p)) dq) (ring.mul (T p) (T q))) first
              (filtration.add_in (d + b + (e + e)) (ring.mul (ring.add p (T p)) dq) (ring.mul (T p) (T q)) second third));
        }

    -- ---- constants, variables, monomials, lists

    sub_self : (p : Poly x r) → ring.add p (ring.neg (ring.add p ring.zero)) ≡ ring.zero
    sub_self p = by_ring laws (p ∷ []) (search reify depth 20) tt

    near_constant : (v : V) → IsNear 0 (mk (constant x r v))
    near_constant v = record {
      inside = record { list = constant x r v; is = refl; from = (omega arith, tt) };
      shift = subst (Ord (0 + e)) (sym (T-constant v)) (filtration.zero_in (0 + e));
      close = subst (Ord (0 + (e + e))) (sym (ap₂ (λ y z. ring.add y (ring.neg (ring.add (mk (constant x r v)) z))) (sound {b = constant x r v} (Subst.subst_constant x l x l r c s parts v)) (T-constant v) ∙ sub_self (mk (constant x r v)))) (filtration.zero_in (0 + (e + e)));
    }

    -- the partial derivatives of a variable
    partial-same : (i : ℕ) → i < x.count → ◌≡◌ {A = Poly x r} (partial x l r c i (mk (term x r (variable x i)))) ring.one
    partial-same i h =
        ap₂ (λ a v. mk ((a, v) ∷ []))
        (l.same_at (lower x i (variable x i)) (none x) (λ k g. ExpLaws.at-lower x l i (variable x i) k g ∙ ap (λ z. cond (eqb k i) (z - 1) z) (ExpLaws.at-variable x l i k g) ∙ step (eqb k i) ∙ sym (ExpLaws.at-none x l k g)))
        (ap (λ k. multiple r k r.one) (ExpLaws.at-variable x l i i h ∙ ExpLaws.unit_yes i i refl) ∙ Sums.zero_add r c r.one)
      where
        step : (b : Bool) → cond b (cond {A = ℕ} b 1 0 - 1) (cond {A = ℕ} b 1 0) ≡ 0
        step true = omega arith
        step false = refl

    partial-other : (i j : ℕ) → j < x.count → (j ≡ i → ⊥) → ◌≡◌ {A = Poly x r} (partial x l r c j (mk (term x r (variable x i)))) ring.zero
    partial-other i j h ne =
        ap (λ v. mk ((lower x j (variable x i), v) ∷ [])) (ap (λ k. multiple r k r.one) (ExpLaws.at-variable x l i j h ∙ ExpLaws.unit_no j i ne))
        ∙ sound (λ m. c.add_zero _ ∙ nothing (same x (lower x j (variable x i)) m))
      where
        nothing : (b : Bool) → cond b r.zero r.zero ≡ r.zero
        nothing true = refl
        nothing false = refl

    T-variable : (i : ℕ) → i < x.count → T (mk (term x r (variable x i))) ≡ mk (u i)
    T-variable i h =
        Sums.sum_to-single ring laws x.count i (λ j. ring.mul (mk (u j)) (partial x l r c j (mk (term x r (variable x i))))) h
        (λ j g ne. ap (ring.mul (mk (u j))) (partial-other i j g ne) ∙ Sums.mul_zero ring laws (mk (u j)))
        ∙ ap (ring.mul (mk (u i))) (partial-same i h) ∙ laws.mul_one (mk (u i))

    S-variable : (i : ℕ) → i < x.count → S (mk (term x r (variable x i))) ≡ mk (parts i)
    S-variable i h = sound (λ m. one_term m) ∙ sound (image i h)
      where
        one_term : (m : E) → coefficient x r (subst_in x x r parts (term x r (variable x i))) m ≡ coefficient x r (poly.monomial_of x x r parts (variable x i)) m
        one_term m =
            ap (λ f. coefficient x r f m) (append-nil (poly.scale x r r.one (poly.monomial_of x x r parts (variable x i))))
            ∙ Pair.coefficient_is x r c (poly.scale x r r.one (poly.monomial_of x x r parts (variable x i))) m
            ∙ Pair.pair-scale x r c r.one (poly.monomial_of x x r parts (variable x i)) (Pair.at_only x r m)
            ∙ c.mul_comm r.one _ ∙ c.mul_one _
            ∙ sym (Pair.coefficient_is x r c (poly.monomial_of x x r parts (variable x i)) m)

        image : (i : ℕ) → i < x.count → Same x r (poly.monomial_of x x r parts (variable x i)) (parts i)
        image i h = Change.image_variable x l r c s parts i h

    near_variable : (i : ℕ) → i < x.count → IsNear (weight (variable x i)) (mk (term x r (variable x i)))
    near_variable i h =
        let v : Poly x r = mk (term x r (variable x i)) in
        let w = weight (variable x i) in
        record {
          inside = record { list = term x r (variable x i); is = refl; from = (omega arith, tt) };
          shift = record { list = u i; is = sym (T-variable i h); from = high i h };
          close = subst (Ord (w + (e + e))) (sym (ap₂ (λ y z. ring.add y (ring.neg (ring.add v z))) (S-variable i h) (T-variable i h) ∙ laws.add_neg (mk (parts i)))) (filtration.zero_in (w + (e + e)));
        }

    near_term : (k : ℕ) (a : E) → degree x a ≤ k → IsNear (weight a) (mk (term x r a))
    near_term zero a h =
        let e0 : a ≡ none x = ExpLaws.none_of_degree x l a (omega arith) in
        subst (λ b. IsNear (weight b) (mk (term x r b))) (sym e0) (subst (λ z. IsNear z (mk (term x r (none x)))) (sym weight-none) (near_constant r.one))
    near_term (suc k) a h = elim (ExpLaws.zero_or_not (degree x a)) [
      | inl z ↦
          let e0 : a ≡ none x = ExpLaws.none_of_degree x l a z in
          subst (λ b. IsNear (weight b) (mk (term x r b))) (sym e0) (subst (λ z. IsNear z (mk (term x r (none x)))) (sym weight-none) (near_constant r.one))
      | inr p ↦
          let found = ExpLaws.positive_term x.count (x.at a) p in
          let j = found.0 in
          let g : j < x.count = found.1 in
          let q : 0 < x.at a j = found.2 in
          let b = lower x j a in
          let down = ExpLaws.degree-lower x l j a q g in
          let joined : plus x (variable x j) b ≡ a = ExpLaws.variable-lower x l j a q in
          subst (λ b. IsNear (weight b) (mk (term x r b))) joined
          (subst (λ z. IsNear z (mk (term x r (plus x (variable x j) b)))) (sym (adds (variable x j) b))
          (subst (IsNear (weight (variable x j) + weight b)) (sound (Near.times_term_term x l r c s (variable x j) b))
          (near_mul (weight (variable x j)) (weight b) (mk (term x r (variable x j))) (mk (term x r b)) (near_variable j g) (near_term k b (omega arith)))))
    ]

    -- a term with a coefficient
    near_one : (t : E × V) → IsNear (weight t.0) (mk (t ∷ []))
    near_one t =
        subst (IsNear (weight t.0)) (sound same_term)
        (subst (λ z. IsNear z (ring.mul (mk (constant x r t.1)) (mk (term x r t.0)))) (let y : 0 + weight t.0 ≡ weight t.0 = omega arith in y)
        (near_mul 0 (weight t.0) (mk (constant x r t.1)) (mk (term x r t.0)) (near_constant t.1) (near_term (degree x t.0) t.0 (omega arith))))
      where
        same_term : Same x r (times x r (constant x r t.1) (term x r t.0)) (t ∷ [])
        same_term m =
            ap₂ (λ a v. r.add (cond (same x a m) v r.zero) r.zero) (ExpLaws.plus_comm x l (none x) t.0 ∙ ExpLaws.plus-none x l t.0) (c.mul_one t.1)

    near_list : (d : ℕ) (f : Terms E V) → AllFrom weight d f → IsNear d (mk f)
    near_list d [] h =
        let zero_constant : ◌≡◌ {A = Poly x r} (mk (constant x r r.zero)) (mk []) = sound (λ m. c.add_zero _ ∙ nothing (same x (none x) m)) in
        record {
          inside = filtration.zero_in d;
          shift = subst (Ord (d + e)) (sym (ap T (sym zero_constant) ∙ T-constant r.zero)) (filtration.zero_in (d + e));
          close = subst (Ord (d + (e + e))) (sym (ap (λ z. ring.add ring.zero (ring.neg (ring.add ring.zero z))) (ap T (sym zero_constant) ∙ T-constant r.zero) ∙ sub_self ring.zero)) (filtration.zero_in (d + (e + e)));
        }
      where
        nothing : (b : Bool) → cond b r.zero r.zero ≡ r.zero
        nothing true = refl
        nothing false = refl
    near_list d (t ∷ f) h = near_add d (mk (t ∷ [])) (mk f) (near_lower (weight t.0) d (mk (t ∷ [])) h.0 (near_one t)) (near_list d f h.1)

    T-is : (f : Terms E V) → T (mk f) ≡ mk (combination x r u f)
    T-is f = sym (Subst.mk_sum_to x l r c s x.count (λ j. times x r (u j) (derivative x r j f)))

    pub taylor : (d : ℕ) (f : Terms E V) → AllFrom weight d f → (m : E) → weight m < d + (e + e) → coefficient x r (subst_in x x r parts f) m ≡ coefficient x r (f ++ combination x r u f) m
    taylor d f h m g =
        let o = (near_list d f h).close in
        let both = f ++ combination x r u f in
        let path : ◌≡◌ {A = Poly x r} (mk o.list) (mk (subst_in x x r parts f ++ (poly_ops x r).neg both)) = o.is ∙ ap (λ z. ring.add (mk (subst_in x x r parts f)) (ring.neg (ring.add (mk f) z))) (T-is f) in
        let equal = Subst.same_from_path x l r c s o.list (subst_in x x r parts f ++ (poly_ops x r).neg both) path m in
        Sums.equal_from_sub r c (coefficient x r (subst_in x x r parts f) m) (coefficient x r both m)
        (ap (r.add (coefficient x r (subst_in x x r parts f) m)) (sym (Order.coefficient-neg x l r c both m))
        ∙ sym (Order.coefficient-append x l r c (subst_in x x r parts f) ((poly_ops x r).neg both) m)
        ∙ sym equal ∙ low_zero (d + (e + e)) o.list o.from m g)
