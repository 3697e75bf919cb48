-- The quotient is free, with exactly the printed basis.
use mathlib.Core.Path.{fun_ext}
use mathlib.Core.Quot.{mk}
use Rattle.std.proofs.Common.{◌≡◌, ℕ, zero, suc, ◌<◌, [], ◌∷◌, ◌++◌, Bool, true, false, cond, leb, leb-true, leb-false, le-leb, ap, sym, ◌∙◌, refl, ap₂, arith}
use Rattle.ring_theory.specs.Ring.{RingOps, IsCommRing}
use Rattle.poly_law.specs.Sums.{total, sum_to, unit_at}
use Rattle.poly_law.specs.Exps.{Exps, IsExps, plus, none, degree}
use Rattle.poly_law.specs.Poly.{Terms, coefficient, scale, times, constant, poly_ops, derivative, SameTo, term, combination, of_basis, values_of, InIdeal, IsQuotient}
use Rattle.poly_law.proofs.Sums
use Rattle.poly_law.proofs.ExpLaws
use Rattle.poly_law.proofs.Pair
use Rattle.poly_law.proofs.Pair.{pair, at_only}
use Rattle.poly_law.proofs.PolyRing.{Poly, poly_ring, poly_is_ring}
use Rattle.poly_law.proofs.Derivative.{partial}
use Rattle.poly_law.proofs.Order
use Rattle.poly_law.proofs.Subst
use Rattle.poly_law.proofs.Near
use Rattle.poly_law.proofs.Linear
use Rattle.poly_law.proofs.Kept

module _ {E V : Type 0} (x : Exps E) (l : IsExps x) (r : RingOps V) (c : IsCommRing r) (s : IsSet V) where
  abbrev ring : RingOps (Poly x r)
  ring = poly_ring x l r c

  abbrev laws : IsCommRing ring
  laws = poly_is_ring x l r c

  module _ (k : ℕ) (row : E → ℕ → V) where
    -- the values, by the terms of degree at most k
    pub values_is : (f : Terms E V) (j : ℕ) → values_of x r row k f j ≡ pair r f (λ a. cond (leb (degree x a) k) (row a j) r.zero)
    values_is f j =
        Sums.total-filter r c (λ t. r.mul t.1 (row t.0 j)) (λ t. leb (degree x t.0) k) f
        ∙ ap (λ w. total r w f) (fun_ext λ t. step (leb (degree x t.0) k) t.1 (row t.0 j))
      where
        step : (b : Bool) (u v : V) → cond b (r.mul u v) r.zero ≡ r.mul u (cond b v r.zero)
        step true u v = refl
        step false u v = sym (Sums.mul_zero r c u)

    pub values_same : (f g : Terms E V) → SameTo x r k f g → (j : ℕ) → values_of x r row k f j ≡ values_of x r row k g j
    values_same f g e j =
        values_is f j
        ∙ Order.pair_low x l r c k f g e (λ a. cond (leb (degree x a) k) (row a j) r.zero) (λ a h. ap (λ b. cond b (row a j) r.zero) (past (degree x a) h))
        ∙ sym (values_is g j)
      where
        past : (d : ℕ) → k < d → leb d k ≡ false
        past d h = step (leb d k) refl
          where
            step : (b : Bool) → leb d k ≡ b → leb d k ≡ false
            step true e = absurd (let z = leb-true d k e in omega arith)
            step false e = e

    values-append : (f g : Terms E V) (j : ℕ) → values_of x r row k (f ++ g) j ≡ r.add (values_of x r row k f j) (values_of x r row k g j)
    values-append f g j =
        values_is (f ++ g) j ∙ Pair.pair-append r c f g (λ a. cond (leb (degree x a) k) (row a j) r.zero) ∙ ap₂ r.add (sym (values_is f j)) (sym (values_is g j))

    values-times : (f g : Terms E V) (j : ℕ) → values_of x r row k (times x r f g) j ≡ pair r f (λ a. values_of x r row k (times x r (term x r a) g) j)
    values-times f g j =
        values_is (times x r f g) j ∙ Pair.pair-times x r c f g (λ a. cond (leb (degree x a) k) (row a j) r.zero)
        ∙ ap (pair r f) (fun_ext λ a.
        sym (Near.pair-term x l r c s a (λ a. pair r g (λ b. cond (leb (degree x (plus x a b)) k) (row (plus x a b) j) r.zero)))
        ∙ sym (Pair.pair-times x r c (term x r a) g (λ a. cond (leb (degree x a) k) (row a j) r.zero))
        ∙ sym (values_is (times x r (term x r a) g) j))

    values-nothing : (n : ℕ) (w : ℕ → Terms E V) (j : ℕ) → ((i : ℕ) → i < n → values_of x r row k (w i) j ≡ r.zero) → values_of x r row k (sum_to (poly_ops x r) n w) j ≡ r.zero
    values-nothing zero w j h = refl
    values-nothing (suc n) w j h =
        values-append (sum_to (poly_ops x r) n w) (w n) j ∙ ap₂ r.add (values-nothing n w j (λ i g. h i (omega arith))) (h n (omega arith)) ∙ c.add_zero r.zero

    module _ (g : Terms E V) (size : ℕ) (basis : ℕ → E) (q : IsQuotient x r k g size basis row) where
      -- the values are 0 on the ideal
      values-ideal : (f : Terms E V) → InIdeal x r k g f → (j : ℕ) → j < size → values_of x r row k f j ≡ r.zero
      values-ideal f i j h =
          values_same f (combination x r i.multiplier g) i.adds_up j
          ∙ values-nothing x.count (λ i'. times x r (i.multiplier i') (derivative x r i' g)) j (λ i' h'.
          values-times (i.multiplier i') (derivative x r i' g) j
          ∙ ap (pair r (i.multiplier i')) (fun_ext λ a. q.zero_on a i' j h' h)
          ∙ Order.pair-zero x l r c (i.multiplier i'))

      values-basis : (v : ℕ → V) (j : ℕ) → j < size → values_of x r row k (of_basis x r size basis v) j ≡ v j
      values-basis v j h =
          values_is (of_basis x r size basis v) j
          ∙ Linear.pair-sum_to x l r c size (λ i. scale x r (v i) (term x r (basis i))) (λ a. cond (leb (degree x a) k) (row a j) r.zero)
          ∙ Sums.sum_to-cong r size (λ i. pair r (scale x r (v i) (term x r (basis i))) (λ a. cond (leb (degree x a) k) (row a j) r.zero)) (λ i. r.mul (v i) (unit_at r i j))
          (λ i g'. Pair.pair-scale x r c (v i) (term x r (basis i)) (λ a. cond (leb (degree x a) k) (row a j) r.zero)
          ∙ ap (r.mul (v i)) (Near.pair-term x l r c s (basis i) (λ a. cond (leb (degree x a) k) (row a j) r.zero) ∙ ap (λ b. cond b (row (basis i) j) r.zero) (le-leb (degree x (basis i)) k (q.low i g')) ∙ q.units i j g' h))
          ∙ Sums.sum_to-unit r c size j v h

      -- a combination of the basis in the ideal has no coefficients
      pub basis_is_free : (v : ℕ → V) → InIdeal x r k g (of_basis x r size basis v) → (j : ℕ) → j < size → v j ≡ r.zero
      basis_is_free v i j h = sym (values-basis v j h) ∙ values-ideal (of_basis x r size basis v) i j h

      -- each polynomial is, modulo the ideal, the combination of the basis with its values
      abbrev rest : Terms E V → Terms E V
      rest f = f ++ (poly_ops x r).neg (of_basis x r size basis (values_of x r row k f))

      ideal_add : (f f' : Terms E V) → InIdeal x r k g f → InIdeal x r k g f' → InIdeal x r k g (f ++ f')
      ideal_add f f' i i' = record {
        multiplier = λ j. i.multiplier j ++ i'.multiplier j;
        adds_up = λ m h.
            Order.coefficient-append x l r c f f' m ∙ ap₂ r.add (i.adds_up m h) (i'.adds_up m h) ∙ sym (Order.coefficient-append x l r c (combination x r i.multiplier g) (combination x r i'.multiplier g) m)
            ∙ sym (Subst.same_from_path x l r c s (combination x r (λ j. i.multiplier j ++ i'.multiplier j) g) (combination x r i.multiplier g ++ combination x r i'.multiplier g) sums m);
      }
        where
          sums : ◌≡◌ {A = Poly x r} (mk (combination x r (λ j. i.multiplier j ++ i'.multiplier j) g)) (mk (combination x r i.multiplier g ++ combination x r i'.multiplier g))
          sums =
              Kept.mk_combination x l r c s (λ j. i.multiplier j ++ i'.multiplier j) g
              ∙ ap (sum_to ring x.count) (fun_ext λ j. Sums.distrib_right ring laws (mk (i.multiplier j)) (mk (i'.multiplier j)) (partial x l r c j (mk g)))
              ∙ Sums.sum_to-add ring laws x.count (λ j. ring.mul (mk (i.multiplier j)) (partial x l r c j (mk g))) (λ j. ring.mul (mk (i'.multiplier j)) (partial x l r c j (mk g)))
              ∙ ap₂ ring.add (sym (Kept.mk_combination x l r c s i.multiplier g)) (sym (Kept.mk_combination x l r c s i'.multiplier g))

      ideal_times : (a f : Terms E V) → InIdeal x r k g f → InIdeal x r k g (times x r a f)
      ideal_times a f i = record {
        multiplier = λ j. times x r a (i.multiplier j);
        adds_up = λ m h.
            Order.times_same_to x l r c k a a f (combination x r i.multiplier g) (λ m h. refl) i.adds_up m h
            ∙ sym (Subst.same_from_path x l r c s (combination x r (λ j. times x r a (i.multiplier j)) g) (times x r a (combination x r i.multiplier g)) sums m);
      }
        where
          sums : ◌≡◌ {A = Poly x r} (mk (combination x r (λ j. times x r a (i.multiplier j)) g)) (mk (times x r a (combination x r i.multiplier g)))
          sums =
              Kept.mk_combination x l r c s (λ j. times x r a (i.multiplier j)) g
              ∙ ap (sum_to ring x.count) (fun_ext λ j. laws.mul_assoc (mk a) (mk (i.multiplier j)) (partial x l r c j (mk g)))
              ∙ Sums.sum_to-mul ring laws x.count (mk a) (λ j. ring.mul (mk (i.multiplier j)) (partial x l r c j (mk g)))
              ∙ ap (ring.mul (mk a)) (sym (Kept.mk_combination x l r c s i.multiplier g))

      ideal_same : (f f' : Terms E V) → SameTo x r k f f' → InIdeal x r k g f → InIdeal x r k g f'
      ideal_same f f' e i = record { multiplier = i.multiplier; adds_up = λ m h. sym (e m h) ∙ i.adds_up m h }

      of_basis-coefficient : (v : ℕ → V) (m : E) → coefficient x r (of_basis x r size basis v) m ≡ sum_to r size (λ j. r.mul (v j) (at_only x r m (basis j)))
      of_basis-coefficient v m =
          Linear.coefficient-sum_to x l r c size (λ j. scale x r (v j) (term x r (basis j))) m
          ∙ ap (sum_to r size) (fun_ext λ j. Pair.coefficient_is x r c (scale x r (v j) (term x r (basis j))) m ∙ Pair.pair-scale x r c (v j) (term x r (basis j)) (at_only x r m) ∙ ap (r.mul (v j)) (Near.pair-term x l r c s (basis j) (at_only x r m)))

      rest-coefficient : (f : Terms E V) (m : E) → coefficient x r (rest f) m ≡ r.add (coefficient x r f m) (r.neg (sum_to r size (λ j. r.mul (values_of x r row k f j) (at_only x r m (basis j)))))
      rest-coefficient f m = Order.coefficient-append x l r c f ((poly_ops x r).neg (of_basis x r size basis (values_of x r row k f))) m
          ∙ ap (r.add (coefficient x r f m)) (Order.coefficient-neg x l r c (of_basis x r size basis (values_of x r row k f)) m ∙ ap r.neg (of_basis-coefficient (values_of x r row k f) m))

      abbrev part : (ℕ → V) → E → V
      part v m = sum_to r size (λ j. r.mul (v j) (at_only x r m (basis j)))

      part-add : (v w : ℕ → V) (m : E) → part (λ j. r.add (v j) (w j)) m ≡ r.add (part v m) (part w m)
      part-add v w m =
          ap (sum_to r size) (fun_ext λ j. Sums.distrib_right r c (v j) (w j) (at_only x r m (basis j)))
          ∙ Sums.sum_to-add r c size (λ j. r.mul (v j) (at_only x r m (basis j))) (λ j. r.mul (w j) (at_only x r m (basis j)))

      part-mul : (b : V) (v : ℕ → V) (m : E) → part (λ j. r.mul b (v j)) m ≡ r.mul b (part v m)
      part-mul b v m =
          ap (sum_to r size) (fun_ext λ j. c.mul_assoc b (v j) (at_only x r m (basis j)))
          ∙ Sums.sum_to-mul r c size b (λ j. r.mul (v j) (at_only x r m (basis j)))

      part-zero : (m : E) → part (λ j. r.zero) m ≡ r.zero
      part-zero m = ap (sum_to r size) (fun_ext λ j. Sums.zero_mul r c (at_only x r m (basis j))) ∙ Sums.sum_to-zero r c size

      coefficient-constant_times : (b : V) (h : Terms E V) (m : E) → coefficient x r (times x r (constant x r b) h) m ≡ r.mul b (coefficient x r h m)
      coefficient-constant_times b h m =
          Order.coefficient-times x l r c (constant x r b) h m
          ∙ c.add_zero (r.mul b (pair r h (λ e. at_only x r m (plus x (none x) e))))
          ∙ ap (r.mul b) (ap (pair r h) (fun_ext λ e. ap (at_only x r m) (ExpLaws.plus_comm x l (none x) e ∙ ExpLaws.plus-none x l e)) ∙ sym (Pair.coefficient_is x r c h m))

      rest_nothing : InIdeal x r k g []
      rest_nothing = record {
        multiplier = λ j. [];
        adds_up = λ m h. sym (Linear.coefficient-sum_to x l r c x.count (λ i. []) m ∙ Sums.sum_to-zero r c x.count);
      }

      rest_one : (t : E × V) → InIdeal x r k g (rest (t ∷ []))
      rest_one t = step (leb (degree x t.0) k) refl
        where
          value : (j : ℕ) → values_of x r row k (t ∷ []) j ≡ r.mul t.1 (cond (leb (degree x t.0) k) (row t.0 j) r.zero)
          value j = values_is (t ∷ []) j ∙ c.add_zero (r.mul t.1 (cond (leb (degree x t.0) k) (row t.0 j) r.zero))

          coefficient-one : (m : E) → coefficient x r (t ∷ []) m ≡ r.mul t.1 (at_only x r m t.0)
          coefficient-one m = Pair.coefficient_is x r c (t ∷ []) m ∙ c.add_zero (r.mul t.1 (at_only x r m t.0))

          step : (b : Bool) → leb (degree x t.0) k ≡ b → InIdeal x r k g (rest (t ∷ []))
          step true e =
              ideal_same (times x r (constant x r t.1) (term x r t.0 ++ (poly_ops x r).neg (of_basis x r size basis (row t.0)))) (rest (t ∷ []))
              (λ m h.
              coefficient-constant_times t.1 (term x r t.0 ++ (poly_ops x r).neg (of_basis x r size basis (row t.0))) m
              ∙ ap (r.mul t.1)
              (Order.coefficient-append x l r c (term x r t.0) ((poly_ops x r).neg (of_basis x r size basis (row t.0))) m
              ∙ ap₂ r.add (Near.coefficient-term x l r c s t.0 m) (Order.coefficient-neg x l r c (of_basis x r size basis (row t.0)) m ∙ ap r.neg (of_basis-coefficient (row t.0) m)))
              ∙ Sums.distrib_left r c t.1 (at_only x r m t.0) (r.neg (part (row t.0) m))
              ∙ ap₂ r.add (sym (coefficient-one m)) (Sums.mul_neg r c t.1 (part (row t.0) m) ∙ ap r.neg (sym (part-mul t.1 (row t.0) m)
              ∙ ap (λ v. part v m) (fun_ext λ j. ap (λ b. r.mul t.1 (cond b (row t.0 j) r.zero)) (sym e) ∙ sym (value j))))
              ∙ sym (rest-coefficient (t ∷ []) m))
              (ideal_times (constant x r t.1) (term x r t.0 ++ (poly_ops x r).neg (of_basis x r size basis (row t.0))) (q.spans t.0 (leb-true (degree x t.0) k e)))
          step false e =
              ideal_same [] (rest (t ∷ []))
              (λ m h. sym
              (rest-coefficient (t ∷ []) m
              ∙ ap₂ r.add
              (coefficient-one m ∙ ap (r.mul t.1) (Order.at_only_high x l r c m t.0 (let z = leb-false (degree x t.0) k e in omega arith)) ∙ Sums.mul_zero r c t.1)
              (ap r.neg (ap (λ v. part v m) (fun_ext λ j. value j ∙ ap (λ b. r.mul t.1 (cond b (row t.0 j) r.zero)) e ∙ Sums.mul_zero r c t.1) ∙ part-zero m) ∙ Sums.neg_zero r c)
              ∙ c.add_zero r.zero))
              rest_nothing

      pub basis_spans : (f : Terms E V) → InIdeal x r k g (rest f)
      basis_spans [] = ideal_same [] (rest []) (λ m h. sym (rest-coefficient [] m ∙ ap (λ z. r.add r.zero (r.neg z)) (part-zero m) ∙ ap (r.add r.zero) (Sums.neg_zero r c) ∙ c.add_zero r.zero)) rest_nothing
      basis_spans (t ∷ f) =
          ideal_same (rest (t ∷ []) ++ rest f) (rest (t ∷ f))
          (λ m h.
          Order.coefficient-append x l r c (rest (t ∷ [])) (rest f) m
          ∙ ap₂ r.add (rest-coefficient (t ∷ []) m) (rest-coefficient f m)
          ∙ Sums.add_swap r c (coefficient x r (t ∷ []) m) (r.neg (part (values_of x r row k (t ∷ [])) m)) (coefficient x r f m) (r.neg (part (values_of x r row k f) m))
          ∙ ap₂ r.add
          (sym (Order.coefficient-append x l r c (t ∷ []) f m))
          (sym (Sums.neg_add r c (part (values_of x r row k (t ∷ [])) m) (part (values_of x r row k f) m))
          ∙ ap r.neg (sym (part-add (values_of x r row k (t ∷ [])) (values_of x r row k f) m) ∙ ap (λ v. part v m) (fun_ext λ j. sym (values-append (t ∷ []) f j))))
          ∙ sym (rest-coefficient (t ∷ f) m))
          (ideal_add (rest (t ∷ [])) (rest f) (rest_one t) (basis_spans f))
