-- Each lead is the sum of its cofactors times the partial derivatives of the form, plus its tail: from the test of the lead times its divisors.
use Rattle.std.proofs.Common.{◌≡◌, ℕ, zero, suc, ℤ, pos, ◌<◌, ◌≤◌, ◌+ℤ◌, ◌*ℤ◌, neg_ℤ, Bool, true, false, cond, List, [], ◌∷◌, ◌++◌, map, get_or, length, refl, sym, ap, ap₂, subst, ◌∙◌, arith}
use Rattle.std.specs.Prelude.{zip, Contains}
use Rattle.std.proofs.lemmas.List.Elements.{Contains-append_left, Contains-append_right}
use Rattle.std.proofs.lemmas.List.Sums.{AllPass-from_list_all}
use Rattle.ring_theory.specs.Ring.{RingOps, IsCommRing}
use Rattle.ring_theory.specs.Rational.{rational}
use Rattle.ring_theory.specs.Scalars.{Scalars, ScalarLaws}
use Rattle.ring_theory.proofs.RationalLaws.{rational_is, add_is, mul_is, unique}
use Rattle.ring_theory.proofs.IntegerLaws.{int_laws}
use Rattle.ring_theory.proofs.RingReify.{by_ring, reify}
use Rattle.poly_law.specs.Sums.{power, multiple, total}
use Rattle.poly_law.specs.Exps.{same}
use Rattle.poly_law.specs.ExpList.{ExpList, exps}
use Rattle.poly_law.specs.Poly.{coefficient, times, scale, derivative, combination, term}
use Rattle.poly_law.specs.Polynomials.{Polynomial}
use Rattle.poly_law.proofs.ExpLists.{exps_are}
use Rattle.poly_law.proofs.Sums
use Rattle.poly_law.proofs.Pair
use Rattle.poly_law.proofs.PolyRing
use Rattle.poly_law.proofs.Order
use Rattle.poly_law.proofs.Linear
use Rattle.jet_law.specs.Canonical.{monomial_in}
use Rattle.ring_formula.specs.Formulas.{multiplied, summand_value, formula_value}
use Rattle.kill_law.specs.declared.lead.Product.{Product}
use Rattle.kill_law.specs.declared.lead.Divisor.{Divisor}
use Rattle.kill_law.specs.declared.lead.Divisor.TheVariants as divisors
use Rattle.kill_law.specs.declared.lead.Entry.{Entry}
use Rattle.kill_law.specs.declared.lead.Lead.{Lead}
use Rattle.kill_law.specs.declared.part.Part.{Part}
use Rattle.kill_law.specs.Table.{row}
use Rattle.kill_law.specs.Kill.{cofactor, tail_of, summand_of, divisor_value, polynomial}
use Rattle.kill_law.specs.Leads.{HasInvertibleDivisors, IsLeadOf, LeadsAreRight}
use Rattle.kill_law.proofs.LeadEquations.{Term, Letters, AreWhole, letter_value, entries_times, with_exponents, entry_times}
use Rattle.kill_law.proofs.LeadEquations as eq
use Rattle.kill_law.proofs.LeadTests.{term_of, one, terms_of, divisors_of, cleared, cleared_lead, form_terms, all_hold, at_most_3}

zip-none : {A V : Type 0} (ks : List A) → zip {X = V} ks [] ≡ []
zip-none [] = refl
zip-none (k ∷ ks) = refl

module _ {V : Type 0} (s : Scalars V) (laws : ScalarLaws s) where
  abbrev r : RingOps V
  r = s.ops

  abbrev c : IsCommRing r
  c = laws.ring

  abbrev num : ℤ → V
  num z = s.rational (rational z 1)

  num-add : (y z : ℤ) → num (y +ℤ z) ≡ r.add (num y) (num z)
  num-add y z = ap s.rational (unique (rational_is (y +ℤ z) 1 (omega arith)) (add_is (rational_is y 1 (omega arith)) (rational_is z 1 (omega arith)))
      (ap (λ w. w *ℤ pos 1) (sym (ap₂ ◌+ℤ◌ (int_laws.mul_one y) (int_laws.mul_one z))))) ∙ laws.embeds.add (rational y 1) (rational z 1)

  num-mul : (y z : ℤ) → num (y *ℤ z) ≡ r.mul (num y) (num z)
  num-mul y z = ap s.rational (unique (rational_is (y *ℤ z) 1 (omega arith)) (mul_is (rational_is y 1 (omega arith)) (rational_is z 1 (omega arith))) refl) ∙ laws.embeds.mul (rational y 1) (rational z 1)

  num-zero : num (pos 0) ≡ r.zero
  num-zero = Sums.add_cancel r c (num (pos 0)) (num (pos 0)) r.zero (sym (num-add (pos 0) (pos 0)) ∙ sym (c.add_zero (num (pos 0))))

  num-neg : (z : ℤ) → num (neg_ℤ z) ≡ r.neg (num z)
  num-neg z = Sums.neg_unique r c (num z) (num (neg_ℤ z)) (sym (num-add z (neg_ℤ z)) ∙ ap num (int_laws.add_neg z) ∙ num-zero)

  num-multiple : (k : ℕ) → multiple r k r.one ≡ num (pos k)
  num-multiple zero = sym num-zero
  num-multiple (suc k) = ap₂ r.add (num-multiple k) (sym laws.embeds.one) ∙ sym (num-add (pos k) (pos 1)) ∙ ap (λ j. num (pos j)) (omega arith)

  whole : AreWhole r num
  whole = record { zero = num-zero; add = num-add; mul = num-mul; neg = num-neg; multiple = num-multiple }

  multiplied-power : (v x : V) (k : ℕ) → multiplied s v x k ≡ r.mul v (power r x k)
  multiplied-power v x zero = sym (c.mul_one v)
  multiplied-power v x (suc k) = ap (λ z. r.mul z x) (multiplied-power v x k) ∙ c.mul_assoc v (power r x k) x

  -- the entries before, between and after, over one divisor
  split : (b : Bool) (number before divisors divisor inverse after rest : V) → r.mul divisor inverse ≡ r.one
      → r.add (r.add (cond b (r.mul (r.mul number (r.mul before (r.mul divisors after))) r.one) r.zero) r.zero) (r.mul (r.mul (r.mul before divisor) (r.mul divisors after)) rest)
      ≡ r.mul (r.mul before (r.mul (r.mul divisor divisors) after)) (r.add (cond b (r.mul number inverse) r.zero) rest)
  split true number before divisors divisor inverse after rest h =
      ap (λ z. r.add (r.add (r.mul (r.mul number (r.mul before (r.mul divisors after))) z) r.zero) (r.mul (r.mul (r.mul before divisor) (r.mul divisors after)) rest)) (sym h)
      ∙ by_ring c (number ∷ before ∷ divisors ∷ divisor ∷ inverse ∷ after ∷ rest ∷ []) (search reify depth 40) tt
  split false number before divisors divisor inverse after rest h = by_ring c (before ∷ divisors ∷ divisor ∷ after ∷ rest ∷ []) (search reify depth 40) tt

  both : (x u y v : V) → r.mul x u ≡ r.one → r.mul y v ≡ r.one → r.mul (r.mul x y) (r.mul u v) ≡ r.one
  both x u y v h k = Sums.mul_swap r c x y u v ∙ ap₂ r.mul h k ∙ c.mul_one r.one

  cancel : (x u y z : V) → r.mul x u ≡ r.one → r.mul x y ≡ r.mul x z → y ≡ z
  cancel x u y z h e =
      sym (c.mul_one y) ∙ ap (r.mul y) (sym h) ∙ by_ring c (x ∷ u ∷ y ∷ []) (search reify depth 20) tt ∙ ap (r.mul u) e ∙ by_ring c (x ∷ u ∷ z ∷ []) (search reify depth 20) tt ∙ ap (r.mul z) h ∙ c.mul_one z

  module _ (a b d : V) where
    abbrev letters : List V
    letters = a ∷ b ∷ d ∷ []

    abbrev l : Letters V
    l = record { a = a; b = b; c = d }

    abbrev value : Term → V
    value = letter_value r num l

    abbrev sum : List Term → V
    sum ts = total r value ts

    summand-value : (m : List ℕ) (p : Product) → summand_value s letters (summand_of p) ≡ value (term_of m p)
    summand-value m p =
        let number = num p.0 in
        let x = power r a (get_or p.1 0 0) in
        let y = power r b (get_or p.1 1 0) in
        let z = power r d (get_or p.1 2 0) in
        multiplied-power (multiplied s (multiplied s number a (get_or p.1 0 0)) b (get_or p.1 1 0)) d (get_or p.1 2 0)
        ∙ ap (λ u. r.mul u z) (multiplied-power (multiplied s number a (get_or p.1 0 0)) b (get_or p.1 1 0) ∙ ap (λ u. r.mul u y) (multiplied-power number a (get_or p.1 0 0)))
        ∙ by_ring c (number ∷ x ∷ y ∷ z ∷ []) (search reify depth 20) tt

    number-value : (p : Product) → formula_value s letters (summand_of p ∷ []) ≡ sum (term_of [] p ∷ [])
    unfolding formula_value
    number-value p = ap (λ z. r.add z r.zero) (summand-value [] p)

    divisor-value : (q : Divisor) → divisor_value s letters q ≡ sum (terms_of q)
    unfolding formula_value
    divisor-value (divisors.One p) = ap (λ z. r.add z r.zero) (summand-value [] p)
    divisor-value (divisors.Two p q) = ap₂ (λ y z. r.add y (r.add z r.zero)) (summand-value [] p) (summand-value [] q)

    sum-term : (e : Term) (fs : List Term) → sum (map (entry_times e) fs) ≡ r.mul (value e) (sum fs)
    sum-term e [] = sym (Sums.mul_zero r c (value e))
    sum-term e (f ∷ fs) = ap₂ r.add (eq.value-times r c num whole l 0 e f) (sum-term e fs) ∙ sym (Sums.distrib_left r c (value e) (value f) (sum fs))

    sum-times : (es fs : List Term) → sum (entries_times es fs) ≡ r.mul (sum es) (sum fs)
    sum-times [] fs = sym (Sums.zero_mul r c (sum fs))
    sum-times (e ∷ es) fs =
        Sums.total-append r c value (map (entry_times e) fs) (entries_times es fs) ∙ ap₂ r.add (sum-term e fs) (sum-times es fs) ∙ sym (c.distrib (value e) (sum es) (sum fs))

    sum-one : sum one ≡ r.one
    sum-one = ap (λ z. r.add (r.mul z (r.mul r.one (r.mul r.one r.one))) r.zero) laws.embeds.one ∙ by_ring c [] (search reify depth 20) tt

    first-letter : r.mul (num (pos 1)) (r.mul (r.mul r.one a) (r.mul r.one r.one)) ≡ a
    first-letter = ap (λ v. r.mul v (r.mul (r.mul r.one a) (r.mul r.one r.one))) laws.embeds.one ∙ by_ring c (a ∷ []) (search reify depth 20) tt

    second-letter : r.mul (num (pos 1)) (r.mul r.one (r.mul (r.mul r.one b) r.one)) ≡ b
    second-letter = ap (λ v. r.mul v (r.mul r.one (r.mul (r.mul r.one b) r.one))) laws.embeds.one ∙ by_ring c (b ∷ []) (search reify depth 20) tt

    third-letter : r.mul (num (pos 1)) (r.mul r.one (r.mul r.one (r.mul r.one d))) ≡ d
    third-letter = ap (λ v. r.mul v (r.mul r.one (r.mul r.one (r.mul r.one d)))) laws.embeds.one ∙ by_ring c (d ∷ []) (search reify depth 20) tt

    -- the divisors of these entries are invertible
    abbrev Inverts : List Entry → Type 0
    Inverts es = (e : Entry) → Contains es e → r.mul (divisor_value s letters e.divisor) (s.inverse (divisor_value s letters e.divisor)) ≡ r.one

    invertible : (es : List Entry) → Inverts es → (u : V) × (r.mul (sum (divisors_of es)) u ≡ r.one)
    invertible [] h = (r.one, c.mul_one (sum one) ∙ sum-one)
    invertible (e ∷ es) h =
        let rest = invertible es (λ f k. h f (Contains-append_right (e ∷ []) es f k)) in
        let v = divisor_value s letters e.divisor in (
          r.mul (s.inverse v) rest.0,
          ap (λ z. r.mul z (r.mul (s.inverse v) rest.0)) (sum-times (terms_of e.divisor) (divisors_of es) ∙ ap (λ z. r.mul z (sum (divisors_of es))) (sym (divisor-value e.divisor)))
              ∙ Sums.mul_swap r c v (sum (divisors_of es)) (s.inverse v) rest.0
              ∙ ap₂ r.mul (h e (Contains-append_left (e ∷ []) es e (0, omega arith, refl))) rest.1
              ∙ c.mul_one r.one,
        )

    module _ (n : ℕ) where
      abbrev P : List Term → Polynomial n V
      P = eq.polynomial r num l n

      abbrev at : Polynomial n V → ExpList n → V
      at f m = coefficient (exps n) r f m

      at-cleared : (m : ExpList n) (es : List Entry) → Inverts es → (before after : List Term)
          → at (P (cleared before after es)) m ≡ r.mul (r.mul (sum before) (r.mul (sum (divisors_of es)) (sum after))) (at (polynomial s letters n es) m)
      at-cleared m [] h before after = sym (Sums.mul_zero r c _)
      at-cleared m (e ∷ es) h before after =
          let ts = entries_times (term_of [] e.number ∷ []) (entries_times before (entries_times (divisors_of es) after)) in
          let v = divisor_value s letters e.divisor in
          let number = formula_value s letters (summand_of e.number ∷ []) in
          let first = sum-times (term_of [] e.number ∷ []) (entries_times before (entries_times (divisors_of es) after))
          ∙ ap₂ r.mul (sym (number-value e.number)) (sum-times before (entries_times (divisors_of es) after) ∙ ap (r.mul (sum before)) (sum-times (divisors_of es) after)) in
          let split_at = same (exps n) (monomial_in n e.monomial) m in
          ap (λ f. at f m) (eq.of_append r c num whole l n (map (with_exponents e.monomial) ts) (cleared (entries_times before (terms_of e.divisor)) after es))
          ∙ Order.coefficient-append (exps n) (exps_are n) r c (P (map (with_exponents e.monomial) ts)) (P (cleared (entries_times before (terms_of e.divisor)) after es)) m
          ∙ ap₂ r.add (eq.of_divisor r c num whole l n e.monomial m ts ∙ ap (λ z. r.add (cond split_at (r.mul z r.one) r.zero) r.zero) first)
          (at-cleared m es (λ f k. h f (Contains-append_right (e ∷ []) es f k)) (entries_times before (terms_of e.divisor)) after
          ∙ ap (λ z. r.mul (r.mul z (r.mul (sum (divisors_of es)) (sum after))) (at (polynomial s letters n es) m))
          (sum-times before (terms_of e.divisor) ∙ ap (r.mul (sum before)) (sym (divisor-value e.divisor))))
          ∙ split split_at number (sum before) (sum (divisors_of es)) v (s.inverse v) (sum after) (at (polynomial s letters n es) m) (h e (Contains-append_left (e ∷ []) es e (0, omega arith, refl)))
          ∙ ap (λ z. r.mul (r.mul (sum before) (r.mul z (sum after))) (at (polynomial s letters n (e ∷ es)) m))
          (ap (λ z. r.mul z (sum (divisors_of es))) (divisor-value e.divisor) ∙ sym (sum-times (terms_of e.divisor) (divisors_of es)))

      at-scale : (v : V) (f : Polynomial n V) (m : ExpList n) → at (scale (exps n) r v f) m ≡ r.mul v (at f m)
      at-scale v f m = Pair.coefficient_is (exps n) r c (scale (exps n) r v f) m ∙ Pair.pair-scale (exps n) r c v f (Pair.at_only (exps n) r m) ∙ ap (r.mul v) (sym (Pair.coefficient_is (exps n) r c f m))

      at-scale_times : (v : V) (f g : Polynomial n V) (m : ExpList n) → at (times (exps n) r (scale (exps n) r v f) g) m ≡ r.mul v (at (times (exps n) r f g) m)
      at-scale_times v f g m =
          Order.coefficient-times (exps n) (exps_are n) r c (scale (exps n) r v f) g m ∙ Pair.pair-scale (exps n) r c v f _ ∙ ap (r.mul v) (sym (Order.coefficient-times (exps n) (exps_are n) r c f g m))

      -- the terms of the form are the form with the letters
      form-is : (form : List (List ℕ)) → P (form_terms 0 form) ≡ zip (map (monomial_in n) form) letters
      form-is [] = refl
      form-is (m ∷ []) = ap (λ x. (monomial_in n m, x) ∷ []) first-letter
      form-is (m ∷ k ∷ []) = ap₂ (λ x y. (monomial_in n m, x) ∷ (monomial_in n k, y) ∷ []) first-letter second-letter
      form-is (m ∷ k ∷ j ∷ rest) =
          ap₂ (λ x f. (monomial_in n m, x) ∷ f) first-letter (ap₂ (λ y z. (monomial_in n k, y) ∷ (monomial_in n j, z) ∷ []) second-letter third-letter)
          ∙ ap (λ f. (monomial_in n m, a) ∷ (monomial_in n k, b) ∷ (monomial_in n j, d) ∷ f) (sym (zip-none (map (monomial_in n) rest)))

      module _ (lead : Lead) (h : HasInvertibleDivisors s letters lead) where
        abbrev c0 : List Entry
        c0 = cofactor lead 0

        abbrev c1 : List Entry
        c1 = cofactor lead 1

        abbrev c2 : List Entry
        c2 = cofactor lead 2

        abbrev ct : List Entry
        ct = tail_of lead

        inverts0 : Inverts c0
        inverts0 e k = h e (Contains-append_left (c0 ++ c1 ++ c2) ct e (Contains-append_left (c0 ++ c1) c2 e (Contains-append_left c0 c1 e k)))

        inverts1 : Inverts c1
        inverts1 e k = h e (Contains-append_left (c0 ++ c1 ++ c2) ct e (Contains-append_left (c0 ++ c1) c2 e (Contains-append_right c0 c1 e k)))

        inverts2 : Inverts c2
        inverts2 e k = h e (Contains-append_left (c0 ++ c1 ++ c2) ct e (Contains-append_right (c0 ++ c1) c2 e k))

        inverts3 : Inverts ct
        inverts3 e k = h e (Contains-append_right (c0 ++ c1 ++ c2) ct e k)

        abbrev x : V
        x = sum (divisors_of c0)

        abbrev y : V
        y = sum (divisors_of c1)

        abbrev z : V
        z = sum (divisors_of c2)

        abbrev t : V
        t = sum (divisors_of ct)

        -- the product of all divisors
        abbrev all : V
        all = r.mul x (r.mul y (r.mul z t))

        all-is : sum (cleared_lead lead).divisor ≡ all
        all-is = sum-times (divisors_of c0) _ ∙ ap (r.mul x) (sum-times (divisors_of c1) _ ∙ ap (r.mul y) (sum-times (divisors_of c2) (divisors_of ct)))

        collected : (i : ℕ) → i < 3 → (m : ExpList n) → at (P (get_or (cleared_lead lead).collected i [])) m ≡ r.mul all (at (polynomial s letters n (cofactor lead i)) m)
        collected zero i m =
            at-cleared m c0 inverts0 one (entries_times (divisors_of c1) (entries_times (divisors_of c2) (divisors_of ct)))
            ∙ ap (λ v. r.mul v (at (polynomial s letters n c0) m))
            (ap₂ (λ u v. r.mul u (r.mul x v)) sum-one (sum-times (divisors_of c1) _ ∙ ap (r.mul y) (sum-times (divisors_of c2) (divisors_of ct)))
            ∙ by_ring c (x ∷ y ∷ z ∷ t ∷ []) (search reify depth 20) tt)
        collected (suc zero) i m =
            at-cleared m c1 inverts1 (divisors_of c0) (entries_times (divisors_of c2) (divisors_of ct))
            ∙ ap (λ v. r.mul v (at (polynomial s letters n c1) m)) (ap (λ v. r.mul x (r.mul y v)) (sum-times (divisors_of c2) (divisors_of ct)))
        collected (suc (suc zero)) i m =
            at-cleared m c2 inverts2 (entries_times (divisors_of c0) (divisors_of c1)) (divisors_of ct)
            ∙ ap (λ v. r.mul v (at (polynomial s letters n c2) m))
            (ap (λ v. r.mul v (r.mul z t)) (sum-times (divisors_of c0) (divisors_of c1)) ∙ c.mul_assoc x y (r.mul z t))
        collected (suc (suc (suc i))) h m = absurd (omega arith)

        tail : (m : ExpList n) → at (P (cleared_lead lead).tail) m ≡ r.mul all (at (polynomial s letters n ct) m)
        tail m =
            at-cleared m ct inverts3 (entries_times (divisors_of c0) (entries_times (divisors_of c1) (divisors_of c2))) one
            ∙ ap (λ v. r.mul v (at (polynomial s letters n ct) m))
            (ap₂ (λ u v. r.mul u (r.mul t v)) (sum-times (divisors_of c0) _ ∙ ap (r.mul x) (sum-times (divisors_of c1) (divisors_of c2))) sum-one
            ∙ by_ring c (x ∷ y ∷ z ∷ t ∷ []) (search reify depth 20) tt)

        inverse : (u : V) × (r.mul all u ≡ r.one)
        inverse =
            let u0 = invertible c0 inverts0 in
            let u1 = invertible c1 inverts1 in
            let u2 = invertible c2 inverts2 in
            let u3 = invertible ct inverts3 in (
              r.mul u0.0 (r.mul u1.0 (r.mul u2.0 u3.0)),
              both x u0.0 (r.mul y (r.mul z t)) (r.mul u1.0 (r.mul u2.0 u3.0)) u0.1 (both y u1.0 (r.mul z t) (r.mul u2.0 u3.0) u1.1 (both z u2.0 t u3.0 u2.1 u3.1)),
            )

        holds : n ≤ 3 → (form : List (List ℕ)) → eq.lead_holds n (form_terms 0 form) (cleared_lead lead) ≡ true → IsLeadOf s letters n (zip (map (monomial_in n) form) letters) lead
        holds small form test m =
            let f = zip (map (monomial_in n) form) letters in
            let d : ℕ → Polynomial n V = λ i. derivative (exps n) r i f in
            let whole_equation = eq.lead_equation r c num whole l n (form_terms 0 form) (cleared_lead lead) test m in
            let left = ap (λ v. r.mul v (at (term (exps n) r (monomial_in n lead.monomial)) m)) (sym all-is)
            ∙ sym (at-scale (sum (cleared_lead lead).divisor) (term (exps n) r (monomial_in n lead.monomial)) m) in
            let right = ap (λ g. at (combination (exps n) r (λ i. P (get_or (cleared_lead lead).collected i [])) g ++ P (cleared_lead lead).tail) m) (form-is form) in
            let each = Linear.coefficient-sum_to (exps n) (exps_are n) r c n (λ i. times (exps n) r (P (get_or (cleared_lead lead).collected i [])) (d i)) m
            ∙ Sums.sum_to-cong r n (λ i. at (times (exps n) r (P (get_or (cleared_lead lead).collected i [])) (d i)) m) (λ i. r.mul all (at (times (exps n) r (polynomial s letters n (cofactor lead i)) (d i)) m))
            (λ i k.
            PolyRing.times_left (exps n) (exps_are n) r c (P (get_or (cleared_lead lead).collected i [])) (scale (exps n) r all (polynomial s letters n (cofactor lead i))) (d i)
            (λ e. collected i (omega arith) e ∙ sym (at-scale all (polynomial s letters n (cofactor lead i)) e)) m
            ∙ at-scale_times all (polynomial s letters n (cofactor lead i)) (d i) m)
            ∙ Sums.sum_to-mul r c n all (λ i. at (times (exps n) r (polynomial s letters n (cofactor lead i)) (d i)) m)
            ∙ ap (r.mul all) (sym (Linear.coefficient-sum_to (exps n) (exps_are n) r c n (λ i. times (exps n) r (polynomial s letters n (cofactor lead i)) (d i)) m)) in
            let sum_of_both = Order.coefficient-append (exps n) (exps_are n) r c (combination (exps n) r (λ i. P (get_or (cleared_lead lead).collected i [])) f) (P (cleared_lead lead).tail) m
            ∙ ap₂ r.add each (tail m)
            ∙ sym (Sums.distrib_left r c all (at (combination (exps n) r (λ i. polynomial s letters n (cofactor lead i)) f) m) (at (polynomial s letters n ct) m))
            ∙ ap (r.mul all) (sym (Order.coefficient-append (exps n) (exps_are n) r c (combination (exps n) r (λ i. polynomial s letters n (cofactor lead i)) f) (polynomial s letters n ct) m)) in
            cancel all inverse.0 (at (term (exps n) r (monomial_in n lead.monomial)) m) (at (combination (exps n) r (λ i. polynomial s letters n (cofactor lead i)) f ++ polynomial s letters n ct) m) inverse.1
            (left ∙ whole_equation ∙ right ∙ sum_of_both)

  test : (p : Part) (lead : Lead) → Contains (row p).leads lead → eq.lead_holds (length (row p).weights) (form_terms 0 (row p).form) (cleared_lead lead) ≡ true
  test p lead k =
      let holds_at : Lead → Bool = λ e. eq.lead_holds (length (row p).weights) (form_terms 0 (row p).form) (cleared_lead e) in
      subst (λ e. holds_at e ≡ true) k.2 (AllPass-from_list_all holds_at (row p).leads (all_hold p) k.0 lead k.1)

  pub leads_are_right : LeadsAreRight s
  leads_are_right p lead k a b d h = holds a b d (length (row p).weights) lead h (at_most_3 p) (row p).form (test p lead k)
