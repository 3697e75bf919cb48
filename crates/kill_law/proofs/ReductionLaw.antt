-- A reduction changes a form by multiples of partial derivatives: step by step, from the equations of the leads.
use Rattle.std.proofs.Common.{◌≡◌, ℕ, zero, suc, ◌+◌, ◌-◌, inl, inr, Bool, true, false, cond, leb, List, [], ◌∷◌, ◌++◌, map, flat_map, get_or, length, refl, sym, ap, ap₂, subst, ◌∙◌, append-nil, arith}
use Rattle.std.specs.Prelude.{Option, Some, None, Contains}
use Rattle.std.proofs.lemmas.Bool.{leb-true}
use Rattle.ring_theory.specs.Ring.{RingOps, IsCommRing}
use Rattle.ring_theory.specs.Scalars.{Scalars, ScalarLaws}
use Rattle.ring_theory.proofs.RingReify.{by_ring, reify}
use Rattle.poly_law.specs.Exps.{plus, same}
use Rattle.poly_law.specs.ExpList.{ExpList, exps}
use Rattle.poly_law.specs.Poly.{coefficient, times, times_term, derivative, combination, term, poly_ops}
use Rattle.poly_law.specs.Polynomials.{Polynomial}
use Rattle.poly_law.proofs.ExpLists.{exps_are}
use Rattle.poly_law.proofs.ExpLaws
use Rattle.poly_law.proofs.Sums
use Rattle.poly_law.proofs.Pair
use Rattle.poly_law.proofs.Pair.{pair, at_only}
use Rattle.poly_law.proofs.PolyRing
use Rattle.poly_law.proofs.Order
use Rattle.poly_law.proofs.Linear
use Rattle.mono_exp.specs.Exponents.{is_before}
use Rattle.mono_exp.proofs.Counting.{before_or_after}
use Rattle.jet_law.specs.Canonical.{monomial_in}
use Rattle.kill_law.specs.declared.lead.Entry.{Entry}
use Rattle.kill_law.specs.declared.lead.Lead.{Lead}
use Rattle.kill_law.specs.Table.{row}
use Rattle.kill_law.specs.Kill.{divides, quotient, first, first_lead, cofactor, tail_of, polynomial}
use Rattle.kill_law.specs.Leads.{form_of, IsLeadOf}
use Rattle.kill_law.specs.Taken.{Step, step_at, first_step, unless_zero, put, put_all, term_of, left_by, steps_of, steps_from, taken_by}
use Rattle.kill_law.specs.Reductions.{left_from, left_of, taken, ReductionsAreRight}
use Rattle.kill_law.proofs.LeadLaw

pub some_inj : {A : Type 0} {x y : A} → Some x ≡ Some y → x ≡ y
some_inj q = cc q

-- ---- the lead that divides

module _ {n : ℕ} where
  -- a monomial is the product of its quotient and what divides it
  pub quotient-plus : (m d : ExpList n) → divides n d m ≡ true → plus (exps n) (quotient n m d) d ≡ m
  quotient-plus m d h = (exps_are n).same_at (plus (exps n) (quotient n m d) d) m λ i g.
      let le = leb-true (get_or d.entries i 0) (get_or m.entries i 0) (ExpLaws.all_to_at n (λ i. leb (get_or d.entries i 0) (get_or m.entries i 0)) h i g) in
      ExpLaws.at-plus (exps n) (exps_are n) (quotient n m d) d i g
      ∙ ap (λ z. z + get_or d.entries i 0) ((exps_are n).at_make (λ i. get_or m.entries i 0 - get_or d.entries i 0) i g)
      ∙ omega arith

  -- the first lead divides, and is one of the leads
  pub record IsFound (leads : List Lead) (m : ExpList n) (l : Lead) : Type 0 where
    pub divides_m : divides n (monomial_in n l.monomial) m ≡ true
    pub among : Contains leads l

  pub found : (leads : List Lead) (m : ExpList n) (l : Lead) → first_lead n leads m ≡ Some l → IsFound leads m l
  found [] m l h = let bad : ⊥ = cc h in absurd bad
  found (k ∷ leads) m l h = step (divides n (monomial_in n k.monomial) m) refl (found leads m l) h
    where
      step : (b : Bool) → divides n (monomial_in n k.monomial) m ≡ b → (first_lead n leads m ≡ Some l → IsFound leads m l) → cond b (Some k) (first_lead n leads m) ≡ Some l → IsFound (k ∷ leads) m l
      step true q rest e = record { divides_m = subst (λ z. divides n (monomial_in n z.monomial) m ≡ true) (some_inj e) q; among = (0, omega arith, some_inj e) }
      step false q rest e = let r = rest e in record { divides_m = r.divides_m; among = (suc r.among.0, (let g = r.among.1 in omega arith), r.among.2) }

module _ {V : Type 0} (s : Scalars V) (laws : ScalarLaws s) where
  abbrev r : RingOps V
  r = s.ops

  abbrev c : IsCommRing r
  c = laws.ring

  joined : (b : Bool) (u v x : V) → r.add (cond b (r.add u v) r.zero) x ≡ r.add (cond b v r.zero) (r.add (cond b u r.zero) x)
  joined true u v x = by_ring c (u ∷ v ∷ x ∷ []) (search reify depth 20) tt
  joined false u v x = by_ring c (x ∷ []) (search reify depth 20) tt

  module _ {n : ℕ} where
    abbrev at : Polynomial n V → ExpList n → V
    at f m = coefficient (exps n) r f m

    -- the coefficient of one term
    abbrev one : ExpList n × V → ExpList n → V
    one t m = cond (same (exps n) t.0 m) t.1 r.zero

    -- ---- a term that is put in its place

    unless : (t : ExpList n × V) (h : Polynomial n V) (m : ExpList n) → at (unless_zero s t h) m ≡ r.add (one t m) (at h m)
    unless t h m = step (s.is_zero t.1) refl
      where
        nothing : (b : Bool) → t.1 ≡ r.zero → r.zero ≡ cond b t.1 r.zero
        nothing true e = sym e
        nothing false e = refl

        step : (b : Bool) → s.is_zero t.1 ≡ b → at (cond b h (t ∷ h)) m ≡ r.add (one t m) (at h m)
        step true q = sym (Sums.zero_add r c (at h m)) ∙ ap (λ z. r.add z (at h m)) (nothing (same (exps n) t.0 m) ((laws.zero_test t.1).0 q))
        step false q = refl

    puts : (t : ExpList n × V) (h : Polynomial n V) (m : ExpList n) → at (put s t h) m ≡ r.add (one t m) (at h m)
    puts t [] m = unless t [] m
    puts t (u ∷ h) m = first_test (is_before u.0.entries t.0.entries) refl (puts t h m)
      where
        equal : is_before u.0.entries t.0.entries ≡ false → is_before t.0.entries u.0.entries ≡ false → u.0 ≡ t.0
        equal p q = elim (before_or_after u.0.entries t.0.entries (u.0.long ∙ sym t.0.long)) [
          | inl e ↦ (exps_are n).same_at u.0 t.0 (λ i g. ap (λ z. get_or z i 0) e)
          | inr o ↦ elim o [
            | inl e ↦ let bad : ⊥ = cc (p, e) in absurd bad
            | inr e ↦ let bad : ⊥ = cc (q, e) in absurd bad
          ]
        ]

        second_test : (b : Bool) → is_before t.0.entries u.0.entries ≡ b → is_before u.0.entries t.0.entries ≡ false
            → at (cond b (unless_zero s t (u ∷ h)) (unless_zero s (u.0, r.add u.1 t.1) h)) m ≡ r.add (one t m) (at (u ∷ h) m)
        second_test true q p = unless t (u ∷ h) m
        second_test false q p =
            unless (u.0, r.add u.1 t.1) h m ∙ joined (same (exps n) u.0 m) u.1 t.1 (at h m)
            ∙ ap (λ z. r.add (cond (same (exps n) z m) t.1 r.zero) (r.add (one u m) (at h m))) (equal p q)

        first_test : (b : Bool) → is_before u.0.entries t.0.entries ≡ b → at (put s t h) m ≡ r.add (one t m) (at h m)
            → at (cond b (u ∷ put s t h) (cond (is_before t.0.entries u.0.entries) (unless_zero s t (u ∷ h)) (unless_zero s (u.0, r.add u.1 t.1) h))) m ≡ r.add (one t m) (at (u ∷ h) m)
        first_test true q rest = ap (r.add (one u m)) rest ∙ Sums.add_left_comm r c (one u m) (one t m) (at h m)
        first_test false q rest = second_test (is_before t.0.entries u.0.entries) refl q

    puts_all : (ts h : Polynomial n V) (m : ExpList n) → at (put_all s ts h) m ≡ r.add (at ts m) (at h m)
    puts_all [] h m = sym (Sums.zero_add r c (at h m))
    puts_all (t ∷ ts) h m = puts t (put_all s ts h) m ∙ ap (r.add (one t m)) (puts_all ts h m) ∙ sym (c.add_assoc (one t m) (at ts m) (at h m))

    -- ---- the step that is found

    -- a step of h: its term is one of h beside the others, and its lead one of the leads
    record IsStep (leads : List Lead) (h : Polynomial n V) (u : Step n V × Polynomial n V) : Type 0 where
      among : Contains leads u.0.lead
      splits : (m : ExpList n) → at h m ≡ r.add (one (plus (exps n) u.0.rest (monomial_in n u.0.lead.monomial), u.0.coefficient) m) (at u.1 m)

    is_step : (leads : List Lead) (h : Polynomial n V) (u : Step n V × Polynomial n V) → first_step leads h ≡ Some u → IsStep leads h u
    is_step leads [] u e = let bad : ⊥ = cc e in absurd bad
    is_step leads (t ∷ h) u e = here (first_lead n leads t.0) refl (first_step leads h) refl (is_step leads h) e
      where
        here : (o : Option Lead) → first_lead n leads t.0 ≡ o → (later : Option (Step n V × Polynomial n V)) → first_step leads h ≡ later
            → ((u : Step n V × Polynomial n V) → first_step leads h ≡ Some u → IsStep leads h u) → step_at t h later o ≡ Some u → IsStep leads (t ∷ h) u
        here (Some l) q later p rest e =
            let f = found leads t.0 l q in
            subst (IsStep leads (t ∷ h)) (some_inj e) (record {
              among = f.among;
              splits = λ m. ap (λ z. r.add (one (z, t.1) m) (at h m)) (sym (quotient-plus t.0 (monomial_in n l.monomial) f.divides_m));
            })
        here None q None p rest e = let bad : ⊥ = cc e in absurd bad
        here None q (Some v) p rest e =
            let i = rest v p in
            subst (IsStep leads (t ∷ h)) (some_inj e) (record {
              among = i.among;
              splits = λ m. ap (r.add (one t m)) (i.splits m) ∙ Sums.add_left_comm r c (one t m) (one (plus (exps n) v.0.rest (monomial_in n v.0.lead.monomial), v.0.coefficient) m) (at v.1 m);
            })

    -- ---- what one step changes

    module _ (letters : List V) (form : Polynomial n V) where
      abbrev d : ℕ → Polynomial n V
      d i = derivative (exps n) r i form

      -- the value at a of the coefficient at m of rest*a
      abbrev shifted : ExpList n → ExpList n → ExpList n → V
      shifted rest m a = at_only (exps n) r m (plus (exps n) rest a)

      at-times_term : (t : ExpList n × V) (f : Polynomial n V) (m : ExpList n) → at (times_term (exps n) r t f) m ≡ r.mul t.1 (pair r f (shifted t.0 m))
      at-times_term t f m =
          ap (λ g. at g m) (sym (append-nil (times_term (exps n) r t f))) ∙ Pair.coefficient_is (exps n) r c (times (exps n) r (t ∷ []) f) m ∙ Pair.pair-times (exps n) r c (t ∷ []) f (at_only (exps n) r m) ∙ c.add_zero _

      -- the terms of a step
      terms-are : (u : Step n V) (es : List Entry) → map (term_of s letters u) es ≡ times_term (exps n) r (u.rest, u.coefficient) (polynomial s letters n es)
      terms-are u [] = refl
      terms-are u (e ∷ es) = ap (λ f. term_of s letters u e ∷ f) (terms-are u es)

      taken-are : (u : Step n V) (es : List Entry) → map (λ e. ((term_of s letters u e).0, r.neg (term_of s letters u e).1)) es ≡ (poly_ops (exps n) r).neg (times_term (exps n) r (u.rest, u.coefficient) (polynomial s letters n es))
      taken-are u [] = refl
      taken-are u (e ∷ es) = ap (λ f. ((term_of s letters u e).0, r.neg (term_of s letters u e).1) ∷ f) (taken-are u es)

      at-times_neg : (f g : Polynomial n V) (m : ExpList n) → at (times (exps n) r ((poly_ops (exps n) r).neg f) g) m ≡ r.neg (at (times (exps n) r f g) m)
      at-times_neg f g m =
          Order.coefficient-times (exps n) (exps_are n) r c ((poly_ops (exps n) r).neg f) g m ∙ Pair.pair-neg (exps n) r c f _ ∙ ap r.neg (sym (Order.coefficient-times (exps n) (exps_are n) r c f g m))

      at-term_times : (t : ExpList n × V) (f g : Polynomial n V) (m : ExpList n) → at (times (exps n) r (times_term (exps n) r t f) g) m ≡ r.mul t.1 (pair r (times (exps n) r f g) (shifted t.0 m))
      at-term_times t f g m =
          ap (λ z. at (times (exps n) r z g) m) (sym (append-nil (times_term (exps n) r t f)))
          ∙ PolyRing.times_assoc (exps n) (exps_are n) r c (t ∷ []) f g m
          ∙ ap (λ z. at z m) (append-nil (times_term (exps n) r t (times (exps n) r f g)))
          ∙ at-times_term t (times (exps n) r f g) m

      -- what is taken from the variables times the partial derivatives
      at-taken : (u : Step n V) (m : ExpList n) → at (combination (exps n) r (λ i. taken_by s letters i u) form) m
          ≡ r.neg (r.mul u.coefficient (pair r (combination (exps n) r (λ i. polynomial s letters n (cofactor u.lead i)) form) (shifted u.rest m)))
      at-taken u m =
          let of_cofactor : ℕ → Polynomial n V = λ i. polynomial s letters n (cofactor u.lead i) in
          let value : ℕ → V = λ i. pair r (times (exps n) r (of_cofactor i) (d i)) (shifted u.rest m) in
          Linear.coefficient-sum_to (exps n) (exps_are n) r c n (λ i. times (exps n) r (taken_by s letters i u) (d i)) m
          ∙ Sums.sum_to-cong r n (λ i. at (times (exps n) r (taken_by s letters i u) (d i)) m) (λ i. r.neg (r.mul u.coefficient (value i))) (λ i g.
          ap (λ f. at (times (exps n) r f (d i)) m) (taken-are u (cofactor u.lead i))
          ∙ at-times_neg (times_term (exps n) r (u.rest, u.coefficient) (of_cofactor i)) (d i) m
          ∙ ap r.neg (at-term_times (u.rest, u.coefficient) (of_cofactor i) (d i) m))
          ∙ Sums.sum_to-neg r c n (λ i. r.mul u.coefficient (value i))
          ∙ ap r.neg (Sums.sum_to-mul r c n u.coefficient value ∙ ap (r.mul u.coefficient) (sym (Linear.pair-sum_to (exps n) (exps_are n) r c n (λ i. times (exps n) r (of_cofactor i) (d i)) (shifted u.rest m))))

      less : (v x y z : V) → x ≡ r.add y z → r.add (r.mul v x) (r.neg (r.mul v y)) ≡ r.mul v z
      less v x y z e = ap (λ q. r.add (r.mul v q) (r.neg (r.mul v y))) e ∙ by_ring c (v ∷ y ∷ z ∷ []) (search reify depth 20) tt

      -- the term of a step and what it takes are its tail
      step-changes : (u : Step n V) → IsLeadOf s letters n form u.lead → (m : ExpList n)
          → r.add (one (plus (exps n) u.rest (monomial_in n u.lead.monomial), u.coefficient) m) (at (combination (exps n) r (λ i. taken_by s letters i u) form) m) ≡ at (map (term_of s letters u) (tail_of u.lead)) m
      step-changes u lead m =
          let l = monomial_in n u.lead.monomial in
          let w = shifted u.rest m in
          let sum = combination (exps n) r (λ i. polynomial s letters n (cofactor u.lead i)) form in
          let tail = polynomial s letters n (tail_of u.lead) in
          let is_same = same (exps n) (plus (exps n) u.rest l) m in
          ap₂ r.add
          (ap (λ z. cond is_same z r.zero) (sym (c.mul_one u.coefficient)) ∙ sym (c.add_zero (cond is_same (r.mul u.coefficient r.one) r.zero)) ∙ at-times_term (u.rest, u.coefficient) (term (exps n) r l) m)
          (at-taken u m)
          ∙ less u.coefficient (pair r (term (exps n) r l) w) (pair r sum w) (pair r tail w) (Pair.pair_same (exps n) (exps_are n) r c (term (exps n) r l) (sum ++ tail) lead w ∙ Pair.pair-append r c sum tail w)
          ∙ sym (ap (λ f. at f m) (terms-are u (tail_of u.lead)) ∙ at-times_term (u.rest, u.coefficient) tail m)

      nothing_taken : (m : ExpList n) → at (combination (exps n) r (λ i. []) form) m ≡ r.zero
      nothing_taken m = Linear.coefficient-sum_to (exps n) (exps_are n) r c n (λ i. []) m ∙ Sums.sum_to-zero r c n

      both_taken : (f g : ℕ → Polynomial n V) (m : ExpList n) → at (combination (exps n) r (λ i. f i ++ g i) form) m ≡ r.add (at (combination (exps n) r f form) m) (at (combination (exps n) r g form) m)
      both_taken f g m =
          Linear.coefficient-sum_to (exps n) (exps_are n) r c n (λ i. times (exps n) r (f i ++ g i) (d i)) m
          ∙ Sums.sum_to-cong r n (λ i. at (times (exps n) r (f i ++ g i) (d i)) m) (λ i. r.add (at (times (exps n) r (f i) (d i)) m) (at (times (exps n) r (g i) (d i)) m)) (λ i k.
          PolyRing.append_times (exps n) (exps_are n) r c (f i) (g i) (d i) m ∙ Order.coefficient-append (exps n) (exps_are n) r c (times (exps n) r (f i) (d i)) (times (exps n) r (g i) (d i)) m)
          ∙ Sums.sum_to-add r c n (λ i. at (times (exps n) r (f i) (d i)) m) (λ i. at (times (exps n) r (g i) (d i)) m)
          ∙ sym (ap₂ r.add (Linear.coefficient-sum_to (exps n) (exps_are n) r c n (λ i. times (exps n) r (f i) (d i)) m) (Linear.coefficient-sum_to (exps n) (exps_are n) r c n (λ i. times (exps n) r (g i) (d i)) m))

      regrouped : (t others first later tail : V) → r.add t first ≡ tail → r.add (r.add t others) (r.add first later) ≡ r.add (r.add tail others) later
      regrouped t others first later tail e = by_ring c (t ∷ others ∷ first ∷ later ∷ []) (search reify depth 20) tt ∙ ap (λ z. r.add (r.add z others) later) e

      -- ---- all steps

      module _ (leads : List Lead) (right : (l : Lead) → Contains leads l → IsLeadOf s letters n form l) where
        reduces : (k : ℕ) (h : Polynomial n V) (m : ExpList n) → at (h ++ combination (exps n) r (taken s letters k leads h) form) m ≡ at (left_of s letters k leads h) m
        reduces zero h m = Order.coefficient-append (exps n) (exps_are n) r c h (combination (exps n) r (λ i. []) form) m ∙ ap (r.add (at h m)) (nothing_taken m) ∙ c.add_zero (at h m)
        reduces (suc k) h m = step (first_step leads h) refl (λ h. reduces k h m)
          where
            step : (o : Option (Step n V × Polynomial n V)) → first_step leads h ≡ o → ((h : Polynomial n V) → at (h ++ combination (exps n) r (taken s letters k leads h) form) m ≡ at (left_of s letters k leads h) m)
                → at (h ++ combination (exps n) r (λ i. flat_map (λ u. taken_by s letters i u.0) (steps_from s letters (steps_of s letters k leads) o)) form) m ≡ at (left_from s letters (left_of s letters k leads) h o) m
            step None q rest = Order.coefficient-append (exps n) (exps_are n) r c h (combination (exps n) r (λ i. []) form) m ∙ ap (r.add (at h m)) (nothing_taken m) ∙ c.add_zero (at h m)
            step (Some u) q rest =
                let i = is_step leads h u q in
                let first : ℕ → Polynomial n V = λ i. taken_by s letters i u.0 in
                let later : ℕ → Polynomial n V = taken s letters k leads (left_by s letters u) in
                let term = one (plus (exps n) u.0.rest (monomial_in n u.0.lead.monomial), u.0.coefficient) m in
                let tail = map (term_of s letters u.0) (tail_of u.0.lead) in
                Order.coefficient-append (exps n) (exps_are n) r c h (combination (exps n) r (λ i. first i ++ later i) form) m
                ∙ ap₂ r.add (i.splits m) (both_taken first later m)
                ∙ regrouped term (at u.1 m) (at (combination (exps n) r first form) m) (at (combination (exps n) r later form) m) (at tail m) (step-changes u.0 (right u.0.lead i.among) m)
                ∙ ap (λ z. r.add z (at (combination (exps n) r later form) m)) (sym (puts_all tail u.1 m))
                ∙ sym (Order.coefficient-append (exps n) (exps_are n) r c (left_by s letters u) (combination (exps n) r later form) m)
                ∙ rest (left_by s letters u)

  pub reductions_are_right : ReductionsAreRight s
  reductions_are_right p a b d units k h m =
      reduces (a ∷ b ∷ d ∷ []) (form_of s (a ∷ b ∷ d ∷ []) (length (row p).weights) p) (row p).leads (λ l g. LeadLaw.leads_are_right s laws p l g a b d (units l g)) k h m
