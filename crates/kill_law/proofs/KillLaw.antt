-- What a kill move leaves of a polynomial: below its grade all is unchanged, and in the grade no monomial that a lead divides is left. Taylor's first order says what the
-- move does in the grade, the law of reductions what this leaves, and the end of reductions that no lead divides it.
use Rattle.std.proofs.Common.{◌≡◌, ℕ, zero, suc, ◌+◌, ◌-◌, ◌*◌, ◌<◌, ◌≤◌, ◌⊎◌, inl, inr, Bool, true, false, not, ◌&&◌, cond, eqb, eqb-true, eq-eqb, List, [], ◌∷◌, ◌++◌, map, flat_map, get_or, length, drop, refl, sym, ap, ap₂, subst, ◌∙◌, arith}
use Rattle.std.specs.Prelude.{Option, Some, None, Contains, All, filter, zip}
use Rattle.std.specs.List.{list_all, AllByRecursion}
use Rattle.std.proofs.lemmas.List.{map-append}
use Rattle.std.proofs.lemmas.List.Sums.{AllPass-from_list_all}
use Rattle.ring_theory.specs.Ring.{RingOps, IsCommRing}
use Rattle.ring_theory.specs.Scalars.{Scalars, ScalarLaws}
use Rattle.poly_law.specs.Sums.{multiple}
use Rattle.poly_law.specs.Exps.{plus, variable, lower, all_to, same}
use Rattle.poly_law.specs.ExpList.{ExpList, exps}
use Rattle.poly_law.specs.Poly.{coefficient, times, derivative, combination, Same, subst_in}
use Rattle.poly_law.specs.Polynomials.{Polynomial}
use Rattle.poly_law.proofs.ExpLists.{exps_are}
use Rattle.poly_law.proofs.ExpLaws
use Rattle.poly_law.proofs.Sums
use Rattle.poly_law.proofs.PolyRing
use Rattle.poly_law.proofs.Derivative
use Rattle.poly_law.proofs.Order
use Rattle.poly_law.proofs.Linear
use Rattle.mono_exp.specs.Exponents.{is_before, weighted_degree_of}
use Rattle.jet_law.specs.Canonical.{monomial_in}
use Rattle.kill_law.specs.declared.lead.Entry.{Entry}
use Rattle.kill_law.specs.declared.lead.Lead.{Lead}
use Rattle.kill_law.specs.declared.part.Part.{Part}
use Rattle.kill_law.specs.declared.part.Part.TheVariants as parts
use Rattle.kill_law.specs.Table.{row}
use Rattle.kill_law.specs.Kill.{divides, quotient, first_lead, cofactor, tail_of}
use Rattle.kill_law.specs.Leads.{form_of}
use Rattle.kill_law.specs.Taken.{Step, step_at, first_step, unless_zero, put, put_all, term_of, left_by, steps_of, steps_from, taken_by, is_of_grade, terms_of_grade}
use Rattle.kill_law.specs.Reductions.{left_of, taken, KillsLeaveReduced}
use Rattle.kill_law.proofs.ReductionLaw
use Rattle.kill_law.proofs.LeadEquations.{and_left, and_right}
use Rattle.kill_law.proofs.ReductionLaw.{quotient-plus, found, some_inj}
use Rattle.kill_law.proofs.ChainLaw
use Rattle.kill_law.proofs.Taylor
use Rattle.kill_law.proofs.Taylor.{AllFrom}

passes : {A : Type 0} (p : A → Bool) (xs : List A) (x : A) → list_all p xs ≡ true → Contains xs x → p x ≡ true
passes p xs x h k = subst (λ z. p z ≡ true) k.2 (AllPass-from_list_all p xs h k.0 x k.1)

-- ---- weighted degrees of products

drop-none : (e : List ℕ) → drop 0 e ≡ e
drop-none [] = refl
drop-none (k ∷ e) = refl

weight-next : (w : ℕ) (ws e : List ℕ) → weighted_degree_of (w ∷ ws) e ≡ w * get_or e 0 0 + weighted_degree_of ws (drop 1 e)
weight-next w ws [] = let a : w * 0 ≡ 0 = omega arith in let b = none ws in omega arith
  where
    none : (ws : List ℕ) → weighted_degree_of ws [] ≡ 0
    none [] = refl
    none (w ∷ ws) = refl
weight-next w ws (k ∷ e) = ap (λ z. w * k + weighted_degree_of ws z) (sym (drop-none e))

get-drop : (e : List ℕ) (i : ℕ) → get_or (drop 1 e) i 0 ≡ get_or e (suc i) 0
get-drop [] i = refl
get-drop (k ∷ e) i = ap (λ z. get_or z i 0) (drop-none e)

weight-sum : (ws e f g : List ℕ) → ((i : ℕ) → i < length ws → get_or g i 0 ≡ get_or e i 0 + get_or f i 0) → weighted_degree_of ws g ≡ weighted_degree_of ws e + weighted_degree_of ws f
weight-sum [] e f g h = refl
weight-sum (w ∷ ws) e f g h =
    let first : get_or g 0 0 ≡ get_or e 0 0 + get_or f 0 0 = h 0 (omega arith) in
    let rest = weight-sum ws (drop 1 e) (drop 1 f) (drop 1 g) (λ i q. get-drop g i ∙ h (suc i) (omega arith) ∙ sym (ap₂ (λ y z. y + z) (get-drop e i) (get-drop f i))) in
    let split : w * (get_or e 0 0 + get_or f 0 0) ≡ w * get_or e 0 0 + w * get_or f 0 0 = grind arith in
    let whole = ap (λ z. w * z) first in
    let a = weight-next w ws e in
    let b = weight-next w ws f in
    let d = weight-next w ws g in
    omega arith

module _ (n : ℕ) (ws : List ℕ) (size : length ws ≡ n) where
  abbrev weight : ExpList n → ℕ
  weight m = weighted_degree_of ws m.entries

  adds : (a b : ExpList n) → weight (plus (exps n) a b) ≡ weight a + weight b
  adds a b = weight-sum ws a.entries b.entries (plus (exps n) a b).entries (λ i h. ExpLaws.at-plus (exps n) (exps_are n) a b i (subst (λ z. i < z) size h))

  -- each term has the weight g
  abbrev HasWeight : {V : Type 0} → ℕ → Polynomial n V → Type 0
  HasWeight g [] = Unit {0}
  HasWeight g (t ∷ h) = (weight t.0 ≡ g) × HasWeight g h

  -- a lead and its entries for a form of weighted degree d
  abbrev is_balanced_tail : Lead → Bool
  is_balanced_tail l = list_all (λ e. eqb (weight (monomial_in n e.monomial)) (weight (monomial_in n l.monomial))) (tail_of l)

  abbrev is_balanced_cofactor : ℕ → Lead → ℕ → Bool
  is_balanced_cofactor d l i = list_all (λ e. eqb (weight (monomial_in n e.monomial) + d) (weight (monomial_in n l.monomial) + weight (variable (exps n) i))) (cofactor l i)

  abbrev is_balanced : ℕ → Lead → Bool
  is_balanced d l = is_balanced_tail l && all_to n (is_balanced_cofactor d l)

  module _ {V : Type 0} (s : Scalars V) (letters : List V) (leads : List Lead) (d : ℕ) (balanced : list_all (is_balanced d) leads ≡ true) where
    -- a step of terms of weight g
    record Weighs (g : ℕ) (u : Step n V × Polynomial n V) : Type 0 where
      among : Contains leads u.0.lead
      term : weight u.0.rest + weight (monomial_in n u.0.lead.monomial) ≡ g
      others : HasWeight g u.1

    weighs : (g : ℕ) (h : Polynomial n V) (u : Step n V × Polynomial n V) → HasWeight g h → first_step leads h ≡ Some u → Weighs g u
    weighs g [] u e q = let bad : ⊥ = cc q in absurd bad
    weighs g (t ∷ h) u e q = here (first_lead n leads t.0) refl (first_step leads h) refl (weighs g h) q
      where
        here : (o : Option Lead) → first_lead n leads t.0 ≡ o → (later : Option (Step n V × Polynomial n V)) → first_step leads h ≡ later
            → ((u : Step n V × Polynomial n V) → HasWeight g h → first_step leads h ≡ Some u → Weighs g u) → step_at t h later o ≡ Some u → Weighs g u
        here (Some l) p later f below q =
            let i = found leads t.0 l p in
            subst (Weighs g) (some_inj q) (record {
              among = i.among;
              term = sym (adds (quotient n t.0 (monomial_in n l.monomial)) (monomial_in n l.monomial)) ∙ ap weight (quotient-plus t.0 (monomial_in n l.monomial) i.divides_m) ∙ e.0;
              others = e.1;
            })
        here None p None f below q = let bad : ⊥ = cc q in absurd bad
        here None p (Some v) f below q = let i = below v e.1 f in subst (Weighs g) (some_inj q) (record { among = i.among; term = i.term; others = (e.0, i.others) })

    unless-weighs : (g : ℕ) (t : ExpList n × V) (h : Polynomial n V) → weight t.0 ≡ g → HasWeight g h → HasWeight g (unless_zero s t h)
    unless-weighs g t h e k = step (s.is_zero t.1)
      where
        step : (b : Bool) → HasWeight g (cond b h (t ∷ h))
        step true = k
        step false = (e, k)

    put-weighs : (g : ℕ) (t : ExpList n × V) (h : Polynomial n V) → weight t.0 ≡ g → HasWeight g h → HasWeight g (put s t h)
    put-weighs g t [] e k = unless-weighs g t [] e tt
    put-weighs g t (u ∷ h) e k = first_test (is_before u.0.entries t.0.entries) (put-weighs g t h e k.1)
      where
        second_test : (b : Bool) → HasWeight g (cond b (unless_zero s t (u ∷ h)) (unless_zero s (u.0, s.ops.add u.1 t.1) h))
        second_test true = unless-weighs g t (u ∷ h) e k
        second_test false = unless-weighs g (u.0, s.ops.add u.1 t.1) h k.0 k.1

        first_test : (b : Bool) → HasWeight g (put s t h) → HasWeight g (cond b (u ∷ put s t h) (cond (is_before t.0.entries u.0.entries) (unless_zero s t (u ∷ h)) (unless_zero s (u.0, s.ops.add u.1 t.1) h)))
        first_test true rest = (k.0, rest)
        first_test false rest = second_test (is_before t.0.entries u.0.entries)

    -- what a step leaves
    left-weighs : (g : ℕ) (u : Step n V × Polynomial n V) → Weighs g u → HasWeight g (left_by s letters u)
    left-weighs g u i = all (tail_of u.0.lead) (and_left (is_balanced_tail u.0.lead) (all_to n (is_balanced_cofactor d u.0.lead)) (passes (is_balanced d) leads u.0.lead balanced i.among))
      where
        all : (es : List Entry) → list_all (λ e. eqb (weight (monomial_in n e.monomial)) (weight (monomial_in n u.0.lead.monomial))) es ≡ true → HasWeight g (put_all s (map (term_of s letters u.0) es) u.1)
        all [] q = i.others
        all (e ∷ es) q =
            let one = eqb (weight (monomial_in n e.monomial)) (weight (monomial_in n u.0.lead.monomial)) in
            let rest = list_all (λ e. eqb (weight (monomial_in n e.monomial)) (weight (monomial_in n u.0.lead.monomial))) es in
            let x = eqb-true (weight (monomial_in n e.monomial)) (weight (monomial_in n u.0.lead.monomial)) (and_left one rest q) in
            let y = adds u.0.rest (monomial_in n e.monomial) in
            let z = i.term in
            put-weighs g (term_of s letters u.0 e) (put_all s (map (term_of s letters u.0) es) u.1) (omega arith) (all es (and_right one rest q))

    -- what is taken from variable i, in the grade d + e
    module _ (e : ℕ) (i : ℕ) (inside : i < n) where
      abbrev From : Polynomial n V → Type 0
      From = AllFrom weight (weight (variable (exps n) i) + e)

      from_both : (f g : Polynomial n V) → From f → From g → From (f ++ g)
      from_both [] g h k = k
      from_both (t ∷ f) g h k = (h.0, from_both f g h.1 k)

      step-takes : (u : Step n V × Polynomial n V) → Weighs (d + e) u → From (taken_by s letters i u.0)
      step-takes u w = all (cofactor u.0.lead i)
          (ExpLaws.all_to_at n (is_balanced_cofactor d u.0.lead) (and_right (is_balanced_tail u.0.lead) (all_to n (is_balanced_cofactor d u.0.lead)) (passes (is_balanced d) leads u.0.lead balanced w.among)) i inside)
        where
          all : (es : List Entry) → list_all (λ e. eqb (weight (monomial_in n e.monomial) + d) (weight (monomial_in n u.0.lead.monomial) + weight (variable (exps n) i))) es ≡ true
              → From (map (λ e. ((term_of s letters u.0 e).0, s.ops.neg (term_of s letters u.0 e).1)) es)
          all [] q = tt
          all (f ∷ es) q =
              let one = eqb (weight (monomial_in n f.monomial) + d) (weight (monomial_in n u.0.lead.monomial) + weight (variable (exps n) i)) in
              let rest = list_all (λ e. eqb (weight (monomial_in n e.monomial) + d) (weight (monomial_in n u.0.lead.monomial) + weight (variable (exps n) i))) es in
              let x = eqb-true (weight (monomial_in n f.monomial) + d) (weight (monomial_in n u.0.lead.monomial) + weight (variable (exps n) i)) (and_left one rest q) in
              let y = adds u.0.rest (monomial_in n f.monomial) in
              let z = w.term in
              (omega arith, all es (and_right one rest q))

      all-taken : (k : ℕ) (h : Polynomial n V) → HasWeight (d + e) h → From (taken s letters k leads h i)
      all-taken zero h w = tt
      all-taken (suc k) h w = step (first_step leads h) refl (all-taken k)
        where
          step : (o : Option (Step n V × Polynomial n V)) → first_step leads h ≡ o → ((h : Polynomial n V) → HasWeight (d + e) h → From (taken s letters k leads h i))
              → From (flat_map (λ u. taken_by s letters i u.0) (steps_from s letters (steps_of s letters k leads) o))
          step None q rest = tt
          step (Some u) q rest =
              let v = weighs (d + e) h u w q in
              from_both (taken_by s letters i u.0) (taken s letters k leads (left_by s letters u) i) (step-takes u v) (rest (left_by s letters u) (left-weighs (d + e) u v))

-- ---- the move

module _ {V : Type 0} (s : Scalars V) (laws : ScalarLaws s) (set : IsSet V) where
  abbrev r : RingOps V
  r = s.ops

  abbrev c : IsCommRing r
  c = laws.ring

  module _ (n : ℕ) (ws : List ℕ) (size : length ws ≡ n) (d e : ℕ) (positive : 0 < e) (u : ℕ → Polynomial n V) (high : (i : ℕ) → i < n → AllFrom (weight n ws size) (weight n ws size (variable (exps n) i) + e) (u i)) where
    abbrev w : ExpList n → ℕ
    w = weight n ws size

    abbrev at : Polynomial n V → ExpList n → V
    at f m = coefficient (exps n) r f m

    abbrev partial : ℕ → Polynomial n V → Polynomial n V
    partial i f = derivative (exps n) r i f

    abbrev of_degree : Polynomial n V → Polynomial n V
    of_degree f = filter (λ t. eqb (w t.0) d) f

    abbrev above : Polynomial n V → Polynomial n V
    above f = filter (λ t. not (eqb (w t.0) d)) f

    parts-same : (f : Polynomial n V) → Same (exps n) r f (of_degree f ++ above f)
    parts-same f m =
        step (eqb (w m) d)
        ∙ sym (Order.coefficient-append (exps n) (exps_are n) r c (of_degree f) (above f) m
        ∙ ap₂ r.add (Order.coefficient-filter (exps n) (exps_are n) r c (λ a. eqb (w a) d) f m) (Order.coefficient-filter (exps n) (exps_are n) r c (λ a. not (eqb (w a) d)) f m))
      where
        step : (b : Bool) → at f m ≡ r.add (cond b (at f m) r.zero) (cond (not b) (at f m) r.zero)
        step true = sym (c.add_zero (at f m))
        step false = sym (Sums.zero_add r c (at f m))

    above-from : (f : Polynomial n V) → AllFrom w d f → AllFrom w (suc d) (above f)
    above-from [] h = tt
    above-from (t ∷ f) h = step (eqb (w t.0) d) refl (above-from f h.1)
      where
        order : (a b : ℕ) → b ≤ a → (a ≡ b) ⊎ (suc b ≤ a)
        order a b g = grind arith

        step : (b : Bool) → eqb (w t.0) d ≡ b → AllFrom w (suc d) (above f) → AllFrom w (suc d) (cond (not b) (t ∷ above f) (above f))
        step true q k = k
        step false q k =
            let g : d ≤ w t.0 = h.0 in
            ((elim (order (w t.0) d g) [ inl e0 ↦ let bad : ⊥ = cc (eq-eqb (w t.0) d e0, q) in absurd bad | inr e1 ↦ e1 ]), k)

    -- times the partial derivatives of what has higher weight: above the grade
    high_zero : (i : ℕ) → i < n → (b : ℕ) (f : Polynomial n V) → AllFrom w b f → (m : ExpList n) → w m < e + b → at (times (exps n) r (u i) (partial i f)) m ≡ r.zero
    high_zero i h b f k m g =
        let v = w (variable (exps n) i) in
        Taylor.low_zero (exps n) (exps_are n) r c set w (adds n ws size) (v + e + (b - v)) (times (exps n) r (u i) (partial i f))
        (Taylor.from_times (exps n) (exps_are n) r c set w (adds n ws size) (v + e) (b - v) (u i) (partial i f) (high i h)
        (Taylor.from_derivative (exps n) (exps_are n) r c set w (adds n ws size) i h b f k)) m (omega arith)

    derivative-append : (i : ℕ) (f g : Polynomial n V) → partial i (f ++ g) ≡ partial i f ++ partial i g
    derivative-append i f g = map-append (λ t. (lower (exps n) i t.0, multiple r ((exps n).at t.0 i) t.1)) f g

    module _ (form f : Polynomial n V) (from : AllFrom w d f) (is_form : Same (exps n) r (of_degree f) form) where
      -- up to the grade, the partial derivatives are those of the form
      of_form : (m : ExpList n) → w m < suc (d + e) → at (combination (exps n) r u f) m ≡ at (combination (exps n) r u form) m
      of_form m g =
          Linear.coefficient-sum_to (exps n) (exps_are n) r c n (λ i. times (exps n) r (u i) (partial i f)) m
          ∙ Sums.sum_to-cong r n (λ i. at (times (exps n) r (u i) (partial i f)) m) (λ i. at (times (exps n) r (u i) (partial i form)) m) (λ i h.
          PolyRing.times_right (exps n) (exps_are n) r c (u i) (partial i f) (partial i (of_degree f ++ above f)) (Derivative.derivative_same (exps n) (exps_are n) r c i f (of_degree f ++ above f) (parts-same f)) m
          ∙ ap (λ z. at (times (exps n) r (u i) z) m) (derivative-append i (of_degree f) (above f))
          ∙ PolyRing.times_append (exps n) (exps_are n) r c (u i) (partial i (of_degree f)) (partial i (above f)) m
          ∙ Order.coefficient-append (exps n) (exps_are n) r c (times (exps n) r (u i) (partial i (of_degree f))) (times (exps n) r (u i) (partial i (above f))) m
          ∙ ap₂ r.add
          (PolyRing.times_right (exps n) (exps_are n) r c (u i) (partial i (of_degree f)) (partial i form) (Derivative.derivative_same (exps n) (exps_are n) r c i (of_degree f) form is_form) m)
          (high_zero i h (suc d) (above f) (above-from f from) m (omega arith))
          ∙ c.add_zero (at (times (exps n) r (u i) (partial i form)) m))
          ∙ sym (Linear.coefficient-sum_to (exps n) (exps_are n) r c n (λ i. times (exps n) r (u i) (partial i form)) m)

      moved : (m : ExpList n) → w m < suc (d + e) → at (subst_in (exps n) (exps n) r (λ i. (variable (exps n) i, r.one) ∷ u i) f) m ≡ r.add (at f m) (at (combination (exps n) r u form) m)
      moved m g =
          Taylor.taylor (exps n) (exps_are n) r c set w (adds n ws size) u e high d f from m (omega arith)
          ∙ Order.coefficient-append (exps n) (exps_are n) r c f (combination (exps n) r u f) m
          ∙ ap (r.add (at f m)) (of_form m g)

      -- below the grade
      below : AllFrom w d form → (m : ExpList n) → w m < d + e → at (subst_in (exps n) (exps n) r (λ i. (variable (exps n) i, r.one) ∷ u i) f) m ≡ at f m
      below form_from m g =
          moved m (omega arith)
          ∙ ap (r.add (at f m))
          (Linear.coefficient-sum_to (exps n) (exps_are n) r c n (λ i. times (exps n) r (u i) (partial i form)) m
          ∙ Sums.sum_to-nothing r c n (λ i. at (times (exps n) r (u i) (partial i form)) m) (λ i h. high_zero i h d form form_from m (omega arith)))
          ∙ c.add_zero (at f m)

-- ---- parts

rows_balanced : (p : Part) → list_all (is_balanced (length (row p).weights) (row p).weights refl (row p).degree) (row p).leads ≡ true
unfolding row
rows_balanced parts.D4 = refl
rows_balanced parts.D = refl
rows_balanced parts.J = refl
rows_balanced parts.X9 = refl
rows_balanced parts.X = refl
rows_balanced parts.Y = refl
rows_balanced parts.Z = refl
rows_balanced parts.W = refl
rows_balanced parts.P8 = refl
rows_balanced parts.Q = refl
rows_balanced parts.S = refl
rows_balanced parts.U = refl
rows_balanced parts.T = refl
rows_balanced parts.E6 = refl
rows_balanced parts.E7 = refl
rows_balanced parts.E8 = refl
rows_balanced parts.J10 = refl
rows_balanced parts.E12 = refl
rows_balanced parts.E13 = refl
rows_balanced parts.E14 = refl
rows_balanced parts.Z11 = refl
rows_balanced parts.Z12 = refl
rows_balanced parts.Z13 = refl
rows_balanced parts.W12 = refl
rows_balanced parts.W13 = refl
rows_balanced parts.Q10 = refl
rows_balanced parts.Q11 = refl
rows_balanced parts.Q12 = refl
rows_balanced parts.S11 = refl
rows_balanced parts.S12 = refl
rows_balanced parts.U12 = refl
rows_balanced parts.JT = refl

forms_balanced : (p : Part) → list_all (λ m. eqb (weighted_degree_of (row p).weights (monomial_in (length (row p).weights) m).entries) (row p).degree) (row p).form ≡ true
unfolding row
forms_balanced parts.D4 = refl
forms_balanced parts.D = refl
forms_balanced parts.J = refl
forms_balanced parts.X9 = refl
forms_balanced parts.X = refl
forms_balanced parts.Y = refl
forms_balanced parts.Z = refl
forms_balanced parts.W = refl
forms_balanced parts.P8 = refl
forms_balanced parts.Q = refl
forms_balanced parts.S = refl
forms_balanced parts.U = refl
forms_balanced parts.T = refl
forms_balanced parts.E6 = refl
forms_balanced parts.E7 = refl
forms_balanced parts.E8 = refl
forms_balanced parts.J10 = refl
forms_balanced parts.E12 = refl
forms_balanced parts.E13 = refl
forms_balanced parts.E14 = refl
forms_balanced parts.Z11 = refl
forms_balanced parts.Z12 = refl
forms_balanced parts.Z13 = refl
forms_balanced parts.W12 = refl
forms_balanced parts.W13 = refl
forms_balanced parts.Q10 = refl
forms_balanced parts.Q11 = refl
forms_balanced parts.Q12 = refl
forms_balanced parts.S11 = refl
forms_balanced parts.S12 = refl
forms_balanced parts.U12 = refl
forms_balanced parts.JT = refl

-- the form of a part has its weighted degree
form-from : {V : Type 0} (n d : ℕ) (weight : ExpList n → ℕ) (form : List (List ℕ)) (letters : List V) → list_all (λ m. eqb (weight (monomial_in n m)) d) form ≡ true → AllFrom weight d (zip (map (monomial_in n) form) letters)
form-from n d weight [] letters h = tt
form-from n d weight (m ∷ form) [] h = tt
form-from n d weight (m ∷ form) (v ∷ letters) h =
    let one = eqb (weight (monomial_in n m)) d in
    let rest = list_all (λ m. eqb (weight (monomial_in n m)) d) form in
    let x = eqb-true (weight (monomial_in n m)) d (and_left one rest h) in
    (omega arith, form-from n d weight form letters (and_right one rest h))

-- a monomial that a lead divides is none of those of a reduced polynomial
reduced_zero : {V : Type 0} (r : RingOps V) (c : IsCommRing r) (n : ℕ) (leads : List Lead) (l : Lead) (m : ExpList n) → Contains leads l → divides n (monomial_in n l.monomial) m ≡ true
    → (f : Polynomial n V) → All (λ t. first_lead n leads t.0 ≡ None) f → coefficient (exps n) r f m ≡ r.zero
reduced_zero r c n leads l m k h [] a = refl
reduced_zero r c n leads l m k h (t ∷ f) a =
    ap₂ r.add (step (same (exps n) t.0 m) refl) (reduced_zero r c n leads l m k h f (λ j x g. a (suc j) x (omega arith))) ∙ c.add_zero r.zero
  where
    some : (leads : List Lead) → Contains leads l → first_lead n leads m ≡ None → ⊥
    some [] k q = let g : k.0 < 0 = k.1 in omega arith
    some (x ∷ leads) (zero, g, e) q = cc (ap (λ b. cond b (Some x) (first_lead n leads m)) (subst (λ z. divides n (monomial_in n z.monomial) m ≡ true) (sym e) h), q)
    some (x ∷ leads) (suc j, g, e) q = pass (divides n (monomial_in n x.monomial) m) (some leads (j, omega arith, e)) q
      where
        pass : (b : Bool) → (first_lead n leads m ≡ None → ⊥) → cond b (Some x) (first_lead n leads m) ≡ None → ⊥
        pass true rest q = cc q
        pass false rest q = rest q

    step : (b : Bool) → same (exps n) t.0 m ≡ b → cond b t.1 r.zero ≡ r.zero
    step true q = absurd (some leads k (ap (first_lead n leads) (sym (ExpLaws.same-eq (exps n) (exps_are n) t.0 m q)) ∙ a 0 t (omega arith)))
    step false q = refl

module _ {V : Type 0} (s : Scalars V) (laws : ScalarLaws s) (set : IsSet V) where
  from_all : {E : Type 0} (weight : E → ℕ) (d : ℕ) (f : List (E × V)) → AllByRecursion (λ t. d ≤ weight t.0) f → AllFrom weight d f
  from_all weight d [] h = tt
  from_all weight d (t ∷ f) h = (h.0, from_all weight d f h.1)

  pub kills_leave_reduced : KillsLeaveReduced s
  kills_leave_reduced p a b d units grade above f from is_form m =
      let n = length (row p).weights in
      let letters = a ∷ b ∷ d ∷ [] in
      let ws = (row p).weights in
      let degree = (row p).degree in
      let e = grade - degree in
      let sum : degree + e ≡ grade = omega arith in
      let h = terms_of_grade n s letters p grade f in
      let u : ℕ → Polynomial n V = taken s letters (3 * length h) (row p).leads h in
      let has = of_grade p letters grade f in
      let high : (i : ℕ) → i < n → AllFrom (weight n ws refl) (weight n ws refl (variable (exps n) i) + e) (u i) = λ i g.
      all-taken n ws refl s letters (row p).leads degree (rows_balanced p) e i g (3 * length h) h (subst (λ z. HasWeight n ws refl z h) (sym sum) has) in
      let start = from_all (weight n ws refl) degree f from in (
        λ g. below s laws set n ws refl degree e (omega arith) u high (form_of s letters n p) f start is_form (form-from n degree (weight n ws refl) (row p).form letters (forms_balanced p)) m (omega arith),
        λ g l k q.
            moved s laws set n ws refl degree e (omega arith) u high (form_of s letters n p) f start is_form m (omega arith)
            ∙ ap (λ z. s.ops.add z (coefficient (exps n) s.ops (combination (exps n) s.ops u (form_of s letters n p)) m)) (sym (at-grade p letters grade f m g))
            ∙ sym (Order.coefficient-append (exps n) (exps_are n) s.ops laws.ring h (combination (exps n) s.ops u (form_of s letters n p)) m)
            ∙ ReductionLaw.reductions_are_right s laws p a b d units (3 * length h) h m
            ∙ reduced_zero s.ops laws.ring n (row p).leads l m k q (left_of s letters (3 * length h) (row p).leads h) (ChainLaw.reductions_end s p letters h),
      )
    where
      none_past : (p : Part) (m : ExpList (length (row p).weights)) → list_all (λ k. eqb k 0) (drop (length (row p).weights) m.entries) ≡ true
      none_past p m = ap (list_all (λ k. eqb k 0)) (empty (length (row p).weights) m.entries (subst (λ z. z ≤ length (row p).weights) (sym m.long) (omega arith)))
        where
          empty : (k : ℕ) (xs : List ℕ) → length xs ≤ k → drop k xs ≡ []
          empty zero [] h = refl
          empty zero (x ∷ xs) h = absurd (omega arith)
          empty (suc k) [] h = refl
          empty (suc k) (x ∷ xs) h = empty k xs (omega arith)

      of_grade : (p : Part) (letters : List V) (grade : ℕ) (f : Polynomial (length (row p).weights) V) → HasWeight (length (row p).weights) (row p).weights refl grade (terms_of_grade (length (row p).weights) s letters p grade f)
      of_grade p letters grade [] = tt
      of_grade p letters grade (t ∷ f) = step (is_of_grade (length (row p).weights) s letters (row p).weights grade t.0) refl (of_grade p letters grade f)
        where
          step : (b : Bool) → is_of_grade (length (row p).weights) s letters (row p).weights grade t.0 ≡ b → HasWeight (length (row p).weights) (row p).weights refl grade (terms_of_grade (length (row p).weights) s letters p grade f)
              → HasWeight (length (row p).weights) (row p).weights refl grade (cond b (t ∷ terms_of_grade (length (row p).weights) s letters p grade f) (terms_of_grade (length (row p).weights) s letters p grade f))
          step true q k = (eqb-true (weighted_degree_of (row p).weights t.0.entries) grade (and_left (eqb (weighted_degree_of (row p).weights t.0.entries) grade) (list_all (λ k. eqb k 0) (drop (length (row p).weights) t.0.entries)) q), k)
          step false q k = k

      at-grade : (p : Part) (letters : List V) (grade : ℕ) (f : Polynomial (length (row p).weights) V) (m : ExpList (length (row p).weights)) → weighted_degree_of (row p).weights m.entries ≡ grade
          → coefficient (exps (length (row p).weights)) s.ops (terms_of_grade (length (row p).weights) s letters p grade f) m ≡ coefficient (exps (length (row p).weights)) s.ops f m
      at-grade p letters grade f m g =
          Order.coefficient-filter (exps (length (row p).weights)) (exps_are (length (row p).weights)) s.ops laws.ring (is_of_grade (length (row p).weights) s letters (row p).weights grade) f m
          ∙ ap (λ b. cond b (coefficient (exps (length (row p).weights)) s.ops f m) s.ops.zero) (ap₂ (λ x y. x && y) (eq-eqb (weighted_degree_of (row p).weights m.entries) grade g) (none_past p m))
