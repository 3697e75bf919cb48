-- In the grade of a kill no monomial that a lead divides is left: without square variables the kill is that of the part's own variables, of which this is known.
use Rattle.std.proofs.Common.{◌≡◌, ◌≢◌, ℕ, zero, suc, ◌-◌, ◌*◌, ◌<◌, ◌≤◌, ◌⊎◌, inl, inr, Bool, true, false, ◌&&◌, cond, eqb, eqb-true, eq-eqb, leb, leb-true, le-leb, List, [], ◌∷◌, map, filter, get_or, length, drop, refl, sym, ap, ap₂, subst, ◌∙◌, arith}
use Rattle.std.specs.Prelude.{Contains, zip}
use Rattle.std.specs.List.{list_all, AllByRecursion}
use Rattle.std.proofs.lemmas.List.{length-map}
use Rattle.ring_theory.specs.Scalars.{Scalars, ScalarLaws}
use Rattle.ring_theory.proofs.ValueSet.{values_are_set}
use Rattle.poly_law.specs.Sums.{multiple}
use Rattle.poly_law.specs.Exps.{plus, variable, degree, same}
use Rattle.poly_law.specs.ExpList.{ExpList, exps}
use Rattle.poly_law.specs.Poly.{combination, derivative, times, place}
use Rattle.poly_law.specs.Polynomials.{Polynomial, SameIn, coefficient_in}
use Rattle.poly_law.proofs.ExpLists.{exps_are}
use Rattle.poly_law.proofs.ExpLaws
use Rattle.poly_law.proofs.Linear
use Rattle.poly_law.proofs.Order
use Rattle.poly_law.proofs.Place
use Rattle.poly_law.proofs.PolyRing
use Rattle.poly_law.proofs.Split as splits
use Rattle.poly_law.proofs.Sums
use Rattle.mono_exp.specs.Exponents.{weighted_degree_of}
use Rattle.mono_exp.proofs.Lists.{Each, each-weaker}
use Rattle.jet_law.specs.Canonical.{monomial_in}
use Rattle.germ_law.proofs.Canonical
use Rattle.kill_law.specs.declared.lead.Lead.{Lead}
use Rattle.kill_law.specs.declared.part.Part.{Part}
use Rattle.kill_law.specs.declared.part.Part.TheVariants as parts
use Rattle.kill_law.specs.Table.{row}
use Rattle.kill_law.specs.Kill.{letters_of, divides}
use Rattle.kill_law.specs.Leads.{HasInvertibleDivisors, form_of}
use Rattle.kill_law.specs.Taken.{kill_move, is_of_grade, terms_of_grade}
use Rattle.kill_law.specs.Reductions.{taken}
use Rattle.kill_law.proofs.KillLaw
use Rattle.coord_change.specs.Carries.{carry}
use Rattle.split_lemma.specs.SplitForms.{IsSplitUpTo}
use Rattle.split_lemma.proofs.Residuals
use Rattle.kept_law.specs.KeptParts.{IsBasePart, StartsAtPart, HasForm, HasPrincipalPart, GradeIsKilled, KillsLeaveNoLead, GradesAreKilled, kill_off}
use Rattle.kept_law.proofs.Agreeing.{and_left, and_right}
use Rattle.kept_law.proofs.PartDegrees.{part_degree}
use Rattle.kept_law.proofs.LeadTable
use Rattle.kept_law.proofs.OwnSteps
use Rattle.kept_law.proofs.OwnMoves
use Rattle.kept_law.proofs.KillMoves

-- ---- the table

leads_own : (p : Part) → list_all (λ l. list_all (λ k. eqb k 0) (drop (length (row p).weights) l.monomial)) (row p).leads ≡ true
unfolding row
leads_own parts.D4 = refl
leads_own parts.D = refl
leads_own parts.J = refl
leads_own parts.X9 = refl
leads_own parts.X = refl
leads_own parts.Y = refl
leads_own parts.Z = refl
leads_own parts.W = refl
leads_own parts.P8 = refl
leads_own parts.Q = refl
leads_own parts.S = refl
leads_own parts.U = refl
leads_own parts.T = refl
leads_own parts.E6 = refl
leads_own parts.E7 = refl
leads_own parts.E8 = refl
leads_own parts.J10 = refl
leads_own parts.E12 = refl
leads_own parts.E13 = refl
leads_own parts.E14 = refl
leads_own parts.Z11 = refl
leads_own parts.Z12 = refl
leads_own parts.Z13 = refl
leads_own parts.W12 = refl
leads_own parts.W13 = refl
leads_own parts.Q10 = refl
leads_own parts.Q11 = refl
leads_own parts.Q12 = refl
leads_own parts.S11 = refl
leads_own parts.S12 = refl
leads_own parts.U12 = refl
leads_own parts.JT = refl

pub forms_weigh : (p : Part) → list_all (λ m. eqb (weighted_degree_of (row p).weights (monomial_in (length (row p).weights) m).entries) (row p).degree) (row p).form ≡ true
unfolding row
forms_weigh parts.D4 = refl
forms_weigh parts.D = refl
forms_weigh parts.J = refl
forms_weigh parts.X9 = refl
forms_weigh parts.X = refl
forms_weigh parts.Y = refl
forms_weigh parts.Z = refl
forms_weigh parts.W = refl
forms_weigh parts.P8 = refl
forms_weigh parts.Q = refl
forms_weigh parts.S = refl
forms_weigh parts.U = refl
forms_weigh parts.T = refl
forms_weigh parts.E6 = refl
forms_weigh parts.E7 = refl
forms_weigh parts.E8 = refl
forms_weigh parts.J10 = refl
forms_weigh parts.E12 = refl
forms_weigh parts.E13 = refl
forms_weigh parts.E14 = refl
forms_weigh parts.Z11 = refl
forms_weigh parts.Z12 = refl
forms_weigh parts.Z13 = refl
forms_weigh parts.W12 = refl
forms_weigh parts.W13 = refl
forms_weigh parts.Q10 = refl
forms_weigh parts.Q11 = refl
forms_weigh parts.Q12 = refl
forms_weigh parts.S11 = refl
forms_weigh parts.S12 = refl
forms_weigh parts.U12 = refl
forms_weigh parts.JT = refl

-- no exponent but zeros from c on
own_test : (c : ℕ) (e : List ℕ) → ((i : ℕ) → c ≤ i → get_or e i 0 ≡ 0) → list_all (λ k. eqb k 0) (drop c e) ≡ true
own_test zero [] h = refl
own_test zero (k ∷ e) h =
    and_both (eqb k 0) (list_all (λ k. eqb k 0) e) (eq-eqb k 0 (h 0 (omega arith)))
    (ap (list_all (λ k. eqb k 0)) (sym (LeadTable.drop-none e)) ∙ own_test zero e (λ i g. h (suc i) (omega arith)))
  where
    and_both : (a b : Bool) → a ≡ true → b ≡ true → (a && b) ≡ true
    and_both a b p q = ap₂ (λ x y. x && y) p q
own_test (suc c) [] h = refl
own_test (suc c) (k ∷ e) h = own_test c e (λ i g. h (suc i) (omega arith))

-- the first three letters
three_letters : {V : Type 0} (n : ℕ) (s : Scalars V) (p : Part) (f : Polynomial n V) → (a : V) × (b : V) × (d : V) × (letters_of n s p f ≡ a ∷ b ∷ d ∷ [])
unfolding letters_of
three_letters n s p f = (_, _, _, refl)

module _ {V : Type 0} (n : ℕ) (p : Part) (fewer : length (row p).weights ≤ n) (grade : ℕ) (above : (row p).degree < grade)
    (s : Scalars V) (laws : ScalarLaws s) (a b d : V) (f : Polynomial n V) where
  abbrev c : ℕ
  c = length (row p).weights

  abbrev ws : List ℕ
  ws = (row p).weights

  abbrev letters : List V
  letters = a ∷ b ∷ d ∷ []

  abbrev set : IsSet V
  set = values_are_set s laws

  abbrev e : ℕ
  e = grade - (row p).degree

  abbrev Own : ExpList n → Type 0
  Own = OwnSteps.Own n c fewer

  abbrev restricted : ExpList n → ExpList c
  restricted = OwnSteps.restricted n c fewer

  abbrev placed : ExpList c → ExpList n
  placed = Residuals.placed n c fewer s laws

  abbrev down : Polynomial n V → Polynomial c V
  down = OwnSteps.down n c fewer

  -- ---- terms without square variables in the part's variables

  same_down : (m : ExpList n) (q : ExpList c) → Own m → same (exps c) (restricted m) q ≡ same (exps n) m (placed q)
  same_down m q own = step (same (exps c) (restricted m) q) refl
    where
      step : (t : Bool) → same (exps c) (restricted m) q ≡ t → t ≡ same (exps n) m (placed q)
      step true h =
          sym (ap (λ z. same (exps n) z (placed q)) (Place.placed-restrict (exps n) (exps_are n) (exps c) (exps_are c) fewer m own ∙ ap placed (ExpLaws.same-eq (exps c) (exps_are c) (restricted m) q h))
          ∙ ExpLaws.same_refl (exps n) (exps_are n) (placed q))
      step false h = sym (ExpLaws.same-no (exps n) (exps_are n) m (placed q) (λ z. bad (sym h
          ∙ ap (λ y. same (exps c) y q) (ap restricted z ∙ Place.restrict-placed (exps n) (exps_are n) (exps c) (exps_are c) fewer q) ∙ ExpLaws.same_refl (exps c) (exps_are c) q)))
        where
          bad : false ≡ true → ⊥
          bad y = cc y

  coefficient-down : (h : Polynomial n V) → Each (λ (t : ExpList n × V). Own t.0) h → (q : ExpList c) → coefficient_in c s.ops (down h) q ≡ coefficient_in n s.ops h (placed q)
  coefficient-down [] own q = refl
  coefficient-down (t ∷ h) own q = ap₂ (λ x y. s.ops.add (cond x t.1 s.ops.zero) y) (same_down t.0 q own.0) (coefficient-down h own.1 q)

  own_placed : (q : ExpList c) → Own (placed q)
  own_placed q w past inside = Place.at-placed_past (exps n) (exps_are n) (exps c) (exps_are c) fewer q w past inside

  abbrev weight : ExpList n → ℕ
  weight m = weighted_degree_of ws m.entries

  abbrev weight_own : ExpList c → ℕ
  weight_own q = weighted_degree_of ws q.entries

  weight_restricted : (m : ExpList n) → Own m → weight_own (restricted m) ≡ weight m
  weight_restricted m own = LeadTable.weight-same ws m.entries (restricted m).entries (λ i h. sym (OwnSteps.entries_same n c fewer m own i))

  weight_placed : (q : ExpList c) → weight (placed q) ≡ weight_own q
  weight_placed q = LeadTable.weight-same ws q.entries (placed q).entries (λ i h. Place.at-placed_front (exps n) (exps_are n) (exps c) (exps_are c) fewer q i h)

  -- ---- the terms that the part's kill sees

  abbrev pure : ExpList n → Bool
  pure = Place.pure (exps n) (exps_are n) (exps c) (exps_are c) fewer

  abbrev kept : ExpList n → Bool
  kept m = pure m && leb (row p).degree (weight m)

  abbrev seen : Polynomial n V
  seen = filter (λ (t : ExpList n × V). kept t.0) f

  abbrev residual_terms : Polynomial c V
  residual_terms = down seen

  pure_own : (m : ExpList n) → pure m ≡ true → Own m
  pure_own m q w past inside = Place.pure-past (exps n) (exps_are n) (exps c) (exps_are c) fewer m q w past inside

  own_pure : (m : ExpList n) → Own m → pure m ≡ true
  own_pure m own = Place.pure-from (exps n) (exps_are n) (exps c) (exps_are c) fewer m own

  seen_own : Each (λ (t : ExpList n × V). Own t.0) seen
  seen_own = all f
    where
      all : (f : Polynomial n V) → Each (λ (t : ExpList n × V). Own t.0) (filter (λ (t : ExpList n × V). kept t.0) f)
      all [] = tt
      all (t ∷ f) = step (kept t.0) refl (all f)
        where
          step : (x : Bool) → kept t.0 ≡ x → Each (λ (t : ExpList n × V). Own t.0) (filter (λ (t : ExpList n × V). kept t.0) f) → Each (λ (t : ExpList n × V). Own t.0) (cond x (t ∷ filter (λ (t : ExpList n × V). kept t.0) f) (filter (λ (t : ExpList n × V). kept t.0) f))
          step true q rest = (pure_own t.0 (and_left (pure t.0) (leb (row p).degree (weight t.0)) q), rest)
          step false q rest = rest

  all_high : AllByRecursion (λ (t : ExpList c × V). (row p).degree ≤ weighted_degree_of ws t.0.entries) residual_terms
  all_high = all f
    where
      all : (f : Polynomial n V) → AllByRecursion (λ (t : ExpList c × V). (row p).degree ≤ weighted_degree_of ws t.0.entries) (down (filter (λ (t : ExpList n × V). kept t.0) f))
      all [] = tt
      all (t ∷ f) = step (kept t.0) refl (all f)
        where
          step : (x : Bool) → kept t.0 ≡ x → AllByRecursion (λ (t : ExpList c × V). (row p).degree ≤ weighted_degree_of ws t.0.entries) (down (filter (λ (t : ExpList n × V). kept t.0) f))
              → AllByRecursion (λ (t : ExpList c × V). (row p).degree ≤ weighted_degree_of ws t.0.entries) (down (cond x (t ∷ filter (λ (t : ExpList n × V). kept t.0) f) (filter (λ (t : ExpList n × V). kept t.0) f)))
          step true q rest = (
            (let own = pure_own t.0 (and_left (pure t.0) (leb (row p).degree (weight t.0)) q) in
                let h = leb-true (row p).degree (weight t.0) (and_right (pure t.0) (leb (row p).degree (weight t.0)) q) in
                let g = weight_restricted t.0 own in
                omega arith),
            rest,
          )
          step false q rest = rest

  -- the grade is the same
  grade_same : (m : ExpList n) → Own m → is_of_grade n s letters ws grade m ≡ is_of_grade c s letters ws grade (restricted m)
  grade_same m own =
      ap₂ (λ x y. eqb x grade && y) (sym (weight_restricted m own))
      (own_test c m.entries (λ i h. OwnSteps.entries_same n c fewer m own i ∙ OwnSteps.past_entries n c fewer c (restricted m) i h)
      ∙ sym (own_test c (restricted m).entries (λ i h. OwnSteps.past_entries n c fewer c (restricted m) i h)))

  grade_kept : (m : ExpList n) → is_of_grade n s letters ws grade m ≡ true → kept m ≡ true
  grade_kept m q =
      let own : Own m = λ w past inside. LeadTable.own_zero c m.entries (and_right (eqb (weighted_degree_of ws m.entries) grade) (list_all (λ k. eqb k 0) (drop c m.entries)) q) w past in
      let w = eqb-true (weighted_degree_of ws m.entries) grade (and_left (eqb (weighted_degree_of ws m.entries) grade) (list_all (λ k. eqb k 0) (drop c m.entries)) q) in
      ap₂ (λ x y. x && y) (own_pure m own) (le-leb (row p).degree (weight m) (omega arith))

  grades_down : terms_of_grade c s letters p grade residual_terms ≡ down (terms_of_grade n s letters p grade f)
  grades_down = all f
    where
      all : (f : Polynomial n V) → terms_of_grade c s letters p grade (down (filter (λ (t : ExpList n × V). kept t.0) f)) ≡ down (terms_of_grade n s letters p grade f)
      all [] = refl
      all (t ∷ f) = step (kept t.0) refl (is_of_grade n s letters ws grade t.0) refl (all f)
        where
          bad : {x : Bool} → x ≡ true → x ≡ false → ⊥
          bad y z = let q : true ≡ false = sym y ∙ z in cc q

          step : (x : Bool) → kept t.0 ≡ x → (y : Bool) → is_of_grade n s letters ws grade t.0 ≡ y
              → terms_of_grade c s letters p grade (down (filter (λ (t : ExpList n × V). kept t.0) f)) ≡ down (terms_of_grade n s letters p grade f)
              → terms_of_grade c s letters p grade (down (cond x (t ∷ filter (λ (t : ExpList n × V). kept t.0) f) (filter (λ (t : ExpList n × V). kept t.0) f))) ≡ down (cond y (t ∷ terms_of_grade n s letters p grade f) (terms_of_grade n s letters p grade f))
          step false q true r rest = absurd (bad (grade_kept t.0 r) q)
          step false q false r rest = rest
          step true q y r rest =
              let own = pure_own t.0 (and_left (pure t.0) (leb (row p).degree (weight t.0)) q) in
              ap (λ z. cond z ((restricted t.0, t.1) ∷ terms_of_grade c s letters p grade (down (filter (λ (t : ExpList n × V). kept t.0) f))) (terms_of_grade c s letters p grade (down (filter (λ (t : ExpList n × V). kept t.0) f))))
              (sym (grade_same t.0 own) ∙ r)
              ∙ ap (λ z. cond y ((restricted t.0, t.1) ∷ z) z) rest
              ∙ pulled y
            where
              pulled : (y : Bool) → cond y ((restricted t.0, t.1) ∷ down (terms_of_grade n s letters p grade f)) (down (terms_of_grade n s letters p grade f))
                  ≡ down (cond y (t ∷ terms_of_grade n s letters p grade f) (terms_of_grade n s letters p grade f))
              pulled true = refl
              pulled false = refl

  -- ---- what is taken

  abbrev takes : ℕ → Polynomial n V
  takes i = LeadTable.takes n p fewer grade s letters f i

  abbrev takes_own : ℕ → Polynomial c V
  takes_own i = taken s letters (3 * length (terms_of_grade c s letters p grade residual_terms)) (row p).leads (terms_of_grade c s letters p grade residual_terms) i

  lists_own : Each (λ l. OwnSteps.OwnList n c fewer l.monomial) (row p).leads
  lists_own = LeadTable.each_passes (λ l. list_all (λ k. eqb k 0) (drop c l.monomial)) (λ l. OwnSteps.OwnList n c fewer l.monomial) (λ l q i h. LeadTable.own_zero c l.monomial q i h) (row p).leads (leads_own p)

  takes_down : (i : ℕ) → takes_own i ≡ down (takes i)
  takes_down i =
      ap (λ h. taken s letters (3 * length h) (row p).leads h i) grades_down
      ∙ ap (λ k. taken s letters (3 * k) (row p).leads (down (terms_of_grade n s letters p grade f)) i) (length-map (terms_of_grade n s letters p grade f) (OwnSteps.term_down n c fewer))
      ∙ sym (OwnSteps.taken-down n c fewer s letters (row p).leads lists_own
      (λ l among rest own. LeadTable.own_tails n p fewer l among rest own) (λ i l among rest own. LeadTable.own_cofactors n p fewer i l among rest own) i
      (3 * length (terms_of_grade n s letters p grade f)) (terms_of_grade n s letters p grade f)
      (each-weaker (λ (t : ExpList n × V). LeadTable.OfGrade n p fewer grade t.0) (λ (t : ExpList n × V). Own t.0) (λ t q. q.0) (terms_of_grade n s letters p grade f) (LeadTable.all_graded n p fewer grade s letters f)))

  takes_are_own : (i : ℕ) → i < c → Each (λ (t : ExpList n × V). Own t.0) (takes i)
  takes_are_own i h = each-weaker (λ (t : ExpList n × V). LeadTable.OfShare n p fewer grade i t.0) (λ (t : ExpList n × V). Own t.0) (λ t q. q.0) (takes i) (LeadTable.takes_share n p fewer grade s letters f i h)

  module _ (k : ℕ) (split : IsSplitUpTo n s c k f) (light : (q : ExpList c) → weight_own q < (row p).degree → coefficient_in n s.ops f (placed q) ≡ s.ops.zero) where
    abbrev pure_terms : Polynomial n V
    pure_terms = KillMoves.pure_terms n c fewer p refl grade above s laws letters f k split

    low_or_high : (k j : ℕ) → (k ≤ j) ⊎ (j < k)
    low_or_high k j = grind arith

    light_n : (m : ExpList n) → Own m → weight m < (row p).degree → coefficient_in n s.ops f m ≡ s.ops.zero
    light_n m own h =
        ap (coefficient_in n s.ops f) (Place.placed-restrict (exps n) (exps_are n) (exps c) (exps_are c) fewer m own)
        ∙ light (restricted m) (let w = weight_restricted m own in omega arith)

    coefficient-seen : (q : ExpList c) → coefficient_in c s.ops residual_terms q ≡ coefficient_in n s.ops f (placed q)
    coefficient-seen q =
        coefficient-down seen seen_own q
        ∙ Order.coefficient-filter (exps n) (exps_are n) s.ops laws.ring kept f (placed q)
        ∙ ap (λ z. cond (z && leb (row p).degree (weight (placed q))) (coefficient_in n s.ops f (placed q)) s.ops.zero) (own_pure (placed q) (own_placed q))
        ∙ elim (low_or_high (row p).degree (weight (placed q))) [
          | inl h ↦ ap (λ z. cond z (coefficient_in n s.ops f (placed q)) s.ops.zero) (le-leb (row p).degree (weight (placed q)) h)
          | inr h ↦ choose (leb (row p).degree (weight (placed q))) (light q (let w = weight_placed q in omega arith))
        ]
      where
        choose : (t : Bool) → coefficient_in n s.ops f (placed q) ≡ s.ops.zero → cond t (coefficient_in n s.ops f (placed q)) s.ops.zero ≡ coefficient_in n s.ops f (placed q)
        choose true z = refl
        choose false z = sym z

    coefficient-pure : (q : ExpList c) → coefficient_in n s.ops pure_terms (placed q) ≡ coefficient_in n s.ops f (placed q)
    coefficient-pure q = Order.coefficient-filter (exps n) (exps_are n) s.ops laws.ring pure f (placed q) ∙ ap (λ z. cond z (coefficient_in n s.ops f (placed q)) s.ops.zero) (own_pure (placed q) (own_placed q))

    -- partial derivatives in the part's variables
    slopes : (i : ℕ) → i < c → (q : ExpList c) → coefficient_in n s.ops (derivative (exps n) s.ops i pure_terms) (placed q) ≡ coefficient_in c s.ops (derivative (exps c) s.ops i residual_terms) q
    slopes i h q =
        Place.coefficient-derivative (exps n) (exps_are n) s.ops laws.ring i (omega arith) pure_terms (placed q)
        ∙ ap₂ (λ k m. multiple s.ops (suc k) (coefficient_in n s.ops pure_terms m))
        (Place.at-placed_front (exps n) (exps_are n) (exps c) (exps_are c) fewer q i h)
        (ap (plus (exps n) (placed q)) (sym (Place.placed-variable (exps n) (exps_are n) (exps c) (exps_are c) fewer i h)) ∙ sym (Place.placed-plus (exps n) (exps_are n) (exps c) (exps_are c) fewer q (variable (exps c) i)))
        ∙ ap (multiple s.ops (suc ((exps c).at q i))) (coefficient-pure (plus (exps c) q (variable (exps c) i)) ∙ sym (coefficient-seen (plus (exps c) q (variable (exps c) i))))
        ∙ sym (Place.coefficient-derivative (exps c) (exps_are c) s.ops laws.ring i h residual_terms q)

    abbrev below : Polynomial n V → Polynomial c V
    below g = Residuals.below n c fewer s laws g

    products : (i : ℕ) → i < c → (q : ExpList c) → coefficient_in n s.ops (times (exps n) s.ops (takes i) (derivative (exps n) s.ops i pure_terms)) (placed q)
        ≡ coefficient_in c s.ops (times (exps c) s.ops (takes_own i) (derivative (exps c) s.ops i residual_terms)) q
    products i h q =
        sym (Residuals.coefficient-below n c fewer s laws (times (exps n) s.ops (takes i) (derivative (exps n) s.ops i pure_terms)) q)
        ∙ splits.down_times (exps n) (exps_are n) (exps c) (exps_are c) fewer s.ops laws.ring set (takes i) (derivative (exps n) s.ops i pure_terms) q
        ∙ PolyRing.times_left (exps c) (exps_are c) s.ops laws.ring (below (takes i)) (takes_own i) (below (derivative (exps n) s.ops i pure_terms))
        (λ m. Residuals.coefficient-below n c fewer s laws (takes i) m ∙ sym (coefficient-down (takes i) (takes_are_own i h) m) ∙ ap (λ g. coefficient_in c s.ops g m) (sym (takes_down i))) q
        ∙ PolyRing.times_right (exps c) (exps_are c) s.ops laws.ring (takes_own i) (below (derivative (exps n) s.ops i pure_terms)) (derivative (exps c) s.ops i residual_terms)
        (λ m. Residuals.coefficient-below n c fewer s laws (derivative (exps n) s.ops i pure_terms) m ∙ slopes i h m) q

    combinations : (q : ExpList c) → coefficient_in n s.ops (combination (exps n) s.ops takes pure_terms) (placed q) ≡ coefficient_in c s.ops (combination (exps c) s.ops takes_own residual_terms) q
    combinations q =
        Linear.coefficient-sum_to (exps n) (exps_are n) s.ops laws.ring n (λ i. times (exps n) s.ops (takes i) (derivative (exps n) s.ops i pure_terms)) (placed q)
        ∙ Sums.sum_to-front s.ops laws.ring c n (λ i. coefficient_in n s.ops (times (exps n) s.ops (takes i) (derivative (exps n) s.ops i pure_terms)) (placed q)) fewer
        (λ i past inside. ap (λ g. coefficient_in n s.ops (times (exps n) s.ops g (derivative (exps n) s.ops i pure_terms)) (placed q)) (LeadTable.takes_none n p fewer grade s letters f i past))
        ∙ Sums.sum_to-cong s.ops c (λ i. coefficient_in n s.ops (times (exps n) s.ops (takes i) (derivative (exps n) s.ops i pure_terms)) (placed q))
        (λ i. coefficient_in c s.ops (times (exps c) s.ops (takes_own i) (derivative (exps c) s.ops i residual_terms)) q) (λ i h. products i h q)
        ∙ sym (Linear.coefficient-sum_to (exps c) (exps_are c) s.ops laws.ring c (λ i. times (exps c) s.ops (takes_own i) (derivative (exps c) s.ops i residual_terms)) q)

    -- ---- the kill of the part's own variables

    residual_light : (q : ExpList c) → weight_own q < (row p).degree → coefficient_in c s.ops residual_terms q ≡ s.ops.zero
    residual_light q h = coefficient-seen q ∙ light q h

    form_zero : (form : List (List ℕ)) (vs : List V) → list_all (λ m. eqb (weighted_degree_of ws (monomial_in c m).entries) (row p).degree) form ≡ true
        → (q : ExpList c) → weighted_degree_of ws q.entries ≢ (row p).degree → coefficient_in c s.ops (zip (map (monomial_in c) form) vs) q ≡ s.ops.zero
    form_zero [] vs t q ne = refl
    form_zero (m ∷ form) [] t q ne = refl
    form_zero (m ∷ form) (v ∷ vs) t q ne =
        ap₂ s.ops.add
        (ap (λ z. cond z v s.ops.zero) (ExpLaws.same-no (exps c) (exps_are c) (monomial_in c m) q (λ z. ne (sym (ap (λ y. weighted_degree_of ws y.entries) z)
        ∙ eqb-true (weighted_degree_of ws (monomial_in c m).entries) (row p).degree
        (and_left (eqb (weighted_degree_of ws (monomial_in c m).entries) (row p).degree) (list_all (λ m. eqb (weighted_degree_of ws (monomial_in c m).entries) (row p).degree) form) t)))))
        (form_zero form vs (and_right (eqb (weighted_degree_of ws (monomial_in c m).entries) (row p).degree) (list_all (λ m. eqb (weighted_degree_of ws (monomial_in c m).entries) (row p).degree) form) t) q ne)
        ∙ laws.ring.add_zero s.ops.zero

    module _ (form : (q : ExpList c) → weight_own q ≡ (row p).degree → coefficient_in n s.ops f (placed q) ≡ coefficient_in c s.ops (form_of s letters c p) q)
        (units : (l : Lead) → Contains (row p).leads l → HasInvertibleDivisors s letters l) where
      is_form : SameIn c s.ops (filter (λ (t : ExpList c × V). eqb (weighted_degree_of ws t.0.entries) (row p).degree) residual_terms) (form_of s letters c p)
      is_form q =
          Order.coefficient-filter (exps c) (exps_are c) s.ops laws.ring (λ m. eqb (weighted_degree_of ws m.entries) (row p).degree) residual_terms q
          ∙ step (eqb (weighted_degree_of ws q.entries) (row p).degree) refl
        where
          step : (t : Bool) → eqb (weighted_degree_of ws q.entries) (row p).degree ≡ t → cond t (coefficient_in c s.ops residual_terms q) s.ops.zero ≡ coefficient_in c s.ops (form_of s letters c p) q
          step true h = coefficient-seen q ∙ form q (eqb-true (weighted_degree_of ws q.entries) (row p).degree h)
          step false h = sym (form_zero (row p).form letters (forms_weigh p) q (λ z. bad (sym h ∙ eq-eqb (weighted_degree_of ws q.entries) (row p).degree z)))
            where
              bad : false ≡ true → ⊥
              bad y = cc y

      left_none : (l : Lead) → Contains (row p).leads l → (q : ExpList c) → weight_own q ≡ grade → divides c (monomial_in c l.monomial) q ≡ true
          → s.ops.add (coefficient_in c s.ops residual_terms q) (coefficient_in c s.ops (combination (exps c) s.ops takes_own residual_terms) q) ≡ s.ops.zero
      left_none l among q h divided =
          sym (OwnMoves.first_by_weight (exps c) (exps_are c) s laws weight_own (LeadTable.wd-plus c p (let z : length (row p).weights ≤ c = omega arith in z)) (row p).degree e takes_own
          (λ i g. KillMoves.high c c (let z : c ≤ c = omega arith in z) p refl grade above s laws letters residual_terms i g)
          residual_terms residual_light q (omega arith))
          ∙ (KillLaw.kills_leave_reduced s laws set p a b d units grade above residual_terms all_high is_form q).1 h l among divided

      own_lead : (l : Lead) → Contains (row p).leads l → OwnSteps.OwnList n c fewer l.monomial
      own_lead l among i h = LeadTable.own_zero c l.monomial (LeadTable.passes (λ l. list_all (λ k. eqb k 0) (drop c l.monomial)) (row p).leads l (leads_own p) among) i h

      pub no_lead : (l : Lead) → Contains (row p).leads l → (m : ExpList n) → Own m → degree (exps n) m ≤ k → weight m ≡ grade → divides n (monomial_in n l.monomial) m ≡ true
          → coefficient_in n s.ops (carry n s k (kill_move n s letters p grade f) f) m ≡ s.ops.zero
      no_lead l among m own low h divided =
          let q = restricted m in
          let at : m ≡ placed q = Place.placed-restrict (exps n) (exps_are n) (exps c) (exps_are c) fewer m own in
          KillMoves.killed_is n c fewer p refl grade above s laws letters f k m low
          ∙ KillMoves.pure_moved n c fewer p refl grade above s laws letters f k split light_n m own (omega arith)
          ∙ ap (λ z. s.ops.add (coefficient_in n s.ops f z) (coefficient_in n s.ops (combination (exps n) s.ops takes pure_terms) z)) at
          ∙ ap₂ s.ops.add (sym (coefficient-seen q)) (combinations q)
          ∙ left_none l among q (weight_restricted m own ∙ h) (sym (OwnSteps.divides-restricted n c fewer l.monomial (own_lead l among) m) ∙ divided)

-- ---- all letters

module _ {V : Type 0} (s : Scalars V) (laws : ScalarLaws s) where
  -- for letters that are three numbers
  abbrev Leaves : (n : ℕ) (p : Part) (k grade : ℕ) (f : Polynomial n V) → List V → Type 0
  Leaves n p k grade f letters = let c = length (row p).weights in
      ((q : ExpList c) → weighted_degree_of (row p).weights q.entries ≡ (row p).degree → coefficient_in n s.ops f (place (exps n) (exps c) s.ops q) ≡ coefficient_in c s.ops (form_of s letters c p) q)
      → ((l : Lead) → Contains (row p).leads l → HasInvertibleDivisors s letters l)
      → (l : Lead) → Contains (row p).leads l → (m : ExpList n) → ((w : ℕ) → c ≤ w → w < n → (exps n).at m w ≡ 0) → degree (exps n) m ≤ k → weighted_degree_of (row p).weights m.entries ≡ grade
      → divides n (monomial_in n l.monomial) m ≡ true → coefficient_in n s.ops (carry n s k (kill_move n s letters p grade f) f) m ≡ s.ops.zero

  leaves : (n k grade : ℕ) (p : Part) (fewer : length (row p).weights ≤ n) → (row p).degree < grade → (f : Polynomial n V) → IsSplitUpTo n s (length (row p).weights) k f
      → ((q : ExpList (length (row p).weights)) → weighted_degree_of (row p).weights q.entries < (row p).degree → coefficient_in n s.ops f (place (exps n) (exps (length (row p).weights)) s.ops q) ≡ s.ops.zero)
      → Leaves n p k grade f (letters_of n s p f)
  leaves n k grade p fewer above f split light =
      let t = three_letters n s p f in
      subst (Leaves n p k grade f) (sym t.3) (λ form units l among m own low h divided. no_lead n p fewer grade above s laws t.0 t.1 t.2 f k split light form units l among m own low h divided)

  -- in all variables: a monomial of the degree with a square variable is no square of one
  base_leaves : (n o : ℕ) (p : Part) → length (row p).weights ≤ n → IsBasePart p → (row p).degree ≤ o → (f : Polynomial n V) → IsSplitUpTo n s (length (row p).weights) (suc o) f
      → StartsAtPart n s (length (row p).weights) (suc o) p f → HasForm n s (length (row p).weights) p f
      → ((l : Lead) → Contains (row p).leads l → HasInvertibleDivisors s (letters_of n s p f) l)
      → (l : Lead) → Contains (row p).leads l → (m : ExpList n) → degree (exps n) m ≡ suc o → divides n (monomial_in n l.monomial) m ≡ true
      → coefficient_in n s.ops (kill_off n s (length (row p).weights) (suc o) p f) m ≡ s.ops.zero
  base_leaves n o p fewer base above f split low form units l among m h divided = by_squares (ExpLaws.find_past (length (row p).weights) n ((exps n).at m))
    where
      weight_is : (q : ExpList (length (row p).weights)) → weighted_degree_of (row p).weights q.entries ≡ degree (exps (length (row p).weights)) q
      weight_is q = LeadTable.weight-ones (row p).weights q.entries base q.long ∙ sym (Canonical.degree-entries (length (row p).weights) q)

      by_squares : ((w : ℕ) → length (row p).weights ≤ w → w < n → (exps n).at m w ≡ 0) ⊎ ((w : ℕ) × (length (row p).weights ≤ w) × (w < n) × (0 < (exps n).at m w))
          → coefficient_in n s.ops (kill_off n s (length (row p).weights) (suc o) p f) m ≡ s.ops.zero
      by_squares (inr v) =
          KillMoves.split_after n (length (row p).weights) fewer p refl (suc o) (omega arith) s laws (letters_of n s p f) f (suc o) split m v.0 v.1 v.2 v.3
          (λ z.
          let x = ap (degree (exps n)) z in
          let y = ExpLaws.degree-plus (exps n) (exps_are n) (variable (exps n) v.0) (variable (exps n) v.0) in
          let u = ExpLaws.degree-variable (exps n) (exps_are n) v.0 v.2 in
          let t = leb-true 3 (row p).degree (part_degree p) in
          omega arith) (omega arith)
      by_squares (inl own) =
          leaves n (suc o) (suc o) p fewer (omega arith) f split
          (λ q g. KillMoves.light_from_low s laws n (length (row p).weights) fewer p refl base (suc o) (omega arith) f low (Residuals.placed n (length (row p).weights) fewer s laws q)
          (λ w past inside. Place.at-placed_past (exps n) (exps_are n) (exps (length (row p).weights)) (exps_are (length (row p).weights)) fewer q w past inside)
          (let e = LeadTable.weight-same (row p).weights q.entries (Residuals.placed n (length (row p).weights) fewer s laws q).entries
          (λ i k. Place.at-placed_front (exps n) (exps_are n) (exps (length (row p).weights)) (exps_are (length (row p).weights)) fewer q i k) in omega arith))
          (λ q g. form q (sym (weight_is q) ∙ g)) units l among m own (omega arith) (sym (LeadTable.degree-own n p fewer base m own) ∙ h) divided

  pub kills_leave_no_lead : KillsLeaveNoLead s
  kills_leave_no_lead n c o p fewer size base above f =
      subst (λ c. c ≤ n → IsSplitUpTo n s c (suc o) f → StartsAtPart n s c (suc o) p f → HasForm n s c p f
      → ((l : Lead) → Contains (row p).leads l → HasInvertibleDivisors s (letters_of n s p f) l)
      → (l : Lead) → Contains (row p).leads l → (m : ExpList n) → degree (exps n) m ≡ suc o → divides n (monomial_in n l.monomial) m ≡ true
      → coefficient_in n s.ops (kill_off n s c (suc o) p f) m ≡ s.ops.zero) size
      (λ fewer split low form units l among m h divided. base_leaves n o p fewer base above f split low form units l among m h divided) fewer

  -- ---- graded kills

  pub grades : (n k grade : ℕ) (p : Part) (fewer : length (row p).weights ≤ n) → 2 ≤ k → (row p).degree < grade → (f : Polynomial n V) → IsSplitUpTo n s (length (row p).weights) k f
      → HasPrincipalPart n s (length (row p).weights) p f → ((l : Lead) → Contains (row p).leads l → HasInvertibleDivisors s (letters_of n s p f) l)
      → GradeIsKilled n s (length (row p).weights) k grade p f
  grades n k grade p fewer two above f split principal units =
      let c = length (row p).weights in
      let letters = letters_of n s p f in
      let placed : ExpList c → ExpList n = Residuals.placed n c fewer s laws in
      let own : (b : ExpList c) (w : ℕ) → c ≤ w → w < n → (exps n).at (placed b) w ≡ 0 = λ b w past inside. Place.at-placed_past (exps n) (exps_are n) (exps c) (exps_are c) fewer b w past inside in
      let weight : (b : ExpList c) → weighted_degree_of (row p).weights (placed b).entries ≡ weighted_degree_of (row p).weights b.entries = λ b.
      LeadTable.weight-same (row p).weights b.entries (placed b).entries (λ i h. Place.at-placed_front (exps n) (exps_are n) (exps c) (exps_are c) fewer b i h) in
      let light : (m : ExpList n) → ((w : ℕ) → c ≤ w → w < n → (exps n).at m w ≡ 0) → weighted_degree_of (row p).weights m.entries < (row p).degree → coefficient_in n s.ops f m ≡ s.ops.zero = λ m none h.
      ap (coefficient_in n s.ops f) (Place.placed-restrict (exps n) (exps_are n) (exps c) (exps_are c) fewer m none)
      ∙ principal.above (OwnSteps.restricted n c fewer m) (let e = LeadTable.weight-same (row p).weights m.entries (OwnSteps.restricted n c fewer m).entries (λ i g. sym (OwnSteps.entries_same n c fewer m none i)) in omega arith) in
      record {
        split = KillMoves.split_after n c fewer p refl grade above s laws letters f k split;
        squares = KillMoves.squares_after n c fewer p refl grade above s laws letters f k split two;
        below = λ b h g.
            KillMoves.killed_is n c fewer p refl grade above s laws letters f k (placed b) (let e = Residuals.degree-placed n c fewer s laws b in omega arith)
            ∙ KillMoves.pure_stays n c fewer p refl grade above s laws letters f k split light (placed b) (own b) (let e = weight b in omega arith);
        reduced = λ l among b h g divided.
            leaves n k grade p fewer above f split principal.above principal.form units l among (placed b) (own b) (let e = Residuals.degree-placed n c fewer s laws b in omega arith) (weight b ∙ g)
            (OwnSteps.divides-restricted n c fewer l.monomial (own_lead_of p l among) (placed b) ∙ ap (divides c (monomial_in c l.monomial)) (Place.restrict-placed (exps n) (exps_are n) (exps c) (exps_are c) fewer b) ∙ divided);
      }
    where
      own_lead_of : (p : Part) (l : Lead) → Contains (row p).leads l → (i : ℕ) → length (row p).weights ≤ i → get_or l.monomial i 0 ≡ 0
      own_lead_of p l among i h = LeadTable.own_zero (length (row p).weights) l.monomial (LeadTable.passes (λ l. list_all (λ k. eqb k 0) (drop (length (row p).weights) l.monomial)) (row p).leads l (leads_own p) among) i h

  pub grades_are_killed : GradesAreKilled s
  grades_are_killed n c k grade p fewer size two above f =
      subst (λ c. c ≤ n → IsSplitUpTo n s c k f → HasPrincipalPart n s c p f → ((l : Lead) → Contains (row p).leads l → HasInvertibleDivisors s (letters_of n s p f) l) → GradeIsKilled n s c k grade p f) size
      (λ fewer split principal units. grades n k grade p fewer two above f split principal units) fewer
