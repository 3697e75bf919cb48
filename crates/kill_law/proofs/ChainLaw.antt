-- A reduction ends: a term, its tail, the tail of that, and so on, are at most three that a lead divides. Which leads divide depends on small exponents alone,
-- so that a computation over a box of monomials shows it for all.
use Rattle.std.proofs.Common.{◌≡◌, ℕ, zero, suc, ◌+◌, ◌-◌, ◌*◌, ◌<◌, ◌≤◌, ◌⊎◌, inl, inr, Bool, true, false, ◌&&◌, cond, leb, List, [], ◌∷◌, map, get_or, length, refl, sym, ap, ap₂, subst, ◌∙◌, arith}
use Rattle.std.specs.Prelude.{Option, Some, None, All, filter_map}
use Rattle.std.specs.List.{list_all}
use Rattle.std.proofs.lemmas.Bool.{leb-true, le-leb}
use Rattle.ring_theory.specs.Scalars.{Scalars}
use Rattle.poly_law.specs.Exps.{plus, all_to}
use Rattle.poly_law.specs.ExpList.{ExpList, exps}
use Rattle.poly_law.specs.Polynomials.{Polynomial}
use Rattle.poly_law.proofs.ExpLists.{exps_are}
use Rattle.poly_law.proofs.ExpLaws
use Rattle.mono_exp.specs.Exponents.{is_before}
use Rattle.jet_law.specs.Canonical.{monomial_in}
use Rattle.kill_law.specs.declared.lead.Entry.{Entry}
use Rattle.kill_law.specs.declared.lead.Lead.{Lead}
use Rattle.kill_law.specs.declared.part.Part.{Part}
use Rattle.kill_law.specs.declared.part.Part.TheVariants as parts
use Rattle.kill_law.specs.declared.table.TheConstants as leads
use Rattle.kill_law.specs.Table.{row}
use Rattle.kill_law.specs.Kill.{divides, quotient, first_lead, tail_of}
use Rattle.kill_law.specs.Taken.{Step, step_at, first_step, unless_zero, put, put_all, term_of, left_by}
use Rattle.kill_law.specs.Reductions.{left_from, left_of, ReductionsEnd}
use Rattle.kill_law.proofs.LeadEquations.{and_left, and_right}
use Rattle.kill_law.proofs.ReductionLaw.{some_inj}

all_cons : {A : Type 0} (P : A → Type 0) (x : A) (xs : List A) → P x → All P xs → All P (x ∷ xs)
all_cons P x xs p a zero d g = p
all_cons P x xs p a (suc j) d g = a j d (omega arith)

-- ---- chains of tails

module _ (n : ℕ) (leads : List Lead) where
  -- the monomial of the tail e of m, which l divides
  abbrev next : ExpList n → Lead → Entry → ExpList n
  next m l e = plus (exps n) (quotient n m (monomial_in n l.monomial)) (monomial_in n e.monomial)

  abbrev ends_at : (ExpList n → Bool) → ExpList n → Option Lead → Bool
  ends_at later m None = true
  ends_at later m (Some l) = list_all (λ e. later (next m l e)) (tail_of l)

  -- m, its tail and so on: at most k that a lead divides
  abbrev ends : ℕ → ExpList n → Bool
  ends zero m = elim (first_lead n leads m) [ None ↦ true | Some l ↦ false ]
  ends (suc k) m = ends_at (ends k) m (first_lead n leads m)

  none_divides : (m : ExpList n) → ends 0 m ≡ true → first_lead n leads m ≡ None
  none_divides m h = step (first_lead n leads m) h
    where
      step : (o : Option Lead) → elim o [ None ↦ true | Some l ↦ false ] ≡ true → o ≡ None
      step None h = refl
      step (Some l) h = let bad : ⊥ = cc h in absurd bad

  module _ {V : Type 0} where
    -- the chains of all terms of h have together at most b that a lead divides
    abbrev Ends : ℕ → Polynomial n V → Type 0
    Ends b [] = Unit {0}
    Ends b (t ∷ h) = (k : ℕ) × (ends k t.0 ≡ true) × (k ≤ b) × Ends (b - k) h

    weaker : (b d : ℕ) (h : Polynomial n V) → b ≤ d → Ends b h → Ends d h
    weaker b d [] g e = tt
    weaker b d (t ∷ h) g e = let k = e.0 in let q : k ≤ b = e.2 in (k, e.1, omega arith, weaker (b - k) (d - k) h (omega arith) e.3)

    -- no chain is left
    none_left : (h : Polynomial n V) → Ends 0 h → All (λ t. first_lead n leads t.0 ≡ None) h
    none_left [] e j d g = absurd (omega arith)
    none_left (t ∷ h) e zero d g = let k = e.0 in let q : k ≤ 0 = e.2 in let z : k ≡ 0 = omega arith in none_divides t.0 (subst (λ z. ends z t.0 ≡ true) z e.1)
    none_left (t ∷ h) e (suc j) d g = let k = e.0 in let q : k ≤ 0 = e.2 in let z : 0 - k ≡ 0 = omega arith in none_left h (subst (λ z. Ends z h) z e.3) j d (omega arith)

    -- where no step is found
    none_found : (h : Polynomial n V) → first_step leads h ≡ None → All (λ t. first_lead n leads t.0 ≡ None) h
    none_found [] e = λ j d g. absurd (omega arith)
    none_found (t ∷ h) e = step (first_lead n leads t.0) refl (first_step leads h) refl (none_found h) e
      where
        step : (o : Option Lead) → first_lead n leads t.0 ≡ o → (later : Option (Step n V × Polynomial n V)) → first_step leads h ≡ later → (first_step leads h ≡ None → All (λ t. first_lead n leads t.0 ≡ None) h)
            → step_at t h later o ≡ None → All (λ t. first_lead n leads t.0 ≡ None) (t ∷ h)
        step (Some l) q later p rest e = let bad : ⊥ = cc e in absurd bad
        step None q (Some u) p rest e = let bad : ⊥ = cc e in absurd bad
        step None q None p rest e = all_cons (λ t. first_lead n leads t.0 ≡ None) t h q (rest p)

    -- a step that is found: the chain of its term, and those of the others
    record IsStep (b : ℕ) (u : Step n V × Polynomial n V) : Type 0 where
      monomial : ExpList n
      lead : first_lead n leads monomial ≡ Some u.0.lead
      rest : u.0.rest ≡ quotient n monomial (monomial_in n u.0.lead.monomial)
      k : ℕ
      chain : ends k monomial ≡ true
      within : k ≤ b
      others : Ends (b - k) u.1

    is_step : (b : ℕ) (h : Polynomial n V) (u : Step n V × Polynomial n V) → Ends b h → first_step leads h ≡ Some u → IsStep b u
    is_step b [] u e q = let bad : ⊥ = cc q in absurd bad
    is_step b (t ∷ h) u e q = here (first_lead n leads t.0) refl (first_step leads h) refl (is_step (b - e.0) h) q
      where
        here : (o : Option Lead) → first_lead n leads t.0 ≡ o → (later : Option (Step n V × Polynomial n V)) → first_step leads h ≡ later
            → ((u : Step n V × Polynomial n V) → Ends (b - e.0) h → first_step leads h ≡ Some u → IsStep (b - e.0) u) → step_at t h later o ≡ Some u → IsStep b u
        here (Some l) p later f below q = subst (IsStep b) (some_inj q) (record { monomial = t.0; lead = p; rest = refl; k = e.0; chain = e.1; within = e.2; others = e.3 })
        here None p None f below q = let bad : ⊥ = cc q in absurd bad
        here None p (Some v) f below q =
            let i = below v e.3 f in
            let x : i.k ≤ b - e.0 = i.within in
            let y : e.0 ≤ b = e.2 in
            subst (IsStep b) (some_inj q) (record {
              monomial = i.monomial;
              lead = i.lead;
              rest = i.rest;
              k = i.k;
              chain = i.chain;
              within = omega arith;
              others = (e.0, e.1, omega arith, subst (λ z. Ends z v.1) (omega arith) i.others);
            })

    module _ (s : Scalars V) where
      -- a term that is put among others
      unless : (b j : ℕ) (t : ExpList n × V) (h : Polynomial n V) → ends j t.0 ≡ true → j ≤ b → Ends (b - j) h → Ends b (unless_zero s t h)
      unless b j t h e g rest = step (s.is_zero t.1)
        where
          step : (z : Bool) → Ends b (cond z h (t ∷ h))
          step true = weaker (b - j) b h (omega arith) rest
          step false = (j, e, g, rest)

      puts : (b j : ℕ) (t : ExpList n × V) (h : Polynomial n V) → ends j t.0 ≡ true → Ends b h → Ends (b + j) (put s t h)
      puts b j t [] e a = unless (b + j) j t [] e (omega arith) tt
      puts b j t (u ∷ h) e a = first_test (is_before u.0.entries t.0.entries) (puts (b - a.0) j t h e a.3)
        where
          g : a.0 ≤ b
          g = a.2

          second_test : (z : Bool) → Ends (b + j) (cond z (unless_zero s t (u ∷ h)) (unless_zero s (u.0, s.ops.add u.1 t.1) h))
          second_test true = unless (b + j) j t (u ∷ h) e (omega arith) (subst (λ z. Ends z (u ∷ h)) (let x : b ≡ b + j - j = omega arith in x) a)
          second_test false = let k = g in unless (b + j) a.0 (u.0, s.ops.add u.1 t.1) h a.1 (omega arith) (weaker (b - a.0) (b + j - a.0) h (omega arith) a.3)

          first_test : (z : Bool) → Ends (b - a.0 + j) (put s t h) → Ends (b + j) (cond z (u ∷ put s t h) (cond (is_before t.0.entries u.0.entries) (unless_zero s t (u ∷ h)) (unless_zero s (u.0, s.ops.add u.1 t.1) h)))
          first_test true rest = let k = g in (a.0, a.1, omega arith, subst (λ z. Ends z (put s t h)) (omega arith) rest)
          first_test false rest = second_test (is_before t.0.entries u.0.entries)

      module _ (letters : List V) where
        -- what a step leaves has a chain less
        steps : (b : ℕ) (u : Step n V × Polynomial n V) → IsStep (suc b) u → Ends b (left_by s letters u)
        steps b u i = by_chain i.k i.chain i.within i.others
          where
            by_tail : (k : ℕ) → k ≤ b → Ends (b - k) u.1 → (o : Option Entry) → list_all (λ e. ends k (next i.monomial u.0.lead e)) (filter_map (λ e. e) (o ∷ [])) ≡ true
                → Ends b (put_all s (map (term_of s letters u.0) (filter_map (λ e. e) (o ∷ []))) u.1)
            by_tail k g others None e = weaker (b - k) b u.1 (omega arith) others
            by_tail k g others (Some e) q =
                subst (λ z. Ends z (put s (term_of s letters u.0 e) u.1)) (let x : b - k + k ≡ b = omega arith in x)
                (puts (b - k) k (term_of s letters u.0 e) u.1 (subst (λ z. ends k (plus (exps n) z (monomial_in n e.monomial)) ≡ true) (sym i.rest) (and_left (ends k (next i.monomial u.0.lead e)) true q)) others)

            by_chain : (k : ℕ) → ends k i.monomial ≡ true → k ≤ suc b → Ends (suc b - k) u.1 → Ends b (left_by s letters u)
            by_chain zero e g others = let bad : ⊥ = cc (none_divides i.monomial e, i.lead) in absurd bad
            by_chain (suc k) e g others =
                by_tail k (omega arith) (subst (λ z. Ends z u.1) (let x : suc b - suc k ≡ b - k = omega arith in x) others) u.0.lead.tail (subst (λ o. ends_at (ends k) i.monomial o ≡ true) i.lead e)

        reduced : (k : ℕ) (h : Polynomial n V) → Ends k h → All (λ t. first_lead n leads t.0 ≡ None) (left_of s letters k leads h)
        reduced zero h e = none_left h e
        reduced (suc k) h e = step (first_step leads h) refl (reduced k)
          where
            step : (o : Option (Step n V × Polynomial n V)) → first_step leads h ≡ o → ((h : Polynomial n V) → Ends k h → All (λ t. first_lead n leads t.0 ≡ None) (left_of s letters k leads h))
                → All (λ t. first_lead n leads t.0 ≡ None) (left_from s letters (left_of s letters k leads) h o)
            step None q rest = none_found h q
            step (Some u) q rest = rest (left_by s letters u) (steps k u (is_step (suc k) h u e q))

    module _ (all : (m : ExpList n) → ends 3 m ≡ true) where
      three_each : (h : Polynomial n V) → Ends (3 * length h) h
      three_each [] = tt
      three_each (t ∷ h) = (3, all t.0, omega arith, subst (λ z. Ends z h) (omega arith) (three_each h))

-- ---- small exponents decide

all_to_cong : (n : ℕ) (p q : ℕ → Bool) → ((i : ℕ) → i < n → p i ≡ q i) → all_to n p ≡ all_to n q
all_to_cong zero p q h = refl
all_to_cong (suc n) p q h = ap₂ (λ x y. x && y) (all_to_cong n p q (λ i g. h i (omega arith))) (h n (omega arith))

module _ (n : ℕ) where
  abbrev at : ExpList n → ℕ → ℕ
  at m i = get_or m.entries i 0

  -- m and k have the same exponent at each variable, or both one of at least b
  abbrev Like : ℕ → ExpList n → ExpList n → Type 0
  Like b m k = (i : ℕ) → i < n → (at m i ≡ at k i) ⊎ ((b ≤ at m i) × (b ≤ at k i))

  -- the exponents of a lead are at most b
  abbrev is_low : ℕ → Lead → Bool
  is_low b l = all_to n (λ i. leb (at (monomial_in n l.monomial) i) b)

  -- those of a lead with a tail are
  abbrev is_short : ℕ → Lead → Bool
  is_short b l = elim l.tail [ None ↦ true | Some e ↦ is_low b l ]

  low-at : (b : ℕ) (l : Lead) → is_low b l ≡ true → (i : ℕ) → i < n → at (monomial_in n l.monomial) i ≤ b
  low-at b l h i g = leb-true (at (monomial_in n l.monomial) i) b (ExpLaws.all_to_at n (λ i. leb (at (monomial_in n l.monomial) i) b) h i g)

  divides-like : (b c : ℕ) (l : Lead) (m k : ExpList n) → is_low c l ≡ true → c ≤ b → Like b m k → divides n (monomial_in n l.monomial) m ≡ divides n (monomial_in n l.monomial) k
  divides-like b c l m k low g like =
      let e = monomial_in n l.monomial in
      all_to_cong n (λ i. leb (at e i) (at m i)) (λ i. leb (at e i) (at k i)) λ i h. elim (like i h) [
        | inl q ↦ ap (leb (at e i)) q
        | inr o ↦
            let x : at e i ≤ c = low-at c l low i h in
            let y : b ≤ at m i = o.0 in
            let z : b ≤ at k i = o.1 in
            le-leb (at e i) (at m i) (omega arith) ∙ sym (le-leb (at e i) (at k i) (omega arith))
      ]

  first-like : (b c : ℕ) (leads : List Lead) (m k : ExpList n) → list_all (is_low c) leads ≡ true → c ≤ b → Like b m k → first_lead n leads m ≡ first_lead n leads k
  first-like b c [] m k low g like = refl
  first-like b c (l ∷ leads) m k low g like =
      ap₂ (λ x o. cond x (Some l) o) (divides-like b c l m k (and_left (is_low c l) (list_all (is_low c) leads) low) g like)
      (first-like b c leads m k (and_right (is_low c l) (list_all (is_low c) leads) low) g like)

  found-passes : (p : Lead → Bool) (leads : List Lead) (m : ExpList n) (l : Lead) → list_all p leads ≡ true → first_lead n leads m ≡ Some l → p l ≡ true
  found-passes p [] m l a h = let bad : ⊥ = cc h in absurd bad
  found-passes p (k ∷ leads) m l a h = step (divides n (monomial_in n k.monomial) m) (found-passes p leads m l (and_right (p k) (list_all p leads) a)) h
    where
      step : (b : Bool) → (first_lead n leads m ≡ Some l → p l ≡ true) → cond b (Some k) (first_lead n leads m) ≡ Some l → p l ≡ true
      step true rest h = subst (λ z. p z ≡ true) (some_inj h) (and_left (p k) (list_all p leads) a)
      step false rest h = rest h

  module _ (leads : List Lead) (c d : ℕ) (low : list_all (is_low c) leads ≡ true) (short : list_all (is_short d) leads ≡ true) where
    at-next : (m : ExpList n) (l : Lead) (e : Entry) (i : ℕ) → i < n → at (next n leads m l e) i ≡ at m i - at (monomial_in n l.monomial) i + at (monomial_in n e.monomial) i
    at-next m l e i g =
        ExpLaws.at-plus (exps n) (exps_are n) (quotient n m (monomial_in n l.monomial)) (monomial_in n e.monomial) i g
        ∙ ap (λ z. z + at (monomial_in n e.monomial) i) ((exps_are n).at_make (λ i. at m i - at (monomial_in n l.monomial) i) i g)

    next-like : (b : ℕ) (l : Lead) (e : Entry) (m k : ExpList n) → is_low d l ≡ true → Like (b + d) m k → Like b (next n leads m l e) (next n leads k l e)
    next-like b l e m k g like i h = elim (like i h) [
      | inl q ↦ inl (at-next m l e i h ∙ ap (λ z. z - at (monomial_in n l.monomial) i + at (monomial_in n e.monomial) i) q ∙ sym (at-next k l e i h))
      | inr o ↦
          let x : at (monomial_in n l.monomial) i ≤ d = low-at d l g i h in
          let y : b + d ≤ at m i = o.0 in
          let z : b + d ≤ at k i = o.1 in
          inr (subst (λ z. b ≤ z) (sym (at-next m l e i h)) (omega arith), subst (λ z. b ≤ z) (sym (at-next k l e i h)) (omega arith))
    ]

    ends-like : (k b : ℕ) (m q : ExpList n) → c + k * d ≤ b → Like b m q → ends n leads k m ≡ ends n leads k q
    ends-like zero b m q g like = ap (λ o. elim o [ None ↦ true | Some l ↦ false ]) (first-like b c leads m q low (omega arith) like)
    ends-like (suc k) b m q g like =
        ap (ends_at n leads (ends n leads k) m) (first-like b c leads m q low less like) ∙ step (first_lead n leads q) refl (λ m q h. ends-like k (b - d) m q enough h)
      where
        less : c ≤ b
        less = let x : c + (d + k * d) ≤ b = subst (λ z. c + z ≤ b) (let y : suc k * d ≡ d + k * d = grind arith in y) g in omega arith

        enough : c + k * d ≤ b - d
        enough = let x : c + (d + k * d) ≤ b = subst (λ z. c + z ≤ b) (let y : suc k * d ≡ d + k * d = grind arith in y) g in omega arith

        back : b - d + d ≡ b
        back = let x : c + (d + k * d) ≤ b = subst (λ z. c + z ≤ b) (let y : suc k * d ≡ d + k * d = grind arith in y) g in omega arith

        tails : (l : Lead) → (o : Option Entry) → elim o [ None ↦ true | Some e ↦ is_low d l ] ≡ true → ((m q : ExpList n) → Like (b - d) m q → ends n leads k m ≡ ends n leads k q)
            → list_all (λ e. ends n leads k (next n leads m l e)) (filter_map (λ e. e) (o ∷ [])) ≡ list_all (λ e. ends n leads k (next n leads q l e)) (filter_map (λ e. e) (o ∷ []))
        tails l None g rest = refl
        tails l (Some e) g rest = ap (λ z. z && true) (rest (next n leads m l e) (next n leads q l e) (next-like (b - d) l e m q g (subst (λ z. Like z m q) (sym back) like)))

        step : (o : Option Lead) → first_lead n leads q ≡ o → ((m q : ExpList n) → Like (b - d) m q → ends n leads k m ≡ ends n leads k q) → ends_at n leads (ends n leads k) m o ≡ ends_at n leads (ends n leads k) q o
        step None p rest = refl
        step (Some l) p rest = tails l l.tail (found-passes (is_short d) leads q l short p) rest

-- ---- boxes of monomials

-- the smaller of two numbers
capped : ℕ → ℕ → ℕ
capped a b = cond (leb a b) a b

order : (a b : ℕ) → (a ≤ b) ⊎ (b ≤ a)
order a b = grind arith

capped-le : (a b : ℕ) → capped a b < suc b
unfolding capped
capped-le a b = step (leb a b) refl
  where
    step : (z : Bool) → leb a b ≡ z → cond z a b < suc b
    step true q = let g = leb-true a b q in omega arith
    step false q = omega arith

capped-like : (a b : ℕ) → (a ≡ capped a b) ⊎ ((b ≤ a) × (b ≤ capped a b))
unfolding capped
capped-like a b = step (leb a b) refl
  where
    step : (z : Bool) → leb a b ≡ z → (a ≡ cond z a b) ⊎ ((b ≤ a) × (b ≤ cond z a b))
    step true q = inl refl
    step false q = elim (order a b) [
      | inl g ↦ let bad : ⊥ = cc (le-leb a b g, q) in absurd bad
      | inr g ↦ inr (g, omega arith)
    ]

abbrev box_of_two : List Lead → ℕ → Bool
box_of_two leads b = all_to (suc b) (λ i. all_to (suc b) (λ j. ends 2 leads 3 (monomial_in 2 (i ∷ j ∷ []))))

two-like : (b : ℕ) (m : ExpList 2) → Like 2 b m (monomial_in 2 (capped (get_or m.entries 0 0) b ∷ capped (get_or m.entries 1 0) b ∷ []))
two-like b m zero g = capped-like (get_or m.entries 0 0) b
two-like b m (suc zero) g = capped-like (get_or m.entries 1 0) b
two-like b m (suc (suc i)) g = absurd (omega arith)

two : (leads : List Lead) (c d : ℕ) → list_all (is_low 2 c) leads ≡ true → list_all (is_short 2 d) leads ≡ true → box_of_two leads (c + 3 * d) ≡ true → (m : ExpList 2) → ends 2 leads 3 m ≡ true
two leads c d low short box m =
    let b = c + 3 * d in
    let x = capped (get_or m.entries 0 0) b in
    let y = capped (get_or m.entries 1 0) b in
    ends-like 2 leads c d low short 3 b m (monomial_in 2 (x ∷ y ∷ [])) (omega arith) (two-like b m)
    ∙ ExpLaws.all_to_at (suc b) (λ j. ends 2 leads 3 (monomial_in 2 (x ∷ j ∷ [])))
    (ExpLaws.all_to_at (suc b) (λ i. all_to (suc b) (λ j. ends 2 leads 3 (monomial_in 2 (i ∷ j ∷ [])))) box x (capped-le (get_or m.entries 0 0) b)) y (capped-le (get_or m.entries 1 0) b)

abbrev box_of_three : List Lead → ℕ → Bool
box_of_three leads b = all_to (suc b) (λ i. all_to (suc b) (λ j. all_to (suc b) (λ k. ends 3 leads 3 (monomial_in 3 (i ∷ j ∷ k ∷ [])))))

three-like : (b : ℕ) (m : ExpList 3) → Like 3 b m (monomial_in 3 (capped (get_or m.entries 0 0) b ∷ capped (get_or m.entries 1 0) b ∷ capped (get_or m.entries 2 0) b ∷ []))
three-like b m zero g = capped-like (get_or m.entries 0 0) b
three-like b m (suc zero) g = capped-like (get_or m.entries 1 0) b
three-like b m (suc (suc zero)) g = capped-like (get_or m.entries 2 0) b
three-like b m (suc (suc (suc i))) g = absurd (omega arith)

three : (leads : List Lead) (c d : ℕ) → list_all (is_low 3 c) leads ≡ true → list_all (is_short 3 d) leads ≡ true → box_of_three leads (c + 3 * d) ≡ true → (m : ExpList 3) → ends 3 leads 3 m ≡ true
three leads c d low short box m =
    let b = c + 3 * d in
    let x = capped (get_or m.entries 0 0) b in
    let y = capped (get_or m.entries 1 0) b in
    let z = capped (get_or m.entries 2 0) b in
    ends-like 3 leads c d low short 3 b m (monomial_in 3 (x ∷ y ∷ z ∷ [])) (omega arith) (three-like b m)
    ∙ ExpLaws.all_to_at (suc b) (λ k. ends 3 leads 3 (monomial_in 3 (x ∷ y ∷ k ∷ [])))
    (ExpLaws.all_to_at (suc b) (λ j. all_to (suc b) (λ k. ends 3 leads 3 (monomial_in 3 (x ∷ j ∷ k ∷ []))))
    (ExpLaws.all_to_at (suc b) (λ i. all_to (suc b) (λ j. all_to (suc b) (λ k. ends 3 leads 3 (monomial_in 3 (i ∷ j ∷ k ∷ []))))) box x (capped-le (get_or m.entries 0 0) b)) y (capped-le (get_or m.entries 1 0) b))
    z (capped-le (get_or m.entries 2 0) b)

-- for each part, its leads' exponents are at most the first number, those with a tail at most the second
all_end : (p : Part) (m : ExpList (length (row p).weights)) → ends (length (row p).weights) (row p).leads 3 m ≡ true
unfolding row
all_end parts.D4 = λ m. refl
all_end parts.D = two leads.D 2 0 refl refl refl
all_end parts.J = two leads.J 2 0 refl refl refl
all_end parts.X9 = λ m. refl
all_end parts.X = two leads.X 4 0 refl refl refl
all_end parts.Y = two leads.Y 2 0 refl refl refl
all_end parts.Z = two leads.Z 3 0 refl refl refl
all_end parts.W = two leads.W 3 0 refl refl refl
all_end parts.P8 = λ m. refl
all_end parts.Q = three leads.Q 2 0 refl refl refl
all_end parts.S = three leads.S 2 2 refl refl refl
all_end parts.U = three leads.U 2 0 refl refl refl
all_end parts.T = three leads.T 1 1 refl refl refl
all_end parts.E6 = two leads.E6 3 0 refl refl refl
all_end parts.E7 = two leads.E7 5 2 refl refl refl
all_end parts.E8 = two leads.E8 4 0 refl refl refl
all_end parts.J10 = two leads.J10 7 2 refl refl refl
all_end parts.E12 = two leads.E12 6 0 refl refl refl
all_end parts.E13 = two leads.E13 9 2 refl refl refl
all_end parts.E14 = two leads.E14 7 0 refl refl refl
all_end parts.Z11 = two leads.Z11 5 3 refl refl refl
all_end parts.Z12 = two leads.Z12 6 6 refl refl refl
all_end parts.Z13 = two leads.Z13 6 3 refl refl refl
all_end parts.W12 = two leads.W12 4 0 refl refl refl
all_end parts.W13 = two leads.W13 7 3 refl refl refl
all_end parts.Q10 = three leads.Q10 4 2 refl refl refl
all_end parts.Q11 = three leads.Q11 6 2 refl refl refl
all_end parts.Q12 = three leads.Q12 5 2 refl refl refl
all_end parts.S11 = three leads.S11 4 2 refl refl refl
all_end parts.S12 = three leads.S12 6 2 refl refl refl
all_end parts.U12 = three leads.U12 3 0 refl refl refl
all_end parts.JT = two leads.JT 3 0 refl refl refl

pub reductions_end : {V : Type 0} (s : Scalars V) → ReductionsEnd s
reductions_end s p letters h = reduced (length (row p).weights) (row p).leads s letters (3 * length h) h (three_each (length (row p).weights) (row p).leads (all_end p) h)
