-- The reduction of terms in the first c of n variables is that of the same terms in c variables.
use Rattle.std.proofs.Common.{◌≡◌, ℕ, zero, suc, ◌-◌, ◌<◌, ◌≤◌, ◌⊎◌, inl, inr, Bool, true, false, ◌&&◌, ◌||◌, cond, eqb, leb, le-leb, List, [], ◌∷◌, ◌++◌, map, flat_map, get_or, length, sum, refl, sym, ap, ap₂, ◌∙◌, arith}
use Rattle.std.specs.Prelude.{Option, Some, None, option_map, Contains, nat_lt}
use Rattle.std.proofs.lemmas.List.{map-append}
use Rattle.ring_theory.specs.Scalars.{Scalars}
use Rattle.poly_law.specs.Exps.{plus, all_to}
use Rattle.poly_law.specs.ExpList.{ExpList, exps}
use Rattle.poly_law.specs.Polynomials.{Polynomial}
use Rattle.poly_law.proofs.ExpLists.{exps_are}
use Rattle.poly_law.proofs.Place
use Rattle.mono_exp.specs.Exponents.{is_before, is_greater_first}
use Rattle.mono_exp.proofs.Lists.{Each, sum-cons}
use Rattle.jet_law.specs.Canonical.{monomial_in}
use Rattle.kill_law.specs.declared.lead.Entry.{Entry}
use Rattle.kill_law.specs.declared.lead.Lead.{Lead}
use Rattle.kill_law.specs.Kill.{divides, quotient, first_lead, cofactor, tail_of}
use Rattle.kill_law.specs.Taken.{Step, step_by, step_at, first_step, unless_zero, put, put_all, term_of, left_by, steps_of, steps_from, taken_by}
use Rattle.kill_law.specs.Reductions.{taken}
use Rattle.kept_law.proofs.KillTerms

last_or_before : (c n : ℕ) → c ≤ suc n → (c ≤ n) ⊎ (c ≡ suc n)
last_or_before c n h = grind arith

all_to-cong : (n : ℕ) (p q : ℕ → Bool) → ((i : ℕ) → i < n → p i ≡ q i) → all_to n p ≡ all_to n q
all_to-cong zero p q h = refl
all_to-cong (suc n) p q h = ap₂ (λ x y. x && y) (all_to-cong n p q (λ i g. h i (omega arith))) (h n (omega arith))

and_true_right : (a : Bool) → (a && true) ≡ a
and_true_right true = refl
and_true_right false = refl

-- what holds past c does not matter
all_to-front : (c n : ℕ) → c ≤ n → (p : ℕ → Bool) → ((i : ℕ) → c ≤ i → i < n → p i ≡ true) → all_to n p ≡ all_to c p
all_to-front c zero h p q = ap (λ k. all_to k p) (let e : 0 ≡ c = omega arith in e)
all_to-front c (suc n) h p q = elim (last_or_before c n h) [
  | inl g ↦ ap₂ (λ x y. x && y) (all_to-front c n g p (λ i a b. q i a (omega arith))) (q n g (omega arith)) ∙ and_true_right (all_to c p)
  | inr e ↦ ap (λ k. all_to k p) (sym e)
]

-- ---- exponents with zeros after them

-- the exponents of a after those of b, where b has as many and zeros follow
greater_zeros : (a b : List ℕ) → ((i : ℕ) → get_or a i 0 ≡ 0) → ((i : ℕ) → get_or b i 0 ≡ 0) → is_greater_first a b ≡ false
greater_zeros [] b f g = refl
greater_zeros (x ∷ a) [] f g = refl
greater_zeros (x ∷ a) (y ∷ b) f g =
    let p : x ≡ 0 = f 0 in
    let q : y ≡ 0 = g 0 in
    ap₂ (λ u v. nat_lt v u || (eqb u v && is_greater_first a b)) p q
    ∙ greater_zeros a b (λ i. f (suc i)) (λ i. g (suc i))

greater_same : (a b d e : List ℕ) → ((i : ℕ) → get_or a i 0 ≡ get_or d i 0) → ((i : ℕ) → get_or b i 0 ≡ get_or e i 0) → length a ≡ length b → length d ≡ length e → is_greater_first a b ≡ is_greater_first d e
greater_same [] [] d e f g h k = sym (greater_zeros d e (λ i. sym (f i)) (λ i. sym (g i)))
greater_same [] (y ∷ b) d e f g h k = absurd (omega arith)
greater_same (x ∷ a) [] d e f g h k = absurd (omega arith)
greater_same (x ∷ a) (y ∷ b) [] e f g h k = greater_zeros (x ∷ a) (y ∷ b) f (λ i. g i ∙ past e i (omega arith))
  where
    past : (e : List ℕ) (i : ℕ) → length e ≤ i → get_or e i 0 ≡ 0
    past [] i h = refl
    past (z ∷ e) zero h = absurd (omega arith)
    past (z ∷ e) (suc i) h = past e i (omega arith)
greater_same (x ∷ a) (y ∷ b) (z ∷ d) [] f g h k = absurd (omega arith)
greater_same (x ∷ a) (y ∷ b) (z ∷ d) (w ∷ e) f g h k =
    let p : x ≡ z = f 0 in
    let q : y ≡ w = g 0 in
    let r = greater_same a b d e (λ i. f (suc i)) (λ i. g (suc i)) (omega arith) (omega arith) in
    ap₂ (λ u v. nat_lt v u || (eqb u v && is_greater_first a b)) p q ∙ ap (λ t. nat_lt w z || (eqb z w && t)) r

sum_zeros : (a : List ℕ) → ((i : ℕ) → get_or a i 0 ≡ 0) → sum a ≡ 0
sum_zeros [] f = refl
sum_zeros (x ∷ a) f = let p : x ≡ 0 = f 0 in let r = sum_zeros a (λ i. f (suc i)) in let s = sum-cons x a in omega arith

sum_same : (a d : List ℕ) → ((i : ℕ) → get_or a i 0 ≡ get_or d i 0) → sum a ≡ sum d
sum_same [] d f = sym (sum_zeros d (λ i. sym (f i)))
sum_same (x ∷ a) [] f = sum_zeros (x ∷ a) f
sum_same (x ∷ a) (z ∷ d) f = let p : x ≡ z = f 0 in let r = sum_same a d (λ i. f (suc i)) in let s = sum-cons x a in let t = sum-cons z d in omega arith

before_same : (a b d e : List ℕ) → ((i : ℕ) → get_or a i 0 ≡ get_or d i 0) → ((i : ℕ) → get_or b i 0 ≡ get_or e i 0) → length a ≡ length b → length d ≡ length e → is_before a b ≡ is_before d e
before_same a b d e f g h k =
    ap₂ (λ x y. nat_lt x y || (eqb x y && is_greater_first a b)) (sum_same a d f) (sum_same b e g)
    ∙ ap (λ t. nat_lt (sum d) (sum e) || (eqb (sum d) (sum e) && t)) (greater_same a b d e f g h k)

-- ---- monomials

module _ (n c : ℕ) (fewer : c ≤ n) where
  abbrev pub restricted : ExpList n → ExpList c
  restricted = Place.restrict (exps n) (exps_are n) (exps c) (exps_are c) fewer

  abbrev pub Own : ExpList n → Type 0
  Own m = (w : ℕ) → c ≤ w → w < n → (exps n).at m w ≡ 0

  -- the list has no exponents from c on
  abbrev pub OwnList : List ℕ → Type 0
  OwnList e = (i : ℕ) → c ≤ i → get_or e i 0 ≡ 0

  pub at-restricted : (m : ExpList n) (i : ℕ) → i < c → (exps c).at (restricted m) i ≡ (exps n).at m i
  at-restricted m i h = (exps_are c).at_make ((exps n).at m) i h

  at-monomial : (k : ℕ) (e : List ℕ) (i : ℕ) → i < k → get_or (monomial_in k e).entries i 0 ≡ get_or e i 0
  at-monomial k e i h = (exps_are k).at_make (λ i. get_or e i 0) i h

  -- the entries of a monomial in the first variables, and of its restriction
  pub past_entries : (k : ℕ) (m : ExpList k) (i : ℕ) → k ≤ i → get_or m.entries i 0 ≡ 0
  past_entries k m i h = past m.entries i (let l = m.long in omega arith)
    where
      past : (e : List ℕ) (i : ℕ) → length e ≤ i → get_or e i 0 ≡ 0
      past [] i h = refl
      past (z ∷ e) zero h = absurd (omega arith)
      past (z ∷ e) (suc i) h = past e i (omega arith)

  low_or_high : (d k : ℕ) → (d ≤ k) ⊎ (k < d)
  low_or_high d k = grind arith

  pub entries_same : (m : ExpList n) → Own m → (i : ℕ) → get_or m.entries i 0 ≡ get_or (restricted m).entries i 0
  entries_same m own i = elim (low_or_high c i) [
    | inr less ↦ sym (at-restricted m i less)
    | inl past ↦ elim (low_or_high n i) [
      | inl out ↦ past_entries n m i out ∙ sym (past_entries c (restricted m) i past)
      | inr here ↦ own i past here ∙ sym (past_entries c (restricted m) i past)
    ]
  ]

  before-restricted : (a b : ExpList n) → Own a → Own b → is_before a.entries b.entries ≡ is_before (restricted a).entries (restricted b).entries
  before-restricted a b f g =
      before_same a.entries b.entries (restricted a).entries (restricted b).entries (entries_same a f) (entries_same b g) (a.long ∙ sym b.long) ((restricted a).long ∙ sym (restricted b).long)

  monomial-restricted : (e : List ℕ) → restricted (monomial_in n e) ≡ monomial_in c e
  monomial-restricted e = (exps_are c).same_at (restricted (monomial_in n e)) (monomial_in c e) λ i h. at-restricted (monomial_in n e) i h ∙ at-monomial n e i (omega arith) ∙ sym (at-monomial c e i h)

  plus-restricted : (a b : ExpList n) → restricted (plus (exps n) a b) ≡ plus (exps c) (restricted a) (restricted b)
  plus-restricted a b = Place.restrict-plus (exps n) (exps_are n) (exps c) (exps_are c) fewer a b

  quotient-restricted : (m : ExpList n) (e : List ℕ) → restricted (quotient n m (monomial_in n e)) ≡ quotient c (restricted m) (monomial_in c e)
  quotient-restricted m e = (exps_are c).same_at (restricted (quotient n m (monomial_in n e))) (quotient c (restricted m) (monomial_in c e)) λ i h.
      at-restricted (quotient n m (monomial_in n e)) i h
      ∙ (exps_are n).at_make (λ i. get_or m.entries i 0 - get_or (monomial_in n e).entries i 0) i (omega arith)
      ∙ ap₂ (λ x y. x - y) (sym (at-restricted m i h)) (at-monomial n e i (omega arith) ∙ sym (at-monomial c e i h))
      ∙ sym ((exps_are c).at_make (λ i. get_or (restricted m).entries i 0 - get_or (monomial_in c e).entries i 0) i h)

  pub divides-restricted : (e : List ℕ) → OwnList e → (m : ExpList n) → divides n (monomial_in n e) m ≡ divides c (monomial_in c e) (restricted m)
  divides-restricted e own m =
      all_to-front c n fewer (λ i. leb (get_or (monomial_in n e).entries i 0) (get_or m.entries i 0))
      (λ i h g. le-leb (get_or (monomial_in n e).entries i 0) (get_or m.entries i 0) (let a = at-monomial n e i g in let b = own i h in omega arith))
      ∙ all_to-cong c (λ i. leb (get_or (monomial_in n e).entries i 0) (get_or m.entries i 0)) (λ i. leb (get_or (monomial_in c e).entries i 0) (get_or (restricted m).entries i 0))
      (λ i h. ap₂ leb (at-monomial n e i (omega arith) ∙ sym (at-monomial c e i h)) (sym (at-restricted m i h)))

  first-restricted : (leads : List Lead) → Each (λ l. OwnList l.monomial) leads → (m : ExpList n) → first_lead n leads m ≡ first_lead c leads (restricted m)
  first-restricted [] own m = refl
  first-restricted (l ∷ leads) own m = ap₂ (λ b o. cond b (Some l) o) (divides-restricted l.monomial own.0 m) (first-restricted leads own.1 m)

  -- ---- terms and steps

  module _ {V : Type 0} where
    abbrev pub term_down : ExpList n × V → ExpList c × V
    term_down t = (restricted t.0, t.1)

    abbrev pub down : Polynomial n V → Polynomial c V
    down f = map term_down f

    abbrev step_down : Step n V → Step c V
    step_down u = record { lead = u.lead; rest = restricted u.rest; coefficient = u.coefficient }

    abbrev found_down : Step n V × Polynomial n V → Step c V × Polynomial c V
    found_down u = (step_down u.0, down u.1)

    step_by-down : (l : Lead) (t : ExpList n × V) → step_down (step_by l t) ≡ step_by l (term_down t)
    step_by-down l t = ap (λ (z : ExpList c). record { lead = l; rest = z; coefficient = t.1 }) (quotient-restricted t.0 l.monomial)

    at-down : (t : ExpList n × V) (h : Polynomial n V) (later : Option (Step n V × Polynomial n V)) (o : Option Lead)
        → option_map found_down (step_at t h later o) ≡ step_at (term_down t) (down h) (option_map found_down later) o
    at-down t h None None = refl
    at-down t h (Some u) None = refl
    at-down t h later (Some l) = ap (λ z. Some (z, down h)) (step_by-down l t)

    step-down : (leads : List Lead) → Each (λ l. OwnList l.monomial) leads → (h : Polynomial n V) → option_map found_down (first_step leads h) ≡ first_step leads (down h)
    step-down leads own [] = refl
    step-down leads own (t ∷ h) =
        at-down t h (first_step leads h) (first_lead n leads t.0)
        ∙ ap₂ (λ later o. step_at (term_down t) (down h) later o) (step-down leads own h) (first-restricted leads own t.0)

    module _ (s : Scalars V) where
      unless-down : (t : ExpList n × V) (h : Polynomial n V) → down (unless_zero s t h) ≡ unless_zero s (term_down t) (down h)
      unless-down t h = step (s.is_zero t.1)
        where
          step : (b : Bool) → down (cond b h (t ∷ h)) ≡ cond b (down h) (term_down t ∷ down h)
          step true = refl
          step false = refl

      put-down : (t : ExpList n × V) (h : Polynomial n V) → Own t.0 → Each (λ t. Own t.0) h → down (put s t h) ≡ put s (term_down t) (down h)
      put-down t [] own owns = unless-down t []
      put-down t (u ∷ h) own owns =
          choose (put-down t h own owns.1) (is_before u.0.entries t.0.entries) (is_before t.0.entries u.0.entries)
          ∙ ap₂ (λ a b. cond a (term_down u ∷ put s (term_down t) (down h)) (cond b (unless_zero s (term_down t) (down (u ∷ h))) (unless_zero s (restricted u.0, s.ops.add u.1 t.1) (down h))))
          (before-restricted u.0 t.0 owns.0 own) (before-restricted t.0 u.0 own owns.0)
        where
          choose : down (put s t h) ≡ put s (term_down t) (down h) → (a b : Bool) → down (cond a (u ∷ put s t h) (cond b (unless_zero s t (u ∷ h)) (unless_zero s (u.0, s.ops.add u.1 t.1) h)))
              ≡ cond a (term_down u ∷ put s (term_down t) (down h)) (cond b (unless_zero s (term_down t) (down (u ∷ h))) (unless_zero s (restricted u.0, s.ops.add u.1 t.1) (down h)))
          choose rest true b = ap (λ z. term_down u ∷ z) rest
          choose rest false true = unless-down t (u ∷ h)
          choose rest false false = unless-down (u.0, s.ops.add u.1 t.1) h

      module _ (letters : List V) (leads : List Lead) (owns : Each (λ l. OwnList l.monomial) leads)
          (tails : (l : Lead) → Contains leads l → (rest : ExpList n) → Own (plus (exps n) rest (monomial_in n l.monomial)) → Each (λ e. Own (plus (exps n) rest (monomial_in n e.monomial))) (tail_of l))
          (cofactors : (i : ℕ) (l : Lead) → Contains leads l → (rest : ExpList n) → Own (plus (exps n) rest (monomial_in n l.monomial)) → Each (λ e. Own (plus (exps n) rest (monomial_in n e.monomial))) (cofactor l i)) where
        abbrev Owns : Polynomial n V → Type 0
        Owns h = Each (λ t. Own t.0) h

        abbrev Holds : ℕ → Step n V × Polynomial n V → Type 0
        Holds i u = KillTerms.Holds s letters leads Own Own i tails (cofactors i) u

        term-down : (u : Step n V) (e : Entry) → term_down (term_of s letters u e) ≡ term_of s letters (step_down u) e
        term-down u e = ap (λ z. (z, (term_of s letters u e).1)) (plus-restricted u.rest (monomial_in n e.monomial) ∙ ap (plus (exps c) (restricted u.rest)) (monomial-restricted e.monomial))

        left-down : (i : ℕ) (u : Step n V × Polynomial n V) → Holds i u → down (left_by s letters u) ≡ left_by s letters (found_down u)
        left-down i u v = all (tail_of u.0.lead) (tails u.0.lead v.among u.0.rest v.term)
          where
            own_all : (es : List Entry) → Each (λ e. Own (plus (exps n) u.0.rest (monomial_in n e.monomial))) es → Owns (put_all s (map (term_of s letters u.0) es) u.1)
            own_all [] q = v.others
            own_all (e ∷ es) q = KillTerms.put-holds s letters leads Own Own i tails (cofactors i) (term_of s letters u.0 e) (put_all s (map (term_of s letters u.0) es) u.1) q.0 (own_all es q.1)

            all : (es : List Entry) → Each (λ e. Own (plus (exps n) u.0.rest (monomial_in n e.monomial))) es
                → down (put_all s (map (term_of s letters u.0) es) u.1) ≡ put_all s (map (term_of s letters (step_down u.0)) es) (down u.1)
            all [] q = refl
            all (e ∷ es) q =
                put-down (term_of s letters u.0 e) (put_all s (map (term_of s letters u.0) es) u.1) q.0 (own_all es q.1)
                ∙ ap₂ (λ t h. put s t h) (term-down u.0 e) (all es q.1)

        taken_by-down : (i : ℕ) (u : Step n V) → down (taken_by s letters i u) ≡ taken_by s letters i (step_down u)
        taken_by-down i u = all (cofactor u.lead i)
          where
            all : (es : List Entry) → down (map (λ e. ((term_of s letters u e).0, s.ops.neg (term_of s letters u e).1)) es)
                ≡ map (λ e. ((term_of s letters (step_down u) e).0, s.ops.neg (term_of s letters (step_down u) e).1)) es
            all [] = refl
            all (e ∷ es) = ap₂ (λ t h. t ∷ h) (ap (λ (t : ExpList c × V). (t.0, s.ops.neg t.1)) (term-down u e)) (all es)

        -- what is taken from variable i
        pub taken-down : (i k : ℕ) (h : Polynomial n V) → Owns h → down (taken s letters k leads h i) ≡ taken s letters k leads (down h) i
        taken-down i zero h own = refl
        taken-down i (suc k) h own =
            step (first_step leads h) refl (taken-down i k)
            ∙ ap (λ o. flat_map (λ u. taken_by s letters i u.0) (steps_from s letters (steps_of s letters k leads) o)) (step-down leads owns h)
          where
            step : (o : Option (Step n V × Polynomial n V)) → first_step leads h ≡ o → ((h : Polynomial n V) → Owns h → down (taken s letters k leads h i) ≡ taken s letters k leads (down h) i)
                → down (flat_map (λ u. taken_by s letters i u.0) (steps_from s letters (steps_of s letters k leads) o))
                ≡ flat_map (λ u. taken_by s letters i u.0) (steps_from s letters (steps_of s letters k leads) (option_map found_down o))
            step None q rest = refl
            step (Some u) q rest =
                let v = KillTerms.holds s letters leads Own Own i tails (cofactors i) h u own q in
                map-append term_down (taken_by s letters i u.0) (taken s letters k leads (left_by s letters u) i)
                ∙ ap₂ (λ x y. x ++ y) (taken_by-down i u.0)
                (rest (left_by s letters u) (KillTerms.left-holds s letters leads Own Own i tails (cofactors i) u v)
                ∙ ap (λ z. taken s letters k leads z i) (left-down i u v))
