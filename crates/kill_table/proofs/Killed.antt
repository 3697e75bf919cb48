-- What a kill move puts for the variables, its linear part, and its change of coordinates.
use Rattle.std.proofs.Common.{◌≡◌, ◌≢◌, ℕ, zero, suc, ◌+◌, ◌*◌, ◌<◌, ◌≤◌, ◌⊎◌, inl, inr, cond, eqb, List, [], ◌∷◌, ◌++◌, length, map, get_or, take, refl, ap, ap₂, sym, ◌∙◌, subst, add-one, arith}
use Rattle.std.proofs.Math.Dec.{eqb-suc-suc}
use Rattle.std.specs.Prelude.{All, Contains, flat_map, sum}
use Rattle.std.specs.List.{AllByRecursion}
use Rattle.std.proofs.lemmas.List.{map-append, length-map, get_or-map}
use Rattle.std.proofs.lemmas.List.Elements.{All-head, All-tail}
use Rattle.std.proofs.lemmas.List.FromFn.{get_or-map-range_with_len}
use Rattle.ring_theory.specs.Ring.{RingOps}
use Rattle.ring_theory.specs.Scalars.{ScalarLaws, Meaning}
use Rattle.ring_theory.proofs.ValueSet.{values_are_set}
use Rattle.ring_law.specs.Refusals.{FaultBy}
use Rattle.poly_law.specs.Sums.{unit_at}
use Rattle.poly_law.specs.Exps.{same, variable, degree, none, plus}
use Rattle.poly_law.specs.ExpList.{ExpList, exps}
use Rattle.poly_law.specs.Poly.{coefficient, StartsAt, term}
use Rattle.poly_law.specs.Polynomials.{Polynomial, SameIn, HaveNoConstant, cut_in}
use Rattle.poly_law.proofs.ExpLists.{exps_are}
use Rattle.poly_law.proofs.ExpLaws
use Rattle.poly_law.proofs.Near
use Rattle.poly_law.proofs.Linear
use Rattle.poly_law.proofs.Order
use Rattle.poly_law.specs.Sorted.{HasNoZero}
use Rattle.poly_law.specs.Sorted as sorted
use Rattle.mono_exp.specs.declared.exponent.Exp.{Exp}
use Rattle.mono_exp.specs.Exponents.{IsIn, numbers_below, weighted_degree_of}
use Rattle.mono_exp.proofs.Lists.{length-numbers_below, get_or-numbers_below}
use Rattle.jet_law.specs.Canonical.{jet, monomial_in}
use Rattle.jet_law.specs.Heights.{IsHigh, sums_heights}
use Rattle.jet_law.specs.Terms.{exp_of, poly_of}
use Rattle.jet_law.proofs.High.{high_left, high_in}
use Rattle.jet_law.proofs.TermLemmas.{degree-exp_of}
use Rattle.jet_poly.specs.JetTerms.{JetTerms, IsRising, AllAfter}
use Rattle.jet_poly.specs.Jets.{IsJet}
use Rattle.jet_subst.specs.Parts.{IsPart, part_of}
use Rattle.germ_law.proofs.Canonical
use Rattle.germ_law.proofs.Canonical.{stands_before}
use Rattle.line_jet_law.proofs.Bridge.{before_in}
use Rattle.coord_change.specs.declared.change.Change.{Change}
use Rattle.coord_change.specs.declared.error.ChangeError.{ChangeError}
use Rattle.coord_change.specs.declared.error.ChangeError.TheVariants as error
use Rattle.coord_change.specs.Changes.{IsChange}
use Rattle.coord_change.specs.Errors.{KernelBy, RangeBy}
use Rattle.coord_change.specs.Inverses.{InverseIsHigh, IsInKernel}
use Rattle.coord_change.specs.Linear.{linear_part_of, order_of}
use Rattle.coord_change.specs.Moves.{linear_part}
use Rattle.coord_change.proofs.InverseLemmas
use Rattle.coord_change.specs.Linear.{one_at}
use Rattle.coord_change.proofs.ChangeLemmas
use Rattle.kill_law.specs.declared.lead.Cofactor.{Cofactor}
use Rattle.kill_law.specs.declared.lead.Entry.{Entry}
use Rattle.kill_law.specs.declared.lead.Lead.{Lead}
use Rattle.kill_law.specs.declared.part.Part.{Part}
use Rattle.kill_law.specs.Table.{row}
use Rattle.kill_law.specs.Kill.{cofactor, entries_in, tail_of}
use Rattle.kill_law.specs.Taken as law
use Rattle.kill_law.specs.Taken.{term_of, taken_by, killed, kill_move, reduction, reduction_heights, step_heights, tail_heights, multiplied_heights}
use Rattle.kill_table.specs.declared.reduction.Step.{Step}
use Rattle.kill_table.specs.Moves.{IsMoveTo, IsPutFor, IsMoveHigh, IsRegular, fault_from}
use Rattle.kill_table.specs.Steps.{step_of, IsReady, Takes, IsWeighed, IsReduction, IsTakingHigh, IsPuttingHigh, put_by}
use Rattle.kill_table.proofs.Table.{weights-below, cofactor-weight, weight-sum, weight-same}
use Rattle.kill_table.proofs.Steps.{all-append}
use Rattle.kill_table.proofs.Unipotent

-- ---- jets of the program in canonical form

module _ {E V : Type 0} (m : Meaning E V) (l : ScalarLaws m.scalars) (n : ℕ) where
  after_in : (a : Exp) (f : List (Exp × E)) → IsIn n a.e → All (λ t. IsIn n t.0.e) f → AllAfter a f → sorted.AllAfter (stands_before n) (exp_of n a) (poly_of n m.value f)
  after_in a [] i all h = tt
  after_in a (t ∷ f) i all h = (before_in n a t.0 i (All-head (λ t. IsIn n t.0.e) t f all) h.0, after_in a f i (All-tail (λ t. IsIn n t.0.e) t f all) h.1)

  rising_in : (f : List (Exp × E)) → All (λ t. IsIn n t.0.e) f → IsRising f → sorted.IsRising (stands_before n) (poly_of n m.value f)
  rising_in [] all h = tt
  rising_in (t ∷ f) all h = (after_in t.0 f (All-head (λ t. IsIn n t.0.e) t f all) (All-tail (λ t. IsIn n t.0.e) t f all) h.0, rising_in f (All-tail (λ t. IsIn n t.0.e) t f all) h.1)

  no_zero_in : (f : List (Exp × E)) → All (λ t. m.value t.1 ≢ m.scalars.ops.zero) f → HasNoZero m.scalars.ops.zero (poly_of n m.value f)
  no_zero_in [] all = tt
  no_zero_in (t ∷ f) all = (All-head (λ t. m.value t.1 ≢ m.scalars.ops.zero) t f all, no_zero_in f (All-tail (λ t. m.value t.1 ≢ m.scalars.ops.zero) t f all))

  low_in : (k : ℕ) (f : List (Exp × E)) → All (λ t. IsIn n t.0.e) f → All (λ t. sum t.0.e ≤ k) f → Canonical.HasDegreeTo n m.scalars l k (poly_of n m.value f)
  low_in k [] all h = tt
  low_in k (t ∷ f) all h = (
    subst (λ d. d ≤ k) (sym (degree-exp_of n t.0 (All-head (λ t. IsIn n t.0.e) t f all))) (All-head (λ t. sum t.0.e ≤ k) t f h),
    low_in k f (All-tail (λ t. IsIn n t.0.e) t f all) (All-tail (λ t. sum t.0.e ≤ k) t f h),
  )

  -- a jet that is p up to its order is the jet of p
  pub put_for : (k : ℕ) (p : Polynomial n V) (f : JetTerms E) → IsJet m f → f.n ≡ n → f.order ≡ k → IsRising f.terms → SameIn n m.scalars.ops (poly_of n m.value f.terms) (cut_in n m.scalars.ops k p) → IsPutFor m n k p f
  put_for k p f j en ek rising equal =
      let inside : All (λ t. IsIn n t.0.e) f.terms = subst (λ m. All (λ t. IsIn m t.0.e) f.terms) en j.variables in
      let low : All (λ t. sum t.0.e ≤ k) f.terms = subst (λ m. All (λ t. sum t.0.e ≤ m) f.terms) ek j.degrees in
      record {
        jet = j;
        variables = en;
        order = ek;
        polynomial = Canonical.one_jet n m.scalars l k (poly_of n m.value f.terms) p (rising_in f.terms inside rising) (no_zero_in f.terms j.units) (low_in k f.terms inside low)
            (λ a h. equal a ∙ Order.cut_same_to (exps n) (exps_are n) m.scalars.ops l.ring k p a h);
      }

-- ---- what the steps put for a variable

module _ {E V : Type 0} (m : Meaning E V) (letters : List V) where
  -- terms taken for some entries, and then for others
  pub takes-both : (u : Step E) (es fs : List Entry) (old mid new : List (Exp × E)) → Takes m letters u es old mid → Takes m letters u fs mid new → Takes m letters u (es ++ fs) old new
  takes-both u es fs old mid new a b = record {
    added = a.added ++ b.added;
    items = b.items ∙ ap (λ z. z ++ b.added) a.items ∙ Rattle.std.proofs.Common.append_assoc old a.added b.added;
    elems = all-append (λ t. m.is_elem t.1) a.added b.added a.elems b.elems;
    variables = λ n i w. all-append (λ t. IsIn n t.0.e) a.added b.added
        (a.variables n i (λ e k. w e (Rattle.std.proofs.lemmas.List.Elements.Contains-append_left es fs e k)))
        (b.variables n i (λ e k. w e (Rattle.std.proofs.lemmas.List.Elements.Contains-append_right es fs e k)));
    polynomial = λ n. map-append (λ t. (exp_of n t.0, m.value t.1)) a.added b.added ∙ ap₂ (λ y z. y ++ z) (a.polynomial n) (b.polynomial n)
        ∙ sym (map-append (λ e. ((term_of m.scalars letters (step_of m n u) e).0, m.scalars.ops.neg (term_of m.scalars letters (step_of m n u) e).1)) es fs);
  }

  pub takes-none : (u : Step E) (old : List (Exp × E)) → Takes m letters u [] old old
  takes-none u old = record { added = []; items = sym (Rattle.std.proofs.Common.append-nil old); elems = tt; variables = λ n i w. tt; polynomial = λ n. refl }

  -- valid terms in n variables that are what the first k steps put for variable i
  pub record IsPutTo (n : ℕ) (steps : List (Step E)) (i k : ℕ) (all : List (Exp × E)) : Type 0 where
    pub elems : AllByRecursion (λ t. m.is_elem t.1) all
    pub variables : AllByRecursion (λ t. IsIn n t.0.e) all
    pub polynomial : poly_of n m.value all ≡ put_by m letters n (take k steps) i

  flat-append : {X Y : Type 0} (g : X → List Y) (xs ys : List X) → flat_map g (xs ++ ys) ≡ flat_map g xs ++ flat_map g ys
  flat-append g [] ys = refl
  flat-append g (x ∷ xs) ys = ap (λ z. g x ++ z) (flat-append g xs ys) ∙ sym (Rattle.std.proofs.Common.append_assoc (g x) (flat_map g xs) (flat_map g ys))

  pub puts-more : (n : ℕ) (steps : List (Step E)) (i k : ℕ) (u : Step E) (old new : List (Exp × E)) → k < length steps → u ≡ get_or steps k u → IsReady m letters n u → IsPutTo n steps i k old
      → Takes m letters u (cofactor u.lead i) old new → IsPutTo n steps i (k + 1) new
  puts-more n steps i k u old new h read ready was t =
      let g : Step E → Polynomial n V = λ u. taken_by m.scalars letters i (step_of m n u) in
      record {
        elems = subst (AllByRecursion (λ t. m.is_elem t.1)) (sym t.items) (all-append (λ t. m.is_elem t.1) old t.added was.elems t.elems);
        variables = subst (AllByRecursion (λ t. IsIn n t.0.e)) (sym t.items) (all-append (λ t. IsIn n t.0.e) old t.added was.variables
            (t.variables n ready.variables (λ e k. ready.within e (Rattle.kill_table.proofs.Table.cofactor-among u.lead i e k))));
        polynomial = ap (poly_of n m.value) t.items ∙ map-append (λ t. (exp_of n t.0, m.value t.1)) old t.added ∙ ap₂ (λ y z. y ++ z) was.polynomial (t.polynomial n)
            ∙ ap (λ z. (variable (exps n) i, m.scalars.ops.one) ∷ z)
            (sym (ap (flat_map g) (take-more steps k u h read) ∙ flat-append g (take k steps) (u ∷ []) ∙ ap (λ z. flat_map g (take k steps) ++ z) (Rattle.std.proofs.Common.append-nil (g u))));
      }
    where
      take-more : {X : Type 0} (xs : List X) (k : ℕ) (x : X) → k < length xs → x ≡ get_or xs k x → take (k + 1) xs ≡ take k xs ++ x ∷ []
      take-more [] k x h e = absurd (omega arith)
      take-more (y ∷ ys) zero x h e = ap (λ z. z ∷ []) (sym e)
      take-more (y ∷ ys) (suc k) x h e = subst (λ j. take j (y ∷ ys) ≡ y ∷ (take k ys ++ x ∷ [])) (let q : suc (k + 1) ≡ suc k + 1 = omega arith in q) (ap (λ z. y ∷ z) (take-more ys k x (omega arith) e))

  -- the variable alone
  pub starts-put : (n : ℕ) (steps : List (Step E)) (i : ℕ) → i < n → n ≤ 8 → (a : Exp) (one : E) → a.e ≡ one_at i → m.is_elem one → m.value one ≡ m.scalars.ops.one → (all : List (Exp × E)) → all ≡ (a, one) ∷ [] → IsPutTo n steps i 0 all
  starts-put n steps i h few a one ea valid is all e = record {
    elems = subst (AllByRecursion (λ t. m.is_elem t.1)) (sym e) (valid, tt);
    variables = subst (AllByRecursion (λ t. IsIn n t.0.e)) (sym e) (subst (IsIn n) (sym ea) (ChangeLemmas.one_at-in n i h few), tt);
    polynomial = ap (poly_of n m.value) e ∙ ap (λ z. (exp_of n (record { e = z }), m.value one) ∷ []) ea ∙ ChangeLemmas.variable_value m n i h few one is
        ∙ ap (λ (z : List (Step E)). put_by m letters n z i) (sym (none-taken steps));
  }
    where
      none-taken : {X : Type 0} (xs : List X) → take 0 xs ≡ []
      none-taken [] = refl
      none-taken (x ∷ xs) = refl

  pub cofactor-ready : (l : Lead) (i : ℕ) (k : Cofactor) → entries_in k ≡ cofactor l i → (e : Entry) → Contains (entries_in k) e → Contains (Rattle.kill_law.specs.Leads.entries_of l) e
  cofactor-ready l i k q e h = Rattle.kill_table.proofs.Table.cofactor-among l i e (subst (λ es. Contains es e) q h)

  pub taking-high : (steps : List (Step E)) (j : ℕ) (u : Step E) → j < length steps → u ≡ get_or steps j u → (i : ℕ) (k : Cofactor) → entries_in k ≡ cofactor u.lead i
      → IsHigh (flat_map (multiplied_heights m.scalars letters (m.value u.coefficient)) (entries_in k)) → IsTakingHigh m letters steps i
  taking-high steps j u h read i k q high = record {
    step = u;
    among = (j, h, sym read);
    high = subst (λ es. IsHigh (flat_map (multiplied_heights m.scalars letters (m.value u.coefficient)) es)) q high;
  }

-- ---- weighted degrees

get-none : (i : ℕ) → get_or {A = ℕ} [] i 0 ≡ 0
get-none zero = refl
get-none (suc i) = refl

no_weight : (ws : List ℕ) → weighted_degree_of ws [] ≡ 0
no_weight [] = refl
no_weight (w ∷ ws) = refl

zero_one : (a b : ℕ) → a ≡ 0 → b ≡ 1 → a ≡ b → ⊥
zero_one a b p q e = omega (arith, p, q, e)

shifted : (i j : ℕ) → cond {A = ℕ} (eqb (suc i) (suc j)) 1 0 ≡ cond {A = ℕ} (eqb i j) 1 0
shifted i j = ap (λ b. cond {A = ℕ} b 1 0) (eqb-suc-suc i j)

-- the weighted degree of a variable
weight-unit : (ws e : List ℕ) (j : ℕ) → ((i : ℕ) → i < length ws → get_or e i 0 ≡ cond {A = ℕ} (eqb i j) 1 0) → weighted_degree_of ws e ≡ get_or ws j 0
weight-unit [] e j h = sym (get-none j)
weight-unit (w ∷ ws) [] zero h = absurd (zero_one 0 1 refl refl (sym (get-none 0) ∙ h 0 (omega arith) ∙ ExpLaws.unit_yes 0 0 refl))
weight-unit (w ∷ ws) [] (suc j) h = sym (no_weight ws) ∙ weight-unit ws [] j (λ i g. get-none i ∙ sym (get-none (suc i)) ∙ h (suc i) (omega arith) ∙ shifted i j)
weight-unit (w ∷ ws) (x ∷ e) zero h =
    let a : x ≡ 1 = h 0 (omega arith) ∙ ExpLaws.unit_yes 0 0 refl in
    let b : weighted_degree_of ws e ≡ weighted_degree_of ws [] = weight-same ws e [] (λ i g. h (suc i) (omega arith) ∙ ExpLaws.unit_no (suc i) 0 (λ q. omega (arith, q)) ∙ sym (get-none i)) in
    let z = no_weight ws in
    let m : w * x ≡ w = ap (λ y. w * y) a ∙ (omega arith) in
    omega arith
weight-unit (w ∷ ws) (x ∷ e) (suc j) h =
    let a : x ≡ 0 = h 0 (omega arith) ∙ ExpLaws.unit_no 0 (suc j) (λ q. omega (arith, q)) in
    let b : weighted_degree_of ws e ≡ get_or ws j 0 = weight-unit ws e j (λ i g. h (suc i) (omega arith) ∙ shifted i j) in
    let m : w * x ≡ 0 = ap (λ y. w * y) a ∙ (omega arith) in
    omega arith

weight-variable : (n j : ℕ) (ws : List ℕ) → length ws ≤ n → weighted_degree_of ws (variable (exps n) j).entries ≡ get_or ws j 0
weight-variable n j ws h = weight-unit ws (variable (exps n) j).entries j (λ i g. get_or-map-range_with_len (λ i. cond {A = ℕ} (eqb i j) 1 0) 0 n i i 0 (omega arith) (let z : 0 + i ≡ i = omega arith in z))

-- ---- the linear part

module _ {E V : Type 0} (m : Meaning E V) (l : ScalarLaws m.scalars) (letters : List V) (p : Part) (n grade : ℕ) (inside : length (row p).weights ≤ n) (above : (row p).degree < grade) where
  abbrev r : RingOps V
  r = m.scalars.ops

  abbrev ws : List ℕ
  ws = (row p).weights

  abbrev d : ℕ
  d = (row p).degree

  abbrev taken : List (Step E) → ℕ → Polynomial n V
  taken steps i = flat_map (λ u. taken_by m.scalars letters i (step_of m n u)) steps

  -- the weighted degrees of what is taken from variable i
  abbrev Weighs : ℕ → Polynomial n V → Type 0
  Weighs i f = AllByRecursion (λ t. weighted_degree_of ws t.0.entries + d ≡ grade + get_or ws i 0) f

  weighs-both : (i : ℕ) (f g : Polynomial n V) → Weighs i f → Weighs i g → Weighs i (f ++ g)
  weighs-both i f g a b = all-append (λ t. weighted_degree_of ws t.0.entries + d ≡ grade + get_or ws i 0) f g a b

  in-n : (e : List ℕ) → weighted_degree_of ws (monomial_in n e).entries ≡ weighted_degree_of ws e
  in-n e = weight-same ws (monomial_in n e).entries e (λ i h. (exps_are n).at_make (λ i. get_or e i 0) i (omega arith))

  step-weighs : (u : Step E) → IsWeighed m letters p grade u → (i : ℕ) → Weighs i (taken_by m.scalars letters i (step_of m n u))
  step-weighs u w i = all (cofactor u.lead i) (λ e k. cofactor-weight p u.lead w.among i e k)
    where
      all : (es : List Entry) → ((e : Entry) → Contains es e → weighted_degree_of ws e.monomial + d ≡ weighted_degree_of ws u.lead.monomial + get_or ws i 0)
          → Weighs i (map (λ e. ((term_of m.scalars letters (step_of m n u) e).0, r.neg (term_of m.scalars letters (step_of m n u) e).1)) es)
      all [] h = tt
      all (e ∷ es) h =
          let a = h e (0, omega arith, refl) in
          let b = weight-sum ws (exp_of n u.rest).entries (monomial_in n e.monomial).entries (plus (exps n) (exp_of n u.rest) (monomial_in n e.monomial)).entries
          (λ i g. ExpLaws.at-plus (exps n) (exps_are n) (exp_of n u.rest) (monomial_in n e.monomial) i (omega arith)) in
          let x = in-n u.rest.e in
          let y = in-n e.monomial in
          let z = w.weight in
          (omega arith, all es (λ f k. h f (suc k.0, (let g = k.1 in omega arith), k.2)))

  pub taken-weighs : (steps : List (Step E)) → AllByRecursion (IsWeighed m letters p grade) steps → (i : ℕ) → Weighs i (taken steps i)
  taken-weighs [] a i = tt
  taken-weighs (u ∷ steps) a i = weighs-both i (taken_by m.scalars letters i (step_of m n u)) (taken steps i) (step-weighs u a.0 i) (taken-weighs steps a.1 i)

  zero-at : (f : Polynomial n V) (i : ℕ) (b : ExpList n) → Weighs i f → weighted_degree_of ws b.entries ≤ get_or ws i 0 → coefficient (exps n) r f b ≡ r.zero
  zero-at [] i b a h = refl
  zero-at (t ∷ f) i b a h =
      ap₂ r.add (ap (λ z. cond z t.1 r.zero) (ExpLaws.same-no (exps n) (exps_are n) t.0 b (λ e. let z = a.0 in let y = ap (λ q. weighted_degree_of ws q.entries) e in omega arith)))
      (zero-at f i b a.1 h) ∙ l.ring.add_zero r.zero

  module _ (steps : List (Step E)) (weighed : AllByRecursion (IsWeighed m letters p grade) steps) where
    abbrev K : ℕ → Polynomial n V
    K = put_by m letters n steps

    abbrev U : ℕ → Polynomial n V
    U = taken steps

    abbrev at : Polynomial n V → ℕ → V
    at f j = coefficient (exps n) r f (variable (exps n) j)

    upper : (i j : ℕ) → i < n → j < n → (at (U i) j ≡ r.zero) ⊎ (get_or ws i 0 < get_or ws j 0)
    upper i j hi hj = elim (cases (get_or ws i 0) (get_or ws j 0)) [
      | inl less ↦ inr less
      | inr le ↦ inl (zero-at (U i) i (variable (exps n) j) (taken-weighs steps weighed i) (let q = weight-variable n j ws inside in omega arith))
    ]
      where
        cases : (a b : ℕ) → (a < b) ⊎ (b ≤ a)
        cases a b = grind arith

    split : (i j : ℕ) → i < n → j < n → at (K i) j ≡ r.add (at (U i) j) (unit_at r i j)
    split i j hi hj =
        Order.coefficient-append (exps n) (exps_are n) r l.ring (term (exps n) r (variable (exps n) i)) (U i) (variable (exps n) j)
        ∙ ap (λ z. r.add z (at (U i) j))
        (Near.coefficient-term (exps n) (exps_are n) r l.ring (values_are_set m.scalars l) (variable (exps n) i) (variable (exps n) j) ∙ Linear.at_only-variable (exps n) (exps_are n) r l.ring i j hi hj)
        ∙ l.ring.add_comm (unit_at r i j) (at (U i) j)

    no_constant : (i : ℕ) → i < n → StartsAt (exps n) r 1 (K i)
    no_constant i h = Order.starts_append (exps n) (exps_are n) r l.ring 1 (term (exps n) r (variable (exps n) i)) (U i)
        (Near.variables_start (exps n) (exps_are n) r l.ring (values_are_set m.scalars l) i h)
        (λ b g. zero-at (U i) i b (taken-weighs steps weighed i) (let z = weightless b (omega arith) in omega arith))
      where
        weightless : (b : ExpList n) → degree (exps n) b ≡ 0 → weighted_degree_of ws b.entries ≡ 0
        weightless b e =
            ap (λ z. weighted_degree_of ws z.entries) (ExpLaws.none_of_degree (exps n) (exps_are n) b e)
            ∙ weight-same ws (none (exps n)).entries [] (λ i g. get_or-map-range_with_len (λ i. 0) 0 n i i 0 (omega arith) (let z : 0 + i ≡ i = omega arith in z) ∙ sym (get-none i)) ∙ no_weight ws

    module _ (parts : ℕ → Polynomial n V) (are : (i : ℕ) → i < n → parts i ≡ jet n m.scalars 16 (K i)) where
      low-same : (i : ℕ) → i < n → (b : ExpList n) → degree (exps n) b ≤ 1 → coefficient (exps n) r (parts i) b ≡ coefficient (exps n) r (K i) b
      low-same i h b g = ap (λ f. coefficient (exps n) r f b) (are i h) ∙ Canonical.jet_same_to n m.scalars l 16 (K i) b (omega arith)

      pub parts-no_constant : (i : ℕ) → i < n → StartsAt (exps n) r 1 (parts i)
      parts-no_constant i h b g = low-same i h b (omega arith) ∙ no_constant i h b g

      pub parts-linear : (i j : ℕ) → i < n → j < n → at (parts i) j ≡ at (K i) j
      parts-linear i j hi hj = low-same i hi (variable (exps n) j) (let z = ExpLaws.degree-variable (exps n) (exps_are n) j hj in omega arith)

      -- the linear part takes no vector other than zero to zero
      pub no_kernel : (x : ℕ → V) → ((i : ℕ) → i < n → Rattle.coord_change.specs.Inverses.image_at r n (λ i j. at (parts i) j) x i ≡ r.zero) → (i : ℕ) → i < n → x i ≡ r.zero
      no_kernel x h i g =
          Unipotent.no_kernel r l.ring n (λ i j. at (parts i) j) (λ i j. at (U i) j) (λ j. get_or ws j 0) (suc d)
          (λ j q. let z = weights-below p j in omega arith) (λ i j hi hj. parts-linear i j hi hj ∙ split i j hi hj) upper x h i g

-- ---- the parts

module _ {E V : Type 0} (m : Meaning E V) (n k : ℕ) where
  -- the jets are those of the polynomials, one for each, in order
  abbrev pub ArePutFor : List (Polynomial n V) → List (JetTerms E) → Type 0
  ArePutFor [] [] = Unit {0}
  ArePutFor [] (f ∷ fs) = ⊥
  ArePutFor (p ∷ ps) [] = ⊥
  ArePutFor (p ∷ ps) (f ∷ fs) = IsPutFor m n k p f × ArePutFor ps fs

  are-push : (ps : List (Polynomial n V)) (fs : List (JetTerms E)) (p : Polynomial n V) (f : JetTerms E) → ArePutFor ps fs → IsPutFor m n k p f → ArePutFor (ps ++ p ∷ []) (fs ++ f ∷ [])
  are-push [] [] p f a h = (h, tt)
  are-push [] (g ∷ fs) p f a h = absurd a
  are-push (q ∷ ps) [] p f a h = absurd a
  are-push (q ∷ ps) (g ∷ fs) p f a h = (a.0, are-push ps fs p f a.1 h)

  -- one part more
  pub are-more : (put : ℕ → Polynomial n V) (w : ℕ) (fs : List (JetTerms E)) (f : JetTerms E) → ArePutFor (map put (numbers_below w)) fs → IsPutFor m n k (put w) f → ArePutFor (map put (numbers_below (w + 1))) (fs ++ f ∷ [])
  are-more put w fs f a h = subst (λ ps. ArePutFor ps (fs ++ f ∷ [])) (sym (one_more put w)) (are-push (map put (numbers_below w)) fs (put w) f a h)
    where
      one_more : {X : Type 0} (g : ℕ → X) (w : ℕ) → map g (numbers_below (w + 1)) ≡ map g (numbers_below w) ++ g w ∷ []
      one_more g w = rw add-one (map-append g (numbers_below w) (w ∷ []))

  polynomials : (ps : List (Polynomial n V)) (fs : List (JetTerms E)) → ArePutFor ps fs → map (λ f. poly_of n m.value f.terms) fs ≡ map (jet n m.scalars k) ps
  polynomials [] [] a = refl
  polynomials [] (f ∷ fs) a = absurd a
  polynomials (p ∷ ps) [] a = absurd a
  polynomials (p ∷ ps) (f ∷ fs) a = ap₂ (λ x y. x ∷ y) a.0.polynomial (polynomials ps fs a.1)

  each : (P : JetTerms E → Type 0) → ((p : Polynomial n V) (f : JetTerms E) → IsPutFor m n k p f → P f) → (ps : List (Polynomial n V)) (fs : List (JetTerms E)) → ArePutFor ps fs → All P fs
  each P g [] [] a i d h = absurd (omega arith)
  each P g [] (f ∷ fs) a i d h = absurd a
  each P g (p ∷ ps) [] a i d h = absurd a
  each P g (p ∷ ps) (f ∷ fs) a zero d h = g p f a.0
  each P g (p ∷ ps) (f ∷ fs) a (suc i) d h = each P g ps fs a.1 i d (omega arith)

  lengths : (ps : List (Polynomial n V)) (fs : List (JetTerms E)) → ArePutFor ps fs → length fs ≡ length ps
  lengths [] [] a = refl
  lengths [] (f ∷ fs) a = absurd a
  lengths (p ∷ ps) [] a = absurd a
  lengths (p ∷ ps) (f ∷ fs) a = ap suc (lengths ps fs a.1)

  at-part : (ps : List (Polynomial n V)) (fs : List (JetTerms E)) → ArePutFor ps fs → (i : ℕ) → i < length ps → part_of n m.value fs i ≡ jet n m.scalars k (get_or ps i [])
  at-part [] [] a i h = absurd (omega arith)
  at-part [] (f ∷ fs) a i h = absurd a
  at-part (p ∷ ps) [] a i h = absurd a
  at-part (p ∷ ps) (f ∷ fs) a zero h = a.0.polynomial
  at-part (p ∷ ps) (f ∷ fs) a (suc i) h = at-part ps fs a.1 i (omega arith)

flat-mapped : {X Y Z : Type 0} (g : Y → List Z) (f : X → Y) (xs : List X) → flat_map g (map f xs) ≡ flat_map (λ x. g (f x)) xs
flat-mapped g f [] = refl
flat-mapped g f (x ∷ xs) = ap (λ z. g (f x) ++ z) (flat-mapped g f xs)

pub order-is : {E : Type 0} (parts : List (JetTerms E)) (k : ℕ) → 0 < length parts → All (λ p. p.order ≡ k) parts → order_of parts ≡ k
order-is [] k h a = absurd (omega arith)
order-is (p ∷ ps) k h a = a 0 p (omega arith)

-- ---- the change

module _ {E V : Type 0} (m : Meaning E V) (l : ScalarLaws m.scalars) (letters : List V) (p : Part) (n grade : ℕ) (inside : length (row p).weights ≤ n) (above : (row p).degree < grade)
    (f : Polynomial n V) (steps : List (Step E)) (reduces : IsReduction m letters n p grade f steps) where
  -- what the steps put is what the definition puts
  pub put-killed : (i : ℕ) → put_by m letters n steps i ≡ killed n m.scalars letters p grade f i
  put-killed i = ap (λ z. (variable (exps n) i, m.scalars.ops.one) ∷ z)
      (sym (flat-mapped (taken_by m.scalars letters i) (step_of m n) steps) ∙ ap (flat_map (taken_by m.scalars letters i)) reduces.same
      ∙ flat-mapped (taken_by m.scalars letters i) (λ (u : law.Step n V × Polynomial n V). u.0) (reduction n m.scalars letters p grade f))

  some-inside : {A B C : Type 0} (g : A → C) (h : B → C) (xs : List A) (ys : List B) → map g xs ≡ map h ys → (k : ℕ) (x : A) → k < length xs → x ≡ get_or xs k x → (y : B) × (k < length ys) × (y ≡ get_or ys k y) × (h y ≡ g x)
  some-inside g h [] ys e k x i q = absurd (omega arith)
  some-inside g h (a ∷ xs) [] e k x i q = let bad : ⊥ = cc e in absurd bad
  some-inside g h (a ∷ xs) (b ∷ ys) e zero x i q = (b, omega arith, refl, sym (ap g q ∙ heads e))
    where
      heads : g a ∷ map g xs ≡ h b ∷ map h ys → g a ≡ h b
      heads e = cc e
  some-inside g h (a ∷ xs) (b ∷ ys) e (suc k) x i q =
      let r = some-inside g h xs ys (tails e) k x (omega arith) q in
      (r.0, (let z = r.1 in omega arith), r.2, r.3)
    where
      tails : g a ∷ map g xs ≡ h b ∷ map h ys → map g xs ≡ map h ys
      tails e = cc e

  -- a product that a step forms is one of the reduction
  step-high : (u : Step E) → Contains steps u → (i : ℕ) → i < 3 → IsHigh (flat_map (multiplied_heights m.scalars letters (m.value u.coefficient)) (cofactor u.lead i)) → IsHigh (reduction_heights n m.scalars letters p grade f)
  unfolding reduction_heights
  step-high u among i h high =
      let r = some-inside (step_of m n) (λ (u : law.Step n V × Polynomial n V). u.0) steps (reduction n m.scalars letters p grade f) reduces.same among.0 (get_or steps among.0 u) among.1 (same-get steps among.0 u among.1) in
      high_in (step_heights m.scalars letters) (reduction n m.scalars letters p grade f) among.0 r.0 r.1 r.2
      (subst (λ (v : law.Step n V). IsHigh (flat_map (λ i. flat_map (multiplied_heights m.scalars letters v.coefficient) (cofactor v.lead i)) (numbers_below 3) ++ flat_map (tail_heights m.scalars letters v r.0.1) (tail_of v.lead))) (sym (r.3 ∙ ap (step_of m n) among.2))
      (high_left (flat_map (λ i. flat_map (multiplied_heights m.scalars letters (m.value u.coefficient)) (cofactor u.lead i)) (numbers_below 3)) (flat_map (tail_heights m.scalars letters (step_of m n u) r.0.1) (tail_of u.lead))
      (high_in (λ i. flat_map (multiplied_heights m.scalars letters (m.value u.coefficient)) (cofactor u.lead i)) (numbers_below 3) i i (subst (λ k. i < k) (sym (length-numbers_below 3)) h) (sym (get_or-numbers_below 3 i i h)) high)))
    where
      same-get : {A : Type 0} (xs : List A) (k : ℕ) (x : A) → k < length xs → get_or xs k x ≡ get_or xs k (get_or xs k x)
      same-get [] k x h = absurd (omega arith)
      same-get (y ∷ ys) zero x h = refl
      same-get (y ∷ ys) (suc k) x h = same-get ys k x (omega arith)

  pub putting-high : (i : ℕ) → i < n → IsPuttingHigh m letters n steps i → IsMoveHigh m.scalars letters p n grade f
  putting-high i h (inr high) = inl (inr (record { variable = i; inside = h; high = subst (λ z. IsHigh (sums_heights (exps n) m.scalars (cut_in n m.scalars.ops 16 z))) (put-killed i) high }))
  putting-high i h (inl t) = at i t.high
    where
      at : (i : ℕ) → IsHigh (flat_map (multiplied_heights m.scalars letters (m.value t.step.coefficient)) (cofactor t.step.lead i)) → IsMoveHigh m.scalars letters p n grade f
      at zero high = inl (inl (step-high t.step t.among 0 (omega arith) high))
      at (suc zero) high = inl (inl (step-high t.step t.among 1 (omega arith) high))
      at (suc (suc zero)) high = inl (inl (step-high t.step t.among 2 (omega arith) high))
      at (suc (suc (suc i))) high = inl (inl (high_left [] (reduction_heights n m.scalars letters p grade f) high))

  module _ (parts : List (JetTerms E)) (are : ArePutFor m n 16 (map (put_by m letters n steps) (numbers_below n)) parts) where
    long : length (map (put_by m letters n steps) (numbers_below n)) ≡ n
    long = length-map (numbers_below n) (put_by m letters n steps) ∙ length-numbers_below n

    pub count : length parts ≡ n
    count = lengths m n 16 (map (put_by m letters n steps) (numbers_below n)) parts are ∙ long

    pub are-parts : All (IsPart m n) parts
    are-parts = each m n 16 (IsPart m n) (λ p f h. record { jet = h.jet; variables = h.variables }) (map (put_by m letters n steps) (numbers_below n)) parts are

    pub orders : All (λ p. p.order ≡ 16) parts
    orders = each m n 16 (λ p. p.order ≡ 16) (λ p f h. h.order) (map (put_by m letters n steps) (numbers_below n)) parts are

    part-is : (i : ℕ) → i < n → part_of n m.value parts i ≡ jet n m.scalars 16 (put_by m letters n steps i)
    part-is i h =
        at-part m n 16 (map (put_by m letters n steps) (numbers_below n)) parts are i (omega (arith, long))
        ∙ ap (jet n m.scalars 16) (get_or-map (put_by m letters n steps) (numbers_below n) i 0 [] (let l = length-numbers_below n in omega arith) ∙ ap (put_by m letters n steps) (get_or-numbers_below n i 0 h))

    pub have_no_constant : HaveNoConstant n m.scalars.ops n (part_of n m.value parts)
    have_no_constant = λ i h. parts-no_constant m l letters p n grade inside above steps reduces.weighed (part_of n m.value parts) part-is i h

    pub no_kernel_in : (v : List E) → IsInKernel m n (linear_part_of m n parts) v → ⊥
    no_kernel_in v k = k.other (no_kernel m l letters p n grade inside above steps reduces.weighed (part_of n m.value parts) part-is (λ d. get_or (map m.value v) d m.scalars.ops.zero) k.kernel k.place k.inside)

    linear-is : (i j : ℕ) → i < n → j < n → linear_part_of m n parts i j ≡ linear_part n m.scalars (kill_move n m.scalars letters p grade f) i j
    unfolding kill_move
    linear-is i j hi hj =
        parts-linear m l letters p n grade inside above steps reduces.weighed (part_of n m.value parts) part-is i j hi hj
        ∙ ap (λ z. coefficient (exps n) m.scalars.ops z (variable (exps n) j))
        (put-killed i ∙ sym (get_or-map (killed n m.scalars letters p grade f) (numbers_below n) i 0 [] (let l = length-numbers_below n in omega arith) ∙ ap (killed n m.scalars letters p grade f) (get_or-numbers_below n i 0 hi)))

    pub inverse-high : InverseIsHigh m.scalars n (linear_part_of m n parts) → IsMoveHigh m.scalars letters p n grade f
    inverse-high high = inr (InverseLemmas.high_of_same m.scalars l.ring n (linear_part_of m n parts) (linear_part n m.scalars (kill_move n m.scalars letters p grade f)) linear-is high)

    pub move-is : (c : Change E) → IsChange m c → c.n ≡ n → c.order ≡ 16 → c.parts ≡ parts → IsMoveTo m n 16 (kill_move n m.scalars letters p grade f) c
    unfolding kill_move
    move-is c change en eo ep = record {
      change = change;
      variables = en;
      order = eo;
      parts = ap (map (λ f. poly_of n m.value f.terms)) ep ∙ polynomials m n 16 (map (put_by m letters n steps) (numbers_below n)) parts are
          ∙ ap (map (jet n m.scalars 16)) (same-map (numbers_below n));
    }
      where
        same-map : (xs : List ℕ) → map (put_by m letters n steps) xs ≡ map (killed n m.scalars letters p grade f) xs
        same-map [] = refl
        same-map (x ∷ xs) = ap₂ (λ y z. y ∷ z) (put-killed x) (same-map xs)

    -- where no vector is in the kernel, an error is a fault
    pub regular-of : (e : ChangeError E) → KernelBy m n (linear_part_of m n parts) e → IsRegular e
    regular-of (error.Singular kernel) k = no_kernel_in kernel.items k
    regular-of (error.Range e) k = tt
    regular-of error.NoMemory k = tt

pub fault-by : {E : Type 0} {P Q : Type 0} (e : ChangeError E) → (P → Q) → RangeBy P e → FaultBy Q (fault_from e)
fault-by (error.Singular kernel) f k = tt
fault-by (error.Range e) f k = (k.0, f k.1)
fault-by error.NoMemory f k = tt
