-- The steps of a reduction in code are those of the definition.
use Rattle.std.proofs.Common.{◌≡◌, ℕ, zero, suc, ◌+◌, ◌-◌, ◌*◌, ◌<◌, ◌≤◌, ◌⊎◌, inl, inr, Bool, true, false, ◌&&◌, cond, eqb, eqb-true, List, [], ◌∷◌, ◌++◌, map, length, get_or, take, drop, refl, sym, ap, ap₂, subst, ◌∙◌, append-nil, append_assoc, arith}
use Rattle.std.specs.Prelude.{Option, Some, None, All, filter, flat_map}
use Rattle.std.specs.List.{AllByRecursion, list_all}
use Rattle.std.proofs.lemmas.List.{map-append, length-map}
use Rattle.ring_theory.specs.Scalars.{Meaning}
use Rattle.poly_law.specs.ExpList.{ExpList}
use Rattle.poly_law.specs.Polynomials.{Polynomial}
use Rattle.poly_law.proofs.ExpLists.{exps_are}
use Rattle.mono_exp.specs.declared.exponent.Exp.{Exp}
use Rattle.mono_exp.specs.Exponents.{IsIn, IsProduct, weighted_degree_of}
use Rattle.jet_law.specs.Canonical.{monomial_in}
use Rattle.jet_law.specs.Heights.{IsHigh}
use Rattle.jet_law.specs.Terms.{exp_of, poly_of}
use Rattle.jet_law.proofs.High.{high_left, high_right}
use Rattle.kill_law.specs.declared.lead.Lead.{Lead}
use Rattle.kill_law.specs.declared.part.Part.{Part}
use Rattle.kill_law.specs.Table.{row}
use Rattle.kill_law.specs.Kill.{first_lead, quotient, cofactor, tail_of}
use Rattle.kill_law.specs.Taken as law
use Rattle.kill_law.specs.Taken.{step_at, first_step, left_by, steps_of, steps_from, is_of_grade, terms_of_grade, step_heights, tail_heights, multiplied_heights, reduction, reduction_heights}
use Rattle.kill_table.specs.declared.reduction.Step.{Step}
use Rattle.kill_table.specs.Divisors.{HasNonzeroDivisors}
use Rattle.kill_table.specs.Terms.{AreIn, IsOfGrade, AreOfGrade}
use Rattle.kill_table.specs.Steps.{step_of, without, is_graded, IsFirstStep, IsReady, IsLeft, IsLeavingHigh, IsWeighed, IsReduction}
use Rattle.kill_table.proofs.Table.{only-in, more-in, entry-in, tail-weight, weight-sum, weight-same, tail-among, is-ready}

-- ---- the first step

module _ {E V : Type 0} (m : Meaning E V) (n : ℕ) (leads : List Lead) where
  abbrev P : List (Exp × E) → Polynomial n V
  P h = poly_of n m.value h

  pub none-first : (h : List (Exp × E)) → All (λ t. first_lead n leads (exp_of n t.0) ≡ None) h → first_step leads (P h) ≡ None
  none-first [] a = refl
  none-first (t ∷ h) a = ap₂ (λ later o. step_at (exp_of n t.0, m.value t.1) (P h) later o) (none-first h (λ j d g. a (suc j) d (omega arith))) (a 0 t (omega arith))

  rest-is : (t : Exp × E) (u : Step E) → IsProduct t.0.e u.rest.e u.lead.monomial → quotient n (exp_of n t.0) (monomial_in n u.lead.monomial) ≡ exp_of n u.rest
  rest-is t u q = (exps_are n).same_at (quotient n (exp_of n t.0) (monomial_in n u.lead.monomial)) (exp_of n u.rest) λ i g.
      let a = (exps_are n).at_make (λ i. get_or (exp_of n t.0).entries i 0 - get_or (monomial_in n u.lead.monomial).entries i 0) i g in
      let b = (exps_are n).at_make (λ i. get_or t.0.e i 0) i g in
      let c = (exps_are n).at_make (λ i. get_or u.lead.monomial i 0) i g in
      let d = (exps_are n).at_make (λ i. get_or u.rest.e i 0) i g in
      let e = q i in
      a ∙ ap₂ (λ x y. x - y) b c ∙ (let z : get_or t.0.e i 0 - get_or u.lead.monomial i 0 ≡ get_or u.rest.e i 0 = omega arith in z) ∙ sym d

  found-here : (t : Exp × E) (h : List (Exp × E)) (u : Step E) → first_lead n leads (exp_of n t.0) ≡ Some u.lead → IsProduct t.0.e u.rest.e u.lead.monomial → u.coefficient ≡ t.1
      → first_step leads (P (t ∷ h)) ≡ Some (step_of m n u, P h)
  found-here t h u lead q same =
      ap (step_at (exp_of n t.0, m.value t.1) (P h) (first_step leads (P h))) lead ∙ ap₂ (λ z v. Some (made z v, P h)) (rest-is t u q) (ap m.value (sym same))
    where
      made : ExpList n → V → law.Step n V
      made z v = record { lead = u.lead; rest = z; coefficient = v }

  found-at : (h : List (Exp × E)) (k : ℕ) (u : Step E) (t : Exp × E) → k < length h → ((j : ℕ) → j < k → (d : Exp × E) → first_lead n leads (exp_of n (get_or h j d).0) ≡ None) → t ≡ get_or h k t
      → first_lead n leads (exp_of n t.0) ≡ Some u.lead → IsProduct t.0.e u.rest.e u.lead.monomial → u.coefficient ≡ t.1 → first_step leads (P h) ≡ Some (step_of m n u, P (without k h))
  found-at [] k u t inside none read lead q same = absurd (omega arith)
  found-at (x ∷ h) zero u t inside none read lead q same = rest h (found-here t h u lead q same)
    where
      drop-none : {A : Type 0} (xs : List A) → drop 0 xs ≡ xs
      drop-none [] = refl
      drop-none (y ∷ ys) = refl

      rest : (h : List (Exp × E)) → first_step leads (P (t ∷ h)) ≡ Some (step_of m n u, P h) → first_step leads (P (x ∷ h)) ≡ Some (step_of m n u, P (drop 1 (x ∷ h)))
      rest h e = subst (λ z. first_step leads (P (z ∷ h)) ≡ Some (step_of m n u, P (drop 1 (z ∷ h)))) read (e ∙ ap (λ z. Some (step_of m n u, P z)) (sym (drop-none h)))
  found-at (x ∷ h) (suc k) u t inside none read lead q same =
      ap₂ (λ later o. step_at (exp_of n x.0, m.value x.1) (P h) later o) (found-at h k u t (omega arith) (λ j g d. none (suc j) (omega arith) d) read lead q same) (none 0 (omega arith) x)
      ∙ subst (λ i. ◌≡◌ {A = Option (law.Step n V × Polynomial n V)} (Some (step_of m n u, P (x ∷ (take k h ++ drop (k + 1) h)))) (Some (step_of m n u, P (take (suc k) (x ∷ h) ++ drop i (x ∷ h))))) (let e : suc (k + 1) ≡ suc k + 1 = omega arith in e) refl

  pub is-first : (h : List (Exp × E)) (k : ℕ × Step E) → IsFirstStep n leads h k → first_step leads (P h) ≡ Some (step_of m n k.1, P (without k.0 h))
  is-first h k i = found-at h k.0 k.1 i.term i.inside i.earlier i.read i.lead i.quotient i.coefficient

-- ---- lists

pub all-append : {X : Type 0} (Q : X → Type 0) (xs ys : List X) → AllByRecursion Q xs → AllByRecursion Q ys → AllByRecursion Q (xs ++ ys)
all-append Q [] ys a b = b
all-append Q (x ∷ xs) ys a b = (a.0, all-append Q xs ys a.1 b)

pub all-take : {X : Type 0} (Q : X → Type 0) (k : ℕ) (xs : List X) → AllByRecursion Q xs → AllByRecursion Q (take k xs)
all-take Q zero [] a = tt
all-take Q zero (x ∷ xs) a = tt
all-take Q (suc k) [] a = tt
all-take Q (suc k) (x ∷ xs) a = (a.0, all-take Q k xs a.1)

pub all-drop : {X : Type 0} (Q : X → Type 0) (k : ℕ) (xs : List X) → AllByRecursion Q xs → AllByRecursion Q (drop k xs)
all-drop Q zero [] a = tt
all-drop Q zero (x ∷ xs) a = a
all-drop Q (suc k) [] a = tt
all-drop Q (suc k) (x ∷ xs) a = all-drop Q k xs a.1

pub all-without : {X : Type 0} (Q : X → Type 0) (k : ℕ) (xs : List X) → AllByRecursion Q xs → AllByRecursion Q (without k xs)
all-without Q k xs a = all-append Q (take k xs) (drop (k + 1) xs) (all-take Q k xs a) (all-drop Q (k + 1) xs a)

pub all-at : {X : Type 0} (Q : X → Type 0) (xs : List X) (k : ℕ) (x : X) → k < length xs → x ≡ get_or xs k x → AllByRecursion Q xs → Q x
all-at Q [] k x h e a = absurd (omega arith)
all-at Q (y ∷ ys) zero x h e a = subst Q (sym e) a.0
all-at Q (y ∷ ys) (suc k) x h e a = all-at Q ys k x (omega arith) e a.1

pub all-each : {X : Type 0} (Q R : X → Type 0) → ((x : X) → Q x → R x) → (xs : List X) → AllByRecursion Q xs → All R xs
all-each Q R f [] a j d g = absurd (omega arith)
all-each Q R f (x ∷ xs) a zero d g = f x a.0
all-each Q R f (x ∷ xs) a (suc j) d g = all-each Q R f xs a.1 j d (omega arith)

pub all-weaker : {X : Type 0} (Q R : X → Type 0) → ((x : X) → Q x → R x) → (xs : List X) → AllByRecursion Q xs → AllByRecursion R xs
all-weaker Q R f [] a = tt
all-weaker Q R f (x ∷ xs) a = (f x a.0, all-weaker Q R f xs a.1)

-- ---- what holds between two rounds

module _ {E V : Type 0} (m : Meaning E V) (letters : List V) (p : Part) (n grade : ℕ) where
  -- after i rounds of all those for the terms f: the terms that are left, and the steps that were taken
  pub record IsReducing (f : Polynomial n V) (rounds i : ℕ) (left : List (Exp × E)) (steps : List (Step E)) : Type 0 where
    pub graded : AreOfGrade m (row p).weights grade left
    pub ready : AllByRecursion (IsReady m letters n) steps
    pub weighed : AllByRecursion (IsWeighed m letters p grade) steps
    pub done : List (law.Step n V × Polynomial n V)
    pub whole : steps_of m.scalars letters rounds (row p).leads f ≡ done ++ steps_of m.scalars letters (rounds - i) (row p).leads (poly_of n m.value left)
    pub same : map (step_of m n) steps ≡ map (λ u. u.0) done

-- ---- the terms of a grade

module _ {E V : Type 0} (m : Meaning E V) (letters : List V) (p : Part) (n grade : ℕ) (inside : length (row p).weights ≤ n) where
  abbrev ws : List ℕ
  ws = (row p).weights

  abbrev Q : List (Exp × E) → Polynomial n V
  Q h = poly_of n m.value h

  weight-in : (a : Exp) → weighted_degree_of ws (exp_of n a).entries ≡ weighted_degree_of ws a.e
  weight-in a = weight-same ws (exp_of n a).entries a.e (λ i h. (exps_are n).at_make (λ i. get_or a.e i 0) i (omega arith))

  both : (x y : Bool) → (x ≡ true → y ≡ true) → (y ≡ true → x ≡ true) → x ≡ y
  both true y f g = sym (f refl)
  both false true f g = g refl
  both false false f g = refl

  zero_all : (e : List ℕ) → ((i : ℕ) → get_or e i 0 ≡ 0) → list_all (λ k. eqb k 0) e ≡ true
  zero_all [] h = refl
  zero_all (x ∷ e) h = ap₂ (λ a b. a && b) (Rattle.std.proofs.lemmas.Bool.eq-eqb x 0 (h 0)) (zero_all e (λ i. h (suc i)))

  in-only : (c : ℕ) (e : List ℕ) → IsIn c e → list_all (λ k. eqb k 0) (drop c e) ≡ true
  in-only zero [] h = refl
  in-only zero (x ∷ e) h = zero_all (x ∷ e) (λ i. h i (omega arith))
  in-only (suc c) [] h = refl
  in-only (suc c) (x ∷ e) h = in-only c e (λ i g. h (suc i) (omega arith))

  entry-at : (a : Exp) → IsIn n a.e → (i : ℕ) → get_or (exp_of n a).entries i 0 ≡ get_or a.e i 0
  entry-at a u i = elim (cases i n) [
    | inl g ↦ (exps_are n).at_make (λ i. get_or a.e i 0) i g
    | inr g ↦ Rattle.std.proofs.lemmas.List.get_or_past (exp_of n a).entries i 0 (let l = (exp_of n a).long in omega arith) ∙ sym (u i g)
  ]
    where
      cases : (i c : ℕ) → (i < c) ⊎ (c ≤ i)
      cases i c = grind arith

  graded-is : (a : Exp) → IsIn n a.e → is_of_grade n m.scalars letters ws grade (exp_of n a) ≡ is_graded p grade a.e
  graded-is a u =
      ap₂ (λ x y. eqb x grade && y) (weight-in a)
      (both (list_all (λ k. eqb k 0) (drop (length ws) (exp_of n a).entries)) (list_all (λ k. eqb k 0) (drop (length ws) a.e))
      (λ h. in-only (length ws) a.e (λ i g. sym (entry-at a u i) ∙ only-in (length ws) (exp_of n a).entries h i g))
      (λ h. in-only (length ws) (exp_of n a).entries (λ i g. entry-at a u i ∙ only-in (length ws) a.e h i g)))

  pub terms-are : (h : List (Exp × E)) → All (λ t. IsIn n t.0.e) h → Q (filter (λ t. is_graded p grade t.0.e) h) ≡ terms_of_grade n m.scalars letters p grade (Q h)
  terms-are [] a = refl
  terms-are (t ∷ h) a =
      step (is_graded p grade t.0.e) (terms-are h (λ j d g. a (suc j) d (omega arith)))
      ∙ ap (λ b. cond b ((exp_of n t.0, m.value t.1) ∷ terms_of_grade n m.scalars letters p grade (Q h)) (terms_of_grade n m.scalars letters p grade (Q h))) (sym (graded-is t.0 (a 0 t (omega arith))))
    where
      step : (b : Bool) → Q (filter (λ t. is_graded p grade t.0.e) h) ≡ terms_of_grade n m.scalars letters p grade (Q h)
          → Q (cond b (t ∷ filter (λ t. is_graded p grade t.0.e) h) (filter (λ t. is_graded p grade t.0.e) h))
          ≡ cond b ((exp_of n t.0, m.value t.1) ∷ terms_of_grade n m.scalars letters p grade (Q h)) (terms_of_grade n m.scalars letters p grade (Q h))
      step true e = ap (λ z. (exp_of n t.0, m.value t.1) ∷ z) e
      step false e = e

  and_first : (x y : Bool) → (x && y) ≡ true → x ≡ true
  and_first true y h = refl
  and_first false y h = h

  and_second : (x y : Bool) → (x && y) ≡ true → y ≡ true
  and_second true y h = h
  and_second false y h = let bad : ⊥ = cc h in absurd bad

  pub terms-graded : (h : List (Exp × E)) → All (λ t. m.is_elem t.1) h → All (λ t. length t.0.e ≡ 8) (filter (λ t. is_graded p grade t.0.e) h) → AreOfGrade m ws grade (filter (λ t. is_graded p grade t.0.e) h)
  terms-graded [] a long = tt
  terms-graded (t ∷ h) a long = step (is_graded p grade t.0.e) refl (terms-graded h (λ j d g. a (suc j) d (omega arith))) long
    where
      step : (b : Bool) → is_graded p grade t.0.e ≡ b → (All (λ t. length t.0.e ≡ 8) (filter (λ t. is_graded p grade t.0.e) h) → AreOfGrade m ws grade (filter (λ t. is_graded p grade t.0.e) h))
          → All (λ t. length t.0.e ≡ 8) (cond b (t ∷ filter (λ t. is_graded p grade t.0.e) h) (filter (λ t. is_graded p grade t.0.e) h))
          → AreOfGrade m ws grade (cond b (t ∷ filter (λ t. is_graded p grade t.0.e) h) (filter (λ t. is_graded p grade t.0.e) h))
      step true e rest l = (
        record {
          elem = a 0 t (omega arith);
          long = l 0 t (omega arith);
          variables = only-in (length ws) t.0.e (and_second (eqb (weighted_degree_of ws t.0.e) grade) (list_all (λ k. eqb k 0) (drop (length ws) t.0.e)) e);
          weight = eqb-true (weighted_degree_of ws t.0.e) grade (and_first (eqb (weighted_degree_of ws t.0.e) grade) (list_all (λ k. eqb k 0) (drop (length ws) t.0.e)) e);
        },
        rest (λ j d g. l (suc j) d (omega arith)),
      )
      step false e rest l = rest l

  pub are-in : (h : List (Exp × E)) → AreOfGrade m ws grade h → AreIn n h
  are-in h a = all-weaker (IsOfGrade m ws grade) (λ t. (length t.0.e ≡ 8) × IsIn n t.0.e) (λ t i. (i.long, more-in (length ws) n t.0.e inside i.variables)) h a

  -- ---- a step that is found among terms of the grade

  pub found-weighed : (h : List (Exp × E)) (k : ℕ × Step E) → AreOfGrade m ws grade h → IsFirstStep n (row p).leads h k → IsWeighed m letters p grade k.1
  found-weighed h k a i = record {
    among = i.among;
    weight = let t = all-at (IsOfGrade m ws grade) h k.0 i.term i.inside i.read a in
        sym (weight-sum ws k.1.rest.e k.1.lead.monomial i.term.0.e (λ j g. i.quotient j)) ∙ t.weight;
  }

  found-in : (h : List (Exp × E)) (k : ℕ × Step E) → AreOfGrade m ws grade h → IsFirstStep n (row p).leads h k → IsIn (length ws) k.1.rest.e
  found-in h k a i j g = let t = (all-at (IsOfGrade m ws grade) h k.0 i.term i.inside i.read a).variables j g in let q = i.quotient j in omega arith

  found-elem : (h : List (Exp × E)) (k : ℕ × Step E) → AreOfGrade m ws grade h → IsFirstStep n (row p).leads h k → m.is_elem k.1.coefficient
  found-elem h k a i = subst m.is_elem (sym i.coefficient) (all-at (IsOfGrade m ws grade) h k.0 i.term i.inside i.read a).elem

  pub found-ready : (h : List (Exp × E)) (k : ℕ × Step E) → grade < 256 → HasNonzeroDivisors m.scalars letters p → AreOfGrade m ws grade h → IsFirstStep n (row p).leads h k → IsReady m letters n k.1
  found-ready h k small divisors a i = is-ready m letters p n grade k.1 inside small divisors (found-elem h k a i) (found-in h k a i) (found-weighed h k a i)

  -- what a step leaves is of the grade
  left-graded : (h new : List (Exp × E)) (k : ℕ × Step E) → AreOfGrade m ws grade h → IsFirstStep n (row p).leads h k → IsLeft m letters k.1 (without k.0 h) new → AreOfGrade m ws grade new
  left-graded h new k a i left = left.kept ws grade (all-without (IsOfGrade m ws grade) k.0 h a) λ e among t is. record {
    elem = is.elem;
    long = is.long;
    variables = λ j g. let x = found-in h k a i j g in let y = entry-in p k.1.lead i.among e (tail-among k.1.lead e among) j g in let z = is.product j in omega arith;
    weight =
        let x = weight-sum ws k.1.rest.e e.monomial t.0.e (λ j g. is.product j) in
        let y = tail-weight p k.1.lead i.among e among in
        let z = (found-weighed h k a i).weight in
        omega arith;
  }

  -- ---- the loop

  abbrev S : ℕ → Polynomial n V → List (law.Step n V × Polynomial n V)
  S k f = steps_of m.scalars letters k (row p).leads f

  pub starts : (h : List (Exp × E)) (rounds : ℕ) → AreOfGrade m ws grade h → IsReducing m letters p n grade (Q h) rounds 0 h []
  starts h rounds a = record { graded = a; ready = tt; weighed = tt; done = []; whole = ap (λ k. S k (Q h)) (let e : rounds ≡ rounds - 0 = omega arith in e); same = refl }

  next-steps : (k : ℕ) (f : Polynomial n V) (u : law.Step n V × Polynomial n V) → first_step (row p).leads f ≡ Some u → S (suc k) f ≡ u ∷ S k (left_by m.scalars letters u)
  next-steps k f u e = ap (steps_from m.scalars letters (steps_of m.scalars letters k (row p).leads)) e

  left-is : (h new : List (Exp × E)) (k : ℕ × Step E) → AreOfGrade m ws grade h → IsFirstStep n (row p).leads h k → IsLeft m letters k.1 (without k.0 h) new → Q new ≡ left_by m.scalars letters (step_of m n k.1, Q (without k.0 h))
  left-is h new k a i left = left.left n (are-in (without k.0 h) (all-without (IsOfGrade m ws grade) k.0 h a)) (more-in (length ws) n k.1.rest.e inside (found-in h k a i))
      (λ e among. more-in (length ws) n e.monomial inside (entry-in p k.1.lead i.among e (tail-among k.1.lead e among)))

  round-is : (rounds i : ℕ) → i < rounds → rounds - i ≡ suc (rounds - (i + 1))
  round-is rounds i h = omega arith

  pub reduces : (f : Polynomial n V) (rounds i : ℕ) (h new : List (Exp × E)) (steps : List (Step E)) (k : ℕ × Step E) → grade < 256 → HasNonzeroDivisors m.scalars letters p → i < rounds
      → IsReducing m letters p n grade f rounds i h steps → IsFirstStep n (row p).leads h k → IsLeft m letters k.1 (without k.0 h) new → IsReducing m letters p n grade f rounds (i + 1) new (steps ++ k.1 ∷ [])
  reduces f rounds i h new steps k small divisors less r first left =
      let u : law.Step n V × Polynomial n V = (step_of m n k.1, Q (without k.0 h)) in
      record {
        graded = left-graded h new k r.graded first left;
        ready = all-append (IsReady m letters n) steps (k.1 ∷ []) r.ready (found-ready h k small divisors r.graded first, tt);
        weighed = all-append (IsWeighed m letters p grade) steps (k.1 ∷ []) r.weighed (found-weighed h k r.graded first, tt);
        done = r.done ++ u ∷ [];
        whole = r.whole ∙ ap (λ z. r.done ++ z) (ap (λ j. S j (Q h)) (round-is rounds i less) ∙ next-steps (rounds - (i + 1)) (Q h) u (is-first m n (row p).leads h k first)
            ∙ ap (λ z. u ∷ S (rounds - (i + 1)) z) (sym (left-is h new k r.graded first left)))
            ∙ sym (append_assoc r.done (u ∷ []) (S (rounds - (i + 1)) (Q new)));
        same = map-append (step_of m n) steps (k.1 ∷ []) ∙ ap (λ z. z ++ u.0 ∷ []) r.same ∙ sym (map-append (λ (u : law.Step n V × Polynomial n V). u.0) r.done (u ∷ []));
      }

  none-left : (k : ℕ) (f : Polynomial n V) → first_step (row p).leads f ≡ None → S k f ≡ []
  none-left zero f e = refl
  none-left (suc k) f e = ap (steps_from m.scalars letters (steps_of m.scalars letters k (row p).leads)) e

  -- where no step is left, these are the steps
  ended : (f g : Polynomial n V) (rounds i : ℕ) (h : List (Exp × E)) (steps : List (Step E)) → g ≡ terms_of_grade n m.scalars letters p grade f → rounds ≡ 3 * length g → IsReducing m letters p n grade g rounds i h steps → S (rounds - i) (Q h) ≡ []
      → IsReduction m letters n p grade f steps
  ended f g rounds i h steps eg er r e = record {
    ready = r.ready;
    weighed = r.weighed;
    same = r.same ∙ ap (map (λ (u : law.Step n V × Polynomial n V). u.0)) (sym (append-nil r.done) ∙ ap (λ z. r.done ++ z) (sym e) ∙ sym r.whole ∙ ap₂ (λ k z. S k z) (er ∙ ap (λ z. 3 * length z) eg) eg);
  }

  pub ends-early : (f g : Polynomial n V) (rounds i : ℕ) (h : List (Exp × E)) (steps : List (Step E)) → g ≡ terms_of_grade n m.scalars letters p grade f → rounds ≡ 3 * length g → IsReducing m letters p n grade g rounds i h steps
      → All (λ t. first_lead n (row p).leads (exp_of n t.0) ≡ None) h → IsReduction m letters n p grade f steps
  ends-early f g rounds i h steps eg er r none = ended f g rounds i h steps eg er r (none-left (rounds - i) (Q h) (none-first m n (row p).leads h none))

  pub ends-late : (f g : Polynomial n V) (rounds : ℕ) (h : List (Exp × E)) (steps : List (Step E)) → g ≡ terms_of_grade n m.scalars letters p grade f → rounds ≡ 3 * length g → IsReducing m letters p n grade g rounds rounds h steps → IsReduction m letters n p grade f steps
  ends-late f g rounds h steps eg er r = ended f g rounds rounds h steps eg er r (ap (λ k. S k (Q h)) (let e : rounds - rounds ≡ 0 = omega arith in e))

  -- a step that forms a high number for its tail
  pub step-high : (f g : Polynomial n V) (rounds i : ℕ) (h : List (Exp × E)) (steps : List (Step E)) (k : ℕ × Step E) → g ≡ terms_of_grade n m.scalars letters p grade f → rounds ≡ 3 * length g → i < rounds
      → IsReducing m letters p n grade g rounds i h steps → IsFirstStep n (row p).leads h k → IsLeavingHigh m letters k.1 (without k.0 h) → IsHigh (reduction_heights n m.scalars letters p grade f)
  unfolding reduction_heights
  step-high f g rounds i h steps k eg er less r first high =
      let u : law.Step n V × Polynomial n V = (step_of m n k.1, Q (without k.0 h)) in
      let rest = S (rounds - (i + 1)) (left_by m.scalars letters u) in
      let all : reduction n m.scalars letters p grade f ≡ r.done ++ u ∷ rest =
      sym (ap₂ (λ k z. S k z) (er ∙ ap (λ z. 3 * length z) eg) eg) ∙ r.whole
      ∙ ap (λ z. r.done ++ z) (ap (λ j. S j (Q h)) (round-is rounds i less) ∙ next-steps (rounds - (i + 1)) (Q h) u (is-first m n (row p).leads h k first)) in
      let tail = high n (are-in (without k.0 h) (all-without (IsOfGrade m ws grade) k.0 h r.graded)) (more-in (length ws) n k.1.rest.e inside (found-in h k r.graded first))
      (λ e among. more-in (length ws) n e.monomial inside (entry-in p k.1.lead first.among e (tail-among k.1.lead e among))) in
      subst (λ z. IsHigh (flat_map (step_heights m.scalars letters) z)) (sym all)
      (high-among (step_heights m.scalars letters) r.done u rest
      (high_right (flat_map (λ i. flat_map (multiplied_heights m.scalars letters u.0.coefficient) (cofactor u.0.lead i)) (Rattle.mono_exp.specs.Exponents.numbers_below 3)) (flat_map (tail_heights m.scalars letters u.0 u.1) (tail_of u.0.lead)) tail))
    where
      high-among : {X : Type 0} (t : X → List ℕ) (xs : List X) (x : X) (ys : List X) → IsHigh (t x) → IsHigh (flat_map t (xs ++ x ∷ ys))
      high-among t [] x ys h = high_left (t x) (flat_map t ys) h
      high-among t (z ∷ xs) x ys h = high_right (t z) (flat_map t (xs ++ x ∷ ys)) (high-among t xs x ys h)

  -- ---- for the terms of the program

  abbrev pub graded_terms : List (Exp × E) → List (Exp × E)
  graded_terms terms = filter (λ t. is_graded p grade t.0.e) terms

  same-count : (terms : List (Exp × E)) → 3 * length (graded_terms terms) ≡ 3 * length (Q (graded_terms terms))
  same-count terms = ap (λ k. 3 * k) (sym (length-map (graded_terms terms) (λ t. (exp_of n t.0, m.value t.1))))

  pub begins : (terms left : List (Exp × E)) (steps : List (Step E)) → left ≡ graded_terms terms → All (λ t. m.is_elem t.1) terms → All (λ t. length t.0.e ≡ 8) left → steps ≡ []
      → IsReducing m letters p n grade (Q (graded_terms terms)) (3 * length (graded_terms terms)) 0 left steps
  begins terms left steps el elems long es =
      subst (IsReducing m letters p n grade (Q (graded_terms terms)) (3 * length (graded_terms terms)) 0 left) (sym es)
      (subst (λ z. IsReducing m letters p n grade (Q (graded_terms terms)) (3 * length (graded_terms terms)) 0 z []) (sym el)
      (starts (graded_terms terms) (3 * length (graded_terms terms)) (terms-graded terms elems (subst (All (λ t. length t.0.e ≡ 8)) el long))))

  pub finishes-early : (terms : List (Exp × E)) → All (λ t. IsIn n t.0.e) terms → (i : ℕ) (h : List (Exp × E)) (steps : List (Step E)) → IsReducing m letters p n grade (Q (graded_terms terms)) (3 * length (graded_terms terms)) i h steps
      → All (λ t. first_lead n (row p).leads (exp_of n t.0) ≡ None) h → IsReduction m letters n p grade (Q terms) steps
  finishes-early terms unused i h steps r none = ends-early (Q terms) (Q (graded_terms terms)) (3 * length (graded_terms terms)) i h steps (terms-are terms unused) (same-count terms) r none

  pub finishes-late : (terms : List (Exp × E)) → All (λ t. IsIn n t.0.e) terms → (i : ℕ) → i ≡ 3 * length (graded_terms terms) → (h : List (Exp × E)) (steps : List (Step E)) → IsReducing m letters p n grade (Q (graded_terms terms)) (3 * length (graded_terms terms)) i h steps
      → IsReduction m letters n p grade (Q terms) steps
  finishes-late terms unused i e h steps r =
      ends-late (Q terms) (Q (graded_terms terms)) (3 * length (graded_terms terms)) h steps (terms-are terms unused) (same-count terms)
      (subst (λ j. IsReducing m letters p n grade (Q (graded_terms terms)) (3 * length (graded_terms terms)) j h steps) e r)

  pub leaving-high : (terms : List (Exp × E)) → All (λ t. IsIn n t.0.e) terms → (i : ℕ) (h : List (Exp × E)) (steps : List (Step E)) (k : ℕ × Step E) → i < 3 * length (graded_terms terms)
      → IsReducing m letters p n grade (Q (graded_terms terms)) (3 * length (graded_terms terms)) i h steps → IsFirstStep n (row p).leads h k → IsLeavingHigh m letters k.1 (without k.0 h)
      → IsHigh (reduction_heights n m.scalars letters p grade (Q terms))
  leaving-high terms unused i h steps k less r first high =
      step-high (Q terms) (Q (graded_terms terms)) (3 * length (graded_terms terms)) i h steps k (terms-are terms unused) (same-count terms) less r first high
