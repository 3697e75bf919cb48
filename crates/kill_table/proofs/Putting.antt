-- A term that is put among terms in the monomial order, at the place of the first one that does not stand before it.
use Rattle.std.proofs.Common.{◌≡◌, ℕ, zero, suc, ◌+◌, ◌<◌, ◌≤◌, ◌^◌, ◌⊎◌, inl, inr, Bool, true, false, not, cond, List, [], ◌∷◌, ◌++◌, map, length, get_or, set, take, drop, refl, sym, ap, ap₂, subst, ◌∙◌, one-add, add-one, append_assoc, take-append-drop, drop-cons, true≢false, arith}
use Rattle.std.specs.Prelude.{filter}
use Rattle.std.specs.List.{AllByRecursion, position_or_len, remove}
use Rattle.std.proofs.lemmas.List.{map-append, drop_all}
use Rattle.ring_theory.specs.Scalars.{Scalars, ScalarLaws, Meaning, TwoParts, none, first, second, neither}
use Rattle.poly_law.specs.Exps.{same}
use Rattle.poly_law.specs.ExpList.{ExpList, exps}
use Rattle.poly_law.specs.Polynomials.{Polynomial}
use Rattle.poly_law.proofs.ExpLists.{exps_are}
use Rattle.poly_law.proofs.ExpLaws
use Rattle.mono_exp.specs.declared.exponent.Exp.{Exp}
use Rattle.mono_exp.specs.Exponents.{IsIn, is_before}
use Rattle.mono_exp.proofs.Counting.{before_or_after}
use Rattle.jet_law.specs.Heights.{summands_at}
use Rattle.jet_law.specs.Terms.{exp_of, poly_of}
use Rattle.jet_law.proofs.Gather.{at_place, filter-append}
use Rattle.kill_law.specs.Taken.{unless_zero, put}
use Rattle.kill_table.specs.Terms.{AreIn, is_met_by, IsSumAt, IsRefusedAt, IsOfGrade, AreOfGrade, IsAdded}
use Rattle.kill_table.proofs.Orders.{before-in}

-- what holds of the parts of a list holds of the list, and the other way round
pub all-append : {X : Type 0} (P : X → Type 0) (xs ys : List X) → AllByRecursion P xs → AllByRecursion P ys → AllByRecursion P (xs ++ ys)
all-append P [] ys a b = b
all-append P (x ∷ xs) ys a b = (a.0, all-append P xs ys a.1 b)

pub all-left : {X : Type 0} (P : X → Type 0) (xs ys : List X) → AllByRecursion P (xs ++ ys) → AllByRecursion P xs
all-left P [] ys a = tt
all-left P (x ∷ xs) ys a = (a.0, all-left P xs ys a.1)

pub all-right : {X : Type 0} (P : X → Type 0) (xs ys : List X) → AllByRecursion P (xs ++ ys) → AllByRecursion P ys
all-right P [] ys a = a
all-right P (x ∷ xs) ys a = all-right P xs ys a.1

pub set-parts : {X : Type 0} (xs : List X) (k : ℕ) (x : X) → k < length xs → set xs k x ≡ take k xs ++ x ∷ drop (k + 1) xs
set-parts [] k x h = absurd (omega arith)
set-parts (y ∷ ys) zero x h = refl
set-parts (y ∷ ys) (suc k) x h =
    let e : suc (k + 1) ≡ suc k + 1 = omega arith in
    subst (λ i. set (y ∷ ys) (suc k) x ≡ take (suc k) (y ∷ ys) ++ x ∷ drop i (y ∷ ys)) e (ap (λ z. y ∷ z) (set-parts ys k x (omega arith)))

pub remove-parts : {X : Type 0} (xs : List X) (k : ℕ) → remove xs k ≡ take k xs ++ drop (k + 1) xs
remove-parts xs k = ap (λ j. take k xs ++ drop j xs) (sym (add-one k))

pub of-all : {X : Type 0} (P : X → Type 0) (xs : List X) (k : ℕ) (x : X) → k < length xs → x ≡ get_or xs k x → AllByRecursion P xs → P x
of-all P [] k x h e a = absurd (omega arith)
of-all P (y ∷ ys) zero x h e a = subst P (sym e) a.0
of-all P (y ∷ ys) (suc k) x h e a = of-all P ys k x (omega arith) e a.1

one-of : {X : Type 0} (P : X → Type 0) (b : Bool) (x : X) → P x → AllByRecursion P (cond b [] (x ∷ []))
one-of P true x p = tt
one-of P false x p = (p, tt)

pub not-true : (b : Bool) → (b ≡ true → ⊥) → b ≡ false
not-true true f = absurd (f refl)
not-true false f = refl

-- a place that is met is one of the terms
pub met-inside : {E : Type 0} (a : Exp) (h : List (Exp × E)) (k : ℕ) → is_met_by a (drop k h) ≡ true → k < length h
met-inside a h k q = step (cases k (length h))
  where
    cases : (k l : ℕ) → (k < l) ⊎ (l ≤ k)
    cases k l = grind arith

    step : (k < length h) ⊎ (length h ≤ k) → k < length h
    step (inl less) = less
    step (inr le) = let e = ap (is_met_by a) (drop_all k h le) in let bad : ⊥ = cc (e, q) in absurd bad

module _ {E V : Type 0} (m : Meaning E V) (laws : ScalarLaws m.scalars) (n : ℕ) (t : Exp × E) where
  abbrev s : Scalars V
  s = m.scalars

  abbrev one : Exp × E → ExpList n × V
  one u = (exp_of n u.0, m.value u.1)

  abbrev place : List (Exp × E) → ℕ
  place h = position_or_len (λ u. not (is_before u.0.e t.0.e)) h

  abbrev P : List (Exp × E) → Polynomial n V
  P h = poly_of n m.value h

  earlier : (u : Exp × E) → AreIn n (t ∷ u ∷ []) → is_before (exp_of n u.0).entries (exp_of n t.0).entries ≡ is_before u.0.e t.0.e
  earlier u a = before-in n u.0.e t.0.e (a.1.0.0 ∙ sym a.0.0) a.1.0.1 a.0.1

  later : (u : Exp × E) → AreIn n (t ∷ u ∷ []) → is_before (exp_of n t.0).entries (exp_of n u.0).entries ≡ is_before t.0.e u.0.e
  later u a = before-in n t.0.e u.0.e (a.0.0 ∙ sym a.1.0.0) a.0.1 a.1.0.1

  -- the terms before the place stay
  put-at : (h : List (Exp × E)) → AreIn n (t ∷ h) → put s (one t) (P h) ≡ P (take (place h) h) ++ put s (one t) (P (drop (place h) h))
  put-at [] a = refl
  put-at (u ∷ h) a = step (is_before u.0.e t.0.e) refl (put-at h (a.0, a.1.1))
    where
      step : (b : Bool) → is_before u.0.e t.0.e ≡ b → put s (one t) (P h) ≡ P (take (place h) h) ++ put s (one t) (P (drop (place h) h))
          → put s (one t) (P (u ∷ h)) ≡ P (take (cond (not (not b)) (1 + place h) 0) (u ∷ h)) ++ put s (one t) (P (drop (cond (not (not b)) (1 + place h) 0) (u ∷ h)))
      step true q rest = rw one-add (ap (λ b. cond b (one u ∷ put s (one t) (P h)) (cond (is_before (exp_of n t.0).entries (exp_of n u.0).entries) (unless_zero s (one t) (P (u ∷ h))) (unless_zero s ((one u).0, s.ops.add (one u).1 (one t).1) (P h)))) (earlier u (a.0, (a.1.0, tt)) ∙ q) ∙ ap (λ z. one u ∷ z) rest)
      step false q rest = refl

  -- the first term at the place does not stand before t
  abbrev IsLate : List (Exp × E) → Type 0
  IsLate [] = Unit {0}
  IsLate (u ∷ h) = is_before u.0.e t.0.e ≡ false

  late-at : (h : List (Exp × E)) → IsLate (drop (place h) h)
  late-at [] = tt
  late-at (u ∷ h) = step (is_before u.0.e t.0.e) refl (late-at h)
    where
      step : (b : Bool) → is_before u.0.e t.0.e ≡ b → IsLate (drop (place h) h) → IsLate (drop (cond (not (not b)) (1 + place h) 0) (u ∷ h))
      step true q rest = rw one-add rest
      step false q rest = q

  -- where t meets no term, it is put before them
  put-before : (h : List (Exp × E)) → AreIn n (t ∷ h) → IsLate h → is_met_by t.0 h ≡ false → put s (one t) (P h) ≡ unless_zero s (one t) (P h)
  put-before [] a l q = refl
  put-before (u ∷ h) a l q =
      ap₂ (λ x y. cond x (one u ∷ put s (one t) (P h)) (cond y (unless_zero s (one t) (P (u ∷ h))) (unless_zero s ((one u).0, s.ops.add (one u).1 (one t).1) (P h))))
      (earlier u (a.0, (a.1.0, tt)) ∙ l) (later u (a.0, (a.1.0, tt)) ∙ from_not (is_before t.0.e u.0.e) q)
    where
      from_not : (b : Bool) → not b ≡ false → b ≡ true
      from_not true q = refl
      from_not false q = let bad : ⊥ = cc q in absurd bad

  -- where it meets the term u, it is added to it
  put-onto : (u : Exp × E) (h : List (Exp × E)) → AreIn n (t ∷ u ∷ h) → is_before u.0.e t.0.e ≡ false → not (is_before t.0.e u.0.e) ≡ true
      → put s (one t) (P (u ∷ h)) ≡ unless_zero s ((one u).0, s.ops.add (one u).1 (one t).1) (P h)
  put-onto u h a l q =
      ap₂ (λ x y. cond x (one u ∷ put s (one t) (P h)) (cond y (unless_zero s (one t) (P (u ∷ h))) (unless_zero s ((one u).0, s.ops.add (one u).1 (one t).1) (P h))))
      (earlier u (a.0, (a.1.0, tt)) ∙ l) (later u (a.0, (a.1.0, tt)) ∙ from_not (is_before t.0.e u.0.e) q)
    where
      from_not : (b : Bool) → not b ≡ true → b ≡ false
      from_not true q = let bad : ⊥ = cc q in absurd bad
      from_not false q = refl

  head-of : (xs : List (Exp × E)) (i : ℕ) (x : Exp × E) → i < length xs → x ≡ get_or xs i x → drop i xs ≡ x ∷ drop (i + 1) xs
  head-of xs i x h e = rw (add-one, drop-cons xs i x) (ap (λ y. y ∷ drop (suc i) xs) (sym e))

  all-drop : (k : ℕ) (h : List (Exp × E)) → AreIn n (t ∷ h) → AreIn n (t ∷ drop k h)
  all-drop k h a = (a.0, all-right (λ t. (length t.0.e ≡ 8) × IsIn n t.0.e) (take k h) (drop k h) (subst (AreIn n) (sym (take-append-drop k h)) a.1))

  unless-is : (z : ExpList n × V) (b : Bool) (h : Polynomial n V) → s.is_zero z.1 ≡ b → unless_zero s z h ≡ cond b [] (z ∷ []) ++ h
  unless-is z true h q = ap (λ b. cond b h (z ∷ h)) q
  unless-is z false h q = ap (λ b. cond b h (z ∷ h)) q

  poly-of : (b : Bool) (u : Exp × E) → P (cond b [] (u ∷ [])) ≡ cond b [] (one u ∷ [])
  poly-of true u = refl
  poly-of false u = refl

  -- the terms with t put in, where it meets none
  pub put-in : (h new : List (Exp × E)) (k : ℕ) → AreIn n (t ∷ h) → k ≡ place h → is_met_by t.0 (drop k h) ≡ false
      → new ≡ take k h ++ (cond (s.is_zero (m.value t.1)) [] (t ∷ []) ++ drop k h) → P new ≡ put s (one t) (P h)
  put-in h new k a at q is =
      ap P is
      ∙ map-append one (take k h) (cond (s.is_zero (m.value t.1)) [] (t ∷ []) ++ drop k h)
      ∙ ap (λ z. P (take k h) ++ z) (map-append one (cond (s.is_zero (m.value t.1)) [] (t ∷ [])) (drop k h) ∙ ap (λ z. z ++ P (drop k h)) (poly-of (s.is_zero (m.value t.1)) t)
      ∙ sym (put-before (drop k h) (all-drop k h a) (subst (λ i. IsLate (drop i h)) (sym at) (late-at h)) q ∙ unless-is (one t) (s.is_zero (m.value t.1)) (P (drop k h)) refl))
      ∙ subst (λ i. P (take i h) ++ put s (one t) (P (drop i h)) ≡ put s (one t) (P h)) (sym at) (sym (put-at h a))

  -- the terms with t added to the term u
  pub put-at-sum : (h new : List (Exp × E)) (k : ℕ) → AreIn n (t ∷ h) → k < length h → k ≡ place h → is_met_by t.0 (drop k h) ≡ true
      → IsSumAt m h k t.1 new → P new ≡ put s (one t) (P h)
  put-at-sum h new k a inside at q is =
      let u = is.term in
      let x = is.number in
      let rest : drop k h ≡ u ∷ drop (k + 1) h = head-of h k u inside is.read in
      let late = subst IsLate rest (subst (λ i. IsLate (drop i h)) (sym at) (late-at h)) in
      let met : is_met_by t.0 (u ∷ drop (k + 1) h) ≡ true = subst (λ z. is_met_by t.0 z ≡ true) rest q in
      let sum : (one (u.0, x)) ≡ ((one u).0, s.ops.add (one u).1 (one t).1) = ap (λ z. ((one u).0, z)) is.sum in
      ap P is.changed
      ∙ map-append one (take k h) (cond (s.is_zero (m.value x)) [] ((u.0, x) ∷ []) ++ drop (k + 1) h)
      ∙ ap (λ z. P (take k h) ++ z) (map-append one (cond (s.is_zero (m.value x)) [] ((u.0, x) ∷ [])) (drop (k + 1) h)
      ∙ ap (λ z. z ++ P (drop (k + 1) h)) (poly-of (s.is_zero (m.value x)) (u.0, x))
      ∙ sym (put-onto u (drop (k + 1) h) (subst (λ z. AreIn n (t ∷ z)) rest (all-drop k h a)) late met
      ∙ ap (λ z. unless_zero s z (P (drop (k + 1) h))) (sym sum)
      ∙ unless-is (one (u.0, x)) (s.is_zero (m.value x)) (P (drop (k + 1) h)) refl)
      ∙ ap (λ z. put s (one t) (P z)) (sym rest))
      ∙ subst (λ i. P (take i h) ++ put s (one t) (P (drop i h)) ≡ put s (one t) (P h)) (sym at) (sym (put-at h a))

  -- ---- heights

  kept-summands : (f g : Polynomial n V) (a : ExpList n) → summands_at (exps n) s (f ++ g) a ≡ summands_at (exps n) s f a ++ summands_at (exps n) s g a
  kept-summands f g a = ap (map (λ t. t.1)) (filter-append (λ t. same (exps n) t.0 a) f g) ∙ map-append (λ t. t.1) (filter (λ t. same (exps n) t.0 a) f) (filter (λ t. same (exps n) t.0 a) g)

  -- the sum at the place that t meets is among the sums that the definition forms
  pub adding-high : (h : List (Exp × E)) (k : ℕ) → AreIn n (t ∷ h) → k < length h → k ≡ place h → is_met_by t.0 (drop k h) ≡ true
      → IsRefusedAt m h k t.1 → 2 ^ 120 ≤ s.sum_height (summands_at (exps n) s (P h ++ one t ∷ []) (one t).0)
  adding-high h k a inside at q is =
      let u = is.term in
      let rest : drop k h ≡ u ∷ drop (k + 1) h = head-of h k u inside is.read in
      let late = subst IsLate rest (subst (λ i. IsLate (drop i h)) (sym at) (late-at h)) in
      let met : is_met_by t.0 (u ∷ drop (k + 1) h) ≡ true = subst (λ z. is_met_by t.0 z ≡ true) rest q in
      let both = subst (λ z. AreIn n (t ∷ z)) rest (all-drop k h a) in
      let equal : (one u).0 ≡ (one t).0 = same-monomial u (both.0, (both.1.0, tt)) late met in
      let here : same (exps n) (one u).0 (one t).0 ≡ true = ap (λ z. same (exps n) z (one t).0) equal ∙ ExpLaws.same_refl (exps n) (exps_are n) (one t).0 in
      let S : Polynomial n V → List V = λ f. summands_at (exps n) s f (one t).0 in
      let X = S (P (take k h)) in
      let Y = S (P (drop (k + 1) h)) in
      let shape : P h ≡ P (take k h) ++ (one u ∷ P (drop (k + 1) h)) = ap P (at_place h k u inside is.read) ∙ map-append one (take k h) (u ∷ drop (k + 1) h) in
      let all : S (P h ++ one t ∷ []) ≡ X ++ (m.value u.1 ∷ (Y ++ m.value t.1 ∷ [])) =
      kept-summands (P h) (one t ∷ []) (one t).0
      ∙ ap₂ (λ y z. y ++ z) (ap S shape ∙ kept-summands (P (take k h)) (one u ∷ P (drop (k + 1) h)) (one t).0
      ∙ ap (λ b. X ++ map (λ t. t.1) (cond b (one u ∷ filter (λ v. same (exps n) v.0 (one t).0) (P (drop (k + 1) h))) (filter (λ v. same (exps n) v.0 (one t).0) (P (drop (k + 1) h))))) here)
      (ap (λ b. map {A = ExpList n × V} (λ t. t.1) (cond b (one t ∷ []) [])) (ExpLaws.same_refl (exps n) (exps_are n) (one t).0))
      ∙ append_assoc X (m.value u.1 ∷ Y) (m.value t.1 ∷ []) in
      subst (λ z. 2 ^ 120 ≤ s.sum_height z) (sym all)
      (is.high (X ++ (m.value u.1 ∷ (Y ++ m.value t.1 ∷ []))) (m.value u.1 ∷ []) (m.value t.1 ∷ []) (two X (first (last Y))) (laws.ring.add_zero (m.value u.1)) (laws.ring.add_zero (m.value t.1)))
    where
      same-monomial : (u : Exp × E) → AreIn n (t ∷ u ∷ []) → is_before u.0.e t.0.e ≡ false → not (is_before t.0.e u.0.e) ≡ true → (one u).0 ≡ (one t).0
      same-monomial u a p q = elim (before_or_after (one u).0.entries (one t).0.entries ((one u).0.long ∙ sym (one t).0.long)) [
        | inl e ↦ (exps_are n).same_at (one u).0 (one t).0 (λ i g. ap (λ z. get_or z i 0) e)
        | inr o ↦ elim o [
          | inl e ↦ let bad : ⊥ = cc (earlier u a, p, e) in absurd bad
          | inr e ↦ absurd (true≢false (sym q ∙ ap not (sym (later u a) ∙ e)))
        ]
      ]

      two : (xs : List V) {ys us vs : List V} → TwoParts ys us vs → TwoParts (xs ++ ys) us vs
      two [] p = p
      two (x ∷ xs) p = neither (two xs p)

      last : (ys : List V) → TwoParts (ys ++ m.value t.1 ∷ []) [] (m.value t.1 ∷ [])
      last [] = second none
      last (y ∷ ys) = neither (last ys)

module _ {E V : Type 0} (m : Meaning E V) (laws : ScalarLaws m.scalars) (t : Exp × E) where
  abbrev place_of : List (Exp × E) → ℕ
  place_of h = position_or_len (λ u. not (is_before u.0.e t.0.e)) h

  parts-of-grade : (ws : List ℕ) (grade k j : ℕ) (h : List (Exp × E)) → AreOfGrade m ws grade h → AreOfGrade m ws grade (take k h) × AreOfGrade m ws grade (drop j h)
  parts-of-grade ws grade k j h a = (
    all-left (IsOfGrade m ws grade) (take k h) (drop k h) (subst (AreOfGrade m ws grade) (sym (take-append-drop k h)) a),
    all-right (IsOfGrade m ws grade) (take j h) (drop j h) (subst (AreOfGrade m ws grade) (sym (take-append-drop j h)) a),
  )

  -- t is added to the term that it meets
  pub added-onto : (h new : List (Exp × E)) (k : ℕ) → k < length h → k ≡ place_of h → is_met_by t.0 (drop k h) ≡ true → IsSumAt m h k t.1 new → IsAdded m t h new
  added-onto h new k inside at q is = record {
    put = λ n a. put-at-sum m laws n t h new k a inside at q is;
    kept = λ ws grade a.
        let p = parts-of-grade ws grade k (k + 1) h a.1 in
        let u = of-all (IsOfGrade m ws grade) h k is.term inside is.read a.1 in
        subst (AreOfGrade m ws grade) (sym is.changed)
        (all-append (IsOfGrade m ws grade) (take k h) (cond (m.scalars.is_zero (m.value is.number)) [] ((is.term.0, is.number) ∷ []) ++ drop (k + 1) h) p.0
        (all-append (IsOfGrade m ws grade) (cond (m.scalars.is_zero (m.value is.number)) [] ((is.term.0, is.number) ∷ [])) (drop (k + 1) h)
        (one-of (IsOfGrade m ws grade) (m.scalars.is_zero (m.value is.number)) (is.term.0, is.number) (record { elem = is.elem; long = u.long; variables = u.variables; weight = u.weight })) p.1));
  }

  -- t is put before the term at its place, or left out where it is zero
  pub added-before : (h new : List (Exp × E)) (k : ℕ) → k ≡ place_of h → is_met_by t.0 (drop k h) ≡ false
      → new ≡ take k h ++ (cond (m.scalars.is_zero (m.value t.1)) [] (t ∷ []) ++ drop k h) → IsAdded m t h new
  added-before h new k at q is = record {
    put = λ n a. put-in m laws n t h new k a at q is;
    kept = λ ws grade a.
        let p = parts-of-grade ws grade k k h a.1 in
        subst (AreOfGrade m ws grade) (sym is)
        (all-append (IsOfGrade m ws grade) (take k h) (cond (m.scalars.is_zero (m.value t.1)) [] (t ∷ []) ++ drop k h) p.0
        (all-append (IsOfGrade m ws grade) (cond (m.scalars.is_zero (m.value t.1)) [] (t ∷ [])) (drop k h)
        (one-of (IsOfGrade m ws grade) (m.scalars.is_zero (m.value t.1)) t a.0) p.1));
  }
