-- The coefficient of a jet is that of the term that a binary search finds.
use Rattle.std.proofs.Common.{◌≡◌, ℕ, zero, suc, ◌+◌, ◌<◌, ◌≤◌, ◌⊎◌, inl, inr, Bool, true, false, ◌&&◌, ◌||◌, cond, eqb, ltb, List, [], ◌∷◌, length, get_or, drop, sum, refl, sym, ap, ap₂, subst, ◌∙◌, add-one, drop-cons, true≢false, arith}
use Rattle.std.specs.List.{AllByRecursion, All, AllWithin}
use Rattle.std.specs.List.Sorted.{IsPartitionedBy, IsPartitionPoint}
use Rattle.std.proofs.lemmas.Bool.{lt-ltb, ltb-true, le-ltb, eq-eqb, eqb-true}
use Rattle.std.proofs.lemmas.List.{get_or_past}
use Rattle.std.proofs.lemmas.List.Elements.{recursion_from_All}
use Rattle.ring_theory.specs.Ring.{RingOps, IsCommRing}
use Rattle.poly_law.specs.Exps.{same, all_to}
use Rattle.poly_law.specs.ExpList.{exps}
use Rattle.poly_law.specs.Poly.{coefficient}
use Rattle.poly_law.proofs.ExpLists.{exps_are}
use Rattle.poly_law.proofs.ExpLaws
use Rattle.poly_law.proofs.Sums
use Rattle.mono_exp.specs.declared.exponent.Exp.{Exp}
use Rattle.mono_exp.specs.Exponents.{IsIn, is_before, is_greater_first}
use Rattle.mono_exp.proofs.Lists.{sum-cons}
use Rattle.jet_law.specs.Terms.{exp_of, poly_of}
use Rattle.jet_law.proofs.TermLemmas.{at-exp_of}
use Rattle.jet_poly.specs.JetTerms.{IsRising, AllAfter}

below_or_not : (i n : ℕ) → (i < n) ⊎ (n ≤ i)
below_or_not i n = grind arith

-- equal monomials in n variables have all exponents equal
get-equal : (n : ℕ) (a b : Exp) → IsIn n a.e → IsIn n b.e → exp_of n a ≡ exp_of n b → (i : ℕ) → get_or a.e i 0 ≡ get_or b.e i 0
get-equal n a b ha hb e i = step (below_or_not i n)
  where
    step : (i < n) ⊎ (n ≤ i) → get_or a.e i 0 ≡ get_or b.e i 0
    step (inl l) = sym (at-exp_of n a i l) ∙ ap (λ z. (exps n).at z i) e ∙ at-exp_of n b i l
    step (inr l) = ha i l ∙ sym (hb i l)

exp_of-equal : (n : ℕ) (a b : Exp) → ((i : ℕ) → get_or a.e i 0 ≡ get_or b.e i 0) → exp_of n a ≡ exp_of n b
exp_of-equal n a b h = (exps_are n).same_at (exp_of n a) (exp_of n b) λ i l. at-exp_of n a i l ∙ h i ∙ sym (at-exp_of n b i l)

pub in-eight : (n : ℕ) (e : List ℕ) → n ≤ 8 → IsIn n e → IsIn 8 e
in-eight n e h u i l = u i (omega arith)

-- monomials in n variables are monomials in eight
pub all-in-eight : {E : Type 0} (n : ℕ) (f g : List (Exp × E)) → n ≤ 8 → f ≡ g → All (λ u. IsIn n u.0.e) g → All (λ u. IsIn 8 u.0.e) f
all-in-eight n f g h e all k d l = in-eight n (get_or f k d).0.e h (subst (All (λ u. IsIn n u.0.e)) (sym e) all k d l)

-- an exponent vector has eight places
pub within-eight : (e : List ℕ) → length e ≡ 8 → IsIn 8 e
within-eight e long i u = get_or_past e i 0 (subst (λ k. k ≤ i) (sym long) u)

-- the test of equality does not depend on the number of variables
same-eight : (n : ℕ) (a b : Exp) → n ≤ 8 → IsIn n a.e → IsIn n b.e → same (exps n) (exp_of n a) (exp_of n b) ≡ same (exps 8) (exp_of 8 a) (exp_of 8 b)
same-eight n a b h ha hb = step (same (exps 8) (exp_of 8 a) (exp_of 8 b)) refl
  where
    step : (t : Bool) → same (exps 8) (exp_of 8 a) (exp_of 8 b) ≡ t → same (exps n) (exp_of n a) (exp_of n b) ≡ t
    step true e =
        let q = exp_of-equal n a b (get-equal 8 a b (in-eight n a.e h ha) (in-eight n b.e h hb) (ExpLaws.same-eq (exps 8) (exps_are 8) (exp_of 8 a) (exp_of 8 b) e)) in
        ap (λ z. same (exps n) z (exp_of n b)) q ∙ ExpLaws.same_refl (exps n) (exps_are n) (exp_of n b)
    step false e = ExpLaws.same-no (exps n) (exps_are n) (exp_of n a) (exp_of n b)
        (λ q. contradiction (sym (ap (λ z. same (exps 8) z (exp_of 8 b)) (exp_of-equal 8 a b (get-equal n a b ha hb q)) ∙ ExpLaws.same_refl (exps 8) (exps_are 8) (exp_of 8 b)) ∙ e))
      where
        contradiction : true ≡ false → ⊥
        contradiction bad = cc bad

sum-equal : (a b : List ℕ) → ((i : ℕ) → get_or a i 0 ≡ get_or b i 0) → sum a ≡ sum b
sum-equal [] [] h = refl
sum-equal [] (y ∷ b) h = sym (sum-cons y b ∙ ap₂ (λ x z. x + z) (sym (h 0)) (sym (sum-equal [] b (λ i. h (suc i)))))
sum-equal (x ∷ a) [] h = sum-cons x a ∙ ap₂ (λ x z. x + z) (h 0) (sum-equal a [] (λ i. h (suc i)))
sum-equal (x ∷ a) (y ∷ b) h = sum-cons x a ∙ ap₂ (λ x z. x + z) (h 0) (sum-equal a b (λ i. h (suc i))) ∙ sym (sum-cons y b)

first-equal : (a b : List ℕ) → ((i : ℕ) → get_or a i 0 ≡ get_or b i 0) → is_greater_first a b ≡ false
first-equal [] b h = refl
first-equal (x ∷ a) [] h = refl
first-equal (x ∷ a) (y ∷ b) h =
    let e : x ≡ y = h 0 in
    let le : x ≤ y = omega arith in
    ap₂ (λ t u. t || (u && is_greater_first a b)) (le-ltb y x le) (eq-eqb x y e) ∙ first-equal a b (λ i. h (suc i))

-- a monomial is not before itself
before-equal : (a b : List ℕ) → ((i : ℕ) → get_or a i 0 ≡ get_or b i 0) → is_before a b ≡ false
before-equal a b h =
    let e : sum a ≡ sum b = sum-equal a b h in
    let le : sum b ≤ sum a = omega arith in
    ap₂ (λ t u. t || (u && is_greater_first a b)) (le-ltb (sum a) (sum b) le) (eq-eqb (sum a) (sum b) e) ∙ first-equal a b h

pub all-more : (k : ℕ) (p : ℕ → Bool) → all_to k p ≡ true → p k ≡ true → all_to (k + 1) p ≡ true
all-more k p h e = rw add-one (ap₂ (λ a b. a && b) h e)

all-same : (k : ℕ) (p q : ℕ → Bool) → ((i : ℕ) → i < k → p i ≡ q i) → all_to k p ≡ all_to k q
all-same zero p q h = refl
all-same (suc k) p q h = ap₂ (λ a b. a && b) (all-same k p q (λ i g. h i (omega arith))) (h k (omega arith))

-- the test place by place
pub same-places : (a b : Exp) → all_to 8 (λ i. eqb (get_or a.e i 0) (get_or b.e i 0)) ≡ same (exps 8) (exp_of 8 a) (exp_of 8 b)
same-places a b = all-same 8 (λ i. eqb (get_or a.e i 0) (get_or b.e i 0)) (λ i. eqb ((exps 8).at (exp_of 8 a) i) ((exps 8).at (exp_of 8 b) i)) λ i h. ap₂ eqb (sym (at-exp_of 8 a i h)) (sym (at-exp_of 8 b i h))

two_cases : (p q r : Bool) → (p || (q && r)) ≡ true → (p ≡ true) ⊎ ((q ≡ true) × (r ≡ true))
two_cases true q r h = inl refl
two_cases false true r h = inr (refl, h)
two_cases false false r h = let bad : ⊥ = cc h in absurd bad

-- an order by a first test, and where that ties by a second one, is transitive where both are
tie-trans : (less : ℕ → ℕ → Bool) → ((x : ℕ) → less x x ≡ false) → ((x y z : ℕ) → less x y ≡ true → less y z ≡ true → less x z ≡ true) → (x y z : ℕ) (r s t : Bool) → (r ≡ true → s ≡ true → t ≡ true)
    → (less x y || (eqb x y && r)) ≡ true → (less y z || (eqb y z && s)) ≡ true → (less x z || (eqb x z && t)) ≡ true
tie-trans less none trans x y z r s t rest h k = step (two_cases (less x y) (eqb x y) r h) (two_cases (less y z) (eqb y z) s k)
  where
    first : less x z ≡ true → (less x z || (eqb x z && t)) ≡ true
    first e = ap (λ b. b || (eqb x z && t)) e

    step : (less x y ≡ true) ⊎ ((eqb x y ≡ true) × (r ≡ true)) → (less y z ≡ true) ⊎ ((eqb y z ≡ true) × (s ≡ true)) → (less x z || (eqb x z && t)) ≡ true
    step (inl g) (inl l) = first (trans x y z g l)
    step (inl g) (inr q) = first (subst (λ w. less x w ≡ true) (eqb-true y z q.0) g)
    step (inr p) (inl l) = first (subst (λ w. less w z ≡ true) (sym (eqb-true x y p.0)) l)
    step (inr p) (inr q) =
        let e : x ≡ z = eqb-true x y p.0 ∙ eqb-true y z q.0 in
        ap₂ (λ b d. b || (d && t)) (subst (λ w. less x w ≡ false) e (none x)) (eq-eqb x z e) ∙ rest p.1 q.1

lower-trans : (x y z : ℕ) → ltb x y ≡ true → ltb y z ≡ true → ltb x z ≡ true
lower-trans x y z g l =
    let first : x < y = ltb-true x y g in
    let second : y < z = ltb-true y z l in
    lt-ltb x z (omega arith)

first-trans : (a b d : List ℕ) → is_greater_first a b ≡ true → is_greater_first b d ≡ true → is_greater_first a d ≡ true
first-trans [] b d h k = let bad : ⊥ = cc h in absurd bad
first-trans (x ∷ a) [] d h k = let bad : ⊥ = cc h in absurd bad
first-trans (x ∷ a) (y ∷ b) [] h k = let bad : ⊥ = cc k in absurd bad
first-trans (x ∷ a) (y ∷ b) (z ∷ d) h k =
    tie-trans (λ u v. ltb v u) (λ u. le-ltb u u (omega arith)) (λ u v w g l. lower-trans w v u l g) x y z (is_greater_first a b) (is_greater_first b d) (is_greater_first a d) (first-trans a b d) h k

-- what stands before an earlier monomial stands before a later one
pub before-trans : (a b d : List ℕ) → is_before a b ≡ true → is_before b d ≡ true → is_before a d ≡ true
before-trans a b d h k =
    tie-trans ltb (λ u. le-ltb u u (omega arith)) lower-trans (sum a) (sum b) (sum d) (is_greater_first a b) (is_greater_first b d) (is_greater_first a d) (first-trans a b d) h k

-- what stands after a later monomial stands after an earlier one
pub after-trans : {E : Type 0} (m n : Exp) (f : List (Exp × E)) → is_before m.e n.e ≡ true → AllAfter n f → AllAfter m f
after-trans m n [] h after = tt
after-trans m n (t ∷ f) h after = (before-trans m.e n.e t.0.e h after.0, after-trans m n f h after.1)

after-at : {E : Type 0} (m : Exp) (f : List (Exp × E)) (k : ℕ) (d : Exp × E) → AllAfter m f → k < length f → is_before m.e (get_or f k d).0.e ≡ true
after-at m [] k d after h = absurd (omega arith)
after-at m (t ∷ f) zero d after h = after.0
after-at m (t ∷ f) (suc k) d after h = after-at m f k d after.1 (omega arith)

-- in the monomial order the terms before a monomial come first
pub before-partitioned : {E : Type 0} (a : List ℕ) (f : List (Exp × E)) → IsRising f → IsPartitionedBy (λ t. is_before t.0.e a) f
before-partitioned a [] r i j d le lt e = absurd (omega arith)
before-partitioned a (t ∷ f) r zero zero d le lt e = e
before-partitioned a (t ∷ f) r zero (suc j) d le lt e = before-trans t.0.e (get_or f j d).0.e a (after-at t.0 f j d r.0 (omega arith)) e
before-partitioned a (t ∷ f) r (suc i) zero d le lt e = absurd (omega arith)
before-partitioned a (t ∷ f) r (suc i) (suc j) d le lt e = before-partitioned a f r.1 i j d (omega arith) (omega arith) e

sum-zero : (a : List ℕ) → sum a ≡ 0 → (i : ℕ) → get_or a i 0 ≡ 0
sum-zero [] h i = refl
sum-zero (x ∷ a) h zero = let e = sum-cons x a in omega arith
sum-zero (x ∷ a) h (suc i) = sum-zero a (let e = sum-cons x a in omega arith) i

three : (x y : ℕ) → (x < y) ⊎ ((y < x) ⊎ (x ≡ y))
three x y = grind arith

abbrev AreEqual : List ℕ → List ℕ → Type 0
AreEqual a b = (i : ℕ) → get_or a i 0 ≡ get_or b i 0

-- of two monomials of one degree whose exponents are not equal one has the greater exponent at the first place that differs
first-total : (a b : List ℕ) → sum a ≡ sum b → AreEqual a b ⊎ ((is_greater_first a b ≡ true) ⊎ (is_greater_first b a ≡ true))
first-total [] b e = inl (λ i. sym (sum-zero b (sym e) i))
first-total (x ∷ a) [] e = inl (λ i. sum-zero (x ∷ a) e i)
first-total (x ∷ a) (y ∷ b) e = step (three x y) (first-total a b)
  where
    sums : x + sum a ≡ y + sum b
    sums = sym (sum-cons x a) ∙ e ∙ sum-cons y b

    equal : x ≡ y → AreEqual a b → AreEqual (x ∷ a) (y ∷ b)
    equal s all zero = s
    equal s all (suc i) = all i

    step : (x < y) ⊎ ((y < x) ⊎ (x ≡ y)) → (sum a ≡ sum b → AreEqual a b ⊎ ((is_greater_first a b ≡ true) ⊎ (is_greater_first b a ≡ true)))
        → AreEqual (x ∷ a) (y ∷ b) ⊎ ((is_greater_first (x ∷ a) (y ∷ b) ≡ true) ⊎ (is_greater_first (y ∷ b) (x ∷ a) ≡ true))
    step (inl g) rest = inr (inr (ap (λ t. t || (eqb y x && is_greater_first b a)) (lt-ltb x y g)))
    step (inr (inl g)) rest = inr (inl (ap (λ t. t || (eqb x y && is_greater_first a b)) (lt-ltb y x g)))
    step (inr (inr s)) rest = last (rest (let q = sums in omega arith))
      where
        last : AreEqual a b ⊎ ((is_greater_first a b ≡ true) ⊎ (is_greater_first b a ≡ true))
            → AreEqual (x ∷ a) (y ∷ b) ⊎ ((is_greater_first (x ∷ a) (y ∷ b) ≡ true) ⊎ (is_greater_first (y ∷ b) (x ∷ a) ≡ true))
        last (inl all) = inl (equal s all)
        last (inr (inl g)) =
            let le : x ≤ y = omega arith in
            inr (inl (ap₂ (λ t u. t || (u && is_greater_first a b)) (le-ltb y x le) (eq-eqb x y s) ∙ g))
        last (inr (inr g)) =
            let le : y ≤ x = omega arith in
            inr (inr (ap₂ (λ t u. t || (u && is_greater_first b a)) (le-ltb x y le) (eq-eqb y x (sym s)) ∙ g))

-- what does not stand before a monomial has equal exponents, or stands after it
before-total : (a b : List ℕ) → is_before a b ≡ false → AreEqual a b ⊎ (is_before b a ≡ true)
before-total a b late = step (three (sum a) (sum b))
  where
    not_before : is_before a b ≡ true → ⊥
    not_before early = true≢false (sym early ∙ late)

    last : sum a ≡ sum b → AreEqual a b ⊎ ((is_greater_first a b ≡ true) ⊎ (is_greater_first b a ≡ true)) → AreEqual a b ⊎ (is_before b a ≡ true)
    last s (inl all) = inl all
    last s (inr (inl g)) =
        let le : sum b ≤ sum a = omega arith in
        absurd (not_before (ap₂ (λ t u. t || (u && is_greater_first a b)) (le-ltb (sum a) (sum b) le) (eq-eqb (sum a) (sum b) s) ∙ g))
    last s (inr (inr g)) =
        let le : sum a ≤ sum b = omega arith in
        inr (ap₂ (λ t u. t || (u && is_greater_first b a)) (le-ltb (sum b) (sum a) le) (eq-eqb (sum b) (sum a) (sym s)) ∙ g)

    step : (sum a < sum b) ⊎ ((sum b < sum a) ⊎ (sum a ≡ sum b)) → AreEqual a b ⊎ (is_before b a ≡ true)
    step (inl g) = absurd (not_before (ap (λ t. t || (eqb (sum a) (sum b) && is_greater_first a b)) (lt-ltb (sum a) (sum b) g)))
    step (inr (inl g)) = inr (ap (λ t. t || (eqb (sum b) (sum a) && is_greater_first b a)) (lt-ltb (sum b) (sum a) g))
    step (inr (inr s)) = last s (first-total a b s)

module _ {E V : Type 0} (r : RingOps V) (c : IsCommRing r) (value : E → V) (a : Exp) where
  abbrev C : List (Exp × E) → V
  C f = coefficient (exps 8) r (poly_of 8 value f) (exp_of 8 a)

  apart : (t u : Exp) → IsIn 8 t.e → IsIn 8 u.e → is_before t.e u.e ≡ true → exp_of 8 t ≡ exp_of 8 u → ⊥
  apart t u it iu h e = contradiction (sym h ∙ before-equal t.e u.e (get-equal 8 t u it iu e))
    where
      contradiction : true ≡ false → ⊥
      contradiction z = cc z

  other : (t : Exp × E) (f : List (Exp × E)) → same (exps 8) (exp_of 8 t.0) (exp_of 8 a) ≡ false → C (t ∷ f) ≡ C f
  other t f e = ap (λ b. r.add (cond b (value t.1) r.zero) (C f)) e ∙ Sums.zero_add r c (C f)

  -- terms before a monomial are none at it
  coefficient-passed : (f : List (Exp × E)) (i : ℕ) → IsIn 8 a.e → AllByRecursion (λ u. IsIn 8 u.0.e) f → AllWithin (λ t. is_before t.0.e a.e ≡ true) f 0 i → C f ≡ C (drop i f)
  coefficient-passed [] zero ia all h = refl
  coefficient-passed [] (suc i) ia all h = refl
  coefficient-passed (t ∷ f) zero ia all h = refl
  coefficient-passed (t ∷ f) (suc i) ia all h =
      other t f (ExpLaws.same-no (exps 8) (exps_are 8) (exp_of 8 t.0) (exp_of 8 a) (apart t.0 a all.0 ia (h 0 t (omega arith) (omega arith))))
      ∙ coefficient-passed f i ia all.1 (λ k d low high. h (suc k) d (omega arith) (omega arith))

  -- nor are terms after it
  coefficient-after : (t : Exp) (f : List (Exp × E)) → IsIn 8 t.e → AllByRecursion (λ u. IsIn 8 u.0.e) f → exp_of 8 t ≡ exp_of 8 a → AllAfter t f → C f ≡ r.zero
  coefficient-after t [] it all e after = refl
  coefficient-after t (u ∷ f) it all e after =
      other u f (ExpLaws.same-no (exps 8) (exps_are 8) (exp_of 8 u.0) (exp_of 8 a) (λ q. apart t u.0 it all.0 after.0 (e ∙ sym q)))
      ∙ coefficient-after t f it all.1 e after.1

  at_drop : (f : List (Exp × E)) (i : ℕ) (t : Exp × E) → i < length f → t ≡ get_or f i t → drop i f ≡ t ∷ drop (i + 1) f
  at_drop f i t h e = rw (add-one, drop-cons f i t) (ap (λ y. y ∷ drop (suc i) f) (sym e))

  rising-drop : (f : List (Exp × E)) (i : ℕ) → IsRising f → IsRising (drop i f)
  rising-drop [] zero r = r
  rising-drop [] (suc i) r = tt
  rising-drop (t ∷ f) zero r = r
  rising-drop (t ∷ f) (suc i) r = rising-drop f i r.1

  all-drop : (P : Exp × E → Type 0) (f : List (Exp × E)) (i : ℕ) → AllByRecursion P f → AllByRecursion P (drop i f)
  all-drop P [] zero r = r
  all-drop P [] (suc i) r = tt
  all-drop P (t ∷ f) zero r = r
  all-drop P (t ∷ f) (suc i) r = all-drop P f i r.1

  -- what is left of the terms from the place of one on
  rest-at : (f : List (Exp × E)) (i : ℕ) (t : Exp × E) → i < length f → t ≡ get_or f i t → IsRising f → AllByRecursion (λ u. IsIn 8 u.0.e) f
      → AllAfter t.0 (drop (i + 1) f) × (IsIn 8 t.0.e × AllByRecursion (λ u. IsIn 8 u.0.e) (drop (i + 1) f))
  rest-at f i t h e rises all =
      let here : IsRising (t ∷ drop (i + 1) f) = subst IsRising (at_drop f i t h e) (rising-drop f i rises) in
      let places : AllByRecursion (λ u. IsIn 8 u.0.e) (t ∷ drop (i + 1) f) = subst (AllByRecursion (λ u. IsIn 8 u.0.e)) (at_drop f i t h e) (all-drop (λ u. IsIn 8 u.0.e) f i all) in
      (here.0, places)

  -- the coefficient is that of the term at the monomial
  pub coefficient-found : (f : List (Exp × E)) (i : ℕ) (t : Exp × E) → i < length f → t ≡ get_or f i t → IsRising f → All (λ u. IsIn 8 u.0.e) f → IsIn 8 a.e
      → AllWithin (λ t. is_before t.0.e a.e ≡ true) f 0 i → same (exps 8) (exp_of 8 t.0) (exp_of 8 a) ≡ true → value t.1 ≡ C f
  coefficient-found f i t h e rises each ia before equal =
      let all = recursion_from_All (λ u. IsIn 8 u.0.e) f each in
      let rest = rest-at f i t h e rises all in
      sym (coefficient-passed f i ia all before ∙ ap C (at_drop f i t h e)
      ∙ ap₂ (λ b z. r.add (cond b (value t.1) r.zero) z) equal
      (coefficient-after t.0 (drop (i + 1) f) (rest.1).0 (rest.1).1 (ExpLaws.same-eq (exps 8) (exps_are 8) (exp_of 8 t.0) (exp_of 8 a) equal) rest.0)
      ∙ c.add_zero (value t.1))

  later : (t : Exp) → is_before t.e a.e ≡ false → same (exps 8) (exp_of 8 t) (exp_of 8 a) ≡ false → is_before a.e t.e ≡ true
  later t late differs = step (before-total t.e a.e late)
    where
      step : AreEqual t.e a.e ⊎ (is_before a.e t.e ≡ true) → is_before a.e t.e ≡ true
      step (inl e) = absurd (true≢false (sym (ap (λ z. same (exps 8) z (exp_of 8 a)) (exp_of-equal 8 t a e) ∙ ExpLaws.same_refl (exps 8) (exps_are 8) (exp_of 8 a)) ∙ differs))
      step (inr g) = g

  -- it is 0 where the first term that does not stand before the monomial is not at it
  pub coefficient-skipped : (f : List (Exp × E)) (i : ℕ) (t : Exp × E) → i < length f → t ≡ get_or f i t → IsRising f → All (λ u. IsIn 8 u.0.e) f → IsIn 8 a.e
      → IsPartitionPoint (λ t. is_before t.0.e a.e ≡ true) (λ t. is_before t.0.e a.e ≡ false) f i → same (exps 8) (exp_of 8 t.0) (exp_of 8 a) ≡ false → C f ≡ r.zero
  coefficient-skipped f i t h e rises each ia point differs =
      let all = recursion_from_All (λ u. IsIn 8 u.0.e) f each in
      let rest = rest-at f i t h e rises all in
      let late : is_before t.0.e a.e ≡ false = subst (λ u. is_before u.0.e a.e ≡ false) (sym e) (point.1 i t (omega arith) h) in
      coefficient-passed f i ia all point.0
      ∙ ap C (at_drop f i t h e)
      ∙ other t (drop (i + 1) f) differs
      ∙ coefficient-after a (drop (i + 1) f) ia (rest.1).1 refl (after-trans a t.0 (drop (i + 1) f) (later t.0 late differs) rest.0)

  drop-end : (f : List (Exp × E)) (i : ℕ) → length f ≤ i → drop i f ≡ []
  drop-end [] zero h = refl
  drop-end [] (suc i) h = refl
  drop-end (t ∷ f) zero h = absurd (omega arith)
  drop-end (t ∷ f) (suc i) h = drop-end f i (omega arith)

  -- and where all terms are before it
  pub coefficient-none : (f : List (Exp × E)) (i : ℕ) → length f ≤ i → All (λ u. IsIn 8 u.0.e) f → IsIn 8 a.e → AllWithin (λ t. is_before t.0.e a.e ≡ true) f 0 i → C f ≡ r.zero
  coefficient-none f i h each ia before = coefficient-passed f i ia (recursion_from_All (λ u. IsIn 8 u.0.e) f each) before ∙ ap C (drop-end f i h)

  -- in the jet's own variables it is the same
  pub coefficient-in : (n : ℕ) (f : List (Exp × E)) → n ≤ 8 → All (λ u. IsIn n u.0.e) f → IsIn n a.e → coefficient (exps 8) r (poly_of 8 value f) (exp_of 8 a) ≡ coefficient (exps n) r (poly_of n value f) (exp_of n a)
  coefficient-in n f h all i = go f (recursion_from_All (λ u. IsIn n u.0.e) f all)
    where
      go : (f : List (Exp × E)) → AllByRecursion (λ u. IsIn n u.0.e) f → coefficient (exps 8) r (poly_of 8 value f) (exp_of 8 a) ≡ coefficient (exps n) r (poly_of n value f) (exp_of n a)
      go [] all = refl
      go (t ∷ f) all = ap₂ (λ b z. r.add (cond b (value t.1) r.zero) z) (sym (same-eight n t.0 a h all.0 i)) (go f all.1)
