-- Terms that are made of the terms of a jet, one after the other, and written unless they are zero.
use Rattle.std.proofs.Common.{◌≡◌, ◌≢◌, ℕ, zero, suc, ◌+◌, ◌-◌, ◌*◌, ◌^◌, ◌<◌, ◌≤◌, ◌⊎◌, inl, inr, Bool, true, false, ◌&&◌, ◌||◌, cond, ltb, eqb, not, List, [], ◌∷◌, ◌++◌, map, length, get_or, set, take, sum, pos, refl, sym, ap, ap₂, subst, ◌∙◌, append-nil, arith}
use Rattle.std.specs.List.{AllByRecursion}
use Rattle.std.proofs.lemmas.Bool.{lt-ltb, le-ltb, eq-eqb}
use Rattle.std.proofs.lemmas.List.{get_or-map, map-append}
use Rattle.std.proofs.lemmas.List.Elements.{All-from_recursion}
use Rattle.std.proofs.lemmas.Int.{ints}
use Rattle.ring_theory.specs.Gcd.{gcd}
use Rattle.ring_theory.specs.Rational.{rational, rational_add, rational_ops}
use Rattle.ring_theory.proofs.GcdLaws.{coprime_by}
use Rattle.ring_theory.proofs.RationalLaws.{unique, rational_is, add_is}
use Rattle.ring_law.specs.Fraction.{IsFrac}
use Rattle.poly_law.proofs.Sums
use Rattle.ring_theory.specs.Scalars.{Scalars, ScalarLaws, Meaning}
use Rattle.poly_law.specs.Sums.{multiple}
use Rattle.poly_law.specs.ExpList.{ExpList, exps}
use Rattle.poly_law.specs.Poly.{coefficient, Same}
use Rattle.poly_law.proofs.ExpLists.{exps_are}
use Rattle.poly_law.proofs.PolyRing
use Rattle.mono_exp.specs.declared.exponent.Exp.{Exp}
use Rattle.mono_exp.specs.Exponents.{IsIn, is_before, is_greater_first}
use Rattle.mono_exp.proofs.Lists.{sum-cons}
use Rattle.jet_law.specs.Terms.{exp_of, poly_of}
use Rattle.jet_law.specs.Heights.{IsHigh, scale_heights, derivative_heights}
use Rattle.jet_law.proofs.High.{high_tail, high_mapped}
use Rattle.jet_law.proofs.TermLemmas.{poly_of-take, at-exp_of}
use Rattle.jet_poly.specs.JetTerms.{JetTerms, IsRising, AllAfter}
use Rattle.jet_poly.specs.Jets.{IsJet, whole}
use Rattle.jet_poly.specs.Gathered.{nonzero}
use Rattle.jet_poly.proofs.GatheredLemmas.{weaker}
use Rattle.jet_poly.proofs.Output.{all-push, rising-push, same-push}
use Rattle.jet_poly.proofs.Steps.{inside, read}

-- the monomials of terms, by their exponents
abbrev pub keys : {E : Type 0} → List (Exp × E) → List (List ℕ)
keys f = map (λ t. t.0.e) f

pub key-read : {E : Type 0} (f : List (Exp × E)) (i : ℕ) (t : Exp × E) → i < length f → t ≡ get_or f i t → get_or (keys f) i [] ≡ t.0.e
key-read f i t h e = get_or-map (λ t. t.0.e) f i t [] h ∙ ap (λ z. z.0.e) (sym e)

after-at : {E : Type 0} (a : Exp) (f : List (Exp × E)) (j : ℕ) → AllAfter a f → j < length f → is_before a.e (get_or (keys f) j []) ≡ true
after-at a [] j r h = absurd (omega arith)
after-at a (t ∷ f) zero r h = r.0
after-at a (t ∷ f) (suc j) r h = after-at a f j r.1 (omega arith)

-- the monomials of a jet rise
pub keys-rise : {E : Type 0} (f : List (Exp × E)) (i j : ℕ) → IsRising f → i < j → j < length f → is_before (get_or (keys f) i []) (get_or (keys f) j []) ≡ true
keys-rise [] i j r l h = absurd (omega arith)
keys-rise (t ∷ f) i zero r l h = absurd (omega arith)
keys-rise (t ∷ f) zero (suc j) r l h = after-at t.0 f j r.0 (omega arith)
keys-rise (t ∷ f) (suc i) (suc j) r l h = keys-rise f i j r.1 (omega arith) (omega arith)

-- a term of a jet in n variables up to order k
pub record IsTerm {E V : Type 0} (n k : ℕ) (m : Meaning E V) (t : Exp × E) : Type 0 where
  pub unused : IsIn n t.0.e
  pub degree : sum t.0.e ≤ k
  pub elem : m.is_elem t.1
  pub unit : m.value t.1 ≢ m.scalars.ops.zero

-- terms that are written so far: they rise, and stand before all that can still come, which at place j < last is key j where ok j holds
pub record AreReady {E V : Type 0} (n k : ℕ) (m : Meaning E V) (key : ℕ → List ℕ) (ok : ℕ → Type 0) (i last : ℕ) (f : List (Exp × E)) : Type 0 where
  pub each : AllByRecursion (IsTerm n k m) f
  pub rising : IsRising f
  pub before : AllByRecursion (λ u. (j : ℕ) → i ≤ j → j < last → ok j → is_before u.0.e (key j) ≡ true) f

module _ {E V : Type 0} (n k : ℕ) (m : Meaning E V) (laws : ScalarLaws m.scalars) where
  pub none-ready : (key : ℕ → List ℕ) (ok : ℕ → Type 0) (last : ℕ) (f : List (Exp × E)) → f ≡ [] → AreReady n k m key ok 0 last f
  none-ready key ok last f e = subst (AreReady n k m key ok 0 last) (sym e) (record { each = tt; rising = tt; before = tt })

  module _ (key : ℕ → List ℕ) (ok : ℕ → Type 0) (last : ℕ) (up : (i j : ℕ) → i < j → j < last → ok i → ok j → is_before (key i) (key j) ≡ true) where
    skip : (i : ℕ) (f : List (Exp × E)) → AreReady n k m key ok i last f → AreReady n k m key ok (i + 1) last f
    skip i f r = record {
      each = r.each;
      rising = r.rising;
      before = weaker (λ u. (j : ℕ) → i ≤ j → j < last → ok j → is_before u.0.e (key j) ≡ true) (λ u. (j : ℕ) → i + 1 ≤ j → j < last → ok j → is_before u.0.e (key j) ≡ true)
          (λ u h j l g o. h j (omega arith) g o) f r.before;
    }

    push : (i : ℕ) (f : List (Exp × E)) (t : Exp × E) → i < last → ok i → t.0.e ≡ key i → IsTerm n k m t → AreReady n k m key ok i last f → AreReady n k m key ok (i + 1) last (f ++ t ∷ [])
    push i f t h o e term r =
        let less = skip i f r in
        record {
          each = all-push (IsTerm n k m) f t r.each term;
          rising = rising-push f t r.rising (weaker (λ u. (j : ℕ) → i ≤ j → j < last → ok j → is_before u.0.e (key j) ≡ true) (λ u. is_before u.0.e t.0.e ≡ true)
              (λ u b. subst (λ z. is_before u.0.e z ≡ true) (sym e) (b i (omega arith) h o)) f r.before);
          before = all-push (λ u. (j : ℕ) → i + 1 ≤ j → j < last → ok j → is_before u.0.e (key j) ≡ true) f t less.before
              (λ j l g oj. subst (λ z. is_before z (key j) ≡ true) (sym e) (up i j (omega arith) g o oj));
        }

    -- a term is written unless it is zero
    pub ready-step : (i : ℕ) (f : List (Exp × E)) (t : Exp × E) → i < last → t.0.e ≡ key i → m.is_elem t.1 → (m.value t.1 ≢ m.scalars.ops.zero → ok i × IsIn n t.0.e × (sum t.0.e ≤ k))
        → AreReady n k m key ok i last f → AreReady n k m key ok (i + 1) last (f ++ nonzero m.scalars m.value (t ∷ []))
    ready-step i f t h e el facts r = step (m.scalars.is_zero (m.value t.1)) refl
      where
        not_zero : m.scalars.is_zero (m.value t.1) ≡ false → m.value t.1 ≢ m.scalars.ops.zero
        not_zero e z = contradiction (sym e ∙ (laws.zero_test (m.value t.1)).1 z)
          where
            contradiction : false ≡ true → ⊥
            contradiction bad = cc bad

        step : (z : Bool) → m.scalars.is_zero (m.value t.1) ≡ z → AreReady n k m key ok (i + 1) last (f ++ cond (not z) (t ∷ []) [])
        step true q = subst (AreReady n k m key ok (i + 1) last) (sym (append-nil f)) (skip i f r)
        step false q =
            let known = facts (not_zero q) in
            push i f t h known.0 e (record { unused = known.1; degree = known.2; elem = el; unit = not_zero q }) r

  -- all that are written make a jet
  pub ready-jet : (key : ℕ → List ℕ) (ok : ℕ → Type 0) (i last : ℕ) (f : JetTerms E) → f.n ≡ n → f.order ≡ k → AreReady n k m key ok i last f.terms → IsJet m f
  ready-jet key ok i last f en ek r = record {
    variables = All-from_recursion (λ t. IsIn f.n t.0.e) f.terms (weaker (IsTerm n k m) (λ t. IsIn f.n t.0.e) (λ t x. subst (λ i. IsIn i t.0.e) (sym en) x.unused) f.terms r.each);
    degrees = All-from_recursion (λ t. sum t.0.e ≤ f.order) f.terms (weaker (IsTerm n k m) (λ t. sum t.0.e ≤ f.order) (λ t x. subst (λ i. sum t.0.e ≤ i) (sym ek) x.degree) f.terms r.each);
    elems = All-from_recursion (λ t. m.is_elem t.1) f.terms (weaker (IsTerm n k m) (λ t. m.is_elem t.1) (λ t x. x.elem) f.terms r.each);
    units = All-from_recursion (λ t. m.value t.1 ≢ m.scalars.ops.zero) f.terms (weaker (IsTerm n k m) (λ t. m.value t.1 ≢ m.scalars.ops.zero) (λ t x. x.unit) f.terms r.each);
  }

  -- the polynomial of what is written, where each term of f gives one
  pub made-step : (change : ExpList n × V → ExpList n × V) (f : List (Exp × E)) (i : ℕ) (t : Exp × E) (kept : List (Exp × E)) (a : Exp) (x : E) → i < length f → t ≡ get_or f i t
      → exp_of n a ≡ (change (exp_of n t.0, m.value t.1)).0 → m.value x ≡ (change (exp_of n t.0, m.value t.1)).1
      → Same (exps n) m.scalars.ops (poly_of n m.value kept) (map change (poly_of n m.value (take i f)))
      → Same (exps n) m.scalars.ops (poly_of n m.value (kept ++ nonzero m.scalars m.value ((a, x) ∷ []))) (map change (poly_of n m.value (take (i + 1) f)))
  made-step change f i t kept a x h e ea ex so_far b =
      same-push n m.scalars laws m.value kept (a, x) b
      ∙ PolyRing.add_left (exps n) (exps_are n) m.scalars.ops laws.ring (poly_of n m.value kept) (map change (poly_of n m.value (take i f))) ((exp_of n a, m.value x) ∷ []) so_far b
      ∙ ap (λ z. coefficient (exps n) m.scalars.ops z b)
      (ap₂ (λ y z. map change (poly_of n m.value (take i f)) ++ (y, z) ∷ []) ea ex
      ∙ sym (ap (map change) (poly_of-take n m.value f i t h e) ∙ map-append change (poly_of n m.value (take i f)) ((exp_of n t.0, m.value t.1) ∷ [])))

-- ---- one less at a variable

abbrev pub lowered : ℕ → List ℕ → List ℕ
lowered v e = set e v (get_or e v 0 - 1)

sum-lowered : (v : ℕ) (e : List ℕ) → 0 < get_or e v 0 → sum (lowered v e) + 1 ≡ sum e
sum-lowered v [] h = absurd (omega arith)
sum-lowered zero (x ∷ e) h = let a = sum-cons (x - 1) e in let b = sum-cons x e in omega arith
sum-lowered (suc v) (x ∷ e) h = let a = sum-cons x (lowered v e) in let b = sum-cons x e in let r = sum-lowered v e h in omega arith

first-lowered : (v : ℕ) (a b : List ℕ) → 0 < get_or a v 0 → 0 < get_or b v 0 → is_greater_first a b ≡ true → is_greater_first (lowered v a) (lowered v b) ≡ true
first-lowered v [] b ha hb h = let bad : ⊥ = cc h in absurd bad
first-lowered v (x ∷ a) [] ha hb h = let bad : ⊥ = cc h in absurd bad
first-lowered zero (x ∷ a) (y ∷ b) ha hb h = step (three x y)
  where
    three : (x y : ℕ) → (y < x) ⊎ ((x ≡ y) ⊎ (x < y))
    three x y = grind arith

    step : (y < x) ⊎ ((x ≡ y) ⊎ (x < y)) → (ltb (y - 1) (x - 1) || ((eqb (x - 1) (y - 1)) && is_greater_first a b)) ≡ true
    step (inl l) = ap (λ t. t || ((eqb (x - 1) (y - 1)) && is_greater_first a b)) (lt-ltb (y - 1) (x - 1) (omega arith))
    step (inr (inl e)) =
        let same : x ≡ y = e in
        let le : x ≤ y = omega arith in
        let down : x - 1 ≤ y - 1 = omega arith in
        ap₂ (λ t u. t || (u && is_greater_first a b)) (le-ltb (y - 1) (x - 1) down) (eq-eqb (x - 1) (y - 1) (omega arith))
        ∙ sym (ap₂ (λ t u. t || (u && is_greater_first a b)) (le-ltb y x le) (eq-eqb x y e)) ∙ h
    step (inr (inr l)) =
        let le : x ≤ y = omega arith in
        let bad = sym (ap₂ (λ t u. t || (u && is_greater_first a b)) (le-ltb y x le) (differ x y l)) ∙ h in
        contradiction bad
      where
        differ : (x y : ℕ) → x < y → eqb x y ≡ false
        differ x y l = Rattle.std.proofs.lemmas.Bool.ne_eqb x y (λ e. (let same : x ≡ y = e in omega arith))

        contradiction : {P : Type 0} → false ≡ true → P
        contradiction bad = let no : ⊥ = cc bad in absurd no
first-lowered (suc v) (x ∷ a) (y ∷ b) ha hb h = step (ltb y x) (eqb x y) (first-lowered v a b ha hb) h
  where
    step : (t u : Bool) → (is_greater_first a b ≡ true → is_greater_first (lowered v a) (lowered v b) ≡ true) → (t || (u && is_greater_first a b)) ≡ true → (t || (u && is_greater_first (lowered v a) (lowered v b))) ≡ true
    step true u rest e = refl
    step false true rest e = rest e
    step false false rest e = e

-- lowering keeps the order
pub before-lowered : (v : ℕ) (a b : List ℕ) → 0 < get_or a v 0 → 0 < get_or b v 0 → is_before a b ≡ true → is_before (lowered v a) (lowered v b) ≡ true
before-lowered v a b ha hb h = step (cases (sum a) (sum b))
  where
    cases : (x y : ℕ) → (x < y) ⊎ ((x ≡ y) ⊎ (y < x))
    cases x y = grind arith

    contradiction : {P : Type 0} → false ≡ true → P
    contradiction bad = let no : ⊥ = cc bad in absurd no

    step : (sum a < sum b) ⊎ ((sum a ≡ sum b) ⊎ (sum b < sum a)) → is_before (lowered v a) (lowered v b) ≡ true
    step (inl l) =
        let sa = sum-lowered v a ha in let sb = sum-lowered v b hb in
        ap (λ t. t || ((eqb (sum (lowered v a)) (sum (lowered v b))) && is_greater_first (lowered v a) (lowered v b))) (lt-ltb (sum (lowered v a)) (sum (lowered v b)) (omega arith))
    step (inr (inl e)) =
        let sa = sum-lowered v a ha in let sb = sum-lowered v b hb in
        let same : sum a ≡ sum b = e in
        let le : sum a ≤ sum b = omega arith in
        let le' : sum (lowered v a) ≤ sum (lowered v b) = omega arith in
        let down : sum b ≤ sum a = omega arith in
        let down' : sum (lowered v b) ≤ sum (lowered v a) = omega arith in
        ap₂ (λ t u. t || (u && is_greater_first (lowered v a) (lowered v b))) (le-ltb (sum (lowered v a)) (sum (lowered v b)) down') (eq-eqb (sum (lowered v a)) (sum (lowered v b)) (omega arith))
        ∙ first-lowered v a b ha hb (sym (ap₂ (λ t u. t || (u && is_greater_first a b)) (le-ltb (sum a) (sum b) down) (eq-eqb (sum a) (sum b) e)) ∙ h)
    step (inr (inr l)) =
        let down : sum b ≤ sum a = omega arith in
        contradiction (sym (ap₂ (λ t u. t || (u && is_greater_first a b)) (le-ltb (sum a) (sum b) down) (Rattle.std.proofs.lemmas.Bool.ne_eqb (sum a) (sum b) (λ e. (let same : sum a ≡ sum b = e in omega arith)))) ∙ h)

pub in-lowered : (n v : ℕ) (e : List ℕ) → IsIn n e → IsIn n (lowered v e)
in-lowered n v e i j h = step v e j (i j h)
  where
    step : (v : ℕ) (e : List ℕ) (j : ℕ) → get_or e j 0 ≡ 0 → get_or (lowered v e) j 0 ≡ 0
    step v [] j q = q
    step zero (x ∷ e) zero q = let z : x ≡ 0 = q in let y : x - 1 ≡ 0 = omega arith in y
    step zero (x ∷ e) (suc j) q = q
    step (suc v) (x ∷ e) zero q = q
    step (suc v) (x ∷ e) (suc j) q = step v e j q

pub degree-lowered : (v : ℕ) (e : List ℕ) (k : ℕ) → 0 < get_or e v 0 → sum e ≤ k → sum (lowered v e) ≤ k
degree-lowered v e k h d = let s = sum-lowered v e h in omega arith

-- ---- whole numbers in a ring

pub whole_valid : (k : ℕ) → k < 256 → IsFrac (record { num = pos k; den = pos 1 })
whole_valid k h = record { den_pos = omega (arith, ints); lowest = coprime_by k 1 (λ d x y. y); num_fits = omega arith; den_fits = omega arith }

whole-suc : (k : ℕ) → rational (pos (suc k)) 1 ≡ rational_ops.add (rational (pos k) 1) (rational (pos 1) 1)
whole-suc k =
    unique (rational_is (pos (suc k)) 1 (omega arith)) (add_is (rational_is (pos k) 1 (omega arith)) (rational_is (pos 1) 1 (omega arith)))
    (ap pos (let e : suc k * 1 ≡ (k * 1 + 1) * 1 = omega arith in e))

zero_twice : rational_ops.add (rational (pos 0) 1) (rational (pos 0) 1) ≡ rational (pos 0) 1
unfolding rational_add rational gcd
zero_twice = refl

module _ {V : Type 0} (s : Scalars V) (laws : ScalarLaws s) where
  whole-zero : whole s 0 ≡ s.ops.zero
  whole-zero = Sums.add_cancel s.ops laws.ring (whole s 0) (whole s 0) s.ops.zero
      (sym (laws.embeds.add (rational (pos 0) 1) (rational (pos 0) 1)) ∙ ap s.rational zero_twice ∙ sym (laws.ring.add_zero (whole s 0)))

  -- a whole number is that multiple of 1
  pub whole-multiple : (k : ℕ) → whole s k ≡ multiple s.ops k s.ops.one
  whole-multiple zero = whole-zero
  whole-multiple (suc k) =
      ap s.rational (whole-suc k) ∙ laws.embeds.add (rational (pos k) 1) (rational (pos 1) 1) ∙ ap₂ s.ops.add (whole-multiple k) laws.embeds.one

  -- its product with v is that multiple of v
  pub whole-mul : (k : ℕ) (v : V) → s.ops.mul (whole s k) v ≡ multiple s.ops k v
  whole-mul k v = ap (λ z. s.ops.mul z v) (whole-multiple k) ∙ sym (Sums.multiple_is s.ops laws.ring k v)

  -- where a multiple is not zero, neither is the number
  pub multiple_positive : (k : ℕ) (v : V) → multiple s.ops k v ≢ s.ops.zero → 0 < k
  multiple_positive zero v h = absurd (h refl)
  multiple_positive (suc k) v h = omega arith

-- ---- heights

module _ {E V : Type 0} (n k : ℕ) (m : Meaning E V) (laws : ScalarLaws m.scalars) where
  pub scale-high : (a : V) (f : List (Exp × E)) (i : ℕ) (t : Exp × E) → i < length f → t ≡ get_or f i t → 2 ^ 120 ≤ m.scalars.product_height a (m.value t.1) → IsHigh (scale_heights (exps n) m.scalars a (poly_of n m.value f))
  unfolding scale_heights
  scale-high a f i t h e high =
      high_tail (m.scalars.height a) (map (λ t. m.scalars.product_height a t.1) (poly_of n m.value f))
      (high_mapped (λ t. m.scalars.product_height a t.1) (poly_of n m.value f) i (exp_of n t.0, m.value t.1) (inside n k m laws f i h) (read n k m laws f i t e) high)

  pub derivative-high : (v : ℕ) (w : V) (f : List (Exp × E)) (i : ℕ) (t : Exp × E) → v < n → i < length f → t ≡ get_or f i t → w ≡ whole m.scalars (get_or t.0.e v 0) → 2 ^ 120 ≤ m.scalars.product_height w (m.value t.1)
      → IsHigh (derivative_heights (exps n) m.scalars v (poly_of n m.value f))
  unfolding derivative_heights
  derivative-high v w f i t l h e q high =
      high_mapped (λ t. m.scalars.product_height (whole m.scalars ((exps n).at t.0 v)) t.1) (poly_of n m.value f) i (exp_of n t.0, m.value t.1) (inside n k m laws f i h) (read n k m laws f i t e)
      (subst (λ z. 2 ^ 120 ≤ m.scalars.product_height z (m.value t.1)) (q ∙ ap (whole m.scalars) (sym (at-exp_of n t.0 v l))) high)
