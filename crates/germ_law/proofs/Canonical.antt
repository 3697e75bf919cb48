-- The canonical form of a polynomial up to a degree: it is the polynomial up to that degree, and the one list of terms in the
-- monomial order without zeros.
use mathlib.Core.Path.{fun_ext}
use Rattle.std.proofs.Common.{◌≡◌, ℕ, zero, suc, ◌+◌, ◌<◌, ◌≤◌, ◌⊎◌, inl, inr, Bool, true, false, not, cond, eqb, ltb, leb, eqb-true, eq-eqb, List, [], ◌∷◌, ◌++◌, map, filter, length, get_or, take_all, sum, refl, sym, ap, ap₂, subst, ◌∙◌, arith}
use Rattle.std.proofs.lemmas.Bool.{lt-ltb, le-ltb, ltb-true, le-leb, leb-true}
use Rattle.ring_theory.specs.Ring.{RingOps}
use Rattle.ring_theory.specs.Scalars.{Scalars, ScalarLaws}
use Rattle.poly_law.specs.Sums.{total, sum_to}
use Rattle.poly_law.specs.Exps.{same, degree, nat_sum_to}
use Rattle.poly_law.specs.ExpList.{ExpList, exps}
use Rattle.poly_law.specs.Poly.{coefficient, cut, Same, SameTo}
use Rattle.poly_law.specs.Polynomials.{Polynomial}
use Rattle.poly_law.specs.Sorted.{IsStrictOrder, AllAfter, IsRising, HasNoZero}
use Rattle.poly_law.proofs.ExpLists.{exps_are, same_entries}
use Rattle.poly_law.proofs.ExpLaws
use Rattle.poly_law.proofs.Sums
use Rattle.poly_law.proofs.Order
use Rattle.poly_law.proofs.OneList.{one_list}
use Rattle.mono_exp.specs.Exponents.{monomials_of, monomials_below, numbers_below}
use Rattle.mono_exp.proofs.Lists.{Each, each-weaker, each-flat_map, map-map, map-same, numbers_are_below}
use Rattle.mono_exp.proofs.Counting.{count_below, count-le, place, place_below, place_at_least, place-injective, places, IsOf, monomials_are_of}
use Rattle.mono_exp.proofs.NumberLemmas.{exponents-take}
use Rattle.jet_law.specs.Canonical.{monomial_in, jet}
use Rattle.jet_law.proofs.TermLemmas.{sum-is-nat_sum_to}

-- ---- numbers that rise

-- x is below each of the numbers
abbrev Above : ℕ → List ℕ → Type 0
Above x [] = Unit {0}
Above x (y ∷ ys) = (ltb x y ≡ true) × Above x ys

-- each number is below those that follow it
abbrev Rises : List ℕ → Type 0
Rises [] = Unit {0}
Rises (x ∷ xs) = Above x xs × Rises xs

above_end : (x n : ℕ) (xs : List ℕ) → x < n → Above x xs → Above x (xs ++ n ∷ [])
above_end x n [] h a = (lt-ltb x n h, tt)
above_end x n (y ∷ ys) h a = (a.0, above_end x n ys h a.1)

rises_end : (n : ℕ) (xs : List ℕ) → Each (λ i. i < n) xs → Rises xs → Rises (xs ++ n ∷ [])
rises_end n [] e r = (tt, tt)
rises_end n (x ∷ xs) e r = (above_end x n xs e.0 r.0, rises_end n xs e.1 r.1)

-- 0, .., n - 1 rise
numbers_rise : (n : ℕ) → Rises (numbers_below n)
numbers_rise zero = tt
numbers_rise (suc n) = rises_end n (numbers_below n) (numbers_are_below n) (numbers_rise n)

-- ---- all monomials up to a degree

-- the monomials of a list of exponents
abbrev pub all_to : (n k : ℕ) → List (ExpList n)
all_to n k = map (monomial_in n) (monomials_below n (suc k))

all_long : (n d : ℕ) → Each (λ m. length m ≡ n) (monomials_below n d)
unfolding monomials_below
all_long n d =
    each-flat_map (λ i. i < d) (λ m. length m ≡ n) (monomials_of n) (λ j h. each-weaker (IsOf n j) (λ m. length m ≡ n) (λ m o. o.long) (monomials_of n j) (monomials_are_of n j))
    (numbers_below d) (numbers_are_below d)

-- n numbers are the exponents of their monomial in n variables
own_entries : (n : ℕ) (e : List ℕ) → length e ≡ n → (monomial_in n e).entries ≡ e
own_entries n e h = exponents-take n e (omega arith) ∙ take_all n e (omega arith)

-- the monomials up to degree k stand at the places 0, 1, ..
all_places : (n k : ℕ) → map (λ a. place a.entries) (all_to n k) ≡ numbers_below (count_below n (suc k))
all_places n k =
    map-map (λ a. place a.entries) (monomial_in n) (monomials_below n (suc k))
    ∙ map-same (λ m. length m ≡ n) (λ e. place (monomial_in n e).entries) place (λ e h. ap place (own_entries n e h)) (monomials_below n (suc k)) (all_long n (suc k))
    ∙ places n (suc k)

-- the degree of a monomial is the sum of its exponents
pub degree-entries : (n : ℕ) (m : ExpList n) → degree (exps n) m ≡ sum m.entries
degree-entries n m = ap (λ k. nat_sum_to k (λ i. get_or m.entries i 0)) (sym m.long) ∙ sum-is-nat_sum_to m.entries

-- a monomial of degree at most k is one of them, and no other is
low_place : (n k : ℕ) (m : ExpList n) → degree (exps n) m ≤ k → place m.entries < count_below n (suc k)
low_place n k m h =
    let d = degree-entries n m in
    let low : place m.entries < count_below n (suc (sum m.entries)) = subst (λ j. place m.entries < count_below j (suc (sum m.entries))) m.long (place_below m.entries) in
    let more = count-le n (suc (sum m.entries)) (suc k) (omega arith) in
    omega arith

high_place : (n k : ℕ) (m : ExpList n) → k < degree (exps n) m → count_below n (suc k) ≤ place m.entries
high_place n k m h =
    let d = degree-entries n m in
    let high : count_below n (sum m.entries) ≤ place m.entries = subst (λ j. count_below j (sum m.entries) ≤ place m.entries) m.long (place_at_least m.entries) in
    let more = count-le n (suc k) (sum m.entries) (omega arith) in
    omega arith

-- ---- the monomial order

-- a stands at a lower place than b
abbrev pub stands_before : (n : ℕ) → ExpList n → ExpList n → Bool
stands_before n a b = ltb (place a.entries) (place b.entries)

same_place : (n : ℕ) (a b : ExpList n) → place a.entries ≡ place b.entries → a ≡ b
same_place n a b e = same_entries n a b (place-injective a.entries b.entries (a.long ∙ sym b.long) e)

three : (i j : ℕ) → (i < j) ⊎ ((j < i) ⊎ (i ≡ j))
three i j = grind arith

pub is_order : (n : ℕ) → IsStrictOrder (stands_before n)
is_order n = record {
  irreflexive = λ a. le-ltb (place a.entries) (place a.entries) (omega arith);
  transitive = λ a b d h k. let x = ltb-true (place a.entries) (place b.entries) h in let y = ltb-true (place b.entries) (place d.entries) k in lt-ltb (place a.entries) (place d.entries) (omega arith);
  total = λ a b ne. elim (three (place a.entries) (place b.entries)) [
    | inl h ↦ inl (lt-ltb (place a.entries) (place b.entries) h)
    | inr h ↦ elim h [ inl k ↦ inr (lt-ltb (place b.entries) (place a.entries) k) | inr e ↦ absurd (ne (same_place n a b e)) ]
  ];
}

module _ {V : Type 0} (n : ℕ) (s : Scalars V) (l : ScalarLaws s) where
  abbrev r : RingOps V
  r = s.ops

  -- the coefficient is not zero
  abbrev keeps : ExpList n × V → Bool
  keeps t = not (s.is_zero t.1)

  -- ---- in order, without zeros

  after_filtered : (a : ExpList n) (f : Polynomial n V) → AllAfter (stands_before n) a f → AllAfter (stands_before n) a (filter keeps f)
  after_filtered a [] h = tt
  after_filtered a (t ∷ f) h = step (keeps t) (after_filtered a f h.1)
    where
      step : (b : Bool) → AllAfter (stands_before n) a (filter keeps f) → AllAfter (stands_before n) a (cond b (t ∷ filter keeps f) (filter keeps f))
      step true rest = (h.0, rest)
      step false rest = rest

  rising_filtered : (f : Polynomial n V) → IsRising (stands_before n) f → IsRising (stands_before n) (filter keeps f)
  rising_filtered [] h = tt
  rising_filtered (t ∷ f) h = step (keeps t) (rising_filtered f h.1)
    where
      step : (b : Bool) → IsRising (stands_before n) (filter keeps f) → IsRising (stands_before n) (cond b (t ∷ filter keeps f) (filter keeps f))
      step true rest = (after_filtered t.0 f h.0, rest)
      step false rest = rest

  no_zero : (f : Polynomial n V) → HasNoZero r.zero (filter keeps f)
  no_zero [] = tt
  no_zero (t ∷ f) = step (s.is_zero t.1) refl (no_zero f)
    where
      step : (b : Bool) → s.is_zero t.1 ≡ b → HasNoZero r.zero (filter keeps f) → HasNoZero r.zero (cond (not b) (t ∷ filter keeps f) (filter keeps f))
      step true e rest = rest
      step false e rest = (λ q. bad (sym e ∙ (l.zero_test t.1).1 q), rest)
        where
          bad : false ≡ true → ⊥
          bad q = cc q

  -- the terms with the coefficients co at monomials
  abbrev with_coefficients : (ExpList n → V) → List (ExpList n) → Polynomial n V
  with_coefficients co es = map (λ a. (a, co a)) es

  after_places : (co : ExpList n → V) (a : ExpList n) (es : List (ExpList n)) → Above (place a.entries) (map (λ a. place a.entries) es) → AllAfter (stands_before n) a (with_coefficients co es)
  after_places co a [] h = tt
  after_places co a (b ∷ bs) h = (h.0, after_places co a bs h.1)

  rising_places : (co : ExpList n → V) (es : List (ExpList n)) → Rises (map (λ a. place a.entries) es) → IsRising (stands_before n) (with_coefficients co es)
  rising_places co [] h = tt
  rising_places co (a ∷ es) h = (after_places co a es h.0, rising_places co es h.1)

  -- the jet of f at order k, by the list of all monomials
  jet_is : (k : ℕ) (f : Polynomial n V) → jet n s k f ≡ filter keeps (with_coefficients (coefficient (exps n) r (cut (exps n) r k f)) (all_to n k))
  unfolding jet
  jet_is k f =
      ap (filter keeps) (sym (map-map (λ a. (a, coefficient (exps n) r (cut (exps n) r k f) a)) (monomial_in n) (monomials_below n (suc k))))

  pub jet_rising : (k : ℕ) (f : Polynomial n V) → IsRising (stands_before n) (jet n s k f)
  jet_rising k f =
      subst (IsRising (stands_before n)) (sym (jet_is k f))
      (rising_filtered (with_coefficients (coefficient (exps n) r (cut (exps n) r k f)) (all_to n k))
      (rising_places (coefficient (exps n) r (cut (exps n) r k f)) (all_to n k) (subst Rises (sym (all_places n k)) (numbers_rise (count_below n (suc k))))))

  pub jet_has_no_zero : (k : ℕ) (f : Polynomial n V) → HasNoZero r.zero (jet n s k f)
  jet_has_no_zero k f = subst (HasNoZero r.zero) (sym (jet_is k f)) (no_zero (with_coefficients (coefficient (exps n) r (cut (exps n) r k f)) (all_to n k)))

  -- ---- the coefficients of a jet

  zero_or : (b : Bool) (v : V) → v ≡ r.zero → cond b v r.zero ≡ r.zero
  zero_or true v e = e
  zero_or false v e = refl

  -- zeros do not count
  coefficient_kept : (f : Polynomial n V) (m : ExpList n) → coefficient (exps n) r (filter keeps f) m ≡ coefficient (exps n) r f m
  coefficient_kept [] m = refl
  coefficient_kept (t ∷ f) m = step (s.is_zero t.1) refl (coefficient_kept f m)
    where
      step : (b : Bool) → s.is_zero t.1 ≡ b → coefficient (exps n) r (filter keeps f) m ≡ coefficient (exps n) r f m
          → coefficient (exps n) r (cond (not b) (t ∷ filter keeps f) (filter keeps f)) m ≡ coefficient (exps n) r (t ∷ f) m
      step true e rest =
          rest ∙ sym (Sums.zero_add r l.ring (coefficient (exps n) r f m))
          ∙ ap (λ z. r.add z (coefficient (exps n) r f m)) (sym (zero_or (same (exps n) t.0 m) t.1 ((l.zero_test t.1).0 e)))
      step false e rest = ap (r.add (cond (same (exps n) t.0 m) t.1 r.zero)) rest

  -- a term at the monomial m, by its place
  at_place : (co : ExpList n → V) (m a : ExpList n) → cond (same (exps n) a m) (co a) r.zero ≡ cond (eqb (place a.entries) (place m.entries)) (co m) r.zero
  at_place co m a = step (same (exps n) a m) refl
    where
      bad : false ≡ true → ⊥
      bad q = cc q

      step : (b : Bool) → same (exps n) a m ≡ b → cond b (co a) r.zero ≡ cond (eqb (place a.entries) (place m.entries)) (co m) r.zero
      step true e =
          let q : a ≡ m = ExpLaws.same-eq (exps n) (exps_are n) a m e in
          ap co q ∙ ap (λ b. cond b (co m) r.zero) (sym (eq-eqb (place a.entries) (place m.entries) (ap (λ a. place a.entries) q)))
      step false e = other (eqb (place a.entries) (place m.entries)) refl
        where
          other : (b : Bool) → eqb (place a.entries) (place m.entries) ≡ b → r.zero ≡ cond b (co m) r.zero
          other true h =
              let q : a ≡ m = same_place n a m (eqb-true (place a.entries) (place m.entries) h) in
              absurd (bad (sym e ∙ ap (λ z. same (exps n) z m) q ∙ ExpLaws.same_refl (exps n) (exps_are n) m))
          other false h = refl

  total-numbers : (w : ℕ → V) (c : ℕ) → total r w (numbers_below c) ≡ sum_to r c w
  total-numbers w zero = refl
  total-numbers w (suc c) =
      Sums.total-append r l.ring w (numbers_below c) (c ∷ []) ∙ ap₂ r.add (total-numbers w c) (l.ring.add_zero (w c))

  -- the terms at all monomials up to degree k, by places
  coefficient_of_all : (co : ExpList n → V) (k : ℕ) (m : ExpList n) → coefficient (exps n) r (with_coefficients co (all_to n k)) m ≡ sum_to r (count_below n (suc k)) (λ i. cond (eqb i (place m.entries)) (co m) r.zero)
  coefficient_of_all co k m =
      Sums.total-map r l.ring (λ t. cond (same (exps n) t.0 m) t.1 r.zero) (λ a. (a, co a)) (all_to n k)
      ∙ ap (λ w. total r w (all_to n k)) (fun_ext (at_place co m))
      ∙ sym (Sums.total-map r l.ring (λ i. cond (eqb i (place m.entries)) (co m) r.zero) (λ a. place a.entries) (all_to n k))
      ∙ ap (total r (λ i. cond (eqb i (place m.entries)) (co m) r.zero)) (all_places n k)
      ∙ total-numbers (λ i. cond (eqb i (place m.entries)) (co m) r.zero) (count_below n (suc k))

  elsewhere : (i p : ℕ) (v : V) → (i ≡ p → ⊥) → cond (eqb i p) v r.zero ≡ r.zero
  elsewhere i p v ne = step (eqb i p) refl
    where
      step : (b : Bool) → eqb i p ≡ b → cond b v r.zero ≡ r.zero
      step true e = absurd (ne (eqb-true i p e))
      step false e = refl

  found : (c p : ℕ) (v : V) → p < c → sum_to r c (λ i. cond (eqb i p) v r.zero) ≡ v
  found c p v h =
      Sums.sum_to-single r l.ring c p (λ i. cond (eqb i p) v r.zero) h (λ i g ne. elsewhere i p v ne) ∙ ap (λ b. cond b v r.zero) (eq-eqb p p refl)

  not_found : (c p : ℕ) (v : V) → c ≤ p → sum_to r c (λ i. cond (eqb i p) v r.zero) ≡ r.zero
  not_found c p v h = Sums.sum_to-nothing r l.ring c (λ i. cond (eqb i p) v r.zero) (λ i g. elsewhere i p v (λ e. absurd (omega arith)))

  low_or_high : (d k : ℕ) → (d ≤ k) ⊎ (k < d)
  low_or_high d k = grind arith

  -- the coefficients of f up to degree k, and zeros
  abbrev cut_coefficient : ℕ → Polynomial n V → ExpList n → V
  cut_coefficient k f = coefficient (exps n) r (cut (exps n) r k f)

  above : (d k : ℕ) → k < d → leb d k ≡ false
  above d k h = step (leb d k) refl
    where
      step : (b : Bool) → leb d k ≡ b → b ≡ false
      step true e = let q = leb-true d k e in absurd (omega arith)
      step false e = refl

  -- the jet of order k is f cut at k
  pub jet_is_cut : (k : ℕ) (f : Polynomial n V) → Same (exps n) r (jet n s k f) (cut (exps n) r k f)
  jet_is_cut k f m =
      ap (λ g. coefficient (exps n) r g m) (jet_is k f)
      ∙ coefficient_kept (with_coefficients (cut_coefficient k f) (all_to n k)) m
      ∙ coefficient_of_all (cut_coefficient k f) k m
      ∙ cases (low_or_high (degree (exps n) m) k)
    where
      cases : (degree (exps n) m ≤ k) ⊎ (k < degree (exps n) m) → sum_to r (count_below n (suc k)) (λ i. cond (eqb i (place m.entries)) (cut_coefficient k f m) r.zero) ≡ cut_coefficient k f m
      cases (inl h) = found (count_below n (suc k)) (place m.entries) (cut_coefficient k f m) (low_place n k m h)
      cases (inr h) =
          not_found (count_below n (suc k)) (place m.entries) (cut_coefficient k f m) (high_place n k m h)
          ∙ ap (λ b. cond b (coefficient (exps n) r f m) r.zero) (sym (above (degree (exps n) m) k h))
          ∙ sym (Order.coefficient-cut (exps n) (exps_are n) r l.ring k f m)

  -- and agrees with f up to degree k
  pub jet_same_to : (k : ℕ) (f : Polynomial n V) → SameTo (exps n) r k (jet n s k f) f
  jet_same_to k f m h = jet_is_cut k f m ∙ Order.cut_same_to (exps n) (exps_are n) r l.ring k f m h

  -- ---- one list

  -- the degrees are at most k
  abbrev pub HasDegreeTo : ℕ → Polynomial n V → Type 0
  HasDegreeTo k f = Each (λ t. degree (exps n) t.0 ≤ k) f

  cut_all : (k : ℕ) (f : Polynomial n V) → HasDegreeTo k f → cut (exps n) r k f ≡ f
  cut_all k [] h = refl
  cut_all k (t ∷ f) h = ap (λ b. cond b (t ∷ cut (exps n) r k f) (cut (exps n) r k f)) (le-leb (degree (exps n) t.0) k h.0) ∙ ap (λ z. t ∷ z) (cut_all k f h.1)

  -- terms in the monomial order, without zeros and of degree at most k, are the jet of each polynomial that they agree with up to degree k
  pub one_jet : (k : ℕ) (f g : Polynomial n V) → IsRising (stands_before n) f → HasNoZero r.zero f → HasDegreeTo k f → SameTo (exps n) r k f g → f ≡ jet n s k g
  one_jet k f g rises nonzero low e =
      one_list (exps n) (exps_are n) r l.ring (stands_before n) (is_order n) f (jet n s k g) rises (jet_rising k g) nonzero (jet_has_no_zero k g)
      (λ m. ap (λ z. coefficient (exps n) r z m) (sym (cut_all k f low)) ∙ Order.same-cut (exps n) (exps_are n) r l.ring k f g e m ∙ sym (jet_is_cut k g m))
