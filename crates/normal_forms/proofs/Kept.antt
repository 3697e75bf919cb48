-- The terms that are kept of a list of terms with different monomials.
use Rattle.std.proofs.Common.{◌≡◌, ◌≢◌, ℕ, zero, suc, ◌+◌, ◌<◌, ◌≤◌, Bool, true, false, cond, ◌&&◌, ◌||◌, List, [], ◌∷◌, ◌++◌, length, take, drop, get_or, sum, refl, sym, ap, subst, ◌∙◌, true≢false, append-nil, take-append-drop, arith}
use Rattle.std.specs.Prelude.{insert, not}
use Rattle.std.specs.Str.{bytes_eq}
use Rattle.std.specs.List.{All, AllByRecursion, list_any, filter}
use Rattle.std.specs.List.Sorted.{IsPermutation}
use Rattle.std.proofs.lemmas.List.{take_more, map-append}
use Rattle.std.proofs.lemmas.List.Elements.{filter-append}
use Rattle.std.proofs.lemmas.List.Sorted.{IsPermutation-to_front, IsPermutation-cons, IsPermutation-insert, IsPermutation-trans, All-permutation}
use Rattle.std.proofs.lemmas.Slice.Eq.{bytes_eq-Decides}
use Rattle.ring_theory.specs.Scalars.{ScalarLaws, Meaning}
use Rattle.poly_law.specs.Exps.{same}
use Rattle.poly_law.specs.ExpList.{ExpList, exps}
use Rattle.poly_law.specs.Poly.{coefficient, Same}
use Rattle.poly_law.proofs.ExpLists.{exps_are}
use Rattle.poly_law.proofs.Order
use Rattle.mono_exp.specs.declared.exponent.Exp.{Exp}
use Rattle.mono_exp.specs.Exponents.{IsIn}
use Rattle.jet_law.specs.Terms.{exp_of, poly_of}
use Rattle.jet_poly.specs.JetTerms.{JetTerms}
use Rattle.jet_poly.specs.Jets.{IsJet}
use Rattle.jet_poly.specs.Gathered.{nonzero}
use Rattle.jet_poly.proofs.Output.{from-all, to-all}
use Rattle.normal_forms.specs.Distinct.{are_distinct, exponents_in}

module _ {X : Type 0} (P : X → Type 0) where
  pub all-take : (xs : List X) (i : ℕ) → AllByRecursion P xs → AllByRecursion P (take i xs)
  all-take xs zero a = tt
  all-take [] (suc i) a = tt
  all-take (x ∷ xs) (suc i) a = (a.0, all-take xs i a.1)

  pub all-filter : (p : X → Bool) (xs : List X) → AllByRecursion P xs → AllByRecursion P (filter p xs)
  all-filter p [] a = tt
  all-filter p (x ∷ xs) a = step (p x) (all-filter p xs a.1)
    where
      step : (b : Bool) → AllByRecursion P (filter p xs) → AllByRecursion P (cond b (x ∷ filter p xs) (filter p xs))
      step true rest = (a.0, rest)
      step false rest = rest

  pub all-passed : (p : X → Bool) (xs : List X) → ((x : X) → p x ≡ true → P x) → AllByRecursion P (filter p xs)
  all-passed p [] f = tt
  all-passed p (x ∷ xs) f = step (p x) refl (all-passed p xs f)
    where
      step : (b : Bool) → p x ≡ b → AllByRecursion P (filter p xs) → AllByRecursion P (cond b (x ∷ filter p xs) (filter p xs))
      step true e rest = (f x e, rest)
      step false e rest = rest

-- ---- monomials that differ

none_equal : {E : Type 0} (e : List ℕ) (terms : List (Exp × E)) → list_any (bytes_eq e) (exponents_in terms) ≡ false → (i : ℕ) (d : Exp × E) → i < length terms → e ≢ (get_or terms i d).0.e
none_equal e [] h i d l = absurd (none_below i l)
  where
    none_below : (i : ℕ) → i < 0 → ⊥
    none_below i h = omega arith
none_equal e (t ∷ ts) h zero d l = λ q. true≢false (sym ((bytes_eq-Decides e t.0.e).1 q) ∙ first (bytes_eq e t.0.e) (list_any (bytes_eq e) (exponents_in ts)) h)
  where
    first : (a b : Bool) → (a || b) ≡ false → a ≡ false
    first true b h = absurd (true≢false h)
    first false b h = refl
none_equal e (t ∷ ts) h (suc i) d l = none_equal e ts (second (bytes_eq e t.0.e) (list_any (bytes_eq e) (exponents_in ts)) h) i d (omega arith)
  where
    second : (a b : Bool) → (a || b) ≡ false → b ≡ false
    second true b h = absurd (true≢false h)
    second false b h = h

-- the monomials before one differ from it
pub apart_before : {E : Type 0} (terms : List (Exp × E)) (i : ℕ) (d : Exp × E) → are_distinct (exponents_in terms) ≡ true → i < length terms → AllByRecursion (λ u. u.0.e ≢ (get_or terms i d).0.e) (take i terms)
apart_before [] zero d h l = tt
apart_before [] (suc i) d h l = tt
apart_before (t ∷ ts) zero d h l = tt
apart_before (t ∷ ts) (suc i) d h l =
    (none_equal t.0.e ts (first (list_any (bytes_eq t.0.e) (exponents_in ts)) (are_distinct (exponents_in ts)) h) i d (omega arith), apart_before ts i d (second (list_any (bytes_eq t.0.e) (exponents_in ts)) (are_distinct (exponents_in ts)) h) (omega arith))
  where
    first : (a b : Bool) → (not a && b) ≡ true → a ≡ false
    first true b h = absurd (true≢false (sym h))
    first false b h = refl

    second : (a b : Bool) → (not a && b) ≡ true → b ≡ true
    second true b h = absurd (true≢false (sym h))
    second false b h = h

-- ---- one term more

module _ {E V : Type 0} (n : ℕ) (m : Meaning E V) (laws : ScalarLaws m.scalars) where
  abbrev kept_of : List (Exp × E) → List (Exp × E)
  kept_of terms = nonzero m.scalars m.value terms

  module _ (terms : List (Exp × E)) (i : ℕ) (t : Exp × E) (h : i < length terms) (read : t ≡ get_or terms i t) where
    one_more : kept_of (take (i + 1) terms) ≡ kept_of (take i terms) ++ kept_of (t ∷ [])
    one_more =
        ap kept_of (take_more terms i t h ∙ ap (λ z. take i terms ++ z ∷ []) (sym read)) ∙ filter-append (λ t. not (m.scalars.is_zero (m.value t.1))) (take i terms) (t ∷ [])

    kept_one : (m.value t.1 ≡ m.scalars.ops.zero → ⊥) → kept_of (t ∷ []) ≡ t ∷ []
    kept_one nonzero_term = step (m.scalars.is_zero (m.value t.1)) refl
      where
        step : (b : Bool) → m.scalars.is_zero (m.value t.1) ≡ b → cond (not b) (t ∷ []) [] ≡ t ∷ []
        step true e = absurd (nonzero_term ((laws.zero_test (m.value t.1)).0 e))
        step false e = refl

    kept_none : m.value t.1 ≡ m.scalars.ops.zero → kept_of (t ∷ []) ≡ []
    kept_none e = ap (λ b. cond (not b) (t ∷ []) []) ((laws.zero_test (m.value t.1)).1 e)

    pub permutation-insert : (kept : List (Exp × E)) (place : ℕ) → (m.value t.1 ≡ m.scalars.ops.zero → ⊥) → IsPermutation (kept_of (take i terms)) kept → IsPermutation (kept_of (take (i + 1) terms)) (insert kept place t)
    permutation-insert kept place nz p =
        subst (λ z. IsPermutation z (insert kept place t)) (sym (one_more ∙ ap (λ z. kept_of (take i terms) ++ z) (kept_one nz)))
        (IsPermutation-trans (kept_of (take i terms) ++ t ∷ []) (t ∷ kept) (insert kept place t)
        (IsPermutation-trans (kept_of (take i terms) ++ t ∷ []) (t ∷ kept_of (take i terms)) (t ∷ kept) (IsPermutation-to_front (kept_of (take i terms)) t) (IsPermutation-cons t (kept_of (take i terms)) kept p))
        (IsPermutation-insert kept place t))

    pub permutation-same : (kept : List (Exp × E)) → m.value t.1 ≡ m.scalars.ops.zero → IsPermutation (kept_of (take i terms)) kept → IsPermutation (kept_of (take (i + 1) terms)) kept
    permutation-same kept e p = subst (λ z. IsPermutation z kept) (sym (one_more ∙ ap (λ z. kept_of (take i terms) ++ z) (kept_none e) ∙ append-nil (kept_of (take i terms)))) p

    abbrev at_monomial : List (Exp × E) → ExpList n → V
    at_monomial f = coefficient (exps n) m.scalars.ops (poly_of n m.value f)

    abbrev one_term : List (Exp × E)
    one_term = t ∷ []

    at-append : (f g : List (Exp × E)) (b : ExpList n) → at_monomial (f ++ g) b ≡ m.scalars.ops.add (at_monomial f b) (at_monomial g b)
    at-append f g b =
        ap (λ z. coefficient (exps n) m.scalars.ops z b) (map-append (λ t. (exp_of n t.0, m.value t.1)) f g)
        ∙ Order.coefficient-append (exps n) (exps_are n) m.scalars.ops laws.ring (poly_of n m.value f) (poly_of n m.value g) b

    at-insert : (kept : List (Exp × E)) (place : ℕ) (b : ExpList n) → at_monomial (insert kept place t) b ≡ m.scalars.ops.add (at_monomial kept b) (at_monomial one_term b)
    at-insert kept place b =
        let add = m.scalars.ops.add in
        let front = at_monomial (take place kept) b in
        let back = at_monomial (drop place kept) b in
        at-append (take place kept) (one_term ++ drop place kept) b
        ∙ ap (add front) (at-append one_term (drop place kept) b ∙ laws.ring.add_comm (at_monomial one_term b) back)
        ∙ sym (laws.ring.add_assoc front back (at_monomial one_term b))
        ∙ ap (λ z. add z (at_monomial one_term b)) (sym (at-append (take place kept) (drop place kept) b) ∙ ap (λ z. at_monomial z b) (take-append-drop place kept))

    at-more : (b : ExpList n) → at_monomial (take (i + 1) terms) b ≡ m.scalars.ops.add (at_monomial (take i terms) b) (at_monomial one_term b)
    at-more b = ap (λ z. at_monomial z b) (take_more terms i t h ∙ ap (λ z. take i terms ++ z ∷ []) (sym read)) ∙ at-append (take i terms) one_term b

    pub same-insert : (kept : List (Exp × E)) (place : ℕ) → Same (exps n) m.scalars.ops (poly_of n m.value kept) (poly_of n m.value (take i terms))
        → Same (exps n) m.scalars.ops (poly_of n m.value (insert kept place t)) (poly_of n m.value (take (i + 1) terms))
    same-insert kept place so_far b = at-insert kept place b ∙ ap (λ z. m.scalars.ops.add z (at_monomial one_term b)) (so_far b) ∙ sym (at-more b)

    at-zero : m.value t.1 ≡ m.scalars.ops.zero → (b : ExpList n) → at_monomial one_term b ≡ m.scalars.ops.zero
    at-zero e b = step (same (exps n) (exp_of n t.0) b)
      where
        step : (s : Bool) → m.scalars.ops.add (cond s (m.value t.1) m.scalars.ops.zero) m.scalars.ops.zero ≡ m.scalars.ops.zero
        step true = laws.ring.add_zero (m.value t.1) ∙ e
        step false = laws.ring.add_zero m.scalars.ops.zero

    pub same-none : (kept : List (Exp × E)) → m.value t.1 ≡ m.scalars.ops.zero → Same (exps n) m.scalars.ops (poly_of n m.value kept) (poly_of n m.value (take i terms))
        → Same (exps n) m.scalars.ops (poly_of n m.value kept) (poly_of n m.value (take (i + 1) terms))
    same-none kept e so_far b =
        so_far b ∙ sym (at-more b ∙ ap (m.scalars.ops.add (at_monomial (take i terms) b)) (at-zero e b) ∙ laws.ring.add_zero (at_monomial (take i terms) b))

  -- what holds of all terms holds of those that are kept, in any order
  pub all-kept : (P : Exp × E → Type 0) (terms kept : List (Exp × E)) (i : ℕ) → IsPermutation (kept_of (take i terms)) kept → All P terms → All P kept
  all-kept P terms kept i p a =
      All-permutation P (kept_of (take i terms)) kept p
      (to-all P (kept_of (take i terms)) (all-filter P (λ t. not (m.scalars.is_zero (m.value t.1))) (take i terms) (all-take P terms i (from-all P terms a))))

  -- those that are kept differ from the next one
  pub apart-kept : (terms kept : List (Exp × E)) (i : ℕ) (t : Exp × E) → i < length terms → t ≡ get_or terms i t → are_distinct (exponents_in terms) ≡ true → IsPermutation (kept_of (take i terms)) kept → All (λ u. u.0.e ≢ t.0.e) kept
  apart-kept terms kept i t h read distinct p =
      All-permutation (λ u. u.0.e ≢ t.0.e) (kept_of (take i terms)) kept p
      (to-all (λ u. u.0.e ≢ t.0.e) (kept_of (take i terms)) (all-filter (λ u. u.0.e ≢ t.0.e) (λ t. not (m.scalars.is_zero (m.value t.1))) (take i terms)
      (subst (λ (z : Exp × E). AllByRecursion (λ u. u.0.e ≢ z.0.e) (take i terms)) (sym read) (apart_before terms i t distinct h))))

  -- the terms that are kept make a jet
  pub kept-jet : (order : ℕ) (terms : List (Exp × E)) (f : JetTerms E) → f.n ≡ n → f.order ≡ order → IsPermutation (kept_of terms) f.terms → All (λ t. m.is_elem t.1) terms → All (λ t. IsIn n t.0.e) terms
      → All (λ t. sum t.0.e ≤ order) terms → IsJet m f
  kept-jet order terms f en eo p elems variables degrees =
      let each : (P : Exp × E → Type 0) → All P terms → All P f.terms =
      λ P a. All-permutation P (kept_of terms) f.terms p (to-all P (kept_of terms) (all-filter P (λ t. not (m.scalars.is_zero (m.value t.1))) terms (from-all P terms a))) in
      record {
        variables = subst (λ k. All (λ t. IsIn k t.0.e) f.terms) (sym en) (each (λ t. IsIn n t.0.e) variables);
        degrees = subst (λ k. All (λ t. sum t.0.e ≤ k) f.terms) (sym eo) (each (λ t. sum t.0.e ≤ order) degrees);
        elems = each (λ t. m.is_elem t.1) elems;
        units = All-permutation (λ t. m.value t.1 ≢ m.scalars.ops.zero) (kept_of terms) f.terms p
            (to-all (λ t. m.value t.1 ≢ m.scalars.ops.zero) (kept_of terms) (all-passed (λ t. m.value t.1 ≢ m.scalars.ops.zero) (λ t. not (m.scalars.is_zero (m.value t.1))) terms
            (λ t e q. passed (m.scalars.is_zero (m.value t.1)) e ((laws.zero_test (m.value t.1)).1 q))));
      }
    where
      passed : (b : Bool) → not b ≡ true → b ≡ true → ⊥
      passed true e h = true≢false (sym e)
      passed false e h = true≢false (sym h)
