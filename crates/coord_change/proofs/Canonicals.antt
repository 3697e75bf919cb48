-- A jet of the program is the jet of each polynomial that it agrees with up to its order, as one list of terms.
use mathlib.Core.Path.{fun_ext}
use Rattle.std.proofs.Common.{◌≡◌, ◌≢◌, ℕ, zero, suc, ◌≤◌, ◌⊎◌, inl, inr, Bool, true, false, ◌&&◌, ◌||◌, eqb, ltb, List, [], ◌∷◌, map, get_or, sum, refl, sym, ap, ap₂, subst, ◌∙◌, arith}
use Rattle.std.specs.List.{All}
use Rattle.std.proofs.lemmas.List.Elements.{All-head, All-tail}
use Rattle.std.proofs.lemmas.Bool.{lt-ltb, ltb-true}
use Rattle.ring_theory.specs.Scalars.{Scalars, ScalarLaws, Meaning}
use Rattle.poly_law.specs.ExpList.{exps}
use Rattle.poly_law.specs.Polynomials.{Polynomial, SameIn, SameToIn, cut_in, substitute}
use Rattle.poly_law.specs.Sorted.{HasNoZero}
use Rattle.poly_law.specs.Sorted as sorted
use Rattle.poly_law.proofs.ExpLists.{exps_are}
use Rattle.poly_law.proofs.OneList.{one_list}
use Rattle.poly_law.proofs.Order
use Rattle.mono_exp.specs.declared.exponent.Exp.{Exp}
use Rattle.mono_exp.specs.Exponents.{exponents, IsIn, is_before, is_greater_first}
use Rattle.mono_exp.proofs.Counting.{place, before-place}
use Rattle.mono_exp.proofs.NumberLemmas.{length-exponents, exponents-cons, sum-exponents}
use Rattle.jet_law.specs.Terms.{exp_of, poly_of}
use Rattle.jet_law.specs.Canonical.{jet}
use Rattle.jet_law.proofs.TermLemmas.{degree-exp_of}
use Rattle.jet_poly.specs.JetTerms.{JetTerms, IsRising, AllAfter}
use Rattle.jet_poly.specs.Jets.{IsJet}
use Rattle.jet_subst.specs.Parts.{jet_at, part_of}
use Rattle.germ_law.proofs.Canonical.{stands_before, is_order, HasDegreeTo, one_jet, jet_rising, jet_has_no_zero, jet_is_cut, jet_same_to}
use Rattle.coord_change.specs.declared.change.Change.{Change}
use Rattle.coord_change.specs.Moves.{move_from, put}
use Rattle.coord_change.specs.Carries.{carry}
use Rattle.coord_change.specs.MoveJets.{IsJetFor}

or_cases : (a b : Bool) → (a || b) ≡ true → (a ≡ true) ⊎ (b ≡ true)
or_cases true b h = inl refl
or_cases false b h = inr h

and_cases : (a b : Bool) → (a && b) ≡ true → (a ≡ true) × (b ≡ true)
and_cases true b h = (refl, h)
and_cases false b h = let bad : ⊥ = cc h in absurd bad

or_first : (a b : Bool) → a ≡ true → (a || b) ≡ true
or_first true b h = refl
or_first false b h = let bad : ⊥ = cc h in absurd bad

or_second : (a b : Bool) → b ≡ true → (a || b) ≡ true
or_second true b h = refl
or_second false b h = h

and_both : (a b : Bool) → a ≡ true → b ≡ true → (a && b) ≡ true
and_both true b h g = g
and_both false b h g = let bad : ⊥ = cc h in absurd bad

-- the place where the first is greater is one of a variable that occurs
greater-exponents : (n : ℕ) (a b : List ℕ) → IsIn n a → is_greater_first a b ≡ true → is_greater_first (exponents n a) (exponents n b) ≡ true
greater-exponents n [] b i h = let bad : ⊥ = cc h in absurd bad
greater-exponents n (x ∷ a) [] i h = let bad : ⊥ = cc h in absurd bad
greater-exponents zero (x ∷ a) (y ∷ b) i h = elim (or_cases (ltb y x) ((eqb x y) && is_greater_first a b) h) [
  | inl g ↦ let less = ltb-true y x g in let none : x ≡ 0 = i 0 (omega arith) in absurd (omega arith)
  | inr g ↦ greater-exponents zero a b (λ j k. i (suc j) (omega arith)) (and_cases (eqb x y) (is_greater_first a b) g).1
]
greater-exponents (suc n) (x ∷ a) (y ∷ b) i h =
    ap₂ is_greater_first (exponents-cons n x a) (exponents-cons n y b)
    ∙ elim (or_cases (ltb y x) ((eqb x y) && is_greater_first a b) h) [
      | inl g ↦ or_first (ltb y x) ((eqb x y) && is_greater_first (exponents n a) (exponents n b)) g
      | inr g ↦
          let both = and_cases (eqb x y) (is_greater_first a b) g in
          or_second (ltb y x) ((eqb x y) && is_greater_first (exponents n a) (exponents n b)) (and_both (eqb x y) (is_greater_first (exponents n a) (exponents n b)) both.0 (greater-exponents n a b (λ j k. i (suc j) (omega arith)) both.1))
    ]

-- the monomial order of the first n exponents
before-exponents : (n : ℕ) (a b : List ℕ) → IsIn n a → IsIn n b → is_before a b ≡ true → is_before (exponents n a) (exponents n b) ≡ true
before-exponents n a b i j h =
    ap₂ (λ x y. ltb x y || ((eqb x y) && is_greater_first (exponents n a) (exponents n b))) (sum-exponents n a i) (sum-exponents n b j)
    ∙ elim (or_cases (ltb (sum a) (sum b)) ((eqb (sum a) (sum b)) && is_greater_first a b) h) [
      | inl g ↦ or_first (ltb (sum a) (sum b)) ((eqb (sum a) (sum b)) && is_greater_first (exponents n a) (exponents n b)) g
      | inr g ↦
          let both = and_cases (eqb (sum a) (sum b)) (is_greater_first a b) g in
          or_second (ltb (sum a) (sum b)) ((eqb (sum a) (sum b)) && is_greater_first (exponents n a) (exponents n b)) (and_both (eqb (sum a) (sum b)) (is_greater_first (exponents n a) (exponents n b)) both.0 (greater-exponents n a b i both.1))
    ]

-- and by places
before_in : (n : ℕ) (a b : Exp) → IsIn n a.e → IsIn n b.e → is_before a.e b.e ≡ true → stands_before n (exp_of n a) (exp_of n b) ≡ true
before_in n a b i j h =
    lt-ltb (place (exponents n a.e)) (place (exponents n b.e))
    (before-place (exponents n a.e) (exponents n b.e) (length-exponents n a.e ∙ sym (length-exponents n b.e)) (before-exponents n a.e b.e i j h))

module _ {V : Type 0} (n : ℕ) (s : Scalars V) (l : ScalarLaws s) where
  -- polynomials that agree up to degree k have one jet of order k
  pub jet_of_same : (k : ℕ) (f g : Polynomial n V) → SameToIn n s.ops k f g → jet n s k f ≡ jet n s k g
  jet_of_same k f g e =
      one_list (exps n) (exps_are n) s.ops l.ring (stands_before n) (is_order n) (jet n s k f) (jet n s k g) (jet_rising n s l k f) (jet_rising n s l k g) (jet_has_no_zero n s l k f) (jet_has_no_zero n s l k g)
      (λ a. jet_is_cut n s l k f a ∙ Order.same-cut (exps n) (exps_are n) s.ops l.ring k f g e a ∙ sym (jet_is_cut n s l k g a))

  -- the jet of a jet of greater order
  pub jet-jet : (k j : ℕ) → k ≤ j → (f : Polynomial n V) → jet n s k (jet n s j f) ≡ jet n s k f
  jet-jet k j h f = jet_of_same k (jet n s j f) f (λ a d. jet_same_to n s l j f a (omega arith))

module _ {E V : Type 0} (m : Meaning E V) (n : ℕ) where
  after_in : (a : Exp) (f : List (Exp × E)) → IsIn n a.e → All (λ t. IsIn n t.0.e) f → AllAfter a f → sorted.AllAfter (stands_before n) (exp_of n a) (poly_of n m.value f)
  after_in a [] i all h = tt
  after_in a (t ∷ f) i all h = (before_in n a t.0 i (All-head (λ t. IsIn n t.0.e) t f all) h.0, after_in a f i (All-tail (λ t. IsIn n t.0.e) t f all) h.1)

  rising_in : (f : List (Exp × E)) → All (λ t. IsIn n t.0.e) f → IsRising f → sorted.IsRising (stands_before n) (poly_of n m.value f)
  rising_in [] all h = tt
  rising_in (t ∷ f) all h = (after_in t.0 f (All-head (λ t. IsIn n t.0.e) t f all) (All-tail (λ t. IsIn n t.0.e) t f all) h.0, rising_in f (All-tail (λ t. IsIn n t.0.e) t f all) h.1)

  no_zero_in : (f : List (Exp × E)) → All (λ t. m.value t.1 ≢ m.scalars.ops.zero) f → HasNoZero m.scalars.ops.zero (poly_of n m.value f)
  no_zero_in [] all = tt
  no_zero_in (t ∷ f) all = (All-head (λ t. m.value t.1 ≢ m.scalars.ops.zero) t f all, no_zero_in f (All-tail (λ t. m.value t.1 ≢ m.scalars.ops.zero) t f all))

  -- the parts of a change, as they are put for the variables
  put_at : (ps : List (JetTerms E)) (i : ℕ) → get_or (map (λ p. poly_of n m.value p.terms) ps) i [] ≡ poly_of n m.value (jet_at ps i).terms
  put_at [] i = refl
  put_at (p ∷ ps) zero = refl
  put_at (p ∷ ps) (suc i) = put_at ps i

  pub put-move_from : (c : Change E) → put n m.scalars (move_from m n c) ≡ part_of n m.value c.parts
  put-move_from c = fun_ext (put_at c.parts)

  module _ (l : ScalarLaws m.scalars) where
    low_in : (k : ℕ) (f : List (Exp × E)) → All (λ t. IsIn n t.0.e) f → All (λ t. sum t.0.e ≤ k) f → HasDegreeTo n m.scalars l k (poly_of n m.value f)
    low_in k [] a h = tt
    low_in k (t ∷ f) a h = (
      subst (λ d. d ≤ k) (sym (degree-exp_of n t.0 (All-head (λ t. IsIn n t.0.e) t f a))) (All-head (λ t. sum t.0.e ≤ k) t f h),
      low_in k f (All-tail (λ t. IsIn n t.0.e) t f a) (All-tail (λ t. sum t.0.e ≤ k) t f h),
    )

    -- a jet of order k that agrees with g up to degree k is the jet of g
    pub is_jet_for : (k : ℕ) (h : JetTerms E) (g : Polynomial n V) → IsJet m h → h.n ≡ n → h.order ≡ k → IsRising h.terms → SameToIn n m.scalars.ops k (poly_of n m.value h.terms) g → IsJetFor m n k (jet n m.scalars k g) h
    is_jet_for k h g j en eo rises e = record {
      jet = j;
      variables = en;
      order = eo;
      polynomial =
          let inside : All (λ t. IsIn n t.0.e) h.terms = subst (λ z. All (λ t. IsIn z t.0.e) h.terms) en j.variables in
          let low : All (λ t. sum t.0.e ≤ k) h.terms = subst (λ z. All (λ t. sum t.0.e ≤ z) h.terms) eo j.degrees in
          one_jet n m.scalars l k (poly_of n m.value h.terms) g (rising_in h.terms inside rises) (no_zero_in h.terms j.units) (low_in k h.terms inside low) e;
    }

    -- what is cut at k agrees up to degree k
    pub cut_agrees : (k : ℕ) (f g : Polynomial n V) → SameIn n m.scalars.ops f (cut_in n m.scalars.ops k g) → SameToIn n m.scalars.ops k f g
    cut_agrees k f g e a d = e a ∙ Order.cut_same_to (exps n) (exps_are n) m.scalars.ops l.ring k g a d

    -- a jet that is f with the parts of a change substituted, cut at k, is f carried by its move
    pub carried_for : (k : ℕ) (c : Change E) (f : Polynomial n V) (h : JetTerms E) → IsJet m h → h.n ≡ n → h.order ≡ k → IsRising h.terms
        → SameIn n m.scalars.ops (poly_of n m.value h.terms) (cut_in n m.scalars.ops k (substitute n n m.scalars.ops (part_of n m.value c.parts) f)) → IsJetFor m n k (carry n m.scalars k (move_from m n c) f) h
    unfolding carry
    carried_for k c f h j en eo rises e =
        subst (λ parts. IsJetFor m n k (jet n m.scalars k (substitute n n m.scalars.ops parts f)) h) (sym (put-move_from c))
        (is_jet_for k h (substitute n n m.scalars.ops (part_of n m.value c.parts) f) j en eo rises (cut_agrees k (poly_of n m.value h.terms) (substitute n n m.scalars.ops (part_of n m.value c.parts) f) e))
