-- A jet of the code is the jet of each polynomial that it agrees with.
use Rattle.std.proofs.Common.{◌≡◌, ◌≢◌, ℕ, zero, suc, ◌≤◌, ◌⊎◌, inl, inr, Bool, true, false, ◌&&◌, ◌||◌, eqb, ltb, List, [], ◌∷◌, sum, refl, sym, ap₂, subst, ◌∙◌, arith}
use Rattle.std.specs.List.{All}
use Rattle.std.proofs.lemmas.List.Elements.{All-head, All-tail}
use Rattle.std.proofs.lemmas.Bool.{lt-ltb, ltb-true}
use Rattle.ring_theory.specs.Rational.{Rational, rational_ops}
use Rattle.ring_theory.specs.Height.{rational_scalars}
use Rattle.ring_theory.proofs.RationalLaws.{rational_scalar_laws}
use Rattle.ring_law.specs.declared.fraction.Frac.{Frac}
use Rattle.ring_law.specs.Fraction.{frac_value}
use Rattle.poly_law.specs.ExpList.{exps}
use Rattle.poly_law.specs.Poly.{SameTo}
use Rattle.poly_law.specs.Polynomials.{Polynomial}
use Rattle.poly_law.specs.Sorted.{HasNoZero}
use Rattle.poly_law.specs.Sorted as sorted
use Rattle.mono_exp.specs.declared.exponent.Exp.{Exp}
use Rattle.mono_exp.specs.Exponents.{exponents, IsIn, is_before, is_greater_first}
use Rattle.mono_exp.proofs.Counting.{place, before-place}
use Rattle.mono_exp.proofs.NumberLemmas.{length-exponents, exponents-cons, sum-exponents}
use Rattle.jet_law.specs.Terms.{exp_of, poly_of}
use Rattle.jet_law.proofs.TermLemmas.{degree-exp_of}
use Rattle.jet_poly.specs.JetTerms.{JetTerms, IsRising, AllAfter}
use Rattle.germ_law.specs.Reading.{jet_of}
use Rattle.germ_law.proofs.Canonical.{stands_before, HasDegreeTo, one_jet}
use Rattle.line_jet_law.specs.LineJets.{IsRationalJet, rational_polynomial}

or_cases : (a b : Bool) → (a || b) ≡ true → (a ≡ true) ⊎ (b ≡ true)
or_cases true b h = inl refl
or_cases false b h = inr h

and_cases : (a b : Bool) → (a && b) ≡ true → (a ≡ true) × (b ≡ true)
and_cases true b h = (refl, h)
and_cases false b h = let bad : ⊥ = cc h in absurd bad

or_first : (a b : Bool) → a ≡ true → (a || b) ≡ true
or_first true b h = refl
or_first false b h = let bad : ⊥ = cc h in absurd bad

or_second : (a b : Bool) → b ≡ true → (a || b) ≡ true
or_second true b h = refl
or_second false b h = h

and_both : (a b : Bool) → a ≡ true → b ≡ true → (a && b) ≡ true
and_both true b h g = g
and_both false b h g = let bad : ⊥ = cc h in absurd bad

-- the place where the first is greater is one of a variable that occurs
greater-exponents : (n : ℕ) (a b : List ℕ) → IsIn n a → is_greater_first a b ≡ true → is_greater_first (exponents n a) (exponents n b) ≡ true
greater-exponents n [] b i h = let bad : ⊥ = cc h in absurd bad
greater-exponents n (x ∷ a) [] i h = let bad : ⊥ = cc h in absurd bad
greater-exponents zero (x ∷ a) (y ∷ b) i h = elim (or_cases (ltb y x) ((eqb x y) && is_greater_first a b) h) [
  | inl g ↦ let less = ltb-true y x g in let none : x ≡ 0 = i 0 (omega arith) in absurd (omega arith)
  | inr g ↦ greater-exponents zero a b (λ j k. i (suc j) (omega arith)) (and_cases (eqb x y) (is_greater_first a b) g).1
]
greater-exponents (suc n) (x ∷ a) (y ∷ b) i h =
    ap₂ is_greater_first (exponents-cons n x a) (exponents-cons n y b)
    ∙ elim (or_cases (ltb y x) ((eqb x y) && is_greater_first a b) h) [
      | inl g ↦ or_first (ltb y x) ((eqb x y) && is_greater_first (exponents n a) (exponents n b)) g
      | inr g ↦
          let both = and_cases (eqb x y) (is_greater_first a b) g in
          or_second (ltb y x) ((eqb x y) && is_greater_first (exponents n a) (exponents n b)) (and_both (eqb x y) (is_greater_first (exponents n a) (exponents n b)) both.0 (greater-exponents n a b (λ j k. i (suc j) (omega arith)) both.1))
    ]

-- the monomial order of the first n exponents
before-exponents : (n : ℕ) (a b : List ℕ) → IsIn n a → IsIn n b → is_before a b ≡ true → is_before (exponents n a) (exponents n b) ≡ true
before-exponents n a b i j h =
    ap₂ (λ x y. ltb x y || ((eqb x y) && is_greater_first (exponents n a) (exponents n b))) (sum-exponents n a i) (sum-exponents n b j)
    ∙ elim (or_cases (ltb (sum a) (sum b)) ((eqb (sum a) (sum b)) && is_greater_first a b) h) [
      | inl g ↦ or_first (ltb (sum a) (sum b)) ((eqb (sum a) (sum b)) && is_greater_first (exponents n a) (exponents n b)) g
      | inr g ↦
          let both = and_cases (eqb (sum a) (sum b)) (is_greater_first a b) g in
          or_second (ltb (sum a) (sum b)) ((eqb (sum a) (sum b)) && is_greater_first (exponents n a) (exponents n b)) (and_both (eqb (sum a) (sum b)) (is_greater_first (exponents n a) (exponents n b)) both.0 (greater-exponents n a b i both.1))
    ]

-- and by places
pub before_in : (n : ℕ) (a b : Exp) → IsIn n a.e → IsIn n b.e → is_before a.e b.e ≡ true → stands_before n (exp_of n a) (exp_of n b) ≡ true
before_in n a b i j h =
    lt-ltb (place (exponents n a.e)) (place (exponents n b.e))
    (before-place (exponents n a.e) (exponents n b.e) (length-exponents n a.e ∙ sym (length-exponents n b.e)) (before-exponents n a.e b.e i j h))

module _ (n : ℕ) where
  after_in : (m : Exp) (f : List (Exp × Frac)) → IsIn n m.e → All (λ t. IsIn n t.0.e) f → AllAfter m f → sorted.AllAfter (stands_before n) (exp_of n m) (poly_of n frac_value f)
  after_in m [] i a h = tt
  after_in m (t ∷ f) i a h = (before_in n m t.0 i (All-head (λ t. IsIn n t.0.e) t f a) h.0, after_in m f i (All-tail (λ t. IsIn n t.0.e) t f a) h.1)

  -- the terms of a jet rise
  pub rising_in : (f : List (Exp × Frac)) → All (λ t. IsIn n t.0.e) f → IsRising f → sorted.IsRising (stands_before n) (poly_of n frac_value f)
  rising_in [] a h = tt
  rising_in (t ∷ f) a h = (after_in t.0 f (All-head (λ t. IsIn n t.0.e) t f a) (All-tail (λ t. IsIn n t.0.e) t f a) h.0, rising_in f (All-tail (λ t. IsIn n t.0.e) t f a) h.1)

  -- they have no zero
  pub no_zero_in : (f : List (Exp × Frac)) → All (λ t. frac_value t.1 ≢ rational_ops.zero) f → HasNoZero rational_ops.zero (poly_of n frac_value f)
  no_zero_in [] a = tt
  no_zero_in (t ∷ f) a = (All-head (λ t. frac_value t.1 ≢ rational_ops.zero) t f a, no_zero_in f (All-tail (λ t. frac_value t.1 ≢ rational_ops.zero) t f a))

  -- and are of degree at most k
  pub low_in : (k : ℕ) (f : List (Exp × Frac)) → All (λ t. IsIn n t.0.e) f → All (λ t. sum t.0.e ≤ k) f → HasDegreeTo n rational_scalars rational_scalar_laws k (poly_of n frac_value f)
  low_in k [] a h = tt
  low_in k (t ∷ f) a h = (
    subst (λ d. d ≤ k) (sym (degree-exp_of n t.0 (All-head (λ t. IsIn n t.0.e) t f a))) (All-head (λ t. sum t.0.e ≤ k) t f h),
    low_in k f (All-tail (λ t. IsIn n t.0.e) t f a) (All-tail (λ t. sum t.0.e ≤ k) t f h),
  )

-- a jet of order k that agrees with g up to degree k has the terms of the jet of g
pub as_jet : (n k : ℕ) (f : JetTerms Frac) (g : Polynomial n Rational) → IsRationalJet n k f → SameTo (exps n) rational_ops k (rational_polynomial n f) g → rational_polynomial n f ≡ jet_of n k g
as_jet n k f g j e =
    let inside : All (λ t. IsIn n t.0.e) f.terms = subst (λ m. All (λ t. IsIn m t.0.e) f.terms) j.n_is j.is_jet.variables in
    let low : All (λ t. sum t.0.e ≤ k) f.terms = subst (λ m. All (λ t. sum t.0.e ≤ m) f.terms) j.order_is j.is_jet.degrees in
    one_jet n rational_scalars rational_scalar_laws k (rational_polynomial n f) g (rising_in n f.terms inside j.rising) (no_zero_in n f.terms j.is_jet.units) (low_in n k f.terms inside low) e
