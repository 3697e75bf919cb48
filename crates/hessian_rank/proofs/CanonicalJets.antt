-- Jets of the program as canonical lists of terms.
use Rattle.std.proofs.Common.{◌≡◌, ◌≢◌, ℕ, ◌≤◌, List, [], ◌∷◌, sum, All, sym, subst}
use Rattle.std.proofs.lemmas.List.Elements.{All-head, All-tail}
use Rattle.ring_theory.specs.Scalars.{Meaning, ScalarLaws}
use Rattle.poly_law.specs.ExpList.{exps}
use Rattle.poly_law.specs.Poly.{SameTo}
use Rattle.poly_law.specs.Polynomials.{Polynomial}
use Rattle.poly_law.specs.Sorted.{HasNoZero}
use Rattle.poly_law.specs.Sorted as sorted
use Rattle.mono_exp.specs.declared.exponent.Exp.{Exp}
use Rattle.mono_exp.specs.Exponents.{IsIn}
use Rattle.jet_law.specs.Terms.{exp_of, poly_of}
use Rattle.jet_law.specs.Canonical.{jet}
use Rattle.jet_law.proofs.TermLemmas.{degree-exp_of}
use Rattle.jet_poly.specs.JetTerms.{JetTerms, IsRising, AllAfter}
use Rattle.jet_poly.specs.Jets.{IsJet}
use Rattle.germ_law.proofs.Canonical.{stands_before, HasDegreeTo, one_jet}
use Rattle.line_jet_law.proofs.Bridge.{before_in}

module _ {E V : Type 0} (m : Meaning E V) (laws : ScalarLaws m.scalars) (n : ℕ) where
  after_in : (a : Exp) (f : List (Exp × E)) → IsIn n a.e → All (λ t. IsIn n t.0.e) f → AllAfter a f → sorted.AllAfter (stands_before n) (exp_of n a) (poly_of n m.value f)
  after_in a [] i all h = tt
  after_in a (t ∷ f) i all h = (before_in n a t.0 i (All-head (λ t. IsIn n t.0.e) t f all) h.0, after_in a f i (All-tail (λ t. IsIn n t.0.e) t f all) h.1)

  rising_in : (f : List (Exp × E)) → All (λ t. IsIn n t.0.e) f → IsRising f → sorted.IsRising (stands_before n) (poly_of n m.value f)
  rising_in [] all h = tt
  rising_in (t ∷ f) all h = (after_in t.0 f (All-head (λ t. IsIn n t.0.e) t f all) (All-tail (λ t. IsIn n t.0.e) t f all) h.0, rising_in f (All-tail (λ t. IsIn n t.0.e) t f all) h.1)

  no_zero_in : (f : List (Exp × E)) → All (λ t. m.value t.1 ≢ m.scalars.ops.zero) f → HasNoZero m.scalars.ops.zero (poly_of n m.value f)
  no_zero_in [] all = tt
  no_zero_in (t ∷ f) all = (All-head (λ t. m.value t.1 ≢ m.scalars.ops.zero) t f all, no_zero_in f (All-tail (λ t. m.value t.1 ≢ m.scalars.ops.zero) t f all))

  low_in : (k : ℕ) (f : List (Exp × E)) → All (λ t. IsIn n t.0.e) f → All (λ t. sum t.0.e ≤ k) f → HasDegreeTo n m.scalars laws k (poly_of n m.value f)
  low_in k [] a h = tt
  low_in k (t ∷ f) a h = (
    subst (λ d. d ≤ k) (sym (degree-exp_of n t.0 (All-head (λ t. IsIn n t.0.e) t f a))) (All-head (λ t. sum t.0.e ≤ k) t f h),
    low_in k f (All-tail (λ t. IsIn n t.0.e) t f a) (All-tail (λ t. sum t.0.e ≤ k) t f h),
  )

  -- a jet of order k whose terms rise is the jet of each polynomial that it agrees with up to degree k
  pub canonical : (k : ℕ) (f : JetTerms E) (g : Polynomial n V) → IsJet m f → f.n ≡ n → f.order ≡ k → IsRising f.terms → SameTo (exps n) m.scalars.ops k (poly_of n m.value f.terms) g → poly_of n m.value f.terms ≡ jet n m.scalars k g
  canonical k f g j en eo rising e =
      let inside : All (λ t. IsIn n t.0.e) f.terms = subst (λ z. All (λ t. IsIn z t.0.e) f.terms) en j.variables in
      one_jet n m.scalars laws k (poly_of n m.value f.terms) g (rising_in f.terms inside rising) (no_zero_in f.terms j.units)
      (low_in k f.terms inside (subst (λ z. All (λ t. sum t.0.e ≤ z) f.terms) eo j.degrees)) e
