-- Jets over the rational numbers, over an algebra.
use Rattle.std.proofs.Common.{◌≡◌, ◌≢◌, ℕ, ◌≤◌, List, [], ◌∷◌, sum, refl, ap, ap₂, pos}
use Rattle.std.specs.List.{AllByRecursion, All}
use Rattle.std.proofs.lemmas.List.Elements.{All-from_recursion, recursion_from_All}
use Rattle.ring_theory.specs.Gcd.{gcd}
use Rattle.ring_theory.specs.Rational.{Rational, rational}
use Rattle.ring_law.specs.declared.fraction.Frac.{Frac}
use Rattle.ring_law.specs.Fraction.{IsFrac, frac_value, rational_meaning}
use Rattle.ext_theory.specs.ExtensionScalars.{quadratic_scalars, cubic_scalars}
use Rattle.ext_algebra.specs.declared.algebra.Algebra.{Algebra}
use Rattle.ext_algebra.specs.declared.algebra.Algebra.TheVariants as algebras
use Rattle.ext_algebra.specs.declared.algebra.Ext.{Ext}
use Rattle.ext_algebra.specs.Algebra.{scalars, value_in, IsElement, IsZeroPast, algebra_meaning}
use Rattle.ext_algebra.proofs.ElementTests.{is_frac-IsFrac}
use Rattle.mono_exp.specs.declared.exponent.Exp.{Exp}
use Rattle.mono_exp.specs.Exponents.{IsIn}
use Rattle.jet_law.specs.Terms.{exp_of, poly_of}
use Rattle.jet_poly.specs.JetTerms.{JetTerms, IsRising, AllAfter}
use Rattle.jet_poly.specs.Jets.{IsJet}
use Rattle.report_law.specs.Polynomials.{lifted}
use Rattle.report_jet.specs.Lifted.{lifted_element, lifted_terms}

-- the element q has the value of q
pub lifted_value : (a : Algebra) (q : Frac) → value_in a (lifted_element q) ≡ (scalars a).rational (frac_value q)
unfolding value_in scalars quadratic_scalars cubic_scalars
lifted_value algebras.Rational q = refl
lifted_value (algebras.Quadratic m1 m0) q = refl
lifted_value (algebras.Cubic m2 m1 m0) q = refl
lifted_value (algebras.Tower m2 m1 m0 d) q = refl

zero_valid : IsFrac (record { num = pos 0; den = pos 1 })
unfolding gcd
zero_valid = (is_frac-IsFrac (record { num = pos 0; den = pos 1 })).0 refl

zero_past : (a : Algebra) (q : Frac) → IsZeroPast a (lifted_element q)
zero_past algebras.Rational q = (refl, refl, refl, refl, refl)
zero_past (algebras.Quadratic m1 m0) q = (refl, refl, refl, refl)
zero_past (algebras.Cubic m2 m1 m0) q = (refl, refl, refl)
zero_past (algebras.Tower m2 m1 m0 d) q = tt

-- it is valid where q is
pub lifted_elem : (a : Algebra) (q : Frac) → IsFrac q → IsElement a (lifted_element q)
lifted_elem a q h = record { c0 = h; c1 = zero_valid; c2 = zero_valid; c3 = zero_valid; c4 = zero_valid; c5 = zero_valid; past = zero_past a q }

-- and not 0 where q is not 0
pub lifted_unit : (a : Algebra) (q : Frac) → frac_value q ≢ rational (pos 0) 1 → value_in a (lifted_element q) ≢ (scalars a).ops.zero
unfolding value_in scalars quadratic_scalars cubic_scalars
lifted_unit algebras.Rational q u z = u z
lifted_unit (algebras.Quadratic m1 m0) q u z = u (ap (λ v. v.c0) z)
lifted_unit (algebras.Cubic m2 m1 m0) q u z = u (ap (λ v. v.c0) z)
lifted_unit (algebras.Tower m2 m1 m0 d) q u z = u (ap (λ v. v.c0.c0) z)

lifted-after : (m : Exp) (f : List (Exp × Frac)) → AllAfter m f → AllAfter m (lifted_terms f)
unfolding lifted_terms
lifted-after m [] h = tt
lifted-after m (t ∷ f) h = (h.0, lifted-after m f h.1)

-- the terms stay in order
pub lifted-rising : (f : List (Exp × Frac)) → IsRising f → IsRising (lifted_terms f)
unfolding lifted_terms
lifted-rising [] h = tt
lifted-rising (t ∷ f) h = (lifted-after t.0 f h.0, lifted-rising f h.1)

lifted_each : (P : Exp × Frac → Type 0) (Q : Exp × Ext Frac → Type 0) → ((t : Exp × Frac) → P t → Q (t.0, lifted_element t.1)) → (f : List (Exp × Frac)) → AllByRecursion P f → AllByRecursion Q (lifted_terms f)
unfolding lifted_terms
lifted_each P Q q [] a = tt
lifted_each P Q q (t ∷ f) a = (q t a.0, lifted_each P Q q f a.1)

lifted_all : (P : Exp × Frac → Type 0) (Q : Exp × Ext Frac → Type 0) → ((t : Exp × Frac) → P t → Q (t.0, lifted_element t.1)) → (f : List (Exp × Frac)) → All P f → All Q (lifted_terms f)
lifted_all P Q q f a = All-from_recursion Q (lifted_terms f) (lifted_each P Q q f (recursion_from_All P f a))

-- a jet over the rational numbers is one over the algebra
pub lifted_valid : (a : Algebra) (f : JetTerms Frac) → IsJet rational_meaning f → IsJet (algebra_meaning a) (record { n = f.n; order = f.order; terms = lifted_terms f.terms })
lifted_valid a f j = record {
  variables = lifted_all (λ t. IsIn f.n t.0.e) (λ t. IsIn f.n t.0.e) (λ t h. h) f.terms j.variables;
  degrees = lifted_all (λ t. sum t.0.e ≤ f.order) (λ t. sum t.0.e ≤ f.order) (λ t h. h) f.terms j.degrees;
  elems = lifted_all (λ t. IsFrac t.1) (λ t. IsElement a t.1) (λ t h. lifted_elem a t.1 h) f.terms j.elems;
  units = lifted_all (λ t. frac_value t.1 ≢ rational (pos 0) 1) (λ t. value_in a t.1 ≢ (scalars a).ops.zero) (λ t h. lifted_unit a t.1 h) f.terms j.units;
}

-- and its polynomial is that of the rational numbers, over the algebra
pub lifted_polynomial : (n : ℕ) (a : Algebra) (f : List (Exp × Frac)) → poly_of n (value_in a) (lifted_terms f) ≡ lifted n a (poly_of n frac_value f)
unfolding lifted_terms lifted
lifted_polynomial n a [] = refl
lifted_polynomial n a (t ∷ f) = ap₂ (λ v w. v ∷ w) (ap (λ v. (exp_of n t.0, v)) (lifted_value a t.1)) (lifted_polynomial n a f)
