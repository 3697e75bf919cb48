-- The jets, elements and changes of a report as polynomials and numbers over the ring of its algebra.
use Rattle.std.specs.Prelude.{ℕ, pos, List, [], map, slice_index_or}
use Rattle.ring_theory.specs.Rational.{Rational}
use Rattle.ring_law.specs.declared.fraction.Frac.{Frac}
use Rattle.ext_algebra.specs.declared.algebra.Algebra.{Algebra}
use Rattle.ext_algebra.specs.declared.algebra.Ext.{Ext}
use Rattle.ext_algebra.specs.Algebra.{Value, ops, scalars, value_in}
use Rattle.mono_exp.specs.declared.exponent.Exp.{Exp}
use Rattle.jet_law.specs.Canonical.{monomial_in}
use Rattle.jet_poly.specs.JetTerms.{JetTerms}
use Rattle.poly_law.specs.Poly.{coefficient}
use Rattle.poly_law.specs.ExpList.{exps}
use Rattle.poly_law.specs.Polynomials.{Polynomial}
use Rattle.normal_forms.specs.Monomials.{residual_terms}

-- polynomials in n variables over the ring of an algebra
abbrev pub PolynomialOver : ℕ → Algebra → Type 0
PolynomialOver n a = Polynomial n (Value a)

-- the terms of a report as a polynomial in n variables
unfoldable pub terms_in : (n : ℕ) (a : Algebra) → List (Exp × Ext Frac) → PolynomialOver n a
terms_in n a terms = map (λ t. (monomial_in n t.0.e, value_in a t.1)) terms

-- the i-th of some jets, counted from 0, and 0 past the last one
unfoldable pub jet_at : (n : ℕ) (a : Algebra) → List (JetTerms (Ext Frac)) → ℕ → PolynomialOver n a
jet_at n a jets i = terms_in n a (slice_index_or jets i (record { n = n; order = 0; terms = [] })).terms

-- the element 0
abbrev pub zero_element : Ext Frac
zero_element = let zero : Frac = record { num = pos 0; den = pos 1 } in record { c0 = zero; c1 = zero; c2 = zero; c3 = zero; c4 = zero; c5 = zero }

-- the i-th of some elements, counted from 0, and 0 past the last one
unfoldable pub value_at : (a : Algebra) → List (Ext Frac) → ℕ → Value a
value_at a elements i = value_in a (slice_index_or elements i zero_element)

-- a polynomial over the rational numbers, over an algebra
unfoldable pub lifted : (n : ℕ) (a : Algebra) → Polynomial n Rational → PolynomialOver n a
lifted n a f = map (λ t. (t.0, (scalars a).rational t.1)) f

-- the residual part of split terms, in the first c variables
unfoldable pub residual_part : (c : ℕ) (a : Algebra) → List (Exp × Ext Frac) → PolynomialOver c a
residual_part c a terms = terms_in c a (residual_terms c terms)

-- the coefficient of f at the monomial with these exponents
unfoldable pub coefficient_at : (n : ℕ) (a : Algebra) → PolynomialOver n a → List ℕ → Value a
coefficient_at n a f m = coefficient (exps n) (ops a) f (monomial_in n m)
