-- The jets of a well-formed report over the ring of its algebra.
use Rattle.std.proofs.Common.{◌≡◌, ◌≢◌, ℕ, zero, suc, ◌≤◌, Bool, true, false, ◌&&◌, leb, List, [], ◌∷◌, map, length, get_or, sum, refl, sym, ap, ◌∙◌, subst, true≢false, pos, zero-lt-suc}
use Rattle.std.specs.Prelude.{not, nat_le, drop, ◌==◌}
use Rattle.std.specs.List.{AllByRecursion, All, list_all}
use Rattle.std.proofs.lemmas.Bool.{leb-true}
use Rattle.std.proofs.lemmas.Bool.Decides.{Decides-int_eq}
use Rattle.std.proofs.lemmas.List.Elements.{All-from_recursion}
use Rattle.line_syntax.proofs.Bools.{and_left, and_right}
use Rattle.ring_theory.specs.Rational.{rational}
use Rattle.ring_theory.proofs.RationalLaws.{lowest_num}
use Rattle.ring_theory.proofs.Lowest.{zero_lowest}
use Rattle.ring_law.specs.declared.fraction.Frac.{Frac}
use Rattle.ring_law.specs.Fraction.{IsFrac, frac_value}
use Rattle.ring_law.proofs.FractionLaws.{value_num}
use Rattle.ext_theory.specs.ExtensionScalars.{quadratic_scalars, cubic_scalars}
use Rattle.ext_algebra.specs.declared.algebra.Algebra.{Algebra}
use Rattle.ext_algebra.specs.declared.algebra.Algebra.TheVariants as algebras
use Rattle.ext_algebra.specs.declared.algebra.Ext.{Ext}
use Rattle.ext_algebra.specs.Fractions.{is_zero_frac}
use Rattle.ext_algebra.specs.Algebra.{ops, scalars, value_in, IsElement, IsAlgebra, is_element, is_algebra, algebra_meaning}
use Rattle.ext_algebra.proofs.ElementTests.{is_element-IsElement, is_algebra-IsAlgebra}
use Rattle.mono_exp.specs.declared.exponent.Exp.{Exp}
use Rattle.mono_exp.specs.Exponents.{IsIn}
use Rattle.jet_law.specs.Terms.{poly_of}
use Rattle.jet_poly.specs.JetTerms.{JetTerms}
use Rattle.jet_poly.specs.Jets.{IsJet}
use Rattle.jet_poly.proofs.GatheredLemmas.{weaker}
use Rattle.jet_poly.proofs.KeptTerms.{kept-all}
use Rattle.normal_forms.specs.Monomials.{is_residual, residual_terms}
use Rattle.cert_text.specs.declared.report.Carried.{Carried}
use Rattle.cert_text.specs.WellFormed.{IsWellFormedCarried, IsJetOf, is_term_of, is_monomial_in, is_zero_element}
use Rattle.report_law.specs.Polynomials.{terms_in, residual_part, value_at, zero_element}
use Rattle.report_law.specs.Items.{residual_of}
use Rattle.report_law.proofs.Splitting.{zero_past}

-- ---- elements

-- an element that passes its test is valid
pub element_valid : (a : Algebra) (e : Ext Frac) → is_element a e ≡ true → IsElement a e
element_valid a e t = (is_element-IsElement a e).0 t

-- an algebra that passes its test is valid
pub algebra_valid : (a : Algebra) → is_algebra a ≡ true → IsAlgebra a
algebra_valid a t = (is_algebra-IsAlgebra a).0 t

-- each of a list of elements that pass their test is valid
pub elements_valid : (a : Algebra) (es : List (Ext Frac)) → list_all (is_element a) es ≡ true → All (λ e. IsElement a e) es
elements_valid a es t = All-from_recursion (λ e. IsElement a e) es (each es t)
  where
    each : (es : List (Ext Frac)) → list_all (is_element a) es ≡ true → AllByRecursion (λ e. IsElement a e) es
    each [] t = tt
    each (e ∷ es) t = (element_valid a e (and_left (is_element a e) (list_all (is_element a) es) t), each es (and_right (is_element a e) (list_all (is_element a) es) t))

zero_is : (a : Algebra) → (ops a).zero ≡ value_in a zero_element
unfolding value_in scalars quadratic_scalars cubic_scalars
zero_is algebras.Rational = refl
zero_is (algebras.Quadratic m1 m0) = refl
zero_is (algebras.Cubic m2 m1 m0) = refl
zero_is (algebras.Tower m2 m1 m0 d) = refl

-- the values of a list of elements by number, and 0 past the last one
pub get_or-values : (a : Algebra) (es : List (Ext Frac)) (i : ℕ) → get_or (map (value_in a) es) i (ops a).zero ≡ value_at a es i
unfolding value_at
get_or-values a [] i = zero_is a
get_or-values a (e ∷ es) zero = refl
get_or-values a (e ∷ es) (suc i) = get_or-values a es i

-- a valid fraction with the value 0 passes the test for zero
pub is_zero_frac-zero : (f : Frac) → IsFrac f → frac_value f ≡ rational (pos 0) 1 → is_zero_frac f ≡ true
is_zero_frac-zero f h e = (Decides-int_eq f.num (pos 0)).1 (sym (value_num f h) ∙ ap (λ q. q.num) e ∙ lowest_num (pos 0) 1 (zero-lt-suc 0) zero_lowest)

-- the six components are 0
record AreZero (e : Ext Frac) : Type 0 where
  c0 : frac_value e.c0 ≡ rational (pos 0) 1
  c1 : frac_value e.c1 ≡ rational (pos 0) 1
  c2 : frac_value e.c2 ≡ rational (pos 0) 1
  c3 : frac_value e.c3 ≡ rational (pos 0) 1
  c4 : frac_value e.c4 ≡ rational (pos 0) 1
  c5 : frac_value e.c5 ≡ rational (pos 0) 1

zero_components : (a : Algebra) (e : Ext Frac) → IsElement a e → value_in a e ≡ (scalars a).ops.zero → AreZero e
unfolding value_in scalars quadratic_scalars cubic_scalars
zero_components algebras.Rational e h z = record { c0 = z; c1 = h.past.0; c2 = h.past.1; c3 = h.past.2; c4 = h.past.3; c5 = h.past.4 }
zero_components (algebras.Quadratic m1 m0) e h z =
    record { c0 = ap (λ v. v.c0) z; c1 = ap (λ v. v.c1) z; c2 = h.past.0; c3 = h.past.1; c4 = h.past.2; c5 = h.past.3 }
zero_components (algebras.Cubic m2 m1 m0) e h z =
    record { c0 = ap (λ v. v.c0) z; c1 = ap (λ v. v.c1) z; c2 = ap (λ v. v.c2) z; c3 = h.past.0; c4 = h.past.1; c5 = h.past.2 }
zero_components (algebras.Tower m2 m1 m0 d) e h z =
    record { c0 = ap (λ v. v.c0.c0) z; c1 = ap (λ v. v.c1.c0) z; c2 = ap (λ v. v.c2.c0) z; c3 = ap (λ v. v.c0.c1) z; c4 = ap (λ v. v.c1.c1) z; c5 = ap (λ v. v.c2.c1) z }

both_true : (a b : Bool) → a ≡ true → b ≡ true → (a && b) ≡ true
both_true true b h k = k
both_true false b h k = absurd (true≢false (sym h))

-- a valid element with the value 0 passes the test for zero
pub is_zero_element-zero : (a : Algebra) (e : Ext Frac) → IsElement a e → value_in a e ≡ (scalars a).ops.zero → is_zero_element e ≡ true
is_zero_element-zero a e h z =
    let zero = zero_components a e h z in
    both_true _ _ (is_zero_frac-zero e.c0 h.c0 zero.c0)
    (both_true _ _ (is_zero_frac-zero e.c1 h.c1 zero.c1)
    (both_true _ _ (is_zero_frac-zero e.c2 h.c2 zero.c2)
    (both_true _ _ (is_zero_frac-zero e.c3 h.c3 zero.c3) (both_true _ _ (is_zero_frac-zero e.c4 h.c4 zero.c4) (is_zero_frac-zero e.c5 h.c5 zero.c5)))))

not_both : (b : Bool) → b ≡ true → not b ≡ true → ⊥
not_both true h k = true≢false (sym k)
not_both false h k = true≢false (sym h)

-- ---- terms

-- a monomial in n variables has no variable past the first n
pub monomial_inside : (n : ℕ) (m : Exp) → is_monomial_in n m ≡ true → IsIn n m.e
monomial_inside n m h = zero_past n m.e (and_right (length m.e == 8) (list_all (λ e. e == 0) (drop n m.e)) h)

-- what the test of a term says
pub record IsTermOver (n order : ℕ) (a : Algebra) (t : Exp × Ext Frac) : Type 0 where
  pub inside : IsIn n t.0.e
  pub low : sum t.0.e ≤ order
  pub elem : IsElement a t.1
  pub unit : value_in a t.1 ≢ (scalars a).ops.zero

pub term_over : (n order : ℕ) (a : Algebra) (t : Exp × Ext Frac) → is_term_of n order a t ≡ true → IsTermOver n order a t
term_over n order a t h =
    let first = is_monomial_in n t.0 && nat_le (sum t.0.e) order in
    let last = is_element a t.1 && not (is_zero_element t.1) in
    let monomial = and_left first last h in
    let coefficient = and_right first last h in
    let elem = element_valid a t.1 (and_left (is_element a t.1) (not (is_zero_element t.1)) coefficient) in
    record {
      inside = monomial_inside n t.0 (and_left (is_monomial_in n t.0) (nat_le (sum t.0.e) order) monomial);
      low = leb-true (sum t.0.e) order (and_right (is_monomial_in n t.0) (nat_le (sum t.0.e) order) monomial);
      elem = elem;
      unit = λ z. not_both (is_zero_element t.1) (is_zero_element-zero a t.1 elem z) (and_right (is_element a t.1) (not (is_zero_element t.1)) coefficient);
    }

pub terms_over : (n order : ℕ) (a : Algebra) (terms : List (Exp × Ext Frac)) → list_all (is_term_of n order a) terms ≡ true → AllByRecursion (IsTermOver n order a) terms
terms_over n order a [] h = tt
terms_over n order a (t ∷ ts) h = (
  term_over n order a t (and_left (is_term_of n order a t) (list_all (is_term_of n order a) ts) h),
  terms_over n order a ts (and_right (is_term_of n order a t) (list_all (is_term_of n order a) ts) h),
)

all_of : {X : Type 0} (P Q : X → Type 0) → ((x : X) → P x → Q x) → (xs : List X) → AllByRecursion P xs → All Q xs
all_of P Q f xs a = All-from_recursion Q xs (weaker P Q f xs a)

-- terms that pass the test are those of a jet over the algebra
pub jet_of_terms : (n order : ℕ) (a : Algebra) (terms : List (Exp × Ext Frac)) → list_all (is_term_of n order a) terms ≡ true → IsJet (algebra_meaning a) (record { n = n; order = order; terms = terms })
jet_of_terms n order a terms h =
    let each = terms_over n order a terms h in
    record {
      variables = all_of (IsTermOver n order a) (λ t. IsIn n t.0.e) (λ t k. k.inside) terms each;
      degrees = all_of (IsTermOver n order a) (λ t. sum t.0.e ≤ order) (λ t k. k.low) terms each;
      elems = all_of (IsTermOver n order a) (λ t. IsElement a t.1) (λ t k. k.elem) terms each;
      units = all_of (IsTermOver n order a) (λ t. value_in a t.1 ≢ (scalars a).ops.zero) (λ t k. k.unit) terms each;
    }

-- jets with the same parts are the same
pub same_parts : {E : Type 0} (n m j k : ℕ) (f g : List (Exp × E)) → n ≡ m → j ≡ k → f ≡ g
    → let a : JetTerms E = record { n = n; order = j; terms = f } in let b : JetTerms E = record { n = m; order = k; terms = g } in a ≡ b
same_parts {E} n m j k f g e o t =
    let by_n : ℕ → JetTerms E = λ i. record { n = i; order = j; terms = f } in
    let by_order : ℕ → JetTerms E = λ i. record { n = m; order = i; terms = f } in
    let by_terms : List (Exp × E) → JetTerms E = λ z. record { n = m; order = k; terms = z } in
    ap by_n e ∙ ap by_order o ∙ ap by_terms t

made : (n order : ℕ) (f : JetTerms (Ext Frac)) → f.n ≡ n → f.order ≡ order → record { n = n; order = order; terms = f.terms } ≡ f
made n order f e k = same_parts n f.n order f.order f.terms f.terms (sym e) (sym k) refl

-- a jet of a report is a jet over the ring of its algebra
pub jet_valid : (n order : ℕ) (a : Algebra) (f : JetTerms (Ext Frac)) → IsJetOf n order a f → IsJet (algebra_meaning a) f
jet_valid n order a f h = subst (IsJet (algebra_meaning a)) (made n order f h.variables h.order_is) (jet_of_terms n order a f.terms h.terms)

-- the terms of a report as a polynomial are the polynomial of the list, by the values of the algebra
pub terms_in-poly_of : (n : ℕ) (a : Algebra) (terms : List (Exp × Ext Frac)) → terms_in n a terms ≡ poly_of n (value_in a) terms
unfolding terms_in
terms_in-poly_of n a terms = refl

-- ---- the residual part

-- the residual terms as a jet in the residual variables
abbrev pub residual_jet_of : Carried → JetTerms (Ext Frac)
residual_jet_of c = record { n = c.corank; order = c.order; terms = residual_terms c.corank c.jet.terms }

-- a residual monomial has no variable past the first c
residual_inside : (c : ℕ) (m : Exp) → is_residual c m ≡ true → IsIn c m.e
residual_inside c m h = zero_past c m.e h

-- they are a jet over the ring of the algebra
pub residual_valid : (c : Carried) → IsWellFormedCarried c → IsJet (algebra_meaning c.algebra) (residual_jet_of c)
unfolding residual_terms
residual_valid c w =
    let n = length c.names in
    let a = c.algebra in
    let p : Exp × Ext Frac → Bool = λ t. is_residual c.corank t.0 in
    let j = jet_of_terms n c.order a c.jet.terms w.jet.terms in
    record {
      variables = kept-all p (λ t. IsIn n t.0.e) (λ t. IsIn c.corank t.0.e) (λ t h e. residual_inside c.corank t.0 e) c.jet.terms j.variables;
      degrees = kept-all p (λ t. sum t.0.e ≤ c.order) (λ t. sum t.0.e ≤ c.order) (λ t h e. h) c.jet.terms j.degrees;
      elems = kept-all p (λ t. IsElement a t.1) (λ t. IsElement a t.1) (λ t h e. h) c.jet.terms j.elems;
      units = kept-all p (λ t. value_in a t.1 ≢ (scalars a).ops.zero) (λ t. value_in a t.1 ≢ (scalars a).ops.zero) (λ t h e. h) c.jet.terms j.units;
    }

-- and their polynomial is the residual part
pub residual_polynomial : (c : Carried) → poly_of c.corank (value_in c.algebra) (residual_terms c.corank c.jet.terms) ≡ residual_of c
unfolding residual_part terms_in
residual_polynomial c = refl
