-- The answers of Mather's test and of the quotient over an algebra, at the order k of a jet g in at most three variables, as the rows, the functional, the basis
-- and the table of a carried germ whose residual part is g.
use mathlib.Core.Path.{fun_ext}
use Rattle.std.proofs.Common.{◌≡◌, ◌≢◌, ℕ, zero, suc, ◌+◌, ◌<◌, ◌≤◌, ◌⊎◌, inl, inr, Bool, true, false, not, cond, ◌&&◌, pos, List, [], ◌∷◌, ◌++◌, map, flat_map, length, get_or, sum, drop, refl, sym, ap, ap₂, subst, ◌∙◌, arith, le-leb, eq-eqb}
use Rattle.std.specs.Prelude.{nat_le, ◌==◌}
use Rattle.std.specs.List.{All, AllByRecursion, filter, list_all}
use Rattle.std.proofs.lemmas.List.{length-map, length-append}
use Rattle.std.proofs.lemmas.List.Concat.{flat_map-append}
use Rattle.std.proofs.lemmas.List.Elements.{All-head, All-tail}
use Rattle.ring_theory.specs.Scalars.{Meaning}
use Rattle.ring_theory.specs.Ring.{RingOps, IsCommRing}
use Rattle.ring_law.specs.declared.fraction.Frac.{Frac}
use Rattle.ring_law.specs.Fraction.{IsFrac, frac_value}
use Rattle.ext_algebra.specs.declared.algebra.Algebra.{Algebra}
use Rattle.ext_algebra.specs.declared.algebra.Algebra.TheVariants as algebras
use Rattle.ext_algebra.specs.declared.algebra.Ext.{Ext}
use Rattle.ext_algebra.specs.Fractions.{is_zero_frac}
use Rattle.ext_algebra.specs.Algebra.{Value, IsElement, IsIrreducible, IsFieldAlgebra, is_element, ops, scalars, value_in, algebra_meaning}
use Rattle.ext_algebra.specs.AlgebraLaws.{algebra_scalar_laws}
use Rattle.ext_algebra.proofs.ElementTests.{is_element-IsElement}
use Rattle.ring_law.proofs.FractionLaws.{zero_value}
use Rattle.std.proofs.lemmas.Bool.Decides.{Decides-int_eq}
use Rattle.ext_theory.specs.Tower.{nest}
use Rattle.ext_theory.specs.ExtensionScalars.{quadratic_scalars, cubic_scalars}
use Rattle.poly_law.specs.Sums.{sum_to}
use Rattle.poly_law.specs.Exps.{degree, none}
use Rattle.poly_law.specs.ExpList.{ExpList, exps}
use Rattle.poly_law.specs.ExpList as lists
use Rattle.poly_law.specs.Poly.{coefficient, times, derivative, term, of_basis, poly_ops, StartsAt, IsMatherRow, MatherFails, IsQuotientTable}
use Rattle.poly_law.specs.Polynomials.{Polynomial, StartsAtIn}
use Rattle.poly_law.proofs.ExpLists.{exps_are}
use Rattle.poly_law.proofs.ExpLaws
use Rattle.poly_law.proofs.Order
use Rattle.mono_exp.specs.declared.exponent.Exp.{Exp}
use Rattle.mono_exp.specs.Exponents.{IsIn, exponents, numbers_below, monomials_of, monomials_below}
use Rattle.mono_exp.proofs.Lists.{Each}
use Rattle.mono_exp.proofs.Counting.{IsOf, monomials_are_of, count_below, count-le, place, place_below, before-place}
use Rattle.mono_exp.proofs.Table.{table_counts, length-monomials_below}
use Rattle.mono_exp.proofs.NumberLemmas.{sum-exponents, length-exponents}
use Rattle.jacobian_row.proofs.NumberLemmas.{before_in}
use Rattle.jet_law.specs.Canonical.{monomial_in}
use Rattle.jet_law.specs.Terms.{exp_of, poly_of}
use Rattle.jet_law.proofs.TermLemmas.{degree-exp_of}
use Rattle.jet_poly.specs.JetTerms.{JetTerms, IsRising, AllAfter}
use Rattle.jet_poly.specs.Jets.{polynomial_of}
use Rattle.jacobian_row.specs.Rows.{polynomial_at}
use Rattle.jacobian_row.proofs.Membership.{each_unmap}
use Rattle.determinacy.specs.declared.row.MatherRow.{MatherRow}
use Rattle.determinacy.specs.declared.row.MatherTest.{MatherTest}
use Rattle.determinacy.specs.declared.row.MatherTest.TheVariants.{Holds, Fails}
use Rattle.determinacy.specs.Tests as tests
use Rattle.determinacy.specs.Tests.{IsMonomialIn}
use Rattle.milnor_alg.specs.declared.quotient.JetQuotient.{JetQuotient}
use Rattle.milnor_alg.specs.declared.quotient.TableRow.{TableRow}
use Rattle.milnor_alg.specs.Rows.{basis_at, row_of, values_at}
use Rattle.jet_quotient.specs.Quotients as quotients
use Rattle.jet_quotient.proofs.AnswerFacts.{degrees_low}
use Rattle.normal_forms.specs.Monomials.{in_eight, monomials_in}
use Rattle.normal_forms.proofs.Padded.{in_eight-in}
use Rattle.cert_text.specs.declared.report.Carried.{Carried}
use Rattle.cert_text.specs.declared.report.Named as named_type
use Rattle.cert_text.specs.WellFormed as texts
use Rattle.cert_text.specs.WellFormed.{is_zero_element, is_term_of, is_monomial_in, is_low_monomial, is_residual_monomial, is_functional_value, list_limit}
use Rattle.report_law.specs.Polynomials.{terms_in, jet_at, value_at, zero_element}
use Rattle.report_law.specs.Items.{residual_of, basis_of, values_of_row, multipliers_of_row, IsRowOf, AreMatherRows, IsMilnorTable}
use Rattle.report_law.proofs.Listing.{listed_as}
use Rattle.line_syntax.proofs.Bools.{and_left, and_right}
use Rattle.report_law.proofs.Splitting.{and_both, all_zero_past}
use Rattle.report_jet.proofs.ReportJets.{algebra_valid}
use Rattle.certificate.specs.Evidence.{IsReportedFunctional, IsReportedTest, IsReportedQuotient}

-- ---- entries of lists, by their values

-- an entry has the same value by two defaults of the same value
by_default : {X Y : Type 0} (f : X → Y) (xs : List X) (i : ℕ) (d e : X) → f d ≡ f e → f (get_or xs i d) ≡ f (get_or xs i e)
by_default f [] i d e h = h
by_default f (x ∷ xs) zero d e h = refl
by_default f (x ∷ xs) (suc i) d e h = by_default f xs i d e h

-- the value of an entry is the entry of the values
image_at : {X Y : Type 0} (f : X → Y) (xs : List X) (i : ℕ) (d : X) (z : Y) → f d ≡ z → f (get_or xs i d) ≡ get_or (map f xs) i z
image_at f [] i d z h = h
image_at f (x ∷ xs) zero d z h = refl
image_at f (x ∷ xs) (suc i) d z h = image_at f xs i d z h

-- what holds of each element gives what holds of each image
each_image : {X Y : Type 0} (P : X → Type 0) (Q : Y → Type 0) (f : X → Y) → ((x : X) → P x → Q (f x)) → (xs : List X) → AllByRecursion P xs → AllByRecursion Q (map f xs)
each_image P Q f h [] all = tt
each_image P Q f h (x ∷ xs) all = (h x all.0, each_image P Q f h xs all.1)

-- what holds of each element gives what is weaker
weaker : {X : Type 0} (P Q : X → Type 0) → ((x : X) → P x → Q x) → (xs : List X) → AllByRecursion P xs → AllByRecursion Q xs
weaker P Q h [] all = tt
weaker P Q h (x ∷ xs) all = (h x all.0, weaker P Q h xs all.1)

-- elements that pass a test one by one pass it as a list
list_passes : {X : Type 0} (P : X → Type 0) (p : X → Bool) → ((x : X) → P x → p x ≡ true) → (xs : List X) → AllByRecursion P xs → list_all p xs ≡ true
list_passes P p h [] all = refl
list_passes P p h (x ∷ xs) all = and_both (p x) (list_all p xs) (h x all.0) (list_passes P p h xs all.1)

-- ---- how many monomials there are

-- at most 1,140 monomials of degree at most 17 in at most three variables
few_monomials : (n d : ℕ) → n ≤ 3 → d ≤ 18 → count_below n d ≤ 1140
few_monomials zero d few low = let a = count-le 0 d 18 low in let b : 1 ≡ count_below 0 18 = table_counts 0 18 (omega arith) (omega arith) in omega arith
few_monomials (suc zero) d few low = let a = count-le 1 d 18 low in let b : 18 ≡ count_below 1 18 = table_counts 1 18 (omega arith) (omega arith) in omega arith
few_monomials (suc (suc zero)) d few low = let a = count-le 2 d 18 low in let b : 171 ≡ count_below 2 18 = table_counts 2 18 (omega arith) (omega arith) in omega arith
few_monomials (suc (suc (suc zero))) d few low = let a = count-le 3 d 18 low in let b : 1140 ≡ count_below 3 18 = table_counts 3 18 (omega arith) (omega arith) in omega arith
few_monomials (suc (suc (suc (suc n)))) d few low = absurd (omega arith)

-- all monomials of one degree are among those of degree at most that
of_degree_below : (n d : ℕ) → length (monomials_of n d) ≤ length (monomials_below n (suc d))
unfolding monomials_below
of_degree_below n d =
    let e = ap (λ (l : List (List ℕ)). length l) (flat_map-append (monomials_of n) (numbers_below d) (d ∷ [])) in
    let f = length-append (flat_map (monomials_of n) (numbers_below d)) (monomials_of n d ++ []) in
    let g = length-append (monomials_of n d) [] in
    omega arith

-- so there are at most 1,140 of degree at most 17
few_below : (n d : ℕ) → n ≤ 3 → d ≤ 18 → length (monomials_below n d) ≤ 1140
few_below n d few low = let a = length-monomials_below n d in let b = few_monomials n d few low in omega arith

few_of_degree : (n d : ℕ) → n ≤ 3 → d ≤ 17 → length (monomials_of n d) ≤ 1140
few_of_degree n d few low = let a = of_degree_below n d in let b = few_below n (suc d) few (omega arith) in omega arith

-- no monomial of positive degree in no variable
none_without_variables : (k : ℕ) → monomials_of 0 (k + 1) ≡ []
unfolding monomials_of
none_without_variables k = ap (monomials_of 0) (let e : k + 1 ≡ suc k = omega arith in e)

-- a monomial of eight exponents passes the test of a report's monomials
monomial_valid : (n : ℕ) (a : Exp) → IsMonomialIn n a → is_monomial_in n a ≡ true
monomial_valid n a h = and_both (length a.e == 8) (list_all (λ x. x == 0) (drop n a.e)) (eq-eqb (length a.e) 8 h.long) (all_zero_past n a.e h.unused)

-- the number of a monomial of degree at most 17 is below that of the monomials of degree 18
place_low : (n : ℕ) (m : Exp) → IsIn n m.e → sum m.e ≤ 17 → place (exponents n m.e) < count_below n 18
place_low n m unused low =
    let e = exponents n m.e in
    let same : sum e ≡ sum m.e = sum-exponents n m.e unused in
    let up : count_below n (suc (sum e)) ≤ count_below n 18 = count-le n (suc (sum e)) 18 (omega arith) in
    let here : place e < count_below n (suc (sum e)) = subst (λ k. place e < count_below k (suc (sum e))) (length-exponents n m.e) (place_below e) in
    omega arith

-- the monomials behind one have greater numbers
later_places : {E : Type 0} (n : ℕ) (m : Exp) (ts : List (Exp × E)) → IsIn n m.e → All (λ t. IsIn n t.0.e) ts → AllAfter m ts → All (λ t. suc (place (exponents n m.e)) ≤ place (exponents n t.0.e)) ts
later_places n m [] im is after i t h = absurd (omega arith)
later_places n m (t ∷ ts) im is after zero u h =
    before-place (exponents n m.e) (exponents n t.0.e) (length-exponents n m.e ∙ sym (length-exponents n t.0.e)) (before_in n m.e t.0.e im (is zero u (omega arith)) after.0)
later_places {E} n m (t ∷ ts) im is after (suc i) u h = later_places n m ts im (All-tail (λ (t : Exp × E). IsIn n t.0.e) t ts is) after.1 i u (omega arith)

-- rising terms of degree at most 17 are at most as many as there are numbers from a lower bound of theirs on
few_from : {E : Type 0} (n low : ℕ) (ts : List (Exp × E)) → low ≤ count_below n 18 → IsRising ts → All (λ t. IsIn n t.0.e) ts → All (λ t. sum t.0.e ≤ 17) ts
    → All (λ t. low ≤ place (exponents n t.0.e)) ts → low + length ts ≤ count_below n 18
few_from n low [] h rising inside small later = omega arith
few_from {E} n low (t ∷ ts) h rising inside small later =
    let it = All-head (λ (t : Exp × E). IsIn n t.0.e) t ts inside in
    let place_is = place_low n t.0 it (All-head (λ (t : Exp × E). sum t.0.e ≤ 17) t ts small) in
    let here : low ≤ place (exponents n t.0.e) = All-head (λ (t : Exp × E). low ≤ place (exponents n t.0.e)) t ts later in
    let rest = few_from n (suc (place (exponents n t.0.e))) ts place_is rising.1 (All-tail (λ (t : Exp × E). IsIn n t.0.e) t ts inside) (All-tail (λ (t : Exp × E). sum t.0.e ≤ 17) t ts small)
    (later_places n t.0 ts it (All-tail (λ (t : Exp × E). IsIn n t.0.e) t ts inside) rising.0) in
    omega arith

-- the element 0 stands for 0
zero_is : (a : Algebra) → value_in a zero_element ≡ (ops a).zero
unfolding value_in scalars quadratic_scalars cubic_scalars
zero_is algebras.Rational = refl
zero_is (algebras.Quadratic m1 m0) = refl
zero_is (algebras.Cubic m2 m1 m0) = refl
zero_is (algebras.Tower m2 m1 m0 d) = refl

-- a valid fraction that passes the test for 0 is 0
zero_fraction : (f : Frac) → IsFrac f → is_zero_frac f ≡ true → frac_value f ≡ frac_value (zero_element).c0
zero_fraction f h t = zero_value f h ((Decides-int_eq f.num (pos 0)).0 t)

-- elements with the components of 0 stand for the same number
zero_components : (a : Algebra) (e : Ext Frac) → frac_value e.c0 ≡ frac_value zero_element.c0 → frac_value e.c1 ≡ frac_value zero_element.c1 → frac_value e.c2 ≡ frac_value zero_element.c2
    → frac_value e.c3 ≡ frac_value zero_element.c3 → frac_value e.c4 ≡ frac_value zero_element.c4 → frac_value e.c5 ≡ frac_value zero_element.c5 → value_in a e ≡ value_in a zero_element
unfolding value_in
zero_components algebras.Rational e q0 q1 q2 q3 q4 q5 = q0
zero_components (algebras.Quadratic m1 m0) e q0 q1 q2 q3 q4 q5 = ap₂ (λ x y. record { c0 = x; c1 = y }) q0 q1
zero_components (algebras.Cubic m2 m1 m0) e q0 q1 q2 q3 q4 q5 =
    ap₂ (λ x y. record { c0 = x; c1 = y; c2 = frac_value e.c2 }) q0 q1 ∙ ap (λ z. record { c0 = frac_value zero_element.c0; c1 = frac_value zero_element.c1; c2 = z }) q2
zero_components (algebras.Tower m2 m1 m0 d) e q0 q1 q2 q3 q4 q5 =
    ap₂ (λ x y. nest (record { c0 = x; c1 = y; c2 = frac_value e.c2; c3 = frac_value e.c3; c4 = frac_value e.c4; c5 = frac_value e.c5 })) q0 q1
    ∙ ap₂ (λ x y. nest (record { c0 = frac_value zero_element.c0; c1 = frac_value zero_element.c1; c2 = x; c3 = y; c4 = frac_value e.c4; c5 = frac_value e.c5 })) q2 q3
    ∙ ap₂ (λ x y. nest (record { c0 = frac_value zero_element.c0; c1 = frac_value zero_element.c1; c2 = frac_value zero_element.c2; c3 = frac_value zero_element.c3; c4 = x; c5 = y })) q4 q5

-- a valid element that passes the test for 0 stands for the same number as the element 0
zero_number : (a : Algebra) (e : Ext Frac) → IsElement a e → is_zero_element e ≡ true → value_in a e ≡ (ops a).zero
zero_number a e v t =
    let r0 = and_right (is_zero_frac e.c0) (is_zero_frac e.c1 && (is_zero_frac e.c2 && (is_zero_frac e.c3 && (is_zero_frac e.c4 && is_zero_frac e.c5)))) t in
    let r1 = and_right (is_zero_frac e.c1) (is_zero_frac e.c2 && (is_zero_frac e.c3 && (is_zero_frac e.c4 && is_zero_frac e.c5))) r0 in
    let r2 = and_right (is_zero_frac e.c2) (is_zero_frac e.c3 && (is_zero_frac e.c4 && is_zero_frac e.c5)) r1 in
    let r3 = and_right (is_zero_frac e.c3) (is_zero_frac e.c4 && is_zero_frac e.c5) r2 in
    zero_components a e
    (zero_fraction e.c0 v.c0 (and_left (is_zero_frac e.c0) (is_zero_frac e.c1 && (is_zero_frac e.c2 && (is_zero_frac e.c3 && (is_zero_frac e.c4 && is_zero_frac e.c5)))) t))
    (zero_fraction e.c1 v.c1 (and_left (is_zero_frac e.c1) (is_zero_frac e.c2 && (is_zero_frac e.c3 && (is_zero_frac e.c4 && is_zero_frac e.c5))) r0))
    (zero_fraction e.c2 v.c2 (and_left (is_zero_frac e.c2) (is_zero_frac e.c3 && (is_zero_frac e.c4 && is_zero_frac e.c5)) r1))
    (zero_fraction e.c3 v.c3 (and_left (is_zero_frac e.c3) (is_zero_frac e.c4 && is_zero_frac e.c5) r2))
    (zero_fraction e.c4 v.c4 (and_left (is_zero_frac e.c4) (is_zero_frac e.c5) r3))
    (zero_fraction e.c5 v.c5 (and_right (is_zero_frac e.c4) (is_zero_frac e.c5) r3))
    ∙ zero_is a

module _ (base : Carried) where
  -- its algebra
  abbrev A : Algebra
  A = base.algebra

  -- its order
  abbrev k : ℕ
  k = base.order

  -- the elements of the algebra and their numbers
  abbrev meaning : Meaning (Ext Frac) (Value A)
  meaning = algebra_meaning A

  -- ---- jets

  -- the polynomials of jets are those of a report
  jets_same : (n : ℕ) (jets : List (JetTerms (Ext Frac))) → polynomial_at n (value_in A) jets ≡ jet_at n A jets
  unfolding terms_in jet_at
  jets_same n jets = fun_ext λ i. by_default (λ (f : JetTerms (Ext Frac)). poly_of n (value_in A) f.terms) jets i (record { n = 0; order = 0; terms = [] }) (record { n = n; order = 0; terms = [] }) refl

  -- a number that is not 0 is that of an element which is not 0
  apart : (e : Ext Frac) → IsElement A e → value_in A e ≢ (ops A).zero → not (is_zero_element e) ≡ true
  apart e valid unit = step (is_zero_element e) refl
    where
      step : (b : Bool) → is_zero_element e ≡ b → not b ≡ true
      step true q = absurd (unit (zero_number A e valid q))
      step false q = refl

  module _ (n o : ℕ) where
    -- a term of a jet passes the test of a report
    term_valid : (t : Exp × Ext Frac) → IsMonomialIn n t.0 → sum t.0.e ≤ o → IsElement A t.1 → value_in A t.1 ≢ (ops A).zero → is_term_of n o A t ≡ true
    term_valid t h low valid unit =
        and_both (texts.is_monomial_in n t.0 && nat_le (sum t.0.e) o) (is_element A t.1 && not (is_zero_element t.1))
        (and_both (texts.is_monomial_in n t.0) (nat_le (sum t.0.e) o) (monomial_valid n t.0 h) (le-leb (sum t.0.e) o low))
        (and_both (is_element A t.1) (not (is_zero_element t.1)) ((is_element-IsElement A t.1).1 valid) (apart t.1 valid unit))

    -- so do all terms
    terms_valid : (ts : List (Exp × Ext Frac)) → All (λ t. IsIn n t.0.e) ts → All (λ t. length t.0.e ≡ 8) ts → All (λ t. sum t.0.e ≤ o) ts → All (λ t. IsElement A t.1) ts
        → All (λ t. value_in A t.1 ≢ (ops A).zero) ts → list_all (is_term_of n o A) ts ≡ true
    terms_valid [] a b c d e = refl
    terms_valid (t ∷ ts) a b c d e =
        and_both (is_term_of n o A t) (list_all (is_term_of n o A) ts)
        (term_valid t (record { unused = All-head (λ (t : Exp × Ext Frac). IsIn n t.0.e) t ts a; long = All-head (λ (t : Exp × Ext Frac). length t.0.e ≡ 8) t ts b }) (All-head (λ (t : Exp × Ext Frac). sum t.0.e ≤ o) t ts c)
        (All-head (λ (t : Exp × Ext Frac). IsElement A t.1) t ts d) (All-head (λ (t : Exp × Ext Frac). value_in A t.1 ≢ (ops A).zero) t ts e))
        (terms_valid ts (All-tail (λ (t : Exp × Ext Frac). IsIn n t.0.e) t ts a) (All-tail (λ (t : Exp × Ext Frac). length t.0.e ≡ 8) t ts b) (All-tail (λ (t : Exp × Ext Frac). sum t.0.e ≤ o) t ts c)
        (All-tail (λ (t : Exp × Ext Frac). IsElement A t.1) t ts d) (All-tail (λ (t : Exp × Ext Frac). value_in A t.1 ≢ (ops A).zero) t ts e))

    -- a jet of the calls is a jet of a report
    jet_valid : (f : JetTerms (Ext Frac)) → tests.IsJetOf meaning n o f → texts.IsJetOf n o A f
    jet_valid f h = record {
      variables = h.variables;
      order_is = h.order;
      rising = h.rising;
      terms = terms_valid f.terms (subst (λ i. All (λ (t : Exp × Ext Frac). IsIn i t.0.e) f.terms) h.variables h.jet.variables) h.long (subst (λ z. All (λ (t : Exp × Ext Frac). sum t.0.e ≤ z) f.terms) h.order h.jet.degrees) h.jet.elems h.jet.units;
    }

  module _ (within : k ≤ 16) (g : JetTerms (Ext Frac)) (few : g.n ≤ 3) where
    zero_or_one : (n : ℕ) → (n ≡ 0) ⊎ (1 ≤ n)
    zero_or_one n = grind arith

    -- ---- the rows of Mather's test

    module _ (rows : List (MatherRow (Ext Frac))) (are : tests.AreRows meaning g k rows) where
      -- there are at most 1,140 rows
      count : length rows ≤ 1140
      count =
          let a = length-map rows (λ row. exponents g.n row.monomial.e) in
          let b = ap (λ (l : List (List ℕ)). length l) are.monomials in
          let c = few_of_degree g.n (k + 1) few (omega arith) in
          omega arith

      monomials_are : map (λ row. row.monomial) rows ≡ map in_eight (monomials_of g.n (k + 1))
      monomials_are =
          listed_as g.n (map (λ row. row.monomial) rows) (monomials_of g.n (k + 1)) (each_image (tests.IsRow meaning g k) (IsMonomialIn g.n) (λ row. row.monomial) (λ row h. h.monomial) rows are.each) (list rows ∙ are.monomials)
        where
          list : (rs : List (MatherRow (Ext Frac))) → map (λ a. exponents g.n a.e) (map (λ row. row.monomial) rs) ≡ map (λ row. exponents g.n row.monomial.e) rs
          list [] = refl
          list (r ∷ rs) = ap (λ (l : List (List ℕ)). exponents g.n r.monomial.e ∷ l) (list rs)

      -- of degree k + 1
      degrees : Each (λ row. IsOf g.n (k + 1) (exponents g.n row.monomial.e)) rows
      degrees = each_unmap (IsOf g.n (k + 1)) (λ row. exponents g.n row.monomial.e) rows (subst (Each (IsOf g.n (k + 1))) (sym are.monomials) (monomials_are_of g.n (k + 1)))

    -- ---- the quotient

    module _ (low : StartsAtIn g.n (ops A) 2 (polynomial_of meaning g)) (q : JetQuotient (Ext Frac)) (is : quotients.IsQuotientOf meaning g k q) where
      list : (rs : List (TableRow (Ext Frac))) → map (λ a. exponents g.n a.e) (map (λ row. row.monomial) rs) ≡ map (λ row. exponents g.n row.monomial.e) rs
      list [] = refl
      list (r ∷ rs) = ap (λ (l : List (List ℕ)). exponents g.n r.monomial.e ∷ l) (list rs)

      -- the monomials of the table are in the variables of g
      all_in : AllByRecursion (IsMonomialIn g.n) (map (λ row. row.monomial) q.table)
      all_in = each_image (quotients.IsTableRow meaning g.n k (length q.basis)) (IsMonomialIn g.n) (λ row. row.monomial) (λ row h. h.monomial) q.table is.rows

      -- at most 1,140 rows
      table_size : length q.table ≤ 1140
      table_size =
          let a = length-map q.table (λ row. exponents g.n row.monomial.e) in
          let b = ap (λ (l : List (List ℕ)). length l) is.monomials in
          let c = few_below g.n (k + 1) few (omega arith) in
          omega arith

      -- some elements of a list are no more than all
      filter_short : (p : List ℕ → Bool) (xs : List (List ℕ)) → length (filter p xs) ≤ length xs
      filter_short p [] = omega arith
      filter_short p (x ∷ xs) = step (p x) (filter_short p xs)
        where
          step : (b : Bool) → length (filter p xs) ≤ length xs → length (cond b (x ∷ filter p xs) (filter p xs)) ≤ suc (length xs)
          step true h = omega arith
          step false h = omega arith

      -- at most 1,140 monomials in the basis
      basis_size : length q.basis ≤ 1140
      basis_size =
          let a = length-map q.basis (λ b. exponents g.n b.e) in
          let b = ap (λ (l : List (List ℕ)). length l) is.basis.list in
          let c = filter_short is.basis.chosen (monomials_below g.n (k + 1)) in
          let d = few_below g.n (k + 1) few (omega arith) in
          omega arith

      -- ---- 1 is in no multiple of a partial, so the basis is not empty

      abbrev r : RingOps (Value A)
      r = ops A

      abbrev one : ExpList g.n
      one = none (exps g.n)

      laws : IsCommRing r
      laws = (algebra_scalar_laws A).ring

      nontrivial : r.one ≢ r.zero
      nontrivial = (algebra_scalar_laws A).nontrivial

      -- a combination of the partials has no constant term
      combination_starts : (multiplier : ℕ → Polynomial g.n (Value A)) (n : ℕ) → n ≤ g.n → StartsAt (exps g.n) r 1 (sum_to (poly_ops (exps g.n) r) n (λ i. times (exps g.n) r (multiplier i) (derivative (exps g.n) r i (polynomial_of meaning g))))
      combination_starts multiplier zero h = λ m l. refl
      combination_starts multiplier (suc n) h =
          Order.starts_append (exps g.n) (exps_are g.n) r laws 1 (sum_to (poly_ops (exps g.n) r) n (λ i. times (exps g.n) r (multiplier i) (derivative (exps g.n) r i (polynomial_of meaning g))))
          (times (exps g.n) r (multiplier n) (derivative (exps g.n) r n (polynomial_of meaning g))) (combination_starts multiplier n (omega arith))
          (Order.starts_times (exps g.n) (exps_are g.n) r laws 0 1 (multiplier n) (derivative (exps g.n) r n (polynomial_of meaning g)) (λ m l. absurd (omega arith))
          (Order.starts_derivative (exps g.n) (exps_are g.n) r laws n 1 (polynomial_of meaning g) (omega arith) low))

      -- less a combination of no basis monomials it is itself
      nothing_taken : (size : ℕ) → size ≡ 0 → (basis : ℕ → ExpList g.n) (values : ℕ → Value A) → coefficient (exps g.n) r (term (exps g.n) r one ++ (poly_ops (exps g.n) r).neg (of_basis (exps g.n) r size basis values)) one ≡ r.one
      nothing_taken zero h basis values =
          ap (λ b. r.add (cond b r.one r.zero) r.zero) (ExpLaws.same_refl (exps g.n) (exps_are g.n) one) ∙ laws.add_zero r.one
      nothing_taken (suc size) h basis values = absurd (omega arith)

      pub some_in_basis : 1 ≤ length q.basis
      some_in_basis = step (zero_or_one (length q.basis))
        where
          step : (length q.basis ≡ 0) ⊎ (1 ≤ length q.basis) → 1 ≤ length q.basis
          step (inr h) = h
          step (inl z) =
              let d : degree (exps g.n) one ≡ 0 = ExpLaws.degree-none (exps g.n) (exps_are g.n) in
              let multiplier = quotients.multipliers_at meaning g.n q.table one in
              absurd (nontrivial (sym (nothing_taken (length q.basis) z (basis_at g.n q.basis) (values_at meaning g.n q.table one))
              ∙ is.table.adds_up one (omega arith) one (omega arith) ∙ combination_starts multiplier g.n (omega arith) one (omega arith)))

      -- the monomials of the table have degree at most k
      table_degrees : All (λ a. sum a.e ≤ k) (map (λ row. row.monomial) q.table)
      table_degrees = degrees_low g.n k (map (λ row. row.monomial) q.table) (list q.table ∙ is.monomials ∙ ap (monomials_below g.n) (let e : k + 1 ≡ suc k = omega arith in e)) (unused (map (λ row. row.monomial) q.table) all_in)
        where
          unused : (ms : List Exp) → AllByRecursion (IsMonomialIn g.n) ms → All (λ a. IsIn g.n a.e) ms
          unused [] all j d h = absurd (omega arith)
          unused (a ∷ ms) all zero d h = all.0.unused
          unused (a ∷ ms) all (suc j) d h = unused ms all.1 j d (omega arith)

      -- so have those of the basis
      basis_degrees : All (λ b. degree (exps g.n) (exp_of g.n b) ≤ k) q.basis
      basis_degrees i b h = subst (λ (c : Exp). degree (exps g.n) (exp_of g.n c) ≤ k) (same_at q.basis i b (record { e = [] }) h) (is.table.low i h)
        where
          same_at : (xs : List Exp) (i : ℕ) (a b : Exp) → i < length xs → get_or xs i b ≡ get_or xs i a
          same_at [] i a b h = absurd (omega arith)
          same_at (x ∷ xs) zero a b h = refl
          same_at (x ∷ xs) (suc i) a b h = same_at xs i a b (omega arith)

      pub few_in_basis : length q.basis ≤ list_limit
      few_in_basis = let h = basis_size in omega arith

      pub few_in_table : length q.table ≤ list_limit
      few_in_table = let h = table_size in omega arith

    -- ---- in a report

    module _ where
      -- the carried germ with the variables of g
      abbrev F : Carried
      F = record base { corank = g.n }

      -- multipliers of the calls are multipliers of a report
      jets_valid : (fs : List (JetTerms (Ext Frac))) → length fs ≡ g.n → AllByRecursion (tests.IsJetOf meaning g.n k) fs → texts.AreMultipliers F fs
      jets_valid fs count all = record { count = count; each = weaker (tests.IsJetOf meaning g.n k) (texts.IsJetOf g.n k A) (jet_valid g.n k) fs all }

      -- a monomial of degree at most 17 is one of a report
      residual_monomial : (a : Exp) → IsMonomialIn g.n a → sum a.e ≤ 17 → is_residual_monomial F a ≡ true
      residual_monomial a h low = and_both (texts.is_monomial_in g.n a) (nat_le (sum a.e) 17) (monomial_valid g.n a h) (le-leb (sum a.e) 17 low)

      module _ (rows : List (MatherRow (Ext Frac))) (are : tests.AreRows meaning g k rows) where
        -- they are rows of a report with this residual part
        pub rows_are : residual_of F ≡ polynomial_of meaning g → AreMatherRows F rows
        rows_are residual = record { monomials = monomials_are rows are; each = weaker (tests.IsRow meaning g k) (IsRowOf F) is_row rows are.each }
          where
            is_row : (row : MatherRow (Ext Frac)) → tests.IsRow meaning g k row → IsRowOf F row
            is_row row h =
                subst (λ f. IsMatherRow (exps g.n) (ops A) k f (monomial_in g.n row.monomial.e) (jet_at g.n A row.multipliers)) (sym residual)
                (subst (IsMatherRow (exps g.n) (ops A) k (polynomial_of meaning g) (monomial_in g.n row.monomial.e)) (jets_same g.n row.multipliers) h.is_row)

        row_valid : 1 ≤ g.n → (row : MatherRow (Ext Frac)) → tests.IsRow meaning g k row → IsOf g.n (k + 1) (exponents g.n row.monomial.e) → texts.IsWellFormedRow F row
        row_valid some row h of = record {
          residual = some;
          monomial = residual_monomial row.monomial h.monomial (let a = of.degree in let b = sum-exponents g.n row.monomial.e h.monomial.unused in omega arith);
          multipliers = jets_valid row.multipliers h.count h.jets;
        }

        rows_valid : (rs : List (MatherRow (Ext Frac))) → (length rs ≡ 0) ⊎ (1 ≤ g.n) → AllByRecursion (tests.IsRow meaning g k) rs → Each (λ row. IsOf g.n (k + 1) (exponents g.n row.monomial.e)) rs → AllByRecursion (texts.IsWellFormedRow F) rs
        rows_valid [] some all of = tt
        rows_valid (r ∷ rs) (inl no_row) all of = absurd (omega arith)
        rows_valid (r ∷ rs) (inr some) all of = (row_valid some r all.0 of.0, rows_valid rs (inr some) all.1 of.1)

        -- and a report can hold them
        pub well_formed : texts.AreRows F rows
        well_formed = record { few = let c = count rows are in omega arith; each = rows_valid rows (some (zero_or_one g.n)) are.each (degrees rows are) }
          where
            some : (g.n ≡ 0) ⊎ (1 ≤ g.n) → (length rows ≡ 0) ⊎ (1 ≤ g.n)
            some (inl z) =
                let a = length-map rows (λ row. exponents g.n row.monomial.e) in
                let b = ap (λ (l : List (List ℕ)). length l) (are.monomials ∙ ap (λ n. monomials_of n (k + 1)) z ∙ none_without_variables k) in
                inl (omega arith)
            some (inr s) = inr s

      module _ (low : StartsAtIn g.n (ops A) 2 (polynomial_of meaning g)) (q : JetQuotient (Ext Frac)) (is : quotients.IsQuotientOf meaning g k q) where
        pub basis_valid : list_all (is_residual_monomial F) q.basis ≡ true
        basis_valid = go q.basis is.basis.are_in (basis_degrees low q is)
          where
            go : (bs : List Exp) → AllByRecursion (IsMonomialIn g.n) bs → All (λ b. degree (exps g.n) (exp_of g.n b) ≤ k) bs → list_all (is_residual_monomial F) bs ≡ true
            go [] all low = refl
            go (b ∷ bs) all low =
                and_both (is_residual_monomial F b) (list_all (is_residual_monomial F) bs)
                (residual_monomial b all.0 (let d = degree-exp_of g.n b all.0.unused in let l = low 0 b (omega arith) in omega arith)) (go bs all.1 (λ i c h. low (suc i) c (omega arith)))

        table_row_valid : (row : TableRow (Ext Frac)) → quotients.IsTableRow meaning g.n k (length q.basis) row → sum row.monomial.e ≤ k → texts.IsWellFormedTableRow F (length q.basis) row
        table_row_valid row h small = record {
          monomial = residual_monomial row.monomial h.monomial (omega arith);
          count = h.values;
          values = list_passes (IsElement A) (is_element A) (λ e v. (is_element-IsElement A e).1 v) row.values h.elems;
          multipliers = jets_valid row.multipliers h.multipliers h.jets;
        }

        table_rows_valid : (rows : List (TableRow (Ext Frac))) → AllByRecursion (quotients.IsTableRow meaning g.n k (length q.basis)) rows → All (λ (a : Exp). sum a.e ≤ k) (map (λ row. row.monomial) rows) → AllByRecursion (texts.IsWellFormedTableRow F (length q.basis)) rows
        table_rows_valid [] all low = tt
        table_rows_valid (row ∷ rows) all low = (table_row_valid row all.0 (low 0 row.monomial (omega arith)), table_rows_valid rows all.1 (λ i a h. low (suc i) a (omega arith)))

        pub table_valid : AllByRecursion (texts.IsWellFormedTableRow F (length q.basis)) q.table
        table_valid = table_rows_valid q.table is.rows (table_degrees low q is)

        module _ (residual : residual_of F ≡ polynomial_of meaning g) (other : named_type.Named) where
          abbrev R : named_type.Named
          R = record other { carried = F; milnor = length q.basis; quotient = q }

          no_exponents : exp_of g.n (record { e = [] }) ≡ monomial_in g.n (in_eight []).e
          no_exponents = ap (lists.exp_of g.n) (fun_ext λ i. sym (in_eight-in 0 [] (omega arith) i (omega arith)))

          basis_same : basis_at g.n q.basis ≡ basis_of R
          basis_same = fun_ext λ i. by_default (exp_of g.n) q.basis i (record { e = [] }) (in_eight []) no_exponents

          values_same : values_at meaning g.n q.table ≡ values_of_row R
          unfolding value_at value_in scalars
          values_same = fun_ext λ m. fun_ext λ j.
              sym (image_at (value_in A) (row_of g.n q.table m).values j zero_element (ops A).zero (zero_is A))

          multipliers_same : quotients.multipliers_at meaning g.n q.table ≡ multipliers_of_row R
          multipliers_same = fun_ext λ m. jets_same g.n (row_of g.n q.table m).multipliers

          pub table_is : IsMilnorTable R
          table_is = record {
            monomials = listed_as g.n (map (λ row. row.monomial) q.table) (monomials_below g.n (k + 1)) (all_in low q is) (list low q is q.table ∙ is.monomials);
            quotient =
                subst (λ f. IsQuotientTable (exps g.n) (ops A) k f (length q.basis) (basis_of R) (values_of_row R) (multipliers_of_row R)) (sym residual)
                (subst (λ b. IsQuotientTable (exps g.n) (ops A) k (polynomial_of meaning g) (length q.basis) b (values_of_row R) (multipliers_of_row R)) basis_same
                (subst (λ v. IsQuotientTable (exps g.n) (ops A) k (polynomial_of meaning g) (length q.basis) (basis_at g.n q.basis) v (multipliers_of_row R)) values_same
                (subst (IsQuotientTable (exps g.n) (ops A) k (polynomial_of meaning g) (length q.basis) (basis_at g.n q.basis) (values_at meaning g.n q.table)) multipliers_same is.table)));
            number = refl;
          }

    -- ---- the functional

    module _ (functional : List (Exp × Ext Frac)) (at : Exp) (is : tests.IsFailure meaning g k functional at) where
      -- its terms pass the test of a report
      values_valid : (ts : List (Exp × Ext Frac)) → All (λ t. IsIn g.n t.0.e) ts → All (λ t. length t.0.e ≡ 8) ts → All (λ t. sum t.0.e ≤ k + 1) ts → All (λ t. IsElement A t.1) ts
          → All (λ t. value_in A t.1 ≢ (ops A).zero) ts → list_all (is_functional_value A g.n) ts ≡ true
      values_valid [] b c d e f = refl
      values_valid (t ∷ ts) b c d e f =
          and_both (is_functional_value A g.n t) (list_all (is_functional_value A g.n) ts)
          (and_both (is_low_monomial g.n t.0) (is_element A t.1 && not (is_zero_element t.1))
          (and_both (is_monomial_in g.n t.0) (nat_le (sum t.0.e) 17)
          (monomial_valid g.n t.0 (record { unused = All-head (λ (t : Exp × Ext Frac). IsIn g.n t.0.e) t ts b; long = All-head (λ (t : Exp × Ext Frac). length t.0.e ≡ 8) t ts c }))
          (le-leb (sum t.0.e) 17 (let h = All-head (λ (t : Exp × Ext Frac). sum t.0.e ≤ k + 1) t ts d in omega arith)))
          (and_both (is_element A t.1) (not (is_zero_element t.1)) ((is_element-IsElement A t.1).1 (All-head (λ (t : Exp × Ext Frac). IsElement A t.1) t ts e))
          (apart t.1 (All-head (λ (t : Exp × Ext Frac). IsElement A t.1) t ts e) (All-head (λ (t : Exp × Ext Frac). value_in A t.1 ≢ (ops A).zero) t ts f))))
          (values_valid ts (All-tail (λ (t : Exp × Ext Frac). IsIn g.n t.0.e) t ts b) (All-tail (λ (t : Exp × Ext Frac). length t.0.e ≡ 8) t ts c) (All-tail (λ (t : Exp × Ext Frac). sum t.0.e ≤ k + 1) t ts d)
          (All-tail (λ (t : Exp × Ext Frac). IsElement A t.1) t ts e) (All-tail (λ (t : Exp × Ext Frac). value_in A t.1 ≢ (ops A).zero) t ts f))

      -- its monomials have degree at most k + 1
      all_low : (ts : List (Exp × Ext Frac)) → All (λ t. sum t.0.e ≤ k + 1) ts → list_all (λ m. nat_le (sum m.e) (k + 1)) (monomials_in ts) ≡ true
      all_low [] d = refl
      all_low (t ∷ ts) d =
          and_both (nat_le (sum t.0.e) (k + 1)) (list_all (λ m. nat_le (sum m.e) (k + 1)) (monomials_in ts)) (le-leb (sum t.0.e) (k + 1) (All-head (λ (t : Exp × Ext Frac). sum t.0.e ≤ k + 1) t ts d))
          (all_low ts (All-tail (λ (t : Exp × Ext Frac). sum t.0.e ≤ k + 1) t ts d))

      -- it shows that there are no rows
      functional_fails : residual_of F ≡ polynomial_of meaning g → MatherFails (exps g.n) (ops A) k (residual_of F) (terms_in g.n A functional) (monomial_in g.n at.e)
      unfolding terms_in
      functional_fails residual = subst (λ f. MatherFails (exps g.n) (ops A) k f (poly_of g.n (value_in A) functional) (exp_of g.n at)) (sym residual) is.fails

      -- its monomial has degree k + 1
      at_low : sum at.e ≤ 17
      at_low = let d = degree-exp_of g.n at is.monomial.unused in let e = is.fails.of_degree in omega arith

      -- the functional is one of a report with this residual part
      pub functional_reported : All (λ (t : Exp × Ext Frac). length t.0.e ≡ 8) functional → residual_of F ≡ polynomial_of meaning g → IsReportedFunctional F functional at
      functional_reported long residual = record {
        low = all_low functional is.values.degrees;
        fails = functional_fails residual;
        at_residual = residual_monomial at is.monomial at_low;
        few = let h = few_from g.n 0 functional (omega arith) is.rising is.values.variables (λ i t h. let d = is.values.degrees i t h in omega arith) (λ i t h. omega arith) in let b = few_monomials g.n 18 few (omega arith) in omega arith;
        rising = is.rising;
        values = values_valid functional is.values.variables long is.values.degrees is.values.elems is.values.units;
      }

    -- the answer of the test, in a report with this residual part
    pub test_reported : (t : MatherTest (Ext Frac)) → tests.IsAnswer meaning g k t → residual_of F ≡ polynomial_of meaning g → IsReportedTest F t
    test_reported (Holds rows) are residual = record { each = rows_are rows are residual; well_formed = well_formed rows are }
    test_reported (Fails functional at) is residual = functional_reported functional at is is.long residual

    -- the quotient, in a report with this residual part
    pub quotient_reported : (q : JetQuotient (Ext Frac)) → StartsAtIn g.n (ops A) 2 (polynomial_of meaning g) → quotients.IsQuotientOf meaning g k q → residual_of F ≡ polynomial_of meaning g → IsReportedQuotient F q
    quotient_reported q low is residual = record {
      table_is = table_is low q is residual;
      some_in_basis = some_in_basis low q is;
      few_in_basis = few_in_basis low q is;
      basis = basis_valid low q is;
      few_in_table = few_in_table low q is;
      table = table_valid low q is;
    }

-- ---- a carried germ of the calls

-- what the calls ask for and answer, for a carried germ c whose residual part is the polynomial of g
module _ (c : Carried) (w : texts.IsWellFormedCarried c) (few : c.corank ≤ 3) (g : JetTerms (Ext Frac)) (variables : g.n ≡ c.corank)
    (polynomial : poly_of c.corank (value_in c.algebra) g.terms ≡ residual_of c) where
  -- the residual part in the variables of g
  residual : residual_of (record c { corank = g.n }) ≡ polynomial_of (algebra_meaning c.algebra) g
  residual = sym (subst (λ n. poly_of n (value_in c.algebra) g.terms ≡ residual_of (record c { corank = n })) (sym variables) polynomial)

  few_in_g : g.n ≤ 3
  few_in_g = omega arith

  -- g has no terms of degree below 2 where the residual part has none
  pub low_in_g : StartsAtIn c.corank (ops c.algebra) 2 (residual_of c) → StartsAtIn g.n (ops c.algebra) 2 (polynomial_of (algebra_meaning c.algebra) g)
  low_in_g low = subst (λ n. StartsAtIn n (ops c.algebra) 2 (poly_of n (value_in c.algebra) g.terms)) (sym variables) (subst (StartsAtIn c.corank (ops c.algebra) 2) (sym polynomial) low)

  -- the test of g is high only where that of the residual part is
  pub test_high : tests.IsTestHigh g.n (scalars c.algebra) c.order (polynomial_of (algebra_meaning c.algebra) g) → tests.IsTestHigh c.corank (scalars c.algebra) c.order (residual_of c)
  test_high h = subst (tests.IsTestHigh c.corank (scalars c.algebra) c.order) polynomial (subst (λ n. tests.IsTestHigh n (scalars c.algebra) c.order (poly_of n (value_in c.algebra) g.terms)) variables h)

  -- and so is the quotient
  pub quotient_high : quotients.IsQuotientHigh g.n (scalars c.algebra) c.order (polynomial_of (algebra_meaning c.algebra) g) → quotients.IsQuotientHigh c.corank (scalars c.algebra) c.order (residual_of c)
  quotient_high h = subst (quotients.IsQuotientHigh c.corank (scalars c.algebra) c.order) polynomial (subst (λ n. quotients.IsQuotientHigh n (scalars c.algebra) c.order (poly_of n (value_in c.algebra) g.terms)) variables h)

  -- the answer of the test is one of the report
  pub test_of_carried : (t : MatherTest (Ext Frac)) → tests.IsAnswer (algebra_meaning c.algebra) g c.order t → IsReportedTest c t
  test_of_carried t is = subst (λ n. IsReportedTest (record c { corank = n }) t) variables (test_reported c w.order_at_most g few_in_g t is residual)

  -- and so is the quotient
  pub quotient_of_carried : StartsAtIn c.corank (ops c.algebra) 2 (residual_of c) → (q : JetQuotient (Ext Frac)) → quotients.IsQuotientOf (algebra_meaning c.algebra) g c.order q → IsReportedQuotient c q
  quotient_of_carried low q is = subst (λ n. IsReportedQuotient (record c { corank = n }) q) variables (quotient_reported c w.order_at_most g few_in_g q (low_in_g low) is residual)

  -- the algebra is a field where it is irreducible
  pub field_of : IsIrreducible c.algebra → IsFieldAlgebra c.algebra
  field_of h = record { algebra = algebra_valid c.algebra w.algebra; irreducible = h }
