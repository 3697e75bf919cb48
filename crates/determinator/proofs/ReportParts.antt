-- Jets, changes and elements of the calls as those of a report.
use mathlib.Core.Path.{fun_ext}
use Rattle.std.proofs.Common.{◌≡◌, ◌≢◌, ℕ, zero, suc, ◌+◌, ◌*◌, ◌<◌, ◌≤◌, ◌⊎◌, inl, inr, Bool, true, false, not, ◌&&◌, List, [], ◌∷◌, length, get_or, sum, drop, refl, sym, subst, ◌∙◌, le-leb, lt-ltb, eq-eqb, pos, arith}
use Rattle.std.specs.Prelude.{nat_le, nat_lt, ◌==◌}
use Rattle.std.specs.List.{All, AllByRecursion, list_all}
use Rattle.std.proofs.lemmas.List.Elements.{recursion_from_All}
use Rattle.std.proofs.lemmas.Bool.Decides.{Decides-int_eq}
use Rattle.line_syntax.proofs.Bools.{and_left, and_right}
use Rattle.ring_theory.specs.Rational.{Rational, rational}
use Rattle.ring_law.specs.Fraction.{IsFrac, frac_value}
use Rattle.ring_law.proofs.FractionLaws.{zero_value}
use Rattle.ext_theory.specs.ExtensionScalars.{quadratic_scalars, cubic_scalars}
use Rattle.ext_algebra.specs.declared.algebra.Algebra.TheVariants as algebras
use Rattle.ext_algebra.specs.Fractions.{is_zero_frac}
use Rattle.ring_law.specs.declared.fraction.Frac.{Frac}
use Rattle.ext_algebra.specs.declared.algebra.Algebra.{Algebra}
use Rattle.ext_algebra.specs.declared.algebra.Ext.{Ext}
use Rattle.ext_algebra.specs.Algebra.{Value, ops, scalars, value_in, algebra_meaning, IsElement, is_element}
use Rattle.ext_algebra.specs.AlgebraLaws.{algebra_scalar_laws}
use Rattle.ext_algebra.proofs.ElementTests.{is_element-IsElement}
use Rattle.poly_law.specs.ExpList.{exps}
use Rattle.poly_law.specs.Poly.{coefficient}
use Rattle.poly_law.specs.Polynomials.{Polynomial, StartsAtIn}
use Rattle.mono_exp.specs.declared.exponent.Exp.{Exp}
use Rattle.mono_exp.specs.Exponents.{IsIn}
use Rattle.jet_law.specs.Terms.{exp_of, poly_of}
use Rattle.jet_law.proofs.TermLemmas.{degree-exp_of}
use Rattle.jet_poly.specs.JetTerms.{JetTerms}
use Rattle.jet_poly.specs.Jets.{IsJet}
use Rattle.jet_subst.specs.Parts as parts_of
use Rattle.coord_change.specs.Changes.{entry_of}
use Rattle.cert_text.specs.WellFormed.{is_monomial_in, is_zero_element, is_term_of, IsJetOf, IsPartOf}
use Rattle.move_law.specs.Algebras as algebras_law
use Rattle.report_law.specs.Polynomials.{terms_in, jet_at, value_at, lifted}
use Rattle.report_law.proofs.Splitting.{and_both, all_zero_past}
use Rattle.report_jet.proofs.ReportJets.{get_or-values}
use Rattle.determinator.specs.Jets.{IsListed}
use Rattle.determinator.proofs.Terms

-- ---- lists

-- an entry within a list does not depend on the default
pub get_same : {X : Type 0} (xs : List X) (i : ℕ) (a b : X) → i < length xs → get_or xs i a ≡ get_or xs i b
get_same [] i a b h = absurd (omega arith)
get_same (x ∷ xs) zero a b h = refl
get_same (x ∷ xs) (suc i) a b h = get_same xs i a b (omega arith)

-- an entry has the same value by two defaults of the same value
pub by_default : {X Y : Type 0} (f : X → Y) (xs : List X) (i : ℕ) (d e : X) → f d ≡ f e → f (get_or xs i d) ≡ f (get_or xs i e)
by_default f [] i d e h = h
by_default f (x ∷ xs) zero d e h = refl
by_default f (x ∷ xs) (suc i) d e h = by_default f xs i d e h

-- elements that pass a test one by one pass it as a list
pub list_passes : {X : Type 0} (P : X → Type 0) (p : X → Bool) → ((x : X) → P x → p x ≡ true) → (xs : List X) → AllByRecursion P xs → list_all p xs ≡ true
list_passes P p h [] all = refl
list_passes P p h (x ∷ xs) all = and_both (p x) (list_all p xs) (h x all.0) (list_passes P p h xs all.1)

not_true : (b : Bool) → (b ≡ true → ⊥) → not b ≡ true
not_true true h = absurd (h refl)
not_true false h = refl

zero_or_not : (z : ℕ) → (z ≡ 0) ⊎ (0 < z)
zero_or_not z = grind arith

-- ---- elements

zero_frac_value : (f : Frac) → IsFrac f → is_zero_frac f ≡ true → frac_value f ≡ rational (pos 0) 1
zero_frac_value f h z = zero_value f h ((Decides-int_eq f.num (pos 0)).0 z)

-- the six components of the element 0
record AreZero (e : Ext Frac) : Type 0 where
  c0 : frac_value e.c0 ≡ rational (pos 0) 1
  c1 : frac_value e.c1 ≡ rational (pos 0) 1
  c2 : frac_value e.c2 ≡ rational (pos 0) 1
  c3 : frac_value e.c3 ≡ rational (pos 0) 1
  c4 : frac_value e.c4 ≡ rational (pos 0) 1
  c5 : frac_value e.c5 ≡ rational (pos 0) 1

are_zero : (a : Algebra) (e : Ext Frac) → IsElement a e → is_zero_element e ≡ true → AreZero e
are_zero a e h z =
    let t1 = and_right (is_zero_frac e.c0) (is_zero_frac e.c1 && (is_zero_frac e.c2 && (is_zero_frac e.c3 && (is_zero_frac e.c4 && is_zero_frac e.c5)))) z in
    let t2 = and_right (is_zero_frac e.c1) (is_zero_frac e.c2 && (is_zero_frac e.c3 && (is_zero_frac e.c4 && is_zero_frac e.c5))) t1 in
    let t3 = and_right (is_zero_frac e.c2) (is_zero_frac e.c3 && (is_zero_frac e.c4 && is_zero_frac e.c5)) t2 in
    let t4 = and_right (is_zero_frac e.c3) (is_zero_frac e.c4 && is_zero_frac e.c5) t3 in
    record {
      c0 = zero_frac_value e.c0 h.c0 (and_left (is_zero_frac e.c0) (is_zero_frac e.c1 && (is_zero_frac e.c2 && (is_zero_frac e.c3 && (is_zero_frac e.c4 && is_zero_frac e.c5)))) z);
      c1 = zero_frac_value e.c1 h.c1 (and_left (is_zero_frac e.c1) (is_zero_frac e.c2 && (is_zero_frac e.c3 && (is_zero_frac e.c4 && is_zero_frac e.c5))) t1);
      c2 = zero_frac_value e.c2 h.c2 (and_left (is_zero_frac e.c2) (is_zero_frac e.c3 && (is_zero_frac e.c4 && is_zero_frac e.c5)) t2);
      c3 = zero_frac_value e.c3 h.c3 (and_left (is_zero_frac e.c3) (is_zero_frac e.c4 && is_zero_frac e.c5) t3);
      c4 = zero_frac_value e.c4 h.c4 (and_left (is_zero_frac e.c4) (is_zero_frac e.c5) t4);
      c5 = zero_frac_value e.c5 h.c5 (and_right (is_zero_frac e.c4) (is_zero_frac e.c5) t4);
    }

zero_element_value : (a : Algebra) (e : Ext Frac) → IsElement a e → is_zero_element e ≡ true → value_in a e ≡ (ops a).zero
unfolding value_in scalars quadratic_scalars cubic_scalars
zero_element_value algebras.Rational e h z = (are_zero algebras.Rational e h z).c0
zero_element_value (algebras.Quadratic m1 m0) e h z = let q = are_zero (algebras.Quadratic m1 m0) e h z in λ i. record { c0 = q.c0 i; c1 = q.c1 i }
zero_element_value (algebras.Cubic m2 m1 m0) e h z = let q = are_zero (algebras.Cubic m2 m1 m0) e h z in λ i. record { c0 = q.c0 i; c1 = q.c1 i; c2 = q.c2 i }
zero_element_value (algebras.Tower m2 m1 m0 d) e h z =
    let q = are_zero (algebras.Tower m2 m1 m0 d) e h z in
    λ i. record { c0 = record { c0 = q.c0 i; c1 = q.c3 i }; c1 = record { c0 = q.c1 i; c1 = q.c4 i }; c2 = record { c0 = q.c2 i; c1 = q.c5 i } }

module _ (a : Algebra) where
  -- a valid element passes the test of one
  pub element_passes : (e : Ext Frac) → IsElement a e → is_element a e ≡ true
  element_passes e h = (is_element-IsElement a e).1 h

  -- one whose number is not 0 is not the element 0
  apart : (e : Ext Frac) → IsElement a e → value_in a e ≢ (ops a).zero → not (is_zero_element e) ≡ true
  apart e valid unit = not_true (is_zero_element e) (λ z. unit (zero_element_value a e valid z))

  -- ---- jets

  module _ (n o : ℕ) where
    term_passes : (t : Exp × Ext Frac) → IsIn n t.0.e → length t.0.e ≡ 8 → sum t.0.e ≤ o → IsElement a t.1 → value_in a t.1 ≢ (ops a).zero → is_term_of n o a t ≡ true
    term_passes t inside long low valid unit =
        and_both (is_monomial_in n t.0 && nat_le (sum t.0.e) o) (is_element a t.1 && not (is_zero_element t.1))
        (and_both (is_monomial_in n t.0) (nat_le (sum t.0.e) o)
        (and_both (length t.0.e == 8) (list_all (λ x. x == 0) (drop n t.0.e)) (eq-eqb (length t.0.e) 8 long) (all_zero_past n t.0.e inside)) (le-leb (sum t.0.e) o low))
        (and_both (is_element a t.1) (not (is_zero_element t.1)) (element_passes t.1 valid) (apart t.1 valid unit))

    terms_pass : (ts : List (Exp × Ext Frac)) → AllByRecursion (λ t. IsIn n t.0.e) ts → AllByRecursion (λ t. length t.0.e ≡ 8) ts → AllByRecursion (λ t. sum t.0.e ≤ o) ts
        → AllByRecursion (λ t. IsElement a t.1) ts → AllByRecursion (λ t. value_in a t.1 ≢ (ops a).zero) ts → list_all (is_term_of n o a) ts ≡ true
    terms_pass [] i l d e u = refl
    terms_pass (t ∷ ts) i l d e u = and_both (is_term_of n o a t) (list_all (is_term_of n o a) ts) (term_passes t i.0 l.0 d.0 e.0 u.0) (terms_pass ts i.1 l.1 d.1 e.1 u.1)

    -- a jet of the calls is a jet of a report
    pub jet_of_report : (f : JetTerms (Ext Frac)) → IsJet (algebra_meaning a) f → f.n ≡ n → f.order ≡ o → IsListed f → IsJetOf n o a f
    jet_of_report f jet variables order listed = record {
      variables = variables;
      order_is = order;
      rising = listed.rising;
      terms = terms_pass f.terms
          (recursion_from_All (λ t. IsIn n t.0.e) f.terms (subst (λ z. All (λ (t : Exp × Ext Frac). IsIn z t.0.e) f.terms) variables jet.variables))
          (recursion_from_All (λ t. length t.0.e ≡ 8) f.terms listed.long)
          (recursion_from_All (λ t. sum t.0.e ≤ o) f.terms (subst (λ z. All (λ (t : Exp × Ext Frac). sum t.0.e ≤ z) f.terms) order jet.degrees))
          (recursion_from_All (λ t. IsElement a t.1) f.terms jet.elems)
          (recursion_from_All (λ t. value_in a t.1 ≢ (ops a).zero) f.terms jet.units);
    }

    no_constants : (ts : List (Exp × Ext Frac)) (p : Polynomial n (Value a)) → StartsAtIn n (ops a) 1 p → AllByRecursion (λ t. IsIn n t.0.e) ts → AllByRecursion (λ t. value_in a t.1 ≢ (ops a).zero) ts
        → AllByRecursion (λ t. coefficient (exps n) (ops a) p (exp_of n t.0) ≡ value_in a t.1) ts → list_all (λ t. nat_lt 0 (sum t.0.e)) ts ≡ true
    no_constants [] p low i u e = refl
    no_constants (t ∷ ts) p low i u e =
        and_both (nat_lt 0 (sum t.0.e)) (list_all (λ t. nat_lt 0 (sum t.0.e)) ts)
        (elim (zero_or_not (sum t.0.e)) [ inl z ↦ absurd (u.0 (sym e.0 ∙ low (exp_of n t.0) (let d = degree-exp_of n t.0 i.0 in omega arith))) | inr some ↦ lt-ltb 0 (sum t.0.e) some ])
        (no_constants ts p low i.1 u.1 e.1)

    -- a jet without constant term is a part of a change of a report
    pub part_of_report : (f : JetTerms (Ext Frac)) → IsJet (algebra_meaning a) f → f.n ≡ n → f.order ≡ o → IsListed f → StartsAtIn n (ops a) 1 (poly_of n (value_in a) f.terms) → IsPartOf n o a f
    part_of_report f jet variables order listed low =
        let inside = subst (λ z. All (λ (t : Exp × Ext Frac). IsIn z t.0.e) f.terms) variables jet.variables in
        record {
          jet = jet_of_report f jet variables order listed;
          no_constant = no_constants f.terms (poly_of n (value_in a) f.terms) low (recursion_from_All (λ t. IsIn n t.0.e) f.terms inside)
              (recursion_from_All (λ t. value_in a t.1 ≢ (ops a).zero) f.terms jet.units)
              (Terms.own_coefficients (algebra_meaning a) (algebra_scalar_laws a).ring n f.terms inside listed.rising);
        }

  -- ---- changes

  -- the polynomials of jets are those of a report
  pub parts_same : (n : ℕ) (jets : List (JetTerms (Ext Frac))) → parts_of.part_of n (value_in a) jets ≡ jet_at n a jets
  unfolding terms_in jet_at
  parts_same n jets = fun_ext λ i. by_default (λ (f : JetTerms (Ext Frac)). poly_of n (value_in a) f.terms) jets i (record { n = 0; order = 0; terms = [] }) (record { n = n; order = 0; terms = [] }) refl

  -- and so the entries of a matrix
  pub entries_same : (n : ℕ) (es : List (Ext Frac)) → entry_of (algebra_meaning a) n es ≡ (λ i k. value_at a es (n * i + k))
  entries_same n es = fun_ext λ i. fun_ext λ k. get_or-values a es (n * i + k)

  -- the germ over the algebra
  pub lifted_is : {n : ℕ} (g : Polynomial n Rational) → algebras_law.lifted a g ≡ lifted n a g
  unfolding algebras_law.lifted lifted
  lifted_is g = refl
