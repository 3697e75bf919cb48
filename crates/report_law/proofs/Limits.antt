-- The germ of a valid limit report does not meet Mather's condition at its order or below.
use Rattle.std.proofs.Common.{◌≡◌, ℕ, ◌+◌, ◌*◌, ◌≤◌, true, ◌&&◌, not, List, [], ◌∷◌, length, sum, refl, sym, ap, subst, ◌∙◌}
use Rattle.std.specs.Prelude.{nat_le}
use Rattle.std.specs.List.{list_all}
use Rattle.std.proofs.lemmas.List.{length-map}
use Rattle.ring_law.specs.declared.fraction.Frac.{Frac}
use Rattle.ring_theory.proofs.ValueSet.{values_are_set}
use Rattle.ext_algebra.specs.declared.algebra.Algebra.{Algebra}
use Rattle.ext_algebra.specs.declared.algebra.Ext.{Ext}
use Rattle.ext_algebra.specs.Algebra.{scalars, is_element}
use Rattle.ext_algebra.specs.AlgebraLaws.{algebra_scalar_laws}
use Rattle.mono_exp.specs.declared.exponent.Exp.{Exp}
use Rattle.poly_law.specs.ExpList.{exps}
use Rattle.poly_law.specs.Poly.{IsInvertible}
use Rattle.poly_law.proofs.LawsOverRings as over_rings
use Rattle.line_syntax.specs.Syntax.{names_of}
use Rattle.line_syntax.proofs.Bools.{and_left, and_right}
use Rattle.normal_forms.specs.Monomials.{is_split}
use Rattle.poly_text.specs.Polynomials.{name_text}
use Rattle.cert_text.specs.declared.report.Carried.{Carried}
use Rattle.cert_text.specs.WellFormed.{is_monomial_in, is_zero_element, is_term_of, IsJetOf}
use Rattle.jet_law.specs.Canonical.{monomial_in}
use Rattle.report_law.specs.Polynomials.{terms_in, jet_at, value_at, residual_part}
use Rattle.report_law.specs.Items.{ring_of, germ_in}
use Rattle.report_law.specs.Meaning.{LimitHasNoRows}
use Rattle.report_law.proofs.Splitting.{is_split-is}

pub all_in : (n order : ℕ) (a : Algebra) (terms : List (Exp × Ext Frac)) → list_all (is_term_of n order a) terms ≡ true → list_all (λ t. is_monomial_in n t.0) terms ≡ true
all_in n order a [] h = refl
all_in n order a (t ∷ ts) h =
    let monomial = and_left (is_monomial_in n t.0) (nat_le (sum t.0.e) order)
    (and_left (is_monomial_in n t.0 && nat_le (sum t.0.e) order) (is_element a t.1 && not (is_zero_element t.1)) (and_left (is_term_of n order a t) (list_all (is_term_of n order a) ts) h)) in
    ap (λ b. b && list_all (λ t. is_monomial_in n t.0) ts) monomial ∙ all_in n order a ts (and_right (is_term_of n order a t) (list_all (is_term_of n order a) ts) h)

-- the printed change, in so many variables
abbrev InvertibleIn : Carried → ℕ → Type 0
InvertibleIn c n = IsInvertible (exps n) (ring_of c) (λ i. jet_at n c.algebra c.change.parts i) (λ i k. value_at c.algebra c.change.inverse (n * i + k))

pub limit_has_no_rows : LimitHasNoRows
limit_has_no_rows bytes l r form items k within rows =
    let c : Carried = r.carried in
    let s = scalars c.algebra in
    let laws = algebra_scalar_laws c.algebra in
    let n : ℕ = length (names_of l) in
    let count : length c.names ≡ n = sym (length-map c.names name_text) ∙ ap (λ l. length l) items.1.0.0.names in
    let corank : c.corank ≤ n = subst (λ m. c.corank ≤ m) count items.1.0.0.corank in
    let jet : IsJetOf n c.order c.algebra c.jet = subst (λ m. IsJetOf m c.order c.algebra c.jet) count form.carried.jet in
    let split : is_split n c.corank c.jet.terms ≡ true = subst (λ m. is_split m c.corank c.jet.terms ≡ true) count items.1.1.1.1.0.split in
    let change : InvertibleIn c n = subst (InvertibleIn c) count items.1.1.0 in
    over_rings.limit_means s.ops laws.ring (values_are_set s laws) laws.nontrivial n c.corank corank
    (λ i. jet_at n c.algebra c.change.parts i) (λ i k. value_at c.algebra c.change.inverse (n * i + k)) change
    c.order (germ_in l c.algebra) (terms_in n c.algebra c.jet.terms) items.1.1.1.0
    (residual_part c.corank c.algebra c.jet.terms) (is_split-is n c.corank corank c.algebra laws.ring c.jet.terms (all_in n c.order c.algebra c.jet.terms jet.terms) split)
    (terms_in c.corank c.algebra r.functional) (monomial_in c.corank r.at.e) items.1.1.1.1.0.functional k within rows
