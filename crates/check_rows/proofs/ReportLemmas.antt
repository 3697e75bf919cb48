-- The items Mather and Functional of a report, by what is true of its residual part as a jet.
use mathlib.Core.Path.{fun_ext}
use Rattle.std.proofs.Common.{◌≡◌, ℕ, zero, suc, ◌+◌, ◌<◌, ◌≤◌, Bool, true, false, ◌&&◌, List, [], ◌∷◌, map, length, get_or, sum, IsTrue, ◌↔◌, refl, sym, ap, subst, ◌∙◌, arith}
use Rattle.std.specs.Prelude.{not, nat_le, drop, ◌==◌}
use Rattle.std.specs.List.{All, AllByRecursion, list_all}
use Rattle.std.proofs.lemmas.Bool.{leb-true, eqb-true, lt-leb}
use Rattle.std.proofs.lemmas.List.Elements.{All-from_recursion}
use Rattle.line_syntax.proofs.Bools.{and_left, and_right}
use Rattle.ring_law.specs.declared.fraction.Frac.{Frac}
use Rattle.ext_algebra.specs.declared.algebra.Algebra.{Algebra}
use Rattle.ext_algebra.specs.declared.algebra.Ext.{Ext}
use Rattle.ext_algebra.specs.Algebra.{ops, scalars, value_in, IsElement, algebra_meaning, is_element}
use Rattle.poly_law.specs.ExpList.{exps}
use Rattle.poly_law.specs.Poly.{IsMatherRow, MatherFails}
use Rattle.mono_exp.specs.declared.exponent.Exp.{Exp}
use Rattle.mono_exp.specs.Exponents.{IsIn, exponents}
use Rattle.jet_law.specs.Canonical.{monomial_in}
use Rattle.jet_law.specs.Terms.{exp_of, poly_of}
use Rattle.jet_poly.specs.JetTerms.{JetTerms}
use Rattle.jet_poly.proofs.GatheredLemmas.{weaker}
use Rattle.jacobian_row.specs.Rows.{IsJetIn, polynomial_at}
use Rattle.determinacy.specs.declared.row.MatherRow.{MatherRow}
use Rattle.determinacy.specs.Tests.{IsMonomialIn}
use Rattle.normal_forms.specs.Monomials.{monomials_in}
use Rattle.cert_text.specs.declared.report.Carried.{Carried}
use Rattle.cert_text.specs.WellFormed.{IsWellFormedCarried, IsWellFormedRow, AreRows, is_monomial_in, is_residual_monomial, is_zero_element}
use Rattle.cert_text.specs.WellFormed as text
use Rattle.report_law.specs.Polynomials.{terms_in, jet_at}
use Rattle.report_law.specs.Items.{residual_of, IsRowOf, AreMatherRows}
use Rattle.report_law.proofs.Listing.{of_degree, degree_of}
use Rattle.report_jet.proofs.ReportJets.{jet_valid, monomial_inside, element_valid, terms_in-poly_of}
use Rattle.check_rows.specs.Rows.{IsRowShape, AreRowsAt, AreRowsHigh, row_at}
use Rattle.check_rows.specs.Functionals.{AreValuesHigh}
use Rattle.check_rows.specs.ItemHeights.{IsMatherHigh}
use Rattle.check_rows.proofs.RowLemmas.{exponents_of}

-- ---- what well-formed rows are

few_variables : (c : Carried) → IsWellFormedCarried c → c.corank ≤ 8
few_variables c w = let a = w.corank in let b = w.few_names in omega arith

-- a residual monomial
pub monomial_of : (n : ℕ) (a : Exp) → is_monomial_in n a ≡ true → IsMonomialIn n a
monomial_of n a h = record {
  unused = monomial_inside n a h;
  long = eqb-true (length a.e) 8 (and_left (length a.e == 8) (list_all (λ e. e == 0) (drop n a.e)) h);
}

row_shape : (c : Carried) (row : MatherRow (Ext Frac)) → IsWellFormedRow c row → IsRowShape (algebra_meaning c.algebra) c.corank row
row_shape c row w = record {
  unused = monomial_inside c.corank row.monomial (and_left (is_monomial_in c.corank row.monomial) (nat_le (sum row.monomial.e) 17) w.monomial);
  small = leb-true (sum row.monomial.e) 17 (and_right (is_monomial_in c.corank row.monomial) (nat_le (sum row.monomial.e) 17) w.monomial);
  count = w.multipliers.count;
  jets = All-from_recursion (IsJetIn (algebra_meaning c.algebra) c.corank) row.multipliers
      (weaker (text.IsJetOf c.corank c.order c.algebra) (IsJetIn (algebra_meaning c.algebra) c.corank) (λ f h. record { jet = jet_valid c.corank c.order c.algebra f h; variables = h.variables }) row.multipliers w.multipliers.each);
}

pub rows_shape : (c : Carried) (n : ℕ) (rows : List (MatherRow (Ext Frac))) → n ≡ c.corank → AreRows c rows → All (IsRowShape (algebra_meaning c.algebra) n) rows
rows_shape c n rows e w =
    subst (λ i. All (IsRowShape (algebra_meaning c.algebra) i) rows) (sym e)
    (All-from_recursion (IsRowShape (algebra_meaning c.algebra) c.corank) rows (weaker (IsWellFormedRow c) (IsRowShape (algebra_meaning c.algebra) c.corank) (row_shape c) rows w.each))

rows_monomials : (c : Carried) (rows : List (MatherRow (Ext Frac))) → AllByRecursion (IsWellFormedRow c) rows → AllByRecursion (IsMonomialIn c.corank) (map (λ row. row.monomial) rows)
rows_monomials c [] w = tt
rows_monomials c (row ∷ rows) w = (monomial_of c.corank row.monomial (and_left (is_monomial_in c.corank row.monomial) (nat_le (sum row.monomial.e) 17) w.0.monomial), rows_monomials c rows w.1)

-- ---- rows

-- the jets of a report by number
pub jets_at : (n : ℕ) (a : Algebra) (jets : List (JetTerms (Ext Frac))) (i : ℕ) → polynomial_at n (value_in a) jets i ≡ jet_at n a jets i
unfolding jet_at terms_in
jets_at n a [] i = refl
jets_at n a (f ∷ jets) zero = refl
jets_at n a (f ∷ jets) (suc i) = jets_at n a jets i

module _ (c : Carried) (g : JetTerms (Ext Frac)) (variables : g.n ≡ c.corank) (same : poly_of c.corank (value_in c.algebra) g.terms ≡ residual_of c) where
  -- the row is one of Mather's test for the jet in n variables
  abbrev RowIn : MatherRow (Ext Frac) → ℕ → Type 0
  RowIn row n = IsMatherRow (exps n) (ops c.algebra) c.order (poly_of n (value_in c.algebra) g.terms) (exp_of n row.monomial) (polynomial_at n (value_in c.algebra) row.multipliers)

  row_is : (row : MatherRow (Ext Frac)) → RowIn row g.n → IsRowOf c row
  row_is row h =
      subst (λ f. IsMatherRow (exps c.corank) (ops c.algebra) c.order (residual_of c) (exp_of c.corank row.monomial) f) (fun_ext (jets_at c.corank c.algebra row.multipliers))
      (subst (λ p. IsMatherRow (exps c.corank) (ops c.algebra) c.order p (exp_of c.corank row.monomial) (polynomial_at c.corank (value_in c.algebra) row.multipliers)) same (subst (RowIn row) variables h))

  is_row_in : (row : MatherRow (Ext Frac)) → IsRowOf c row → RowIn row g.n
  is_row_in row h =
      subst (RowIn row) (sym variables)
      (subst (λ p. IsMatherRow (exps c.corank) (ops c.algebra) c.order p (exp_of c.corank row.monomial) (polynomial_at c.corank (value_in c.algebra) row.multipliers)) (sym same)
      (subst (λ f. IsMatherRow (exps c.corank) (ops c.algebra) c.order (residual_of c) (exp_of c.corank row.monomial) f) (sym (fun_ext (jets_at c.corank c.algebra row.multipliers))) h))

  -- the rows of the jet are those of the report
  pub rows_are : (rows : List (MatherRow (Ext Frac))) (b : Bool) → IsWellFormedCarried c → AreRows c rows → IsTrue b ↔ AreRowsAt (algebra_meaning c.algebra) g c.order rows → IsTrue b ↔ AreMatherRows c rows
  rows_are rows b w wr decides = ((λ yes. to (decides.0 yes)), (λ are. decides.1 (from are)))
    where
      monomials : List Exp
      monomials = map (λ (row : MatherRow (Ext Frac)). row.monomial) rows

      exponents_are : (n : ℕ) → map (λ (a : Exp). exponents n a.e) (map (λ (row : MatherRow (Ext Frac)). row.monomial) rows) ≡ map (λ (row : MatherRow (Ext Frac)). exponents n row.monomial.e) rows
      exponents_are n = exponents_of n rows (map (λ (row : MatherRow (Ext Frac)). row.monomial) rows) refl

      to : AreRowsAt (algebra_meaning c.algebra) g c.order rows → AreMatherRows c rows
      to are = record {
        monomials = of_degree c.corank (c.order + 1) (map (λ (row : MatherRow (Ext Frac)). row.monomial) rows) (rows_monomials c rows wr.each)
            (exponents_are c.corank ∙ subst (λ n. map (λ (row : MatherRow (Ext Frac)). exponents n row.monomial.e) rows ≡ Rattle.mono_exp.specs.Exponents.monomials_of n (c.order + 1)) variables are.monomials);
        each = weaker (λ row. RowIn row g.n) (IsRowOf c) row_is rows are.each;
      }

      from : AreMatherRows c rows → AreRowsAt (algebra_meaning c.algebra) g c.order rows
      from are = record {
        monomials = subst (λ n. map (λ (row : MatherRow (Ext Frac)). exponents n row.monomial.e) rows ≡ Rattle.mono_exp.specs.Exponents.monomials_of n (c.order + 1)) (sym variables)
            (sym (exponents_are c.corank) ∙ degree_of c.corank (c.order + 1) (map (λ (row : MatherRow (Ext Frac)). row.monomial) rows) (few_variables c w) are.monomials);
        each = weaker (IsRowOf c) (λ row. RowIn row g.n) is_row_in rows are.each;
      }

  -- and where a number of the rows of the jet is high, one of those of the report is
  abbrev RowsHighIn : List (MatherRow (Ext Frac)) → ℕ → Type 0
  RowsHighIn rows n = AreRowsHigh n (scalars c.algebra) c.order (poly_of n (value_in c.algebra) g.terms) (length rows) (λ i. polynomial_at n (value_in c.algebra) (row_at rows i).multipliers)

  pub rows_are_high : (rows : List (MatherRow (Ext Frac))) → RowsHighIn rows g.n → IsMatherHigh c rows
  rows_are_high rows high =
      subst (λ f. AreRowsHigh c.corank (scalars c.algebra) c.order (residual_of c) (length rows) f) (fun_ext λ i. fun_ext (jets_at c.corank c.algebra (row_at rows i).multipliers))
      (subst (λ p. AreRowsHigh c.corank (scalars c.algebra) c.order p (length rows) (λ i. polynomial_at c.corank (value_in c.algebra) (row_at rows i).multipliers)) same (subst (RowsHighIn rows) variables high))

  -- ---- functionals

  abbrev FailsIn : List (Exp × Ext Frac) → Exp → ℕ → Type 0
  FailsIn values at n = MatherFails (exps n) (ops c.algebra) c.order (poly_of n (value_in c.algebra) g.terms) (poly_of n (value_in c.algebra) values) (exp_of n at)

  abbrev Fails : List (Exp × Ext Frac) → Exp → Type 0
  Fails values at = MatherFails (exps c.corank) (ops c.algebra) c.order (residual_of c) (terms_in c.corank c.algebra values) (monomial_in c.corank at.e)

  -- a functional that excludes the test for the jet excludes it for the residual part
  pub fails_is : (values : List (Exp × Ext Frac)) (at : Exp) → FailsIn values at g.n → Fails values at
  fails_is values at h =
      subst (λ v. MatherFails (exps c.corank) (ops c.algebra) c.order (residual_of c) v (exp_of c.corank at)) (sym (terms_in-poly_of c.corank c.algebra values))
      (subst (λ p. MatherFails (exps c.corank) (ops c.algebra) c.order p (poly_of c.corank (value_in c.algebra) values) (exp_of c.corank at)) same (subst (FailsIn values at) variables h))

  pub is_fails : (values : List (Exp × Ext Frac)) (at : Exp) → Fails values at → FailsIn values at g.n
  is_fails values at h =
      subst (FailsIn values at) (sym variables)
      (subst (λ p. MatherFails (exps c.corank) (ops c.algebra) c.order p (poly_of c.corank (value_in c.algebra) values) (exp_of c.corank at)) (sym same)
      (subst (λ v. MatherFails (exps c.corank) (ops c.algebra) c.order (residual_of c) v (exp_of c.corank at)) (terms_in-poly_of c.corank c.algebra values) h))

  abbrev ValuesHighIn : List (Exp × Ext Frac) → Exp → ℕ → Type 0
  ValuesHighIn values at n = AreValuesHigh n (scalars c.algebra) c.order (poly_of n (value_in c.algebra) g.terms) (poly_of n (value_in c.algebra) values) (exp_of n at)

  pub values_are_high : (values : List (Exp × Ext Frac)) (at : Exp) → ValuesHighIn values at g.n
      → AreValuesHigh c.corank (scalars c.algebra) c.order (residual_of c) (terms_in c.corank c.algebra values) (monomial_in c.corank at.e)
  values_are_high values at high =
      subst (λ v. AreValuesHigh c.corank (scalars c.algebra) c.order (residual_of c) v (exp_of c.corank at)) (sym (terms_in-poly_of c.corank c.algebra values))
      (subst (λ p. AreValuesHigh c.corank (scalars c.algebra) c.order p (poly_of c.corank (value_in c.algebra) values) (exp_of c.corank at)) same (subst (ValuesHighIn values at) variables high))

-- what well-formed values of a functional are
pub record IsValueOver (c : Carried) (t : Exp × Ext Frac) : Type 0 where
  pub elem : IsElement c.algebra t.1
  pub unused : IsIn c.corank t.0.e

pub values_over : (c : Carried) (values : List (Exp × Ext Frac)) → list_all (λ v. is_residual_monomial c v.0 && (is_element c.algebra v.1 && not (is_zero_element v.1))) values ≡ true → AllByRecursion (IsValueOver c) values
values_over c [] h = tt
values_over c (t ∷ ts) h =
    let here = is_residual_monomial c t.0 && (is_element c.algebra t.1 && not (is_zero_element t.1)) in
    let rest = list_all (λ v. is_residual_monomial c v.0 && (is_element c.algebra v.1 && not (is_zero_element v.1))) ts in
    let one = and_left here rest h in (
      record {
        elem = element_valid c.algebra t.1 (and_left (is_element c.algebra t.1) (not (is_zero_element t.1)) (and_right (is_residual_monomial c t.0) (is_element c.algebra t.1 && not (is_zero_element t.1)) one));
        unused = monomial_inside c.corank t.0
            (and_left (is_monomial_in c.corank t.0) (nat_le (sum t.0.e) 17) (and_left (is_residual_monomial c t.0) (is_element c.algebra t.1 && not (is_zero_element t.1)) one));
      },
      values_over c ts (and_right here rest h),
    )

-- low monomials have low degrees
pub low_degrees : (d : ℕ) (values : List (Exp × Ext Frac)) → list_all (λ m. nat_le (sum m.e) d) (monomials_in values) ≡ true → AllByRecursion (λ t. sum t.0.e ≤ d) values
low_degrees d [] h = tt
low_degrees d (t ∷ ts) h =
    (leb-true (sum t.0.e) d (and_left (nat_le (sum t.0.e) d) (list_all (λ m. nat_le (sum m.e) d) (monomials_in ts)) h), low_degrees d ts (and_right (nat_le (sum t.0.e) d) (list_all (λ m. nat_le (sum m.e) d) (monomials_in ts)) h))

-- a monomial that is not low
pub low_fails : (d : ℕ) (values : List (Exp × Ext Frac)) (i : ℕ) (x : Exp × Ext Frac) → i < length values → d < sum (get_or values i x).0.e → list_all (λ m. nat_le (sum m.e) d) (monomials_in values) ≡ false
low_fails d [] i x h high = absurd (omega arith)
low_fails d (t ∷ ts) zero x h high = ap (λ b. b && list_all (λ m. nat_le (sum m.e) d) (monomials_in ts)) (lt-leb (sum t.0.e) d high)
low_fails d (t ∷ ts) (suc i) x h high = step (nat_le (sum t.0.e) d) (low_fails d ts i x (omega arith) high)
  where
    step : (b : Bool) → list_all (λ m. nat_le (sum m.e) d) (monomials_in ts) ≡ false → (b && list_all (λ m. nat_le (sum m.e) d) (monomials_in ts)) ≡ false
    step true e = e
    step false e = refl
