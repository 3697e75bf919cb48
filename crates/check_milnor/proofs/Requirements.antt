-- What a well-formed named report gives for the tests of its table.
use Rattle.std.proofs.Common.{◌≡◌, ℕ, ◌<◌, true, List, [], ◌∷◌, map, length, get_or, sum, sym, subst}
use Rattle.std.specs.Prelude.{nat_le}
use Rattle.std.specs.List.{All, AllByRecursion, list_all}
use Rattle.std.proofs.lemmas.List.Elements.{All-from_recursion, recursion_from_All, All-map}
use Rattle.line_syntax.proofs.Bools.{and_left, and_right}
use Rattle.ring_law.specs.declared.fraction.Frac.{Frac}
use Rattle.ext_algebra.specs.declared.algebra.Algebra.{Algebra}
use Rattle.ext_algebra.specs.declared.algebra.Ext.{Ext}
use Rattle.ext_algebra.specs.Algebra.{IsElement, is_element, algebra_meaning}
use Rattle.mono_exp.specs.declared.exponent.Exp.{Exp}
use Rattle.mono_exp.specs.Exponents.{IsIn}
use Rattle.jet_poly.proofs.GatheredLemmas.{weaker}
use Rattle.jacobian_row.specs.Multiples.{AreMultiples}
use Rattle.jacobian_row.specs.Rows.{IsJetIn}
use Rattle.jacobian_row.specs.declared.multiple.Multiple.{Multiple}
use Rattle.jacobian_row.proofs.MultipleOrder.{pair_is}
use Rattle.milnor_alg.specs.declared.quotient.TableRow.{TableRow}
use Rattle.determinacy.specs.Tests.{IsMonomialIn}
use Rattle.cert_text.specs.declared.report.Carried.{Carried}
use Rattle.cert_text.specs.declared.report.Named as named_type
use Rattle.cert_text.specs.WellFormed.{IsWellFormedNamed, IsWellFormedTableRow, is_residual_monomial, is_monomial_in}
use Rattle.cert_text.specs.WellFormed as text
use Rattle.report_jet.proofs.ReportJets.{elements_valid, jet_valid, monomial_inside}
use Rattle.check_rows.proofs.ReportLemmas.{monomial_of}
use Rattle.check_quotient.specs.Tables.{AreValuesIn}
use Rattle.table_rows.specs.Tables.{IsTableShape}

elements : (a : Algebra) (es : List (Ext Frac)) → list_all (is_element a) es ≡ true → AllByRecursion (λ e. IsElement a e) es
elements a es t = recursion_from_All (λ e. IsElement a e) es (elements_valid a es t)

residual_inside : (c : Carried) (m : Exp) → is_residual_monomial c m ≡ true → IsIn c.corank m.e
residual_inside c m h = monomial_inside c.corank m (and_left (is_monomial_in c.corank m) (nat_le (sum m.e) 17) h)

shape : (c : Carried) (size : ℕ) (row : TableRow (Ext Frac)) → IsWellFormedTableRow c size row → IsTableShape (algebra_meaning c.algebra) c.corank size row
shape c size row w = record {
  unused = residual_inside c row.monomial w.monomial;
  values = w.count;
  elems = elements c.algebra row.values w.values;
  count = w.multipliers.count;
  jets = All-from_recursion (IsJetIn (algebra_meaning c.algebra) c.corank) row.multipliers
      (weaker (text.IsJetOf c.corank c.order c.algebra) (IsJetIn (algebra_meaning c.algebra) c.corank) (λ f h. record { jet = jet_valid c.corank c.order c.algebra f h; variables = h.variables }) row.multipliers w.multipliers.each);
}

basis_in : (c : Carried) (bs : List Exp) → list_all (is_residual_monomial c) bs ≡ true → AllByRecursion (λ b. IsIn c.corank b.e) bs
basis_in c [] h = tt
basis_in c (b ∷ bs) h = (residual_inside c b (and_left (is_residual_monomial c b) (list_all (is_residual_monomial c) bs) h), basis_in c bs (and_right (is_residual_monomial c b) (list_all (is_residual_monomial c) bs) h))

module _ (r : named_type.Named) (w : IsWellFormedNamed r) where
  abbrev c : Carried
  c = r.carried

  abbrev size : ℕ
  size = length r.quotient.basis

  -- what holds of each well-formed row
  of_rows : (P : TableRow (Ext Frac) → Type 0) → ((row : TableRow (Ext Frac)) → IsWellFormedTableRow c size row → P row) → AllByRecursion P r.quotient.table
  of_rows P holds = weaker (IsWellFormedTableRow c size) P holds r.quotient.table w.table

  pub table_shape : All (IsTableShape (algebra_meaning r.carried.algebra) r.carried.corank (length r.quotient.basis)) r.quotient.table
  table_shape = All-from_recursion (IsTableShape (algebra_meaning c.algebra) c.corank size) r.quotient.table (of_rows (IsTableShape (algebra_meaning c.algebra) c.corank size) (shape c size))

  pub table_values : AreValuesIn (algebra_meaning r.carried.algebra) r.quotient.table
  table_values = of_rows (λ row. AllByRecursion (λ e. IsElement c.algebra e) row.values) (λ row h. elements c.algebra row.values h.values)

  -- the monomials of the rows
  pub table_monomials : AllByRecursion (IsMonomialIn r.carried.corank) (map (λ row. row.monomial) r.quotient.table)
  table_monomials =
      recursion_from_All (IsMonomialIn c.corank) (map (λ row. row.monomial) r.quotient.table)
      (All-map (IsMonomialIn c.corank) (λ (row : TableRow (Ext Frac)). row.monomial) r.quotient.table
      (All-from_recursion (λ (row : TableRow (Ext Frac)). IsMonomialIn c.corank row.monomial) r.quotient.table
      (of_rows (λ row. IsMonomialIn c.corank row.monomial) (λ row h. monomial_of c.corank row.monomial (and_left (is_monomial_in c.corank row.monomial) (nat_le (sum row.monomial.e) 17) h.monomial)))))

  pub basis_inside : All (λ b. IsIn r.carried.corank b.e) r.quotient.basis
  basis_inside = All-from_recursion (λ b. IsIn c.corank b.e) r.quotient.basis (basis_in c r.quotient.basis w.basis)

pub places : (n k count : ℕ) (us : List Multiple) → AreMultiples n 0 k us → count ≡ n → All (λ u. u.variable < count) us
places n k count us list e = λ j d h. subst (λ z. (get_or us j d).variable < z) (sym e) (pair_is n 0 k us list j d h).variable
