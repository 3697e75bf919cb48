-- The item Milnor of a report, by what is tested of its table.
use mathlib.Core.Path.{fun_ext}
use Rattle.std.proofs.Common.{◌≡◌, ℕ, zero, suc, ◌+◌, ◌<◌, ◌≤◌, true, List, [], ◌++◌, map, length, get_or, sum, sym, ap, ap₂, subst, ◌∙◌, arith}
use Rattle.std.specs.List.{AllByRecursion}
use Rattle.std.proofs.lemmas.List.Elements.{All-from_recursion, recursion_from_All}
use Rattle.ring_theory.specs.Ring.{RingOps}
use Rattle.ring_law.specs.declared.fraction.Frac.{Frac}
use Rattle.ext_algebra.specs.declared.algebra.Ext.{Ext}
use Rattle.ext_algebra.specs.Algebra.{Value, ops, value_in, algebra_meaning}
use Rattle.ext_algebra.specs.AlgebraLaws.{algebra_scalar_laws}
use Rattle.poly_law.specs.Sums.{unit_at}
use Rattle.poly_law.proofs.Sums.{sum_to-cong}
use Rattle.poly_law.specs.ExpList.{ExpList, exps}
use Rattle.poly_law.specs.Exps.{degree}
use Rattle.poly_law.specs.Poly.{SameTo, combination, of_basis, scale, term, poly_ops, times, derivative, values_of}
use Rattle.mono_exp.specs.declared.exponent.Exp.{Exp}
use Rattle.mono_exp.specs.Exponents.{exponents, monomials_below}
use Rattle.mono_exp.proofs.Counting.{below_are_long}
use Rattle.mono_exp.proofs.Lists.{map-map}
use Rattle.jet_law.specs.Terms.{exp_of}
use Rattle.jet_law.proofs.TermLemmas.{degree-exp_of}
use Rattle.jet_poly.proofs.GatheredLemmas.{weaker}
use Rattle.jacobian_row.specs.Rows.{polynomial_at}
use Rattle.jacobian_row.proofs.ListSteps.{same_default}
use Rattle.milnor_alg.specs.declared.quotient.TableRow.{TableRow}
use Rattle.milnor_alg.specs.Rows.{basis_at, row_of}
use Rattle.normal_forms.specs.Monomials.{in_eight}
use Rattle.cert_text.specs.declared.report.Carried.{Carried}
use Rattle.cert_text.specs.declared.report.Named as named_type
use Rattle.cert_text.specs.WellFormed.{IsWellFormedNamed}
use Rattle.report_law.specs.Polynomials.{value_at, jet_at}
use Rattle.report_law.specs.Items.{residual_of, basis_of, values_of_row, IsMilnorTable}
use Rattle.report_law.proofs.Listing.{listed_as, kept_list}
use Rattle.report_jet.proofs.ReportJets.{get_or-values}
use Rattle.check_rows.specs.Lists.{ArePartialLists, list_at}
use Rattle.check_rows.specs.Products.{sum_of_products}
use Rattle.check_rows.proofs.RowLemmas as row_lemmas
use Rattle.check_rows.proofs.ReportLemmas.{jets_at}
use Rattle.check_milnor.specs.Milnor.{IsWhole}
use Rattle.check_quotient.specs.Tables as images
use Rattle.table_rows.specs.Tables as rows
use Rattle.check_milnor.proofs.Requirements.{basis_inside, table_monomials}
use Rattle.check_milnor.proofs.TableRows.{of_rows, to_rows}

module _ (r : named_type.Named) where
  abbrev c : Carried
  c = r.carried

  abbrev n : ℕ
  n = c.corank

  abbrev ring : RingOps (Value c.algebra)
  ring = ops c.algebra

  abbrev basis : List Exp
  basis = r.quotient.basis

  abbrev table : List (TableRow (Ext Frac))
  table = r.quotient.table

  abbrev size : ℕ
  size = length basis

  -- ---- the monomials of the table

  next : c.order + 1 ≡ suc c.order
  next = omega arith

  pub monomials_to_whole : IsWellFormedNamed r → map (λ row. row.monomial) table ≡ map in_eight (monomials_below n (c.order + 1)) → IsWhole r
  monomials_to_whole w e =
      let few : n ≤ 8 = let p = w.carried.corank in let q = w.carried.few_names in omega arith in
      sym (map-map (λ (b : Exp). exponents n b.e) (λ (row : TableRow (Ext Frac)). row.monomial) table)
      ∙ ap (map (λ (b : Exp). exponents n b.e)) e
      ∙ kept_list n (monomials_below n (c.order + 1)) few (below_are_long n (c.order + 1))
      ∙ ap (monomials_below n) next

  pub whole_to_monomials : IsWellFormedNamed r → IsWhole r → map (λ row. row.monomial) table ≡ map in_eight (monomials_below n (c.order + 1))
  whole_to_monomials w e =
      listed_as n (map (λ row. row.monomial) table) (monomials_below n (suc c.order)) (table_monomials r w)
      (map-map (λ (b : Exp). exponents n b.e) (λ (row : TableRow (Ext Frac)). row.monomial) table ∙ e)
      ∙ ap (λ k. map in_eight (monomials_below n k)) (sym next)

  -- ---- the basis

  basis_degree : IsWellFormedNamed r → (i : ℕ) (d : Exp) → i < size → degree (exps n) (exp_of n (get_or basis i d)) ≡ sum (get_or basis i d).e
  basis_degree w i d h = degree-exp_of n (get_or basis i d) (basis_inside r w i d h)

  pub low_to : IsWellFormedNamed r → AllByRecursion (λ b. sum b.e ≤ c.order) basis → (i : ℕ) → i < size → degree (exps n) (basis_of r i) ≤ c.order
  low_to w h i l = let d = basis_degree w i (in_eight []) l in let s = All-from_recursion (λ b. sum b.e ≤ c.order) basis h i (in_eight []) l in omega (arith, d, s)

  pub low_from : IsWellFormedNamed r → ((i : ℕ) → i < size → degree (exps n) (basis_of r i) ≤ c.order) → AllByRecursion (λ b. sum b.e ≤ c.order) basis
  low_from w h =
      recursion_from_All (λ b. sum b.e ≤ c.order) basis (λ i d l. let e = basis_degree w i d l in let s : degree (exps n) (exp_of n (get_or basis i d)) ≤ c.order = subst (λ b. degree (exps n) (exp_of n b) ≤ c.order) (same_default basis i (in_eight []) d l) (h i l) in omega (arith, e, s))

  -- ---- the values

  pub values_are : (b : ExpList n) (j : ℕ) → images.value_in (algebra_meaning c.algebra) n table b j ≡ values_of_row r b j
  values_are b j = get_or-values c.algebra (row_of n table b).values j

  -- ---- the rows

  -- the row is true of the monomial b
  abbrev pub IsTrueRow : ExpList n → TableRow (Ext Frac) → Type 0
  IsTrueRow b row =
      SameTo (exps n) ring c.order (term (exps n) ring b ++ (poly_ops (exps n) ring).neg (of_basis (exps n) ring size (basis_of r) (λ j. value_at c.algebra row.values j)))
      (combination (exps n) ring (jet_at n c.algebra row.multipliers) (residual_of c))

  basis_same : (row : TableRow (Ext Frac)) → of_basis (exps n) ring size (basis_at n basis) (rows.values_in (algebra_meaning c.algebra) row)
      ≡ of_basis (exps n) ring size (basis_of r) (λ j. value_at c.algebra row.values j)
  basis_same row =
      sum_to-cong (poly_ops (exps n) ring) size
      (λ j. scale (exps n) ring (rows.values_in (algebra_meaning c.algebra) row j) (term (exps n) ring (basis_at n basis j)))
      (λ j. scale (exps n) ring (value_at c.algebra row.values j) (term (exps n) ring (basis_of r j)))
      (λ j h. ap₂ (λ v b. scale (exps n) ring v (term (exps n) ring b)) (get_or-values c.algebra row.values j) (ap (exp_of n) (same_default basis j (record { e = [] }) (in_eight []) h)))

  combination_same : (partials : List (List (Exp × Ext Frac))) → ArePartialLists (algebra_meaning c.algebra) n (residual_of c) partials → (row : TableRow (Ext Frac))
      → sum_of_products n ring (polynomial_at n (value_in c.algebra) row.multipliers) (list_at n (value_in c.algebra) partials) ≡ combination (exps n) ring (jet_at n c.algebra row.multipliers) (residual_of c)
  combination_same partials are row =
      row_lemmas.products_are (algebra_meaning c.algebra) (algebra_scalar_laws c.algebra) n (residual_of c) partials (polynomial_at n (value_in c.algebra) row.multipliers) are
      ∙ ap (λ f. combination (exps n) ring f (residual_of c)) (fun_ext (jets_at n c.algebra row.multipliers))

  abbrev Printed : List (List (Exp × Ext Frac)) → TableRow (Ext Frac) → Type 0
  Printed partials row = rows.IsTableRow (algebra_meaning c.algebra) n c.order basis (list_at n (value_in c.algebra) partials) row

  true_row : (partials : List (List (Exp × Ext Frac))) → ArePartialLists (algebra_meaning c.algebra) n (residual_of c) partials → (row : TableRow (Ext Frac)) → Printed partials row → IsTrueRow (exp_of n row.monomial) row
  true_row partials are row h =
      subst (λ z. SameTo (exps n) ring c.order (term (exps n) ring (exp_of n row.monomial) ++ (poly_ops (exps n) ring).neg z) (combination (exps n) ring (jet_at n c.algebra row.multipliers) (residual_of c))) (basis_same row)
      (subst (SameTo (exps n) ring c.order (rows.difference_of (algebra_meaning c.algebra) n basis row)) (combination_same partials are row) h)

  printed_row : (partials : List (List (Exp × Ext Frac))) → ArePartialLists (algebra_meaning c.algebra) n (residual_of c) partials → (row : TableRow (Ext Frac)) → IsTrueRow (exp_of n row.monomial) row → Printed partials row
  printed_row partials are row h =
      subst (SameTo (exps n) ring c.order (rows.difference_of (algebra_meaning c.algebra) n basis row)) (sym (combination_same partials are row))
      (subst (λ z. SameTo (exps n) ring c.order (term (exps n) ring (exp_of n row.monomial) ++ (poly_ops (exps n) ring).neg z) (combination (exps n) ring (jet_at n c.algebra row.multipliers) (residual_of c))) (sym (basis_same row)) h)

  pub rows_to : IsWhole r → (partials : List (List (Exp × Ext Frac))) → ArePartialLists (algebra_meaning c.algebra) n (residual_of c) partials → AllByRecursion (Printed partials) table
      → (b : ExpList n) → degree (exps n) b ≤ c.order → IsTrueRow b (row_of n table b)
  rows_to whole partials are h = of_rows n c.order table whole IsTrueRow (weaker (Printed partials) (λ row. IsTrueRow (exp_of n row.monomial) row) (true_row partials are) table h)

  pub rows_from : IsWhole r → (partials : List (List (Exp × Ext Frac))) → ArePartialLists (algebra_meaning c.algebra) n (residual_of c) partials
      → ((b : ExpList n) → degree (exps n) b ≤ c.order → IsTrueRow b (row_of n table b)) → AllByRecursion (Printed partials) table
  rows_from whole partials are h = weaker (λ row. IsTrueRow (exp_of n row.monomial) row) (Printed partials) (printed_row partials are) table (to_rows n c.order table whole IsTrueRow h)

  -- ---- the whole item

  abbrev pub UnitRows : Type 0
  UnitRows = (i j : ℕ) → i < size → j < size → images.value_in (algebra_meaning c.algebra) n table (exp_of n (get_or basis i (in_eight []))) j ≡ unit_at ring i j

  abbrev pub ZeroOn : Type 0
  ZeroOn = (b : ExpList n) (i j : ℕ) → i < n → j < size → values_of (exps n) ring (images.value_in (algebra_meaning c.algebra) n table) c.order (times (exps n) ring (term (exps n) ring b) (derivative (exps n) ring i (residual_of c))) j ≡ ring.zero

  values_same : images.value_in (algebra_meaning c.algebra) n table ≡ values_of_row r
  values_same = fun_ext λ b. fun_ext λ j. values_are b j

  pub item_holds : IsWellFormedNamed r → (partials : List (List (Exp × Ext Frac))) → ArePartialLists (algebra_meaning c.algebra) n (residual_of c) partials
      → r.milnor ≡ size → IsWhole r → AllByRecursion (λ b. sum b.e ≤ c.order) basis → UnitRows → ZeroOn → AllByRecursion (Printed partials) table → IsMilnorTable r
  item_holds w partials are number whole low units vanishes h = record {
    monomials = whole_to_monomials w whole;
    quotient = record {
      low = low_to w low;
      units = λ i j hi hj. sym (values_are (basis_of r i) j) ∙ units i j hi hj;
      zero_on = λ b i j hi hj. subst (λ f. values_of (exps n) ring f c.order (times (exps n) ring (term (exps n) ring b) (derivative (exps n) ring i (residual_of c))) j ≡ ring.zero) values_same (vanishes b i j hi hj);
      adds_up = rows_to whole partials are h;
    };
    number = number;
  }

  pub units_of : IsMilnorTable r → UnitRows
  units_of t i j hi hj = values_are (basis_of r i) j ∙ t.quotient.units i j hi hj

  pub zero_of : IsMilnorTable r → ZeroOn
  zero_of t b i j hi hj = subst (λ f. values_of (exps n) ring f c.order (times (exps n) ring (term (exps n) ring b) (derivative (exps n) ring i (residual_of c))) j ≡ ring.zero) (sym values_same) (t.quotient.zero_on b i j hi hj)

  pub rows_of : IsWellFormedNamed r → (partials : List (List (Exp × Ext Frac))) → ArePartialLists (algebra_meaning c.algebra) n (residual_of c) partials → IsMilnorTable r → AllByRecursion (Printed partials) table
  rows_of w partials are t = rows_from (monomials_to_whole w t.monomials) partials are t.quotient.adds_up
