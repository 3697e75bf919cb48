-- Mather's test and the truncated Milnor algebra of a carried germ, as a report holds them.
use Rattle.std.specs.Prelude.{◌+◌, ◌≤◌, IsTrue, List, length, nat_le, sum}
use Rattle.std.specs.List.{list_all, AllByRecursion}
use Rattle.ring_law.specs.declared.fraction.Frac.{Frac}
use Rattle.ext_algebra.specs.declared.algebra.Ext.{Ext}
use Rattle.poly_law.specs.ExpList.{exps}
use Rattle.poly_law.specs.Poly.{MatherFails}
use Rattle.mono_exp.specs.declared.exponent.Exp.{Exp}
use Rattle.jet_law.specs.Canonical.{monomial_in}
use Rattle.jet_poly.specs.JetTerms.{IsRising}
use Rattle.determinacy.specs.declared.row.MatherRow.{MatherRow}
use Rattle.determinacy.specs.declared.row.MatherTest.{MatherTest}
use Rattle.determinacy.specs.declared.row.MatherTest.TheVariants.{Holds, Fails}
use Rattle.milnor_alg.specs.declared.quotient.JetQuotient.{JetQuotient}
use Rattle.normal_forms.specs.Monomials.{monomials_in}
use Rattle.cert_text.specs.declared.report.Carried.{Carried}
use Rattle.cert_text.specs.declared.report.Named as named_type
use Rattle.cert_text.specs.WellFormed.{AreRows, IsWellFormedTableRow, is_residual_monomial, is_functional_value, list_limit}
use Rattle.report_law.specs.Polynomials.{terms_in}
use Rattle.report_law.specs.Items.{ring_of, residual_of, AreMatherRows, IsMilnorTable}

-- rows of Mather's condition for the residual part at the order, as a report holds them
pub record AreReportedRows (c : Carried) (rows : List (MatherRow (Ext Frac))) : Type 0 where
  pub each : AreMatherRows c rows
  pub well_formed : AreRows c rows

-- a functional which shows that the residual part has no rows at the order, as a report holds it
pub record IsReportedFunctional (c : Carried) (functional : List (Exp × Ext Frac)) (at : Exp) : Type 0 where
  pub low : IsTrue (list_all (λ m. nat_le (sum m.e) (c.order + 1)) (monomials_in functional))
  pub fails : MatherFails (exps c.corank) (ring_of c) c.order (residual_of c) (terms_in c.corank c.algebra functional) (monomial_in c.corank at.e)
  pub at_residual : IsTrue (is_residual_monomial c at)
  pub few : length functional ≤ list_limit
  pub rising : IsRising functional
  pub values : IsTrue (list_all (is_functional_value c.algebra c.corank) functional)

-- the answer of Mather's test
abbrev pub IsReportedTest : Carried → MatherTest (Ext Frac) → Type 0
IsReportedTest c (Holds rows) = AreReportedRows c rows
IsReportedTest c (Fails functional at) = IsReportedFunctional c functional at

-- a basis and a table of the jets modulo the partials of the residual part, as a report holds them
pub record IsReportedQuotient (c : Carried) (q : JetQuotient (Ext Frac)) : Type 0 where
  pub table_is : (r : named_type.Named) → IsMilnorTable (record r { carried = c; milnor = length q.basis; quotient = q })
  pub some_in_basis : 1 ≤ length q.basis
  pub few_in_basis : length q.basis ≤ list_limit
  pub basis : IsTrue (list_all (is_residual_monomial c) q.basis)
  pub few_in_table : length q.table ≤ list_limit
  pub table : AllByRecursion (IsWellFormedTableRow c (length q.basis)) q.table
