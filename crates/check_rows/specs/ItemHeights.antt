-- When the numbers of the items Mather and Functional of a report are high.
use Rattle.std.specs.Prelude.{List, length}
use Rattle.ring_law.specs.declared.fraction.Frac.{Frac}
use Rattle.ext_algebra.specs.declared.algebra.Ext.{Ext}
use Rattle.ext_algebra.specs.Algebra.{scalars}
use Rattle.jet_law.specs.Canonical.{monomial_in}
use Rattle.determinacy.specs.declared.row.MatherRow.{MatherRow}
use Rattle.cert_text.specs.declared.report.Carried.{Carried}
use Rattle.cert_text.specs.declared.report.Limit as limit_type
use Rattle.report_law.specs.Polynomials.{terms_in, jet_at}
use Rattle.report_law.specs.Items.{residual_of}
use Rattle.check_rows.specs.Rows.{AreRowsHigh, row_at}
use Rattle.check_rows.specs.Functionals.{AreValuesHigh}

-- a partial of the residual part, or a product or a sum of some printed row, has height at least 2^120
abbrev pub IsMatherHigh : Carried → List (MatherRow (Ext Frac)) → Type 0
IsMatherHigh c rows = AreRowsHigh c.corank (scalars c.algebra) c.order (residual_of c) (length rows) (λ i. jet_at c.corank c.algebra (row_at rows i).multipliers)

-- a partial of the residual part, or the value of the printed functional at a multiple of one or at the named monomial, with its products and
-- its sum, has height at least 2^120
abbrev pub IsFunctionalHigh : limit_type.Limit → Type 0
IsFunctionalHigh r =
    AreValuesHigh r.carried.corank (scalars r.carried.algebra) r.carried.order (residual_of r.carried) (terms_in r.carried.corank r.carried.algebra r.functional) (monomial_in r.carried.corank r.at.e)
