-- The item Milnor of a report, decided by the tests of its table.
use Rattle.std.proofs.Common.{◌≡◌, Bool, List, length, IsTrue, ◌↔◌, inl, inr, subst}
use Rattle.ring_law.specs.declared.fraction.Frac.{Frac}
use Rattle.ext_algebra.specs.declared.algebra.Ext.{Ext}
use Rattle.ext_algebra.specs.Algebra.{scalars, value_in, algebra_meaning}
use Rattle.mono_exp.specs.declared.exponent.Exp.{Exp}
use Rattle.jet_law.specs.Terms.{poly_of}
use Rattle.jet_poly.specs.JetTerms.{JetTerms}
use Rattle.jet_poly.specs.Jets.{polynomial_of}
use Rattle.jacobian_row.specs.Multiples.{AreMultiples}
use Rattle.jacobian_row.specs.Rows.{IsPartialHigh}
use Rattle.jacobian_row.specs.declared.multiple.Multiple.{Multiple}
use Rattle.cert_text.specs.declared.report.Carried.{Carried}
use Rattle.cert_text.specs.declared.report.Named as named_type
use Rattle.cert_text.specs.WellFormed.{IsWellFormedNamed}
use Rattle.report_law.specs.Items.{residual_of, IsMilnorTable}
use Rattle.check_rows.specs.Lists.{ArePartialLists}
use Rattle.check_milnor.specs.Milnor.{IsTableOf, IsNumberHigh, IsMilnorHigh, IsWhole}
use Rattle.check_milnor.proofs.Join.{item_holds, low_from, units_of, zero_of, rows_of}
use Rattle.check_milnor.proofs.KernelLaw.{zero_on_all, all_zero_on}

-- the lists of the partials of the residual jet are those of the residual part
pub lists_are : (c : Carried) (g : JetTerms (Ext Frac)) (variables : g.n ≡ c.corank) → poly_of c.corank (value_in c.algebra) g.terms ≡ residual_of c → (partials : List (List (Exp × Ext Frac)))
    → ArePartialLists (algebra_meaning c.algebra) g.n (polynomial_of (algebra_meaning c.algebra) g) partials → ArePartialLists (algebra_meaning c.algebra) c.corank (residual_of c) partials
lists_are c g variables same partials are =
    subst (λ p. ArePartialLists (algebra_meaning c.algebra) c.corank p partials) same
    (subst (λ n. ArePartialLists (algebra_meaning c.algebra) n (poly_of n (value_in c.algebra) g.terms) partials) variables are)

-- and a partial of the one is high where that of the other is
pub partial_high : (r : named_type.Named) (g : JetTerms (Ext Frac)) (variables : g.n ≡ r.carried.corank) → poly_of r.carried.corank (value_in r.carried.algebra) g.terms ≡ residual_of r.carried
    → IsPartialHigh g.n (scalars r.carried.algebra) (polynomial_of (algebra_meaning r.carried.algebra) g) → IsMilnorHigh r
partial_high r g variables same high =
    inl (subst (IsPartialHigh r.carried.corank (scalars r.carried.algebra)) same
    (subst (λ n. IsPartialHigh n (scalars r.carried.algebra) (poly_of n (value_in r.carried.algebra) g.terms)) variables high))

pub number_high : (r : named_type.Named) (partials : List (List (Exp × Ext Frac))) → ArePartialLists (algebra_meaning r.carried.algebra) r.carried.corank (residual_of r.carried) partials
    → (us : List Multiple) → AreMultiples r.carried.corank 0 r.carried.order us
    → IsNumberHigh (algebra_meaning r.carried.algebra) r.carried.corank r.carried.order r.quotient.basis partials us r.quotient.table → IsMilnorHigh r
number_high r partials are us list high = inr (record { partials = partials; are_partials = are; multiples = us; are_multiples = list; high = high })

-- where the number is the size of the basis and the table is whole, the tests decide the item
pub item_decided : (r : named_type.Named) → IsWellFormedNamed r → (partials : List (List (Exp × Ext Frac)))
    → ArePartialLists (algebra_meaning r.carried.algebra) r.carried.corank (residual_of r.carried) partials
    → (us : List Multiple) → AreMultiples r.carried.corank 0 r.carried.order us → r.milnor ≡ length r.quotient.basis → IsWhole r
    → (b : Bool) → IsTrue b ↔ IsTableOf (algebra_meaning r.carried.algebra) r.carried.corank r.carried.order r.quotient.basis partials us r.quotient.table → IsTrue b ↔ IsMilnorTable r
item_decided r w partials are us list number whole b decides = (
  λ t.
      let table = decides.0 t in
      item_holds r w partials are number whole table.low table.units
      (zero_on_all (algebra_meaning r.carried.algebra) r.carried.corank r.carried.order (length r.quotient.basis) r.quotient.table (residual_of r.carried) partials are us list table.kernel)
      table.rows,
  λ item.
      decides.1 (record {
        low = low_from r w item.quotient.low;
        units = units_of r item;
        kernel = all_zero_on (algebra_meaning r.carried.algebra) r.carried.corank r.carried.order (length r.quotient.basis) r.quotient.table (residual_of r.carried) partials are us list (zero_of r item);
        rows = rows_of r w partials are item;
      }),
)
