use Rattle.std.proofs.Common.{◌∙◌, ◌+◌, [], subst}
use Rattle.ring_law.proofs.Exits.{fault_handed_on}
use Rattle.jacobian_row.specs.Rows.{polynomial_at}
use Rattle.jacobian_row.proofs.ListSteps.{same_default}
use Rattle.check_rows.specs.Lists.{list_at}
use Rattle.check_rows.specs.Products.{AreProductsHigh}
use Rattle.check_rows.proofs.rows.each_is_row.Goals as goal

pub returns-in_err-is_row-clause-range : goal.returns-in_err-is_row-clause-range
returns-in_err-is_row-clause-range g c =
    let m = g.R.Ring.meaning c.args.ring.now in
    let i = c.loop-row.row-index in
    let row = c.row-item.result in
    fault_handed_on _ c.from_residual.ensures.1
    (λ high. record {
      place = i;
      within = c.loop-row-test.true;
      high = subst (λ z. AreProductsHigh c.args.n m.scalars (c.args.k + 1) (polynomial_at c.args.n m.value z.multipliers) (list_at c.args.n m.value c.args.partials.now))
          (c.row-item.is ∙ same_default c.args.rows.now i row (record { monomial = record { e = [] }; multipliers = [] }) c.loop-row-test.true) high;
    })
    c.in_err-is_row.ensures.range
