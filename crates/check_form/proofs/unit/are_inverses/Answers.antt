use Rattle.ring_law.proofs.Exits.{handed_on}
use Rattle.jet_law.proofs.High.{high_mapped}
use Rattle.check_form.proofs.unit.are_inverses.Goals as goal

pub returns-in_err-product-clause-range : goal.returns-in_err-product-clause-range
returns-in_err-product-clause-range g c =
    let m = g.R.Ring.meaning c.args.ring.now in
    handed_on _ c.from_residual.ensures.1
    (high_mapped (λ p. m.scalars.product_height (m.value p.0) (m.value p.1)) c.args.pairs.now c.loop-i.i c.index-pairs-i.result c.loop-i-test.true c.index-pairs-i.is)
    c.in_err-product.ensures.cause
