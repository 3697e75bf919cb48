use Rattle.std.proofs.Common.{◌≤◌, sym, subst, ◌∙◌}
use Rattle.ring_law.proofs.Exits.{fault_handed_on}
use Rattle.line_jet_law.proofs.RingLaws.{product_jet, product-value, product_high}
use Rattle.line_jet.proofs.ring.product.Goals as goal

pub mul_cut-requires : goal.mul_cut-requires
mul_cut-requires c = record {
  ring = tt;
  left = c.requires.left.is_jet;
  right = c.requires.right.is_jet;
  same_variables = c.requires.right.n_is ∙ sym c.requires.left.n_is;
  at_most_8_variables = subst (λ m. m ≤ 8) (sym c.requires.left.n_is) c.requires.few;
  order_at_most_17 = c.requires.low;
}

pub returns-in_err-h-clause-cause : goal.returns-in_err-h-clause-cause
returns-in_err-h-clause-cause c =
    fault_handed_on c.from_residual.result c.from_residual.ensures.1 (product_high c.args.n c.args.k c.args.f.now c.args.g.now c.requires.left) c.in_err-h.ensures.range

pub returns-clause-elem : goal.returns-clause-elem
returns-clause-elem c =
    let e = c.in_ok-h.ensures in
    let j = product_jet c.args.n c.args.k c.args.f.now c.in_ok-h.h c.requires.left e.jet (rw c.in_order.ensures.same at c.in_order.ensures.rising) e.n e.order in
    rw c.in_order.ensures.same j

pub returns-clause-value : goal.returns-clause-value
returns-clause-value c =
    let e = c.in_ok-h.ensures in
    let j = product_jet c.args.n c.args.k c.args.f.now c.in_ok-h.h c.requires.left e.jet (rw c.in_order.ensures.same at c.in_order.ensures.rising) e.n e.order in
    rw c.in_order.ensures.same (product-value c.args.n c.args.k c.args.f.now c.args.g.now c.in_ok-h.h c.requires.left j e.product)
