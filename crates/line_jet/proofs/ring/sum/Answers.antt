use Rattle.std.proofs.Common.{◌≤◌, sym, subst, ◌∙◌}
use Rattle.ring_law.proofs.Exits.{fault_handed_on}
use Rattle.line_jet_law.proofs.RingLaws.{same_order, sum_jet, sum-value, sum_high}
use Rattle.line_jet.proofs.ring.sum.Goals as goal

pub add-requires : goal.add-requires
add-requires c = record {
  ring = tt;
  left = c.requires.left.is_jet;
  right = c.requires.right.is_jet;
  same_variables = c.requires.right.n_is ∙ sym c.requires.left.n_is;
  at_most_8_variables = subst (λ m. m ≤ 8) (sym c.requires.left.n_is) c.requires.few;
  order_at_most_17 = subst (λ m. m ≤ 17) (sym (same_order c.args.n c.args.k c.args.f.now c.args.g.now c.requires.left c.requires.right)) c.requires.low;
}

pub returns-in_err-h-clause-cause : goal.returns-in_err-h-clause-cause
returns-in_err-h-clause-cause c =
    fault_handed_on c.from_residual.result c.from_residual.ensures.1 (sum_high c.args.n c.args.k c.args.f.now c.args.g.now c.requires.left c.requires.right) c.in_err-h.ensures.range

pub returns-clause-elem : goal.returns-clause-elem
returns-clause-elem c =
    let e = c.in_ok-h.ensures in
    let j = sum_jet c.args.n c.args.k c.args.f.now c.args.g.now c.in_ok-h.h c.requires.left c.requires.right e.jet (rw c.in_order.ensures.same at c.in_order.ensures.rising) e.n e.order in
    rw c.in_order.ensures.same j

pub returns-clause-value : goal.returns-clause-value
returns-clause-value c =
    let e = c.in_ok-h.ensures in
    let j = sum_jet c.args.n c.args.k c.args.f.now c.args.g.now c.in_ok-h.h c.requires.left c.requires.right e.jet (rw c.in_order.ensures.same at c.in_order.ensures.rising) e.n e.order in
    rw c.in_order.ensures.same (sum-value c.args.n c.args.k c.args.f.now c.args.g.now c.in_ok-h.h c.requires.left c.requires.right j e.sum)
