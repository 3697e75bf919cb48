use Rattle.std.proofs.Common.{◌≤◌, ◌^◌, ap, subst, ◌∙◌, add-one}
use Rattle.ring_law.proofs.Exits.{handed_on}
use Rattle.ring_formula.proofs.Steps
use Rattle.ring_formula.proofs.multiplied.Goals as goal

pub returns-in_err-y-clause-range : goal.returns-in_err-y-clause-range
returns-in_err-y-clause-range g c =
    let m = g.R.Ring.meaning c.args.ring.now in
    handed_on _ c.from_residual.ensures.1
    (λ high. Steps.power_high m.scalars (m.value c.args.v) (m.value c.args.x) c.args.k c.loop-i._i c.loop-i-test.true
    (subst (λ z. 2 ^ 120 ≤ m.scalars.product_height z (m.value c.args.x)) c.loop-i.invariant.value high))
    c.in_err-y.ensures.cause

pub loop-i-preserved : goal.loop-i-preserved
loop-i-preserved g c =
    let m = g.R.Ring.meaning c.args.ring.now in
    record {
      elem = c.in_ok-y.ensures.elem;
      value = rw add-one (c.in_ok-y.ensures.value ∙ ap (λ z. m.scalars.ops.mul z (m.value c.args.x)) c.loop-i.invariant.value);
    }
