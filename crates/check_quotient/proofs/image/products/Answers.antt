use Rattle.std.proofs.Common.{◌≤◌, ◌^◌, ap, subst, ◌∙◌, arith}
use Rattle.ring_law.proofs.Exits.{faulted}
use Rattle.jet_poly.proofs.Output.{all-push}
use Rattle.check_rows.proofs.ListLemmas.{mapped_step, mapped_high}
use Rattle.check_quotient.specs.Tables.{value_in}
use Rattle.check_quotient.proofs.image.products.Goals as goal

pub returns-in_err-x-clause-range : goal.returns-in_err-x-clause-range
returns-in_err-x-clause-range g c =
    let m = g.R.Ring.meaning c.args.ring.now in
    let t = c.t-item.result in
    faulted _ c.from_residual.ensures.1
    (λ high. mapped_high c.args.n m.value (λ t. m.scalars.product_height t.1 (value_in m c.args.n c.args.table.now t.0 c.args.j)) c.args.f.now c.loop-t.t-index t c.loop-t-test.true c.t-item.is
    (subst (λ z. 2 ^ 120 ≤ m.scalars.product_height (m.value t.1) z) c.value_at.ensures.value high))
    c.in_err-x.ensures.cause

pub loop-t-preserved : goal.loop-t-preserved
loop-t-preserved g c =
    let m = g.R.Ring.meaning c.args.ring.now in
    let t = c.t-item.result in
    rw c.in_ok-push.ensures.items
    (record {
      within = omega arith;
      elems = all-push m.is_elem c.loop-t.all.items c.in_ok-x.x c.loop-t.invariant.elems c.in_ok-x.ensures.elem;
      so_far = mapped_step c.args.n m.value m.value (λ t. m.scalars.ops.mul t.1 (value_in m c.args.n c.args.table.now t.0 c.args.j)) c.args.f.now c.loop-t.t-index t c.loop-t.all.items c.in_ok-x.x c.loop-t-test.true c.t-item.is
          (c.in_ok-x.ensures.value ∙ ap (m.scalars.ops.mul (m.value t.1)) c.value_at.ensures.value) c.loop-t.invariant.so_far;
    })
