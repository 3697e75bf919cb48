use Rattle.ring_law.proofs.Exits.{faulted}
use Rattle.poly_law.specs.ExpList.{exps}
use Rattle.poly_law.specs.Poly.{coefficient}
use Rattle.poly_law.specs.Polynomials.{term_in, times_in}
use Rattle.jet_law.specs.Terms.{exp_of, poly_of}
use Rattle.jet_poly.proofs.Output.{all-push}
use Rattle.check_rows.proofs.ListLemmas.{mapped_step, mapped_high}
use Rattle.check_rows.proofs.functional.value_products.Goals as goal

pub returns-in_err-x-clause-range : goal.returns-in_err-x-clause-range
returns-in_err-x-clause-range g c =
    let m = g.R.Ring.meaning c.args.ring.now in
    let n = c.args.n in
    let all = times_in n m.scalars.ops (term_in n m.scalars.ops (exp_of n c.args.a)) (poly_of n m.value c.args.f.now.terms) in
    faulted _ c.from_residual.ensures.1
    (λ high. mapped_high n m.value (λ u. m.scalars.product_height u.1 (coefficient (exps n) m.scalars.ops all u.0)) c.args.values.now c.loop-t.t-index c.t-item.result c.loop-t-test.true c.t-item.is high) c.in_err-x.ensures.range

pub loop-t-preserved : goal.loop-t-preserved
loop-t-preserved g c =
    let m = g.R.Ring.meaning c.args.ring.now in
    let n = c.args.n in
    let all = times_in n m.scalars.ops (term_in n m.scalars.ops (exp_of n c.args.a)) (poly_of n m.value c.args.f.now.terms) in
    rw c.in_ok-push.ensures.items
    (record {
      elems = all-push m.is_elem c.loop-t.all.items c.in_ok-x.x c.loop-t.invariant.elems c.in_ok-x.ensures.elem;
      so_far = mapped_step n m.value m.value (λ u. m.scalars.ops.mul u.1 (coefficient (exps n) m.scalars.ops all u.0)) c.args.values.now c.loop-t.t-index c.t-item.result c.loop-t.all.items c.in_ok-x.x c.loop-t-test.true c.t-item.is
          c.in_ok-x.ensures.product c.loop-t.invariant.so_far;
    })
