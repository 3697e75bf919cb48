use Rattle.std.proofs.Common.{◌∙◌, take_all, subst, arith}
use Rattle.ring_law.proofs.Exits.{fault_handed_on, faulted_by}
use Rattle.poly_law.specs.ExpList.{exps}
use Rattle.poly_law.specs.Poly.{Same, cut, times}
use Rattle.jet_law.specs.Terms.{poly_of}
use Rattle.jet_poly.specs.Gathered.{gathered}
use Rattle.jet_poly.proofs.Rows
use Rattle.jet_poly.proofs.Steps.{if_ok}
use Rattle.jet_poly.proofs.product.product_of.Goals as goal

pub returns-in_err-add_row-clause-range : goal.returns-in_err-add_row-clause-range
returns-in_err-add_row-clause-range g c =
    let m = g.R.Ring.meaning c.args.ring.now in
    fault_handed_on _ c.from_residual.ensures.1
    (λ high. Rows.product_high c.args.n m.scalars (g.met.R.Ring.laws c.args.ring.now c.requires.ring).numbers.ring m.value c.args.k (gathered c.args.n m.value c.loop-u.sums.entries) c.args.f.now (poly_of c.args.n m.value c.args.g.now) c.loop-u.u-index c.u-item.result
    c.loop-u-test.true c.u-item.is c.loop-u.invariant.so_far high)
    c.in_err-add_row.ensures.range

pub loop-u-preserved : goal.loop-u-preserved
loop-u-preserved g c =
    let m = g.R.Ring.meaning c.args.ring.now in
    record {
      within = omega arith;
      valid = c.in_ok-add_row.ensures.gathered;
      so_far = Rows.product_more c.args.n m.scalars (g.met.R.Ring.laws c.args.ring.now c.requires.ring).numbers.ring m.value c.args.k (gathered c.args.n m.value c.loop-u.sums.entries) (gathered c.args.n m.value c.add_row.new.sums.entries) c.args.f.now (poly_of c.args.n m.value c.args.g.now)
          c.loop-u.u-index c.u-item.result c.loop-u-test.true c.u-item.is c.loop-u.invariant.so_far c.in_ok-add_row.ensures.sum;
    }

pub returns-clause-product : goal.returns-clause-product
returns-clause-product g c =
    let m = g.R.Ring.meaning c.args.ring.now in
    if_ok c.finished.result
    (λ h same b. same b ∙ subst (λ z. Same (exps c.args.n) m.scalars.ops (gathered c.args.n m.value c.loop-u.sums.entries) (cut (exps c.args.n) m.scalars.ops c.args.k (times (exps c.args.n) m.scalars.ops (poly_of c.args.n m.value z) (poly_of c.args.n m.value c.args.g.now))))
    (take_all c.loop-u.u-index c.args.f.now (omega arith)) c.loop-u.invariant.so_far b)
    c.finished.ensures.sum

pub returns-clause-range : goal.returns-clause-range
returns-clause-range g c = faulted_by (λ bad. absurd bad) c.finished.ensures.memory
