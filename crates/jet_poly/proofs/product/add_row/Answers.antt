use Rattle.std.proofs.Common.{◌+◌, ◌<◌, ◌++◌, take_all, sum, subst, arith}
use Rattle.ring_law.proofs.Exits.{fault_handed_on}
use Rattle.poly_law.specs.ExpList.{exps}
use Rattle.poly_law.specs.Poly.{Same, cut, times_term}
use Rattle.jet_law.specs.Terms.{exp_of, poly_of}
use Rattle.jet_poly.specs.Gathered.{gathered}
use Rattle.jet_poly.proofs.Rows
use Rattle.jet_poly.proofs.product.add_row.Goals as goal

pub returns-in_err-add_product-clause-range : goal.returns-in_err-add_product-clause-range
returns-in_err-add_product-clause-range g c =
    let m = g.R.Ring.meaning c.args.ring.now in
    fault_handed_on _ c.from_residual.ensures.1
    (λ high. Rows.row_high c.args.n m.scalars (g.met.R.Ring.laws c.args.ring.now c.requires.ring).numbers.ring m.value c.args.k (gathered c.args.n m.value c.args.sums.now.entries) (exp_of c.args.n c.args.u.0, m.value c.args.u.1) c.args.g.now c.loop-t.t-index c.t-item.result
    (gathered c.args.n m.value c.loop-t.sums.entries) c.loop-t-test.true c.t-item.is c.loop-t.invariant.so_far high)
    c.in_err-add_product.ensures.range

pub loop-t-preserved : goal.loop-t-preserved
loop-t-preserved g c =
    let m = g.R.Ring.meaning c.args.ring.now in
    record {
      within = omega arith;
      valid = c.in_ok-add_product.ensures.gathered;
      so_far = Rows.row_more c.args.n m.scalars (g.met.R.Ring.laws c.args.ring.now c.requires.ring).numbers.ring m.value c.args.k (gathered c.args.n m.value c.args.sums.now.entries) (gathered c.args.n m.value c.loop-t.sums.entries) (gathered c.args.n m.value c.add_product.new.sums.entries)
          (exp_of c.args.n c.args.u.0, m.value c.args.u.1) c.args.g.now c.loop-t.t-index c.t-item.result c.loop-t-test.true c.t-item.is c.loop-t.invariant.so_far c.in_ok-add_product.ensures.sum;
    }

pub returns-clause-sum : goal.returns-clause-sum
returns-clause-sum g c =
    let m = g.R.Ring.meaning c.args.ring.now in
    subst (λ z. Same (exps c.args.n) m.scalars.ops (gathered c.args.n m.value c.loop-t.sums.entries) (gathered c.args.n m.value c.args.sums.now.entries ++ cut (exps c.args.n) m.scalars.ops c.args.k (times_term (exps c.args.n) m.scalars.ops (exp_of c.args.n c.args.u.0, m.value c.args.u.1) (poly_of c.args.n m.value z))))
    (take_all c.loop-t.t-index c.args.g.now (omega arith)) c.loop-t.invariant.so_far

pub returns-then-degree-from-clause-sum : goal.returns-then-degree-from-clause-sum
returns-then-degree-from-clause-sum g c =
    let m = g.R.Ring.meaning c.args.ring.now in
    let high : c.args.k < sum c.args.u.0.e + sum c.t-item.result.0.e = (let d = c.degree.ensures.degree in let d' = c.degree-in-loop-t.ensures.degree in let f = c.from.ensures in let t = c.if-degree-from.true in omega arith) in
    Rows.row_ends c.args.n m.scalars (g.met.R.Ring.laws c.args.ring.now c.requires.ring).numbers.ring m.value c.args.k (gathered c.args.n m.value c.args.sums.now.entries) (gathered c.args.n m.value c.loop-t.sums.entries) c.args.u.0 (m.value c.args.u.1) c.args.g.now c.loop-t.t-index c.t-item.result
    c.requires.variables c.requires.all_variables c.requires.rising c.loop-t-test.true c.t-item.is high c.loop-t.invariant.so_far
