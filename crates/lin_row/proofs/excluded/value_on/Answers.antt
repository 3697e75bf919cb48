use Rattle.std.proofs.Common.{◌∙◌, ap, arith, take_all}
use Rattle.lin_row.specs.Lines.{dot, entry}
use Rattle.lin_row.proofs.LineLaws
use Rattle.lin_row.proofs.ExcludedLaws
use Rattle.lin_row.proofs.excluded.value_on.Goals as goal

pub add_product-requires-clause-x : goal.add_product-requires-clause-x
add_product-requires-clause-x g c =
    let m = g.R.Ring.meaning c.args.ring.now in
    (LineLaws.units_at m (g.met.R.Ring.laws c.args.ring.now c.requires.ring).numbers.ring c.args.row.now c.loop-t.t-index c.t-item.result c.loop-t-test.true c.t-item.is c.requires.row.units).0

pub add_product-requires-clause-y : goal.add_product-requires-clause-y
add_product-requires-clause-y g c =
    let m = g.R.Ring.meaning c.args.ring.now in
    ExcludedLaws.some_elem m (g.met.R.Ring.laws c.args.ring.now c.requires.ring).numbers.ring c.args.values.now c.t-item.result.0 c.entry_at.result c.requires.values.units c.entry_at.ensures

pub loop-t-preserved : goal.loop-t-preserved
loop-t-preserved g c =
    let m = g.R.Ring.meaning c.args.ring.now in
    let laws = (g.met.R.Ring.laws c.args.ring.now c.requires.ring).numbers.ring in
    let t = c.t-item.result in
    record {
      within = omega arith;
      elem = c.in_ok-sum.ensures.elem;
      value = ExcludedLaws.summed m laws c.args.row.now c.loop-t.t-index t (entry m c.args.values.now) _ _ c.loop-t-test.true c.t-item.is c.loop-t.invariant.value
          (ExcludedLaws.some_value m laws c.args.values.now t.0 c.entry_at.result _ _ (m.value t.1) c.requires.values.rising c.entry_at.ensures c.in_ok-sum.ensures.value);
    }

pub returns-clause-value : goal.returns-clause-value
returns-clause-value g c =
    let m = g.R.Ring.meaning c.args.ring.now in
    c.loop-t.invariant.value ∙ ap (λ ys. dot m ys (entry m c.args.values.now)) (take_all c.loop-t.t-index c.args.row.now (omega arith))
