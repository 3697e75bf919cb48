use Rattle.std.proofs.Common.{◌∙◌, arith}
use Rattle.certificate.proofs.Inverses.{is_zero_by, found_zero, units_more, all_units}
use Rattle.certificate.proofs.unit.are_units.Goals as goal

pub returns-then-eq : goal.returns-then-eq
returns-then-eq g c =
    let m = g.R.Ring.meaning c.args.ring.now in
    found_zero m c.args.xs.now c.loop-x.x-index c.x-item.result c.loop-x-test.true c.x-item.is
    (is_zero_by m (g.met.R.Ring.laws c.args.ring.now c.requires.ring).numbers c.x-item.result c.zero.result c.eq.result c.eq.ensures c.zero.ensures.value ∙ c.if-eq.true)

pub loop-x-preserved : goal.loop-x-preserved
loop-x-preserved g c =
    let m = g.R.Ring.meaning c.args.ring.now in
    record {
      within = omega arith;
      units_before = units_more m c.args.xs.now c.loop-x.x-index c.x-item.result c.loop-x-test.true c.x-item.is
          (is_zero_by m (g.met.R.Ring.laws c.args.ring.now c.requires.ring).numbers c.x-item.result c.zero.result c.eq.result c.eq.ensures c.zero.ensures.value ∙ c.if-eq.false) c.loop-x.invariant.units_before;
    }

pub returns : goal.returns
returns g c =
    let m = g.R.Ring.meaning c.args.ring.now in
    all_units m c.args.xs.now c.loop-x.x-index (omega arith) c.loop-x.invariant.units_before
