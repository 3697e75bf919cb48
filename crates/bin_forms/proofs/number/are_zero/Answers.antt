use Rattle.std.proofs.Common.{◌∙◌, sym, arith}
use Rattle.bin_forms.proofs.ZeroSteps
use Rattle.bin_forms.proofs.number.are_zero.Goals as goal

pub returns-then-not-is_zero : goal.returns-then-not-is_zero
returns-then-not-is_zero g c =
    let m = g.R.Ring.meaning c.args.ring.now in
    ZeroSteps.found_nonzero m c.args.xs.now c.loop-x.x-index c.x-item.result c.loop-x-test.true c.x-item.is (sym c.if-not-is_zero.true ∙ c.is_zero.ensures)

pub loop-x-preserved : goal.loop-x-preserved
loop-x-preserved g c =
    let m = g.R.Ring.meaning c.args.ring.now in
    record {
      within = omega arith;
      zero_before = ZeroSteps.zeros_more m c.args.xs.now c.loop-x.x-index c.x-item.result c.loop-x-test.true c.x-item.is (sym c.if-not-is_zero.false ∙ c.is_zero.ensures) c.loop-x.invariant.zero_before;
    }

pub returns : goal.returns
returns g c =
    let m = g.R.Ring.meaning c.args.ring.now in
    ZeroSteps.all_zero m c.args.xs.now c.loop-x.x-index (omega arith) c.loop-x.invariant.zero_before
