use Rattle.std.proofs.Common.{◌∙◌, subst, arith, take_all}
use Rattle.lin_row.specs.Lines.{lead_of}
use Rattle.lin_row.specs.System.{IsAbsent, lines_of}
use Rattle.lin_row.proofs.SystemLaws
use Rattle.lin_row.proofs.echelon.led.Goals as goal

pub clear_lead-requires-clause-pivot : goal.clear_lead-requires-clause-pivot
clear_lead-requires-clause-pivot g c =
    let m = g.R.Ring.meaning c.args.ring.now in
    let laws = (g.met.R.Ring.laws c.args.ring.now c.requires.ring).numbers.ring in
    rw c.deref.ensures.value (SystemLaws.pivot_here m laws c.args.pivots.now c.loop-p.p-index c.p-item.result c.loop-p-test.true c.p-item.is c.requires.pivots)

pub clear_lead-requires-clause-given : goal.clear_lead-requires-clause-given
clear_lead-requires-clause-given g c =
    let m = g.R.Ring.meaning c.args.ring.now in
    let laws = (g.met.R.Ring.laws c.args.ring.now c.requires.ring).numbers.ring in
    SystemLaws.below_here c.args.pivots.now c.loop-p.p-index c.p-item.result c.loop-p-test.true c.p-item.is 4294967296 c.requires.below

pub loop-p-preserved : goal.loop-p-preserved
loop-p-preserved g c =
    let m = g.R.Ring.meaning c.args.ring.now in
    let laws = (g.met.R.Ring.laws c.args.ring.now c.requires.ring).numbers.ring in
    let p = c.p-item.result in
    record {
      within = omega arith;
      line = c.in_ok-left.ensures.line;
      absent = SystemLaws.next_absent m laws c.args.pivots.now c.loop-p.p-index p c.loop-p-test.true c.p-item.is (lead_of c.loop-p.left.items) _ c.requires.pivots c.loop-p.invariant.absent c.in_ok-left.ensures.lead c.in_ok-left.ensures.earlier;
      same = λ w vanish. c.in_ok-left.ensures.same w (rw c.deref.ensures.value (SystemLaws.vanish_here m laws c.args.pivots.now c.loop-p.p-index p c.loop-p-test.true c.p-item.is w vanish)) ∙ c.loop-p.invariant.same w vanish;
    }

pub returns-clause-absent : goal.returns-clause-absent
returns-clause-absent g c =
    subst (λ ps. IsAbsent (lead_of c.loop-p.left.items) (lines_of ps)) (take_all c.loop-p.p-index c.args.pivots.now (omega arith)) c.loop-p.invariant.absent
