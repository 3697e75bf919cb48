use Rattle.std.proofs.Common.{◌∙◌, subst, arith, take_all}
use Rattle.ring_law.proofs.Exits.{fault_handed_on}
use Rattle.lin_row.specs.System.{IsCleared, IsClearing, lines_of}
use Rattle.lin_row.proofs.SystemLaws
use Rattle.lin_row.proofs.echelon.remainder.Goals as goal

pub clear_entry-requires-clause-pivot : goal.clear_entry-requires-clause-pivot
clear_entry-requires-clause-pivot g c =
    let m = g.R.Ring.meaning c.args.ring.now in
    let laws = (g.met.R.Ring.laws c.args.ring.now c.requires.ring).numbers.ring in
    rw c.deref.ensures.value (SystemLaws.next_pivot m laws c.args.pivots.now c.loop-p.p-index c.p-item.result c.loop-p-test.true c.p-item.is c.requires.pivots).line

pub returns-in_err-left-clause-cause : goal.returns-in_err-left-clause-cause
returns-in_err-left-clause-cause g c =
    let m = g.R.Ring.meaning c.args.ring.now in
    let laws = (g.met.R.Ring.laws c.args.ring.now c.requires.ring).numbers.ring in
    fault_handed_on _ c.from_residual.ensures.1
    (λ high. c.loop-p.invariant.high (SystemLaws.first_high m laws c.args.pivots.now c.loop-p.p-index c.p-item.result c.loop-p-test.true c.p-item.is c.loop-p.left.items (rw c.deref.ensures.value at high)))
    c.in_err-left.ensures.cause

pub loop-p-preserved : goal.loop-p-preserved
loop-p-preserved g c =
    let m = g.R.Ring.meaning c.args.ring.now in
    let laws = (g.met.R.Ring.laws c.args.ring.now c.requires.ring).numbers.ring in
    let p = c.p-item.result in
    let clearing : IsClearing m p.0 p.1.items c.loop-p.left.items c.in_ok-left.left.items = rw c.deref.ensures.value at c.in_ok-left.ensures.cleared in
    let adds = SystemLaws.clearing_adds m laws p.0 p.1.items c.loop-p.left.items c.in_ok-left.left.items clearing in
    let pivot = SystemLaws.next_pivot m laws c.args.pivots.now c.loop-p.p-index p c.loop-p-test.true c.p-item.is c.requires.pivots in
    let zero = SystemLaws.clearing_zero m laws p.0 p.1.items c.loop-p.left.items c.in_ok-left.left.items clearing pivot.one in
    let entries = SystemLaws.clearing-entries m laws p.0 p.1.items c.loop-p.left.items c.in_ok-left.left.items clearing in
    record {
      within = omega arith;
      line = clearing.line;
      cleared = SystemLaws.next_cleared m laws c.args.pivots.now c.loop-p.p-index p c.loop-p-test.true c.p-item.is c.requires.pivots c.loop-p.left.items _ adds zero c.loop-p.invariant.cleared;
      same = λ w vanish. SystemLaws.next_same m laws c.args.pivots.now c.loop-p.p-index p c.loop-p-test.true c.p-item.is c.requires.pivots c.loop-p.left.items _ w _ adds vanish (c.loop-p.invariant.same w vanish);
      entries = SystemLaws.step-entries m laws c.args.pivots.now c.loop-p.p-index p c.loop-p-test.true c.p-item.is c.loop-p.left.items c.in_ok-left.left.items entries ∙ c.loop-p.invariant.entries;
      high = λ h. c.loop-p.invariant.high (SystemLaws.later_high m laws c.args.pivots.now c.loop-p.p-index p c.loop-p-test.true c.p-item.is c.loop-p.left.items c.in_ok-left.left.items entries h);
    }

pub returns-clause-cleared : goal.returns-clause-cleared
returns-clause-cleared g c =
    let m = g.R.Ring.meaning c.args.ring.now in
    subst (λ ps. IsCleared m (lines_of ps) c.loop-p.left.items) (take_all c.loop-p.p-index c.args.pivots.now (omega arith)) c.loop-p.invariant.cleared

pub returns-clause-entries : goal.returns-clause-entries
returns-clause-entries g c =
    let m = g.R.Ring.meaning c.args.ring.now in
    let laws = (g.met.R.Ring.laws c.args.ring.now c.requires.ring).numbers.ring in
    SystemLaws.end-entries m laws c.args.pivots.now c.loop-p.p-index c.loop-p.left.items _ (omega arith) c.loop-p.invariant.entries
