use Rattle.std.proofs.Common.{◌<◌, ◌-◌, arith, length}
use Rattle.lin_row.proofs.SystemLaws
use Rattle.lin_row.proofs.ExcludedLaws
use Rattle.lin_row.proofs.excluded.functional.Goals as goal

pub settle-requires-clause-pivot : goal.settle-requires-clause-pivot
settle-requires-clause-pivot g c =
    let m = g.R.Ring.meaning c.args.ring.now in
    let laws = (g.met.R.Ring.laws c.args.ring.now c.requires.ring).numbers.ring in
    let within : c.loop-k.k - 1 < length c.args.pivots.now = omega arith in
    rw c.deref.ensures.value (SystemLaws.next_pivot m laws c.args.pivots.now (c.loop-k.k - 1) c.index-pivots-k.result within c.index-pivots-k.is c.requires.pivots)

pub loop-k-preserved : goal.loop-k-preserved
loop-k-preserved g c =
    let m = g.R.Ring.meaning c.args.ring.now in
    let laws = (g.met.R.Ring.laws c.args.ring.now c.requires.ring).numbers.ring in
    let within : c.loop-k.k - 1 < length c.args.pivots.now = omega arith in
    let p = c.index-pivots-k.result in
    let settled = rw c.deref.ensures.value at c.in_ok-values.ensures.settled in
    record {
      within = omega arith;
      line = c.in_ok-values.ensures.line;
      vanish = ExcludedLaws.settled_vanish m laws c.args.pivots.now (c.loop-k.k - 1) p within c.index-pivots-k.is c.loop-k.k c.loop-k.values.items c.in_ok-values.values.items (omega arith) c.requires.pivots settled c.loop-k.invariant.vanish;
      same = λ w zeros. ExcludedLaws.settled_same m laws c.args.pivots.now (c.loop-k.k - 1) p within c.index-pivots-k.is c.loop-k.values.items c.in_ok-values.values.items w _ settled zeros (c.loop-k.invariant.same w zeros);
    }
