use Rattle.std.proofs.Common.{◌≡◌, ◌∙◌, ◌+◌, sym, ap, arith, take_all}
use Rattle.lin_row.specs.Reductions.{after_units}
use Rattle.lin_row.specs.Lines.{dot}
use Rattle.ring_theory.proofs.RingSolver
use Rattle.lin_row.proofs.LineLaws
use Rattle.lin_row.proofs.BuildLaws
use Rattle.lin_row.proofs.ReductionLaws
use Rattle.lin_row.proofs.reduction.unit_coefficients.Goals as goal

pub neg-x-requires-clause-elem : goal.neg-x-requires-clause-elem
neg-x-requires-clause-elem g c =
    let m = g.R.Ring.meaning c.args.ring.now in
    let laws = (g.met.R.Ring.laws c.args.ring.now c.requires.ring).numbers.ring in
    (LineLaws.units_at m laws c.args.left.now c.loop-t.t-index c.t-item.result c.loop-t-test.true c.t-item.is c.requires.line.units).0

pub loop-t-init : goal.loop-t-init
loop-t-init g c =
    let m = g.R.Ring.meaning c.args.ring.now in
    let laws = (g.met.R.Ring.laws c.args.ring.now c.requires.ring).numbers.ring in
    rw c.new-all.ensures.items (record { rising = tt; units = tt; within = tt; before = λ a h. tt; value = λ w none. sym (RingSolver.neg_zero m.scalars.ops laws) })

pub loop-t-preserved-in_default : goal.loop-t-preserved-in_default
loop-t-preserved-in_default g c =
    let m = g.R.Ring.meaning c.args.ring.now in
    let laws = (g.met.R.Ring.laws c.args.ring.now c.requires.ring).numbers.ring in
    let v = c.loop-t.invariant in
    record {
      rising = v.rising;
      units = v.units;
      within = v.within;
      before = λ a low. v.before a (ReductionLaws.before_taken m laws c.args.left.now c.requires.line c.loop-t.t-index c.t-item.result c.loop-t-test.true c.t-item.is 4294967296 (4294967296 + a) low).0;
      value = λ w none. ReductionLaws.other_value m laws c.args.left.now c.requires.line c.loop-t.t-index c.t-item.result c.loop-t-test.true c.t-item.is 4294967296 c.loop-t.all.items c.args.count w none c.in_default.ensures (v.value w none);
    }

pub loop-t-preserved : goal.loop-t-preserved
loop-t-preserved g c =
    let m = g.R.Ring.meaning c.args.ring.now in
    let laws = (g.met.R.Ring.laws c.args.ring.now c.requires.ring).numbers.ring in
    let v = c.loop-t.invariant in
    let left = c.args.left.now in
    let i = c.loop-t.t-index in
    let t = c.t-item.result in
    let all = c.loop-t.all.items in
    let count = c.args.count in
    let j = c.in-Some.number in
    let x = c.neg-x.result in
    let column : t.0 ≡ 4294967296 + j = c.in-Some.ensures.0 in
    rw c.in_ok-push.ensures.items
    (record {
      rising = ReductionLaws.own_rising m laws left c.requires.line i t c.loop-t-test.true c.t-item.is 4294967296 all count j x column c.neg-x.ensures.value v.rising v.before;
      units = ReductionLaws.own_units m laws left c.requires.line i t c.loop-t-test.true c.t-item.is 4294967296 all count j x column c.neg-x.ensures.value c.neg-x.ensures.elem v.units;
      within = BuildLaws.below_push all count (j, x) v.within c.in-Some.ensures.1;
      before = ReductionLaws.own_before m laws left c.requires.line i t c.loop-t-test.true c.t-item.is 4294967296 all count j x column c.neg-x.ensures.value v.before;
      value = λ w none. ReductionLaws.own_value m laws left c.requires.line i t c.loop-t-test.true c.t-item.is 4294967296 all count j x column c.neg-x.ensures.value w (v.value w none);
    })

pub returns-clause-value : goal.returns-clause-value
returns-clause-value g c = λ w none.
    let m = g.R.Ring.meaning c.args.ring.now in
    c.loop-t.invariant.value w none ∙ ap (λ ys. m.scalars.ops.neg (dot m ys (after_units m.scalars.ops 4294967296 w))) (take_all c.loop-t.t-index c.args.left.now (omega arith))
