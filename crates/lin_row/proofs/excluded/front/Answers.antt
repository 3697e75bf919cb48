use Rattle.std.proofs.Common.{◌≡◌, ◌∙◌, ◌<◌, refl, subst, arith, length, take}
use Rattle.lin_row.specs.Lines.{AllBelow, entry}
use Rattle.lin_row.specs.System.{lines_of}
use Rattle.lin_row.specs.Plain.{Among}
use Rattle.lin_row.proofs.SystemLaws
use Rattle.lin_row.proofs.ExcludedLaws
use Rattle.lin_row.proofs.excluded.front.Goals as goal

pub negated_entry-x-requires-clause-line : goal.negated_entry-x-requires-clause-line
negated_entry-x-requires-clause-line g c =
    let m = g.R.Ring.meaning c.args.ring.now in
    let laws = (g.met.R.Ring.laws c.args.ring.now c.requires.ring).numbers.ring in
    let within : c.loop-i.i < length c.args.pivots.now = omega arith in
    rw c.deref.ensures.value (SystemLaws.pivot_here m laws c.args.pivots.now c.loop-i.i c.index-pivots-i.result within c.index-pivots-i.is c.requires.pivots).line

pub loop-i-init : goal.loop-i-init
loop-i-init g c = rw c.new-all.ensures.items (record { line = record { rising = tt; units = tt }; below = λ a all. tt; value = λ w. refl; entries = tt })

pub loop-i-preserved : goal.loop-i-preserved
loop-i-preserved g c =
    let m = g.R.Ring.meaning c.args.ring.now in
    let laws = (g.met.R.Ring.laws c.args.ring.now c.requires.ring).numbers.ring in
    let ps = c.args.pivots.now in
    let i = c.loop-i.i in
    let p = c.index-pivots-i.result in
    let read = c.index-pivots-i.is in
    let within : i < length ps = omega arith in
    let old = c.loop-i.invariant in
    let x = c.negated_entry-x.result in
    let items = c.in_ok-push_entry.ensures.items in
    let e = rw c.deref.ensures.value at c.negated_entry-x.ensures.value in
    record {
      line = record {
        rising = SystemLaws.perhaps_rising c.loop-i.all.items _ (p.0, x) items old.line.rising (old.below p.0 (ExcludedLaws.below_own m laws ps i p within read c.args.column c.requires.pivots.rising));
        units = c.in_ok-push_entry.ensures.units;
      };
      below = λ a all.
          let split = ExcludedLaws.below_take m laws ps i p within read c.args.column a all in
          SystemLaws.perhaps_below c.loop-i.all.items _ (p.0, x) items a (old.below a split.0) split.1;
      value = λ w. c.in_ok-push_entry.ensures.value w ∙ ExcludedLaws.front_step m laws ps i p within read c.args.column _ w (m.value x) (old.value w) e;
      entries = SystemLaws.perhaps_each c.loop-i.all.items _ (p.0, x) items (λ t. Among (λ q. m.value t.1 ≡ m.scalars.ops.neg (entry m q.1 c.args.column)) (lines_of ps)) old.entries (ExcludedLaws.pivot_among m laws ps i p within read c.args.column (m.value x) e);
    }

pub returns-clause-below : goal.returns-clause-below
returns-clause-below g c a all =
    let e : c.args.count ≡ c.loop-i.i = omega arith in
    c.loop-i.invariant.below a (subst (λ i. AllBelow a (lines_of (take i c.args.pivots.now))) e all)
