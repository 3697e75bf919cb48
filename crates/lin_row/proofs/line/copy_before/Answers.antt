use Rattle.std.proofs.Common.{◌∙◌, ◌<◌, sym, arith, subst}
use Rattle.lin_row.specs.Lines.{IsRising}
use Rattle.lin_row.proofs.LineLaws
use Rattle.lin_row.proofs.line.copy_before.Goals as goal

pub loop-i-preserved : goal.loop-i-preserved
loop-i-preserved g c =
    let t = c.index-from-i-in-loop-i.result in
    let same = LineLaws.same_read c.args.from.now c.loop-i.i t c.index-from-i.result c.loop-i-test.true c.index-from-i-in-loop-i.is c.index-from-i.is in
    let less : t.0 < c.args.column = rw (same ∙ c.index-from-i.is) c.if-from-i.true in
    record {
      within = omega arith;
      items = rw c.in_ok-push.ensures.items (LineLaws.copied_items c.loop-i.line.items c.args.from.now c.loop-i.i t c.loop-i-test.true c.index-from-i-in-loop-i.is ∙ c.loop-i.invariant.items);
      rising = λ all x rest q. rw c.in_ok-push.ensures.items (LineLaws.copied_rising c.loop-i.line.items c.args.from.now rest c.loop-i.i t (c.args.column, x) c.loop-i-test.true c.index-from-i-in-loop-i.is less
          (subst (λ ys. IsRising ys) (sym c.loop-i.invariant.items) all) (c.loop-i.invariant.rising all x rest q));
    }
