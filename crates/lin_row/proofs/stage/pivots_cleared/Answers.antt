use Rattle.std.proofs.Common.{subst, arith, take_all}
use Rattle.ring_law.proofs.Exits.{fault_handed_on}
use Rattle.lin_row.specs.Lines.{entry, SumIsRefused, IsLine}
use Rattle.lin_row.specs.System.{IsClearing, lines_of}
use Rattle.lin_row.specs.Stages.{ArePivotsCleared}
use Rattle.lin_row.proofs.StageLaws
use Rattle.lin_row.proofs.stage.pivots_cleared.Goals as goal

pub clear_entry-requires-clause-line : goal.clear_entry-requires-clause-line
clear_entry-requires-clause-line g c =
    let m = g.R.Ring.meaning c.args.ring.now in
    rw (c.in_ok-copy.ensures.items, c.deref.ensures.value) (StageLaws.pivot_line_at m (IsLine m) c.args.rows.now c.loop-row.row-index c.row-item.result c.loop-row-test.true c.row-item.is c.requires.rows)

pub returns-in_err-next-clause-cause : goal.returns-in_err-next-clause-cause
returns-in_err-next-clause-cause g c =
    let m = g.R.Ring.meaning c.args.ring.now in
    fault_handed_on _ c.from_residual-in_err-next.ensures.1
    (λ high. StageLaws.among_pivots m (λ x. SumIsRefused m.scalars x.1 (m.scalars.ops.neg (x.1 c.args.column)) (entry m c.args.pivot.now)) c.args.rows.now c.loop-row.row-index c.row-item.result c.loop-row-test.true c.row-item.is (rw (c.in_ok-copy.ensures.items, c.deref.ensures.value) at high))
    c.in_err-next.ensures.cause

pub loop-row-preserved : goal.loop-row-preserved
loop-row-preserved g c =
    let m = g.R.Ring.meaning c.args.ring.now in
    let here : IsClearing m c.args.column c.args.pivot.now c.row-item.result.1.items c.in_ok-next.next.items = rw (c.in_ok-copy.ensures.items, c.deref.ensures.value) at c.in_ok-next.ensures.cleared in
    record {
      within = omega arith;
      cleared = rw c.in_ok-push.ensures.items (StageLaws.pivots_more m c.args.column c.args.pivot.now c.args.rows.now c.loop-row.all.items c.loop-row.row-index c.row-item.result c.in_ok-next.next c.loop-row-test.true c.row-item.is c.loop-row.invariant.cleared here);
    }

pub returns-clause-cleared : goal.returns-clause-cleared
returns-clause-cleared g c =
    subst (λ vs. ArePivotsCleared (g.R.Ring.meaning c.args.ring.now) c.args.column c.args.pivot.now (lines_of vs) (lines_of c.loop-row.all.items)) (take_all c.loop-row.row-index c.args.rows.now (omega arith)) c.loop-row.invariant.cleared
