use Rattle.probe.proofs.RowLemmas.{rows_push, below_push}
use Rattle.probe.proofs.rows.rows_of.Goals as goal

pub loop-i-preserved : goal.loop-i-preserved
loop-i-preserved g c =
    rw c.in_ok-push.ensures.items
    (record {
      rows = rows_push (g.F.Ring.meaning c.args.over.now.field) c.loop-i.rows.items c.in_ok-row.row c.loop-i.invariant.rows c.in_ok-row.ensures.line;
      below = below_push c.args.over.now.n c.loop-i.rows.items c.in_ok-row.row c.loop-i.invariant.below c.in_ok-row.ensures.below;
    })
