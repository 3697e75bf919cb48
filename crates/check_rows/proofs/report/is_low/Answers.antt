use Rattle.std.proofs.Common.{◌+◌, ◌<◌, sym, subst, arith}
use Rattle.check_rows.proofs.ReportLemmas.{low_fails}
use Rattle.check_rows.proofs.report.is_low.Goals as goal

pub returns-then-degree-from : goal.returns-then-degree-from
returns-then-degree-from c =
    let high : c.args.order + 1 < c.degree.result = (let e = c.from.ensures in let h = c.if-degree-from.true in omega arith) in
    sym (low_fails (c.args.order + 1) c.args.values.now c.loop-t.t-index _ c.loop-t-test.true (subst (λ z. c.args.order + 1 < z) c.degree.ensures.degree high))
