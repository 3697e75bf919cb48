use Rattle.std.proofs.Common.{◌∙◌, sym, ap}
use Rattle.lin_row.proofs.LineLaws
use Rattle.lin_row.proofs.SystemLaws
use Rattle.lin_row.proofs.line.entry_at.Goals as goal

pub returns-then-line-i : goal.returns-then-line-i
returns-then-line-i g c =
    let t = c.index-line-i-then-line-i.result in
    let same = LineLaws.same_read c.args.line.now c.loop-i.i t c.index-line-i.result c.loop-i-test.true c.index-line-i-then-line-i.is c.index-line-i.is in
    SystemLaws.present_here c.args.line.now c.loop-i.i c.args.column _ t c.loop-i-test.true c.index-line-i-then-line-i.is (ap (λ u. u.0) (same ∙ c.index-line-i.is) ∙ c.if-line-i.true) (ap (λ u. u.1) c.index-line-i-then-line-i.is)

pub loop-i-preserved : goal.loop-i-preserved
loop-i-preserved g c =
    SystemLaws.absent_more c.args.line.now c.loop-i.i c.args.column c.index-line-i.result c.loop-i-test.true c.index-line-i.is (λ e. c.if-line-i.false (sym (ap (λ u. u.0) c.index-line-i.is) ∙ e)) c.loop-i.invariant
