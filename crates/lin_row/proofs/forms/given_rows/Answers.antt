use Rattle.std.proofs.Common.{◌∙◌, ap, map, arith, take_all}
use Rattle.lin_row.specs.Lines.{given_part}
use Rattle.lin_row.specs.System.{lines_of}
use Rattle.lin_row.proofs.FormSteps
use Rattle.lin_row.proofs.forms.given_rows.Goals as goal

pub loop-p-preserved : goal.loop-p-preserved
loop-p-preserved g c =
    rw c.in_ok-push.ensures.items
    (FormSteps.given_rows_step 4294967296 c.args.pivots.now c.loop-p.p-index c.p-item.result c.loop-p.all.items _ c.loop-p-test.true c.p-item.is
    (c.from_vec.ensures ∙ c.in_ok-entries.ensures.items ∙ ap (given_part 4294967296) c.deref.ensures.value) c.loop-p.invariant)

pub returns-clause-rows : goal.returns-clause-rows
returns-clause-rows g c =
    c.loop-p.invariant ∙ ap (λ ps. map (λ p. given_part 4294967296 p.1) (lines_of ps)) (take_all c.loop-p.p-index c.args.pivots.now (omega arith))
