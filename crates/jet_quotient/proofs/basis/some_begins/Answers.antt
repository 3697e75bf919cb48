use Rattle.std.proofs.Common.{◌∙◌, refl, sym, ap, take_all, arith}
use Rattle.jet_quotient.specs.Answers.{begins_at}
use Rattle.jet_quotient.proofs.LoopFacts.{begins_more, begins_here}
use Rattle.jet_quotient.proofs.basis.some_begins.Goals as goal

pub loop-row-init : goal.loop-row-init
loop-row-init g c = refl

pub loop-row-preserved : goal.loop-row-preserved
loop-row-preserved g c =
    begins_more c.args.form.now c.loop-row.row-index c.args.column c.row-item.result c.loop-row-test.true c.row-item.is (sym c.begins.ensures ∙ c.if-begins.false) c.loop-row.invariant

pub returns-then-begins : goal.returns-then-begins
returns-then-begins g c = sym (begins_here c.args.form.now c.loop-row.row-index c.args.column c.row-item.result c.loop-row-test.true c.row-item.is (sym c.begins.ensures ∙ c.if-begins.true))

pub returns : goal.returns
returns g c = sym (ap (λ ys. begins_at ys c.args.column) (sym (take_all c.loop-row.row-index c.args.form.now (omega arith))) ∙ c.loop-row.invariant)
