use Rattle.std.proofs.Common.{◌∙◌, sym, ap, subst, take_all, arith}
use Rattle.lin_row.specs.Lines.{entry}
use Rattle.lin_row.specs.System.{IsAbsent}
use Rattle.lin_row.proofs.LineLaws
use Rattle.lin_row.proofs.SystemLaws
use Rattle.jet_quotient.proofs.table.entry_at.Goals as goal

pub loop-t-init : goal.loop-t-init
loop-t-init g c = tt

pub loop-t-preserved : goal.loop-t-preserved
loop-t-preserved g c = SystemLaws.absent_more c.args.row.now c.loop-t.t-index c.args.column c.t-item.result c.loop-t-test.true c.t-item.is c.if-t-column.false c.loop-t.invariant

pub returns-then-t-column-clause-elem : goal.returns-then-t-column-clause-elem
returns-then-t-column-clause-elem g c =
    (LineLaws.units_at (g.R.Ring.meaning c.args.ring.now) (g.met.R.Ring.laws c.args.ring.now c.requires.ring).numbers.ring c.args.row.now c.loop-t.t-index c.t-item.result c.loop-t-test.true c.t-item.is c.requires.line.units).0

pub returns-then-t-column-clause-value : goal.returns-then-t-column-clause-value
returns-then-t-column-clause-value g c =
    let m = g.R.Ring.meaning c.args.ring.now in
    let laws = (g.met.R.Ring.laws c.args.ring.now c.requires.ring).numbers.ring in
    sym (ap (entry m c.args.row.now) (sym c.if-t-column.true) ∙ LineLaws.entry-here m laws c.args.row.now c.loop-t.t-index c.t-item.result c.loop-t-test.true c.t-item.is c.requires.line.rising)

pub returns-clause-value : goal.returns-clause-value
returns-clause-value g c =
    let m = g.R.Ring.meaning c.args.ring.now in
    let laws = (g.met.R.Ring.laws c.args.ring.now c.requires.ring).numbers.ring in
    c.zero.ensures.value
    ∙ sym (SystemLaws.entry-absent m laws c.args.row.now c.args.column (subst (λ ys. IsAbsent c.args.column ys) (take_all c.loop-t.t-index c.args.row.now (omega arith)) c.loop-t.invariant))
