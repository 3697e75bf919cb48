use Rattle.std.proofs.Common.{◌∙◌, ◌≤◌, length, sym, refl, subst, take_all}
use Rattle.lin_row.specs.System.{IsAbsent}
use Rattle.lin_row.proofs.LineLaws
use Rattle.lin_row.proofs.SystemLaws
use Rattle.coord_change.proofs.rows.entry_at.Goals as goal

pub returns-then-t-column-clause-elem : goal.returns-then-t-column-clause-elem
returns-then-t-column-clause-elem g c =
    let m = g.R.Ring.meaning c.args.ring.now in
    (LineLaws.units_at m (g.met.R.Ring.laws c.args.ring.now c.requires.ring).numbers.ring c.args.entries.now c.loop-t.t-index c.t-item.result c.loop-t-test.true c.t-item.is c.requires.line.units).0

pub returns-then-t-column-clause-value : goal.returns-then-t-column-clause-value
returns-then-t-column-clause-value g c =
    let m = g.R.Ring.meaning c.args.ring.now in
    let laws = (g.met.R.Ring.laws c.args.ring.now c.requires.ring).numbers.ring in
    sym (SystemLaws.entry-present m laws c.args.entries.now c.args.column c.t-item.result.1 c.requires.line.rising
    (SystemLaws.present_here c.args.entries.now c.loop-t.t-index c.args.column c.t-item.result.1 c.t-item.result c.loop-t-test.true c.t-item.is c.if-t-column.true refl))

pub loop-t-preserved : goal.loop-t-preserved
loop-t-preserved g c = SystemLaws.absent_more c.args.entries.now c.loop-t.t-index c.args.column c.t-item.result c.loop-t-test.true c.t-item.is c.if-t-column.false c.loop-t.invariant

pub returns-clause-value : goal.returns-clause-value
returns-clause-value g c =
    let m = g.R.Ring.meaning c.args.ring.now in
    let laws = (g.met.R.Ring.laws c.args.ring.now c.requires.ring).numbers.ring in
    let last : length c.args.entries.now ≤ c.loop-t.t-index = c.loop-t-test.false in
    c.zero.ensures.value ∙ sym (SystemLaws.entry-absent m laws c.args.entries.now c.args.column
    (subst (IsAbsent c.args.column) (take_all c.loop-t.t-index c.args.entries.now last) c.loop-t.invariant))
