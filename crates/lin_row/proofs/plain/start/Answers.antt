use Rattle.std.proofs.Common.{sym, refl, subst, arith, take, take_all, ◌+◌, [], ◌∷◌, ◌++◌}
use Rattle.lin_row.specs.Rows.{rows_of}
use Rattle.lin_row.specs.Stages.{items_of, IsStart}
use Rattle.lin_row.proofs.BuildLaws
use Rattle.lin_row.proofs.StageLaws
use Rattle.lin_row.proofs.PlainLaws
use Rattle.lin_row.proofs.plain.start.Goals as goal

pub extended-requires-clause-line : goal.extended-requires-clause-line
extended-requires-clause-line g c =
    BuildLaws.valid-at (g.F.Ring.meaning c.args.field.now) c.args.rows.now c.loop-i.i c.index-rows-i.result c.loop-i-test.true c.index-rows-i.is c.requires.rows

pub loop-i-init : goal.loop-i-init
loop-i-init g c = rw c.new-all.ensures.items (record { lines = tt; entries = refl; evidence = λ w. tt; spans = λ w none all. tt; low = tt })

pub loop-i-preserved : goal.loop-i-preserved
loop-i-preserved g c =
    let m = g.F.Ring.meaning c.args.field.now in
    let laws = (g.met.F.Ring.laws c.args.field.now c.requires.ring).numbers.ring in
    let i = c.loop-i.i in
    let rows = c.args.rows.now in
    let row = c.index-rows-i.result in
    let ext = c.in_ok-row.row in
    rw c.in_ok-push.ensures.items
    (subst (IsStart m 4294967296 (rows_of rows) (rows_of (take (i + 1) rows))) (sym (StageLaws.items-append c.loop-i.all.items (ext ∷ [])))
    (subst (λ rs. IsStart m 4294967296 (rows_of rows) rs (items_of c.loop-i.all.items ++ (ext.items ∷ []))) (sym (BuildLaws.rows-more rows i row c.loop-i-test.true c.index-rows-i.is))
    (PlainLaws.start_push m laws (rows_of rows) (rows_of (take i rows)) (items_of c.loop-i.all.items) row.entries ext.items i
    (sym (BuildLaws.rows-length-take rows i (omega arith))) (omega (arith, BuildLaws.rows-length rows)) (BuildLaws.rows-at rows i row c.loop-i-test.true c.index-rows-i.is)
    c.in_ok-row.ensures.below c.in_ok-row.ensures.line c.in_ok-row.ensures.value c.loop-i.invariant)))

pub returns-clause-start : goal.returns-clause-start
returns-clause-start g c =
    subst (λ rs. IsStart (g.F.Ring.meaning c.args.field.now) 4294967296 (rows_of c.args.rows.now) (rows_of rs) (items_of c.loop-i.all.items)) (take_all c.loop-i.i c.args.rows.now (omega arith)) c.loop-i.invariant
