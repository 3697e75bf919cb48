use Rattle.std.proofs.Common.{[], ◌∷◌, ◌++◌, refl, arith}
use Rattle.row_reader.specs.Values.{AreElements}
use Rattle.report_reader.proofs.Found.{some_is}
use Rattle.report_reader.proofs.RowLines.{many_more}
use Rattle.report_reader.proofs.Matrix.{row_line, joined_more, matrix_stop, matrix_read}
use Rattle.report_reader.proofs.change.read_matrix.Goals as goal

pub loop-count-init : goal.loop-count-init
loop-count-init c = ([], (refl, tt), c.new-elements.ensures, refl)

pub returns-in-Ok-None-clause-halt : goal.returns-in-Ok-None-clause-halt
returns-in-Ok-None-clause-halt c =
    let i = c.loop-count.invariant in
    matrix_stop c.args.frame c.loop-count.count c.args.n i.0 c.args.bytes.now c.loop-count.rest.now i.1 (omega (arith, c.loop-count-test.true)) i.3 (c.in-Ok-None.ensures.none c.in-Ok-None.field-0-is)

pub loop-count-preserved : goal.loop-count-preserved
loop-count-preserved c =
    let i = c.loop-count.invariant in
    let row = c.in-Ok-Some.row in
    let read = some_is c.in-Ok-Some.field-0 (row, c.in-Ok-Some.after) _ c.in-Ok-Some.field-0-is c.in-Ok-Some.ensures.some in
    let more = many_more (AreElements c.args.frame.algebra c.args.n) row_line c.loop-count.count i.0 (i.0 ++ row ∷ []) row c.loop-count.rest.now c.in-Ok-Some.after.now c.args.bytes.now i.1 i.3 read.0 read.1 refl in
    (i.0 ++ row ∷ [], more.0, joined_more i.0 row c.loop-count.elements c.append.new.self i.2 c.in-Ok.ensures, more.1)

pub returns-clause-ok : goal.returns-clause-ok
returns-clause-ok c =
    let i = c.loop-count.invariant in
    let size = i.1.0 in
    matrix_read c.args.frame c.args.n i.0 c.loop-count.elements c.args.bytes.now c.loop-count.rest.now (omega (arith, size, c.loop-count-test.false, c.loop-count.auto.count-end), i.1.1) i.2 i.3
