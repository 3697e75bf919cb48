use Rattle.std.proofs.Common.{arith}
use Rattle.cert_text.specs.Text.{table_text}
use Rattle.cert_text.specs.WellFormed.{IsTableRowOf}
use Rattle.report_reader.proofs.Found.{some_is}
use Rattle.report_reader.proofs.RowLines.{rows_stop, many_more, many_none}
use Rattle.report_reader.proofs.EvidenceLines.{table_told, table_is_line, some_table_row}
use Rattle.report_reader.proofs.rows.read_table_rows.Goals as goal

pub loop-count_read-init : goal.loop-count_read-init
loop-count_read-init c = many_none (IsTableRowOf c.args.frame.algebra c.args.frame.corank c.args.frame.order c.args.size) table_text c.new-rows.result c.args.bytes.now c.new-rows.ensures

pub returns-in-Ok-None-clause-halt : goal.returns-in-Ok-None-clause-halt
returns-in-Ok-None-clause-halt c =
    let i = c.loop-count_read.invariant in
    let size = i.0.0 in
    let row = some_table_row c.args.frame c.args.size in
    rows_stop (IsTableRowOf c.args.frame.algebra c.args.frame.corank c.args.frame.order c.args.size) table_text c.args.count c.loop-count_read.rows c.args.bytes.now c.loop-count_read.rest.now row.0 row.1 (table_told c.args.frame c.args.size c.requires.frame) (table_is_line c.args.frame c.args.size c.requires.frame) i.0.1 (omega (arith, size, c.loop-count_read-test.true)) i.1 (c.in-Ok-None.ensures.none c.in-Ok-None.field-0-is)

pub loop-count_read-preserved : goal.loop-count_read-preserved
loop-count_read-preserved c =
    let i = c.loop-count_read.invariant in
    let read = some_is c.in-Ok-Some.field-0 (c.in-Ok-Some.row, c.in-Ok-Some.after) _ c.in-Ok-Some.field-0-is c.in-Ok-Some.ensures.some in
    many_more (IsTableRowOf c.args.frame.algebra c.args.frame.corank c.args.frame.order c.args.size) table_text c.loop-count_read.count_read c.loop-count_read.rows c.push.new.self c.in-Ok-Some.row c.loop-count_read.rest.now c.in-Ok-Some.after.now c.args.bytes.now i.0 i.1 read.0 read.1 c.in-Ok.ensures.ok

pub returns-clause-ok : goal.returns-clause-ok
returns-clause-ok c =
    let i = c.loop-count_read.invariant in
    let size = i.0.0 in
    ((omega (arith, size, c.loop-count_read-test.false, c.loop-count_read.auto.count_read-end), i.0.1), i.1)
