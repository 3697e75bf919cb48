use Rattle.std.proofs.Common.{refl, arith}
use Rattle.cert_text.specs.Text.{unit_text}
use Rattle.row_reader.specs.Values.{IsUnitPair}
use Rattle.report_reader.proofs.RowLines.{rows_stop, many_more, many_none}
use Rattle.report_reader.proofs.EvidenceLines.{unit_told, unit_is_line, some_unit, some_unit_valid}
use Rattle.report_reader.proofs.rows.read_unit_rows.Goals as goal

pub loop-count_read-init : goal.loop-count_read-init
loop-count_read-init c = many_none (IsUnitPair c.args.a) unit_text c.new-rows.result c.args.bytes.now c.new-rows.ensures

pub returns-in-None-clause-halt : goal.returns-in-None-clause-halt
returns-in-None-clause-halt c =
    let i = c.loop-count_read.invariant in
    let size = i.0.0 in
    rows_stop (IsUnitPair c.args.a) unit_text c.args.count c.loop-count_read.rows c.args.bytes.now c.loop-count_read.rest.now some_unit (some_unit_valid c.args.a) (unit_told c.args.a) (unit_is_line c.args.a) i.0.1 (omega (arith, size, c.loop-count_read-test.true)) i.1 (c.in-None.ensures.none refl)

pub loop-count_read-preserved : goal.loop-count_read-preserved
loop-count_read-preserved c =
    let i = c.loop-count_read.invariant in
    let read = c.in-Some.ensures.some in
    many_more (IsUnitPair c.args.a) unit_text c.loop-count_read.count_read c.loop-count_read.rows c.push.new.self c.in-Some.row c.loop-count_read.rest.now c.in-Some.after.now c.args.bytes.now i.0 i.1 read.0 read.1 c.in-Ok.ensures.ok

pub returns-clause-ok : goal.returns-clause-ok
returns-clause-ok c =
    let i = c.loop-count_read.invariant in
    let size = i.0.0 in
    ((omega (arith, size, c.loop-count_read-test.false, c.loop-count_read.auto.count_read-end), i.0.1), i.1)
