use Rattle.std.proofs.Common.{refl}
use Rattle.cert_text.specs.Text.{multipliers_text}
use Rattle.row_reader.proofs.RowTexts.{table_end, table_front, table_unmarked, table_rest, multipliers_rest, row_values}
use Rattle.row_reader.proofs.row.read_table_row.Goals as goal

pub returns-in_default-take_mark-clause-none : goal.returns-in_default-take_mark-clause-none
returns-in_default-take_mark-clause-none c _ row valid text =
    let m = c.in-Some.ensures.some in
    table_unmarked c.args.a c.args.corank c.args.order c.args.size row c.args.bytes.now c.in-Some.monomial c.in-Some.behind valid text m.0 m.1 (c.take_mark.ensures.none c.in_default-take_mark.is)

pub returns-in-Ok-None-clause-none : goal.returns-in-Ok-None-clause-none
returns-in-Ok-None-clause-none c _ row valid text =
    let m = c.in-Some.ensures.some in
    let found = rw c.in-Ok-None.field-0-is at c.in-Ok-None.ensures.found in
    found row.values (table_end row) (row_values c.args.a c.args.corank c.args.order c.args.size row valid) refl (table_front c.args.a c.args.corank c.args.order c.args.size row c.args.bytes.now c.in-Some.monomial c.in-Some.behind c.in-Some-take_mark.front valid text m.0 m.1 c.in-Some-take_mark.ensures.some)

pub returns-in_default-take_mark-2-clause-none : goal.returns-in_default-take_mark-2-clause-none
returns-in_default-take_mark-2-clause-none c _ row valid text =
    let m = c.in-Some.ensures.some in
    let found = rw c.in-Ok-Some.field-0-is at c.in-Ok-Some.ensures.found in
    let k = found row.values (table_end row) (row_values c.args.a c.args.corank c.args.order c.args.size row valid) refl (table_front c.args.a c.args.corank c.args.order c.args.size row c.args.bytes.now c.in-Some.monomial c.in-Some.behind c.in-Some-take_mark.front valid text m.0 m.1 c.in-Some-take_mark.ensures.some) in
    c.take_mark-in-Ok-Some.ensures.none c.in_default-take_mark-2.is (multipliers_text row.multipliers) (multipliers_rest row.multipliers) k.1

pub returns-in-None-clause-none : goal.returns-in-None-clause-none
returns-in-None-clause-none c _ row valid text =
    let m = c.in-Some.ensures.some in
    let found = rw c.in-Ok-Some.field-0-is at c.in-Ok-Some.ensures.found in
    let k = found row.values (table_end row) (row_values c.args.a c.args.corank c.args.order c.args.size row valid) refl (table_front c.args.a c.args.corank c.args.order c.args.size row c.args.bytes.now c.in-Some.monomial c.in-Some.behind c.in-Some-take_mark.front valid text m.0 m.1 c.in-Some-take_mark.ensures.some) in
    c.in_ok-read_multipliers-in-Ok-Some.ensures.none c.in-None.is row.multipliers valid.multipliers (table_rest row c.in-Ok-Some.left c.in-Some-take_mark-2.rest k.1 c.in-Some-take_mark-2.ensures.some)
