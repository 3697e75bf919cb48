use Rattle.cert_text.specs.declared.word.Word.TheVariants as words
use Rattle.cert_text.specs.Text.{mather_text, table_text}
use Rattle.report_reader.specs.Rows.{counted_text}
use Rattle.report_reader.specs.Evidence.{IsNamedAs, mather_rest}
use Rattle.report_reader.proofs.Found.{some_is}
use Rattle.report_reader.proofs.Stops.{halt_map}
use Rattle.report_reader.proofs.NamedLines.{RowsOf, TableOf, stop_in_rows, stop_at_basis, stop_in_table, evidence_read}
use Rattle.report_reader.proofs.named.read_evidence.Goals as goal

pub returns-in-Err-clause-halt : goal.returns-in-Err-clause-halt
returns-in-Err-clause-halt c = halt_map (RowsOf c.args.front) (counted_text words.Mather mather_text) c.args.bytes.now (IsNamedAs c.args.front) mather_rest c.args.bytes.now
    (λ left s. stop_in_rows c.args.front c.args.bytes.now left c.requires.front s) c.in-Err.halt c.in-Err.ensures.halt

pub returns-in-Ok-None-clause-halt : goal.returns-in-Ok-None-clause-halt
returns-in-Ok-None-clause-halt c =
    let m = c.in-Ok.ensures.ok in
    stop_at_basis c.args.front c.in-Ok.read.0 c.args.bytes.now c.in-Ok.read.1.now c.requires.front m.0 m.1 (c.in-Ok-None.ensures.none c.in-Ok-None.field-0-is)

pub returns-in-Err-read_table-clause-halt : goal.returns-in-Err-read_table-clause-halt
returns-in-Err-read_table-clause-halt c =
    let m = c.in-Ok.ensures.ok in
    let b = some_is c.in-Ok-Some.field-0 c.in-Ok-Some.taken _ c.in-Ok-Some.field-0-is c.in-Ok-Some.ensures.some in
    halt_map (TableOf c.args.front c.len-size.result) (counted_text words.Table table_text) c.in-Ok-Some.taken.1.now (IsNamedAs c.args.front) mather_rest c.args.bytes.now
    (λ left s. stop_in_table c.args.front c.in-Ok.read.0 c.in-Ok-Some.taken.0 c.len-size.result c.args.bytes.now c.in-Ok.read.1.now c.in-Ok-Some.taken.1.now left c.requires.front c.len-size.ensures m.0 m.1 b.0 b.1 s)
    c.in-Err-read_table.halt c.in-Err-read_table.ensures.halt

pub returns-clause-ok : goal.returns-clause-ok
returns-clause-ok c =
    let m = c.in-Ok.ensures.ok in
    let b = some_is c.in-Ok-Some.field-0 c.in-Ok-Some.taken _ c.in-Ok-Some.field-0-is c.in-Ok-Some.ensures.some in
    let t = c.in-Ok-read_table.ensures.ok in
    evidence_read c.args.front c.in-Ok.read.0 c.in-Ok-Some.taken.0 c.len-size.result c.in-Ok-read_table.table c.named.result c.args.bytes.now c.in-Ok.read.1.now c.in-Ok-Some.taken.1.now c.in-Ok-read_table.rest.now
    c.requires.front c.len-size.ensures c.named.ensures m.0 m.1 b.0 b.1 t.0 t.1
