use Rattle.std.proofs.Common.{refl, lit<}
use Rattle.std.specs.List.{flat_map}
use Rattle.std.proofs.lemmas.Result.{IfOk-weaker}
use Rattle.cert_text.specs.declared.word.Word.TheVariants as words
use Rattle.cert_text.specs.Text.{table_text}
use Rattle.cert_text.specs.WellFormed.{IsTableRowOf}
use Rattle.report_reader.specs.Rows.{AreMany, AreAtMost, counted_text}
use Rattle.report_reader.proofs.Found.{err_map}
use Rattle.report_reader.proofs.RowLines.{many_copies, counted_stop, behind_count, counted_read}
use Rattle.report_reader.proofs.EvidenceLines.{some_table_row}
use Rattle.report_reader.proofs.rows.read_table.Goals as goal

pub returns-in-None-clause-halt : goal.returns-in-None-clause-halt
returns-in-None-clause-halt c = counted_stop words.Table 1140 (IsTableRowOf c.args.frame.algebra c.args.frame.corank c.args.frame.order c.args.size) table_text c.args.bytes.now (lit< tt) (λ k le. let row = some_table_row c.args.frame c.args.size in many_copies (IsTableRowOf c.args.frame.algebra c.args.frame.corank c.args.frame.order c.args.size) k row.0 row.1) (c.in-None.ensures.none refl)

pub returns-in-Some-clause-ok : goal.returns-in-Some-clause-ok
returns-in-Some-clause-ok c =
    let n = c.in-Some.ensures.some in
    IfOk-weaker c.read_table_rows.result _ _ (λ p h. counted_read words.Table 1140 (IsTableRowOf c.args.frame.algebra c.args.frame.corank c.args.frame.order c.args.size) table_text c.in-Some.count p.0 c.args.bytes.now c.in-Some.rest.now p.1.now n.0 n.1 h.0 h.1) c.read_table_rows.ensures.ok

pub returns-in-Some-clause-halt : goal.returns-in-Some-clause-halt
returns-in-Some-clause-halt c =
    let n = c.in-Some.ensures.some in
    err_map c.read_table_rows.result (AreMany (IsTableRowOf c.args.frame.algebra c.args.frame.corank c.args.frame.order c.args.size) c.in-Some.count) (flat_map table_text) c.in-Some.rest.now (AreAtMost (IsTableRowOf c.args.frame.algebra c.args.frame.corank c.args.frame.order c.args.size) 1140) (counted_text words.Table table_text) c.args.bytes.now
    (λ left s. behind_count words.Table 1140 (IsTableRowOf c.args.frame.algebra c.args.frame.corank c.args.frame.order c.args.size) table_text c.in-Some.count c.args.bytes.now c.in-Some.rest.now left (lit< tt) (λ k le. let row = some_table_row c.args.frame c.args.size in many_copies (IsTableRowOf c.args.frame.algebra c.args.frame.corank c.args.frame.order c.args.size) k row.0 row.1) n.0 n.1 s) c.read_table_rows.ensures.halt
