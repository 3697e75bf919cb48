use Rattle.std.proofs.Common.{refl, lit<}
use Rattle.std.specs.List.{flat_map}
use Rattle.std.proofs.lemmas.Result.{IfOk-weaker}
use Rattle.cert_text.specs.declared.word.Word.TheVariants as words
use Rattle.cert_text.specs.Text.{unit_text}
use Rattle.row_reader.specs.Values.{IsUnitPair}
use Rattle.report_reader.specs.Rows.{AreMany, AreAtMost, counted_text}
use Rattle.report_reader.proofs.Found.{err_map}
use Rattle.report_reader.proofs.RowLines.{many_copies, counted_stop, behind_count, counted_read}
use Rattle.report_reader.proofs.EvidenceLines.{some_unit, some_unit_valid}
use Rattle.report_reader.proofs.rows.read_units.Goals as goal

pub returns-in-None-clause-halt : goal.returns-in-None-clause-halt
returns-in-None-clause-halt c = counted_stop words.Units 1140 (IsUnitPair c.args.a) unit_text c.args.bytes.now (lit< tt) (λ k le. many_copies (IsUnitPair c.args.a) k some_unit (some_unit_valid c.args.a)) (c.in-None.ensures.none refl)

pub returns-in-Some-clause-ok : goal.returns-in-Some-clause-ok
returns-in-Some-clause-ok c =
    let n = c.in-Some.ensures.some in
    IfOk-weaker c.read_unit_rows.result _ _ (λ p h. counted_read words.Units 1140 (IsUnitPair c.args.a) unit_text c.in-Some.count p.0 c.args.bytes.now c.in-Some.rest.now p.1.now n.0 n.1 h.0 h.1) c.read_unit_rows.ensures.ok

pub returns-in-Some-clause-halt : goal.returns-in-Some-clause-halt
returns-in-Some-clause-halt c =
    let n = c.in-Some.ensures.some in
    err_map c.read_unit_rows.result (AreMany (IsUnitPair c.args.a) c.in-Some.count) (flat_map unit_text) c.in-Some.rest.now (AreAtMost (IsUnitPair c.args.a) 1140) (counted_text words.Units unit_text) c.args.bytes.now
    (λ left s. behind_count words.Units 1140 (IsUnitPair c.args.a) unit_text c.in-Some.count c.args.bytes.now c.in-Some.rest.now left (lit< tt) (λ k le. many_copies (IsUnitPair c.args.a) k some_unit (some_unit_valid c.args.a)) n.0 n.1 s) c.read_unit_rows.ensures.halt
