use Rattle.std.proofs.Common.{ℕ, refl, subst}
use Rattle.std.specs.List.{flat_map}
use Rattle.cert_text.specs.declared.word.Word.TheVariants as words
use Rattle.std.specs.Prelude.{decimal}
use Rattle.std.proofs.lemmas.Result.{IfOk-weaker}
use Rattle.report_reader.specs.Lines.{IsWithin}
use Rattle.report_reader.specs.Blocks.{IsNotAtFront}
use Rattle.cert_text.specs.Text.{word_line, mather_text}
use Rattle.cert_text.specs.WellFormed.{IsRowOf}
use Rattle.report_reader.specs.Rows.{AreMany, AreAtMost, counted_text, most_rows}
use Rattle.report_reader.proofs.Found.{err_map}
use Rattle.report_reader.proofs.RowLines.{counted_stop, behind_count, counted_read}
use Rattle.report_reader.proofs.EvidenceLines.{some_rows, most_small}
use Rattle.report_reader.proofs.rows.read_mather.Goals as goal

pub returns-in-None-clause-halt : goal.returns-in-None-clause-halt
returns-in-None-clause-halt c = counted_stop words.Mather (most_rows c.args.frame.corank) (IsRowOf c.args.frame.algebra c.args.frame.corank c.args.frame.order) mather_text c.args.bytes.now (most_small c.args.frame.corank) (some_rows c.args.frame) (subst (λ (k : ℕ). IsNotAtFront (IsWithin 0 k) (λ (z : ℕ). word_line words.Mather (decimal z)) c.args.bytes.now) c.mather_limit.ensures (c.in-None.ensures.none refl))

pub returns-in-Some-clause-ok : goal.returns-in-Some-clause-ok
returns-in-Some-clause-ok c =
    let n = c.in-Some.ensures.some in
    IfOk-weaker c.read_mather_rows.result _ _ (λ p h. counted_read words.Mather (most_rows c.args.frame.corank) (IsRowOf c.args.frame.algebra c.args.frame.corank c.args.frame.order) mather_text c.in-Some.count p.0 c.args.bytes.now c.in-Some.rest.now p.1.now (subst (λ (k : ℕ). IsWithin 0 k c.in-Some.count) c.mather_limit.ensures n.0) n.1 h.0 h.1) c.read_mather_rows.ensures.ok

pub returns-in-Some-clause-halt : goal.returns-in-Some-clause-halt
returns-in-Some-clause-halt c =
    let n = c.in-Some.ensures.some in
    err_map c.read_mather_rows.result (AreMany (IsRowOf c.args.frame.algebra c.args.frame.corank c.args.frame.order) c.in-Some.count) (flat_map mather_text) c.in-Some.rest.now (AreAtMost (IsRowOf c.args.frame.algebra c.args.frame.corank c.args.frame.order) (most_rows c.args.frame.corank)) (counted_text words.Mather mather_text) c.args.bytes.now
    (λ left s. behind_count words.Mather (most_rows c.args.frame.corank) (IsRowOf c.args.frame.algebra c.args.frame.corank c.args.frame.order) mather_text c.in-Some.count c.args.bytes.now c.in-Some.rest.now left (most_small c.args.frame.corank) (some_rows c.args.frame) (subst (λ (k : ℕ). IsWithin 0 k c.in-Some.count) c.mather_limit.ensures n.0) n.1 s) c.read_mather_rows.ensures.halt
