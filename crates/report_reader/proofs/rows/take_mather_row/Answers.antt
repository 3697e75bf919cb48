use Rattle.std.proofs.Common.{refl}
use Rattle.cert_text.specs.Text.{mather_text, mather_inside}
use Rattle.cert_text.specs.WellFormed.{IsRowOf}
use Rattle.report_reader.proofs.Fronts.{no_line_at, line_value_at, line_front}
use Rattle.report_reader.proofs.Found.{some_is}
use Rattle.report_reader.proofs.EvidenceLines.{mather_clean}
use Rattle.report_reader.proofs.rows.take_mather_row.Goals as goal

pub returns-in-None-clause-none : goal.returns-in-None-clause-none
unfolding mather_text
returns-in-None-clause-none c _ = no_line_at (IsRowOf c.args.frame.algebra c.args.frame.corank c.args.frame.order) mather_inside c.args.bytes.now (c.in-None.ensures.none refl)

pub returns-in-Ok-None-clause-none : goal.returns-in-Ok-None-clause-none
unfolding mather_text
returns-in-Ok-None-clause-none c _ = line_value_at (IsRowOf c.args.frame.algebra c.args.frame.corank c.args.frame.order) mather_inside c.args.bytes.now c.in-Some.text.now c.in-Some.rest.now (mather_clean c.args.frame c.requires.frame) c.in-Some.ensures.some.1 c.in-Some.ensures.some.0 (c.in-Ok-None.ensures.none c.in-Ok-None.field-0-is)

pub returns-in-Ok-Some-clause-some : goal.returns-in-Ok-Some-clause-some
unfolding mather_text
returns-in-Ok-Some-clause-some c =
    let read = some_is c.in-Ok-Some.field-0 c.in-Ok-Some.row _ c.in-Ok-Some.field-0-is c.in-Ok-Some.ensures.some in
    (read.0, line_front (mather_inside c.in-Ok-Some.row) c.in-Some.text.now c.in-Some.rest.now c.args.bytes.now read.1 c.in-Some.ensures.some.0)
