use Rattle.std.proofs.Common.{refl}
use Rattle.cert_text.specs.Text.{unit_text, unit_inside}
use Rattle.row_reader.specs.Values.{IsUnitPair}
use Rattle.report_reader.proofs.Fronts.{no_line_at, line_value_at, line_front}
use Rattle.report_reader.proofs.EvidenceLines.{unit_clean}
use Rattle.report_reader.proofs.rows.take_unit.Goals as goal

pub returns-in-None-clause-none : goal.returns-in-None-clause-none
unfolding unit_text
returns-in-None-clause-none c _ = no_line_at (IsUnitPair c.args.a) unit_inside c.args.bytes.now (c.in-None.ensures.none refl)

pub returns-in-None-read_unit-clause-none : goal.returns-in-None-read_unit-clause-none
unfolding unit_text
returns-in-None-read_unit-clause-none c _ = line_value_at (IsUnitPair c.args.a) unit_inside c.args.bytes.now c.in-Some.text.now c.in-Some.rest.now (unit_clean c.args.a) c.in-Some.ensures.some.1 c.in-Some.ensures.some.0 (c.in-None-read_unit.ensures.none refl)

pub returns-in-Some-read_unit-clause-some : goal.returns-in-Some-read_unit-clause-some
unfolding unit_text
returns-in-Some-read_unit-clause-some c =
    let read = c.in-Some-read_unit.ensures.some in
    (read.0, line_front (unit_inside c.in-Some-read_unit.unit) c.in-Some.text.now c.in-Some.rest.now c.args.bytes.now read.1 c.in-Some.ensures.some.0)
