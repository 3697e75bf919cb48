-- The answer of the call as a test.
use Rattle.jet_poly.proofs.Steps.{if_ok}
use Rattle.report_law.specs.Items.{AreUnits}
use Rattle.check_form.specs.FormHeights.{IsUnitsHigh}
use Rattle.cert_check.proofs.Findings.{tested_is}
use Rattle.cert_check.proofs.item.units.Goals as goal

pub returns : goal.returns
returns c = if_ok c.tested.result (tested_is (AreUnits c.args.r.now) (IsUnitsHigh c.args.r.now) c.are_units.result c.are_units.ensures.units c.are_units.ensures.range) c.tested.ensures
