-- The answer of the call as a test.
use Rattle.jet_poly.proofs.Steps.{if_ok}
use Rattle.report_law.specs.Items.{IsInvertibleChange}
use Rattle.check_change.specs.Heights.{IsInverseHigh}
use Rattle.cert_check.proofs.Findings.{tested_is}
use Rattle.cert_check.proofs.item.inverse.Goals as goal

pub returns : goal.returns
returns c = if_ok c.tested.result (tested_is (IsInvertibleChange c.args.c.now) (IsInverseHigh c.args.c.now) c.is_invertible_change.result c.is_invertible_change.ensures.inverse c.is_invertible_change.ensures.range) c.tested.ensures
