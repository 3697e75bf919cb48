-- The answer of the call as a test.
use Rattle.jet_poly.proofs.Steps.{if_ok}
use Rattle.report_law.specs.Items.{IsLimitFunctional}
use Rattle.check_rows.specs.ItemHeights.{IsFunctionalHigh}
use Rattle.cert_check.proofs.Findings.{tested_is}
use Rattle.cert_check.proofs.item.functional.Goals as goal

pub returns : goal.returns
returns c = if_ok c.tested.result (tested_is (IsLimitFunctional c.args.r.now) (IsFunctionalHigh c.args.r.now) c.is_limit_functional.result c.is_limit_functional.ensures.functional c.is_limit_functional.ensures.range) c.tested.ensures
