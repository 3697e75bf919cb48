-- The answer of the call as a test.
use Rattle.jet_poly.proofs.Steps.{if_ok}
use Rattle.report_law.specs.Items.{IsDetermined}
use Rattle.check_rows.specs.ItemHeights.{IsMatherHigh}
use Rattle.cert_check.proofs.Findings.{tested_is}
use Rattle.cert_check.proofs.item.determined.Goals as goal

pub returns : goal.returns
returns c = if_ok c.tested.result (tested_is (IsDetermined c.args.r.now) (IsMatherHigh c.args.r.now.carried c.args.r.now.mather) c.is_determined.result c.is_determined.ensures.determined c.is_determined.ensures.range) c.tested.ensures
