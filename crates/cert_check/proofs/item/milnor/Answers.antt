-- The answer of the call as a test.
use Rattle.jet_poly.proofs.Steps.{if_ok}
use Rattle.report_law.specs.Items.{IsMilnorTable}
use Rattle.check_milnor.specs.Milnor.{IsMilnorHigh}
use Rattle.cert_check.proofs.Findings.{tested_is}
use Rattle.cert_check.proofs.item.milnor.Goals as goal

pub returns : goal.returns
returns c = if_ok c.tested.result (tested_is (IsMilnorTable c.args.r.now) (IsMilnorHigh c.args.r.now) c.is_milnor_table.result c.is_milnor_table.ensures.milnor c.is_milnor_table.ensures.range) c.tested.ensures
