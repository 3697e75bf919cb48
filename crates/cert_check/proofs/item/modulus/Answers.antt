-- The answer of the call as a test.
use Rattle.jet_poly.proofs.Steps.{if_ok}
use Rattle.report_law.specs.Items.{IsModulusOf}
use Rattle.check_form.specs.FormHeights.{IsModulusHigh}
use Rattle.cert_check.proofs.Findings.{tested_is}
use Rattle.cert_check.proofs.item.modulus.Goals as goal

pub returns : goal.returns
returns c = if_ok c.tested.result (tested_is (IsModulusOf c.args.r.now) (IsModulusHigh c.args.r.now) c.is_modulus_line.result c.is_modulus_line.ensures.modulus c.is_modulus_line.ensures.range) c.tested.ensures
