use Rattle.cert_law.proofs.Whole.{reports_one}
use Rattle.cert_law.proofs.laws.one_output.Goals as goal

pub returns : goal.returns
returns c = reports_one
