use Rattle.report_law.proofs.Limits.{limit_has_no_rows}
use Rattle.report_law.proofs.limit_has_no_rows.Goals as goal

pub returns : goal.returns
returns c = limit_has_no_rows
