use Rattle.report_law.proofs.NamedRows.{named_has_rows}
use Rattle.report_law.proofs.named_has_rows.Goals as goal

pub returns : goal.returns
returns c = named_has_rows
