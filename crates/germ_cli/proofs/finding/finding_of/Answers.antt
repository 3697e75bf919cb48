use Rattle.germ_cli.proofs.finding.finding_of.Goals as goal
use Rattle.std.proofs.Common.{Err, ap}

pub returns-in-BadText : goal.returns-in-BadText
returns-in-BadText c = c.in-Err.ensures.bad_text c.in-BadText.offset (ap Err c.in-BadText.is)
