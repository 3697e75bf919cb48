use Rattle.report_law.proofs.Meaning.{named_free}
use Rattle.report_law.proofs.named_is_free.Goals as goal

pub returns : goal.returns
returns c = named_free
