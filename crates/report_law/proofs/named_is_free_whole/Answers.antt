use Rattle.report_law.proofs.Meaning.{named_free_whole}
use Rattle.report_law.proofs.named_is_free_whole.Goals as goal

pub returns : goal.returns
returns c = named_free_whole
