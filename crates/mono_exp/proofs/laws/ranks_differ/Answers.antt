use Rattle.mono_exp.proofs.OrderLaws.{ranks-differ}
use Rattle.mono_exp.proofs.laws.ranks_differ.Goals as goal

pub returns : goal.returns
returns c = ranks-differ
