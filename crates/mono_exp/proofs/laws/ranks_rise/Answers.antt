use Rattle.mono_exp.proofs.OrderLaws.{ranks-rise}
use Rattle.mono_exp.proofs.laws.ranks_rise.Goals as goal

pub returns : goal.returns
returns c = ranks-rise
