use Rattle.mono_exp.proofs.OrderLaws.{rise}
use Rattle.mono_exp.proofs.laws.monomials_rise.Goals as goal

pub returns : goal.returns
returns c = rise
