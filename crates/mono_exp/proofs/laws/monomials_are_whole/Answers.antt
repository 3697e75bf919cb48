use Rattle.mono_exp.proofs.OrderLaws.{whole}
use Rattle.mono_exp.proofs.laws.monomials_are_whole.Goals as goal

pub returns : goal.returns
returns c = whole
