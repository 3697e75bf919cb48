use Rattle.std.proofs.Common.{rules}
use Rattle.determinator.proofs.jet.see_exponents.Goals as goal

pub returns : goal.returns
returns c = search rules
