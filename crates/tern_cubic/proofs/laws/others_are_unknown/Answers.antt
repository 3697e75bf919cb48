use Rattle.tern_cubic.proofs.OneChoice.{others_are_unknown}
use Rattle.tern_cubic.proofs.laws.others_are_unknown.Goals as goal

pub returns : goal.returns
returns g = others_are_unknown
