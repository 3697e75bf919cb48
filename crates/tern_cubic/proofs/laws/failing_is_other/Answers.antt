use Rattle.tern_cubic.proofs.OneChoice.{failing_is_other}
use Rattle.tern_cubic.proofs.laws.failing_is_other.Goals as goal

pub returns : goal.returns
returns g = failing_is_other
