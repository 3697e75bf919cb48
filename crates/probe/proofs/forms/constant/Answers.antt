use Rattle.std.proofs.Common.{refl}
use Rattle.ext_algebra.specs.Algebra.{value_in}
use Rattle.probe.proofs.forms.constant.Goals as goal

pub returns-clause-value : goal.returns-clause-value
unfolding value_in
returns-clause-value c = refl
