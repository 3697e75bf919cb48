use Rattle.std.proofs.Common.{refl}
use Rattle.ext_algebra.proofs.tower.flat.Goals as goal

pub returns-clause-value : goal.returns-clause-value
returns-clause-value c = refl
