use Rattle.small_frac.proofs.Causes.{mul_cause}
use Rattle.small_frac.proofs.rationals.RationalsRing.mul.Goals as goal

pub returns-clause-cause : goal.returns-clause-cause
returns-clause-cause c = mul_cause c.args.a c.args.b c.requires.left c.requires.right c.mul.result c.mul.ensures
