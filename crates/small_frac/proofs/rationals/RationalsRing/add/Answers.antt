use Rattle.small_frac.proofs.Causes.{add_cause}
use Rattle.small_frac.proofs.rationals.RationalsRing.add.Goals as goal

pub returns-clause-cause : goal.returns-clause-cause
returns-clause-cause c = add_cause c.args.a c.args.b c.requires.left c.requires.right c.add.result c.add.ensures
