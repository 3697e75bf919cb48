use Rattle.small_frac.proofs.Equality.{compared}
use Rattle.small_frac.proofs.rationals.RationalsRing.eq.Goals as goal

pub returns : goal.returns
returns c = compared c.args.a c.args.b c.eq.result c.requires.left c.requires.right c.eq.ensures
