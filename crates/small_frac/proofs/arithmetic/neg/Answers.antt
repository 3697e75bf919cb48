use Rattle.ring_law.proofs.FractionLaws.{neg_made}
use Rattle.small_frac.proofs.Parts.{kept, negated}
use Rattle.small_frac.proofs.arithmetic.neg.Goals as goal

pub returns : goal.returns
returns c = neg_made c.args.a _ c.requires (negated c.args.a.num c.requires.num_fits) (kept c.args.a.den c.requires.den_fits)
