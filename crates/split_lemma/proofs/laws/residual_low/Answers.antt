use Rattle.split_lemma.proofs.SplitLaws
use Rattle.split_lemma.proofs.laws.residual_low.Goals as goal

pub returns : goal.returns
returns g c a valid = SplitLaws.residual_low (g.R.Ring.meaning a).scalars (g.met.R.Ring.laws a valid).numbers
