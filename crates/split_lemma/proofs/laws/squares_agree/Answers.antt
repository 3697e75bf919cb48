use Rattle.split_lemma.proofs.SplitLaws
use Rattle.split_lemma.proofs.laws.squares_agree.Goals as goal

pub returns : goal.returns
returns g c a valid = SplitLaws.squares_agree (g.R.Ring.meaning a).scalars (g.met.R.Ring.laws a valid).numbers
