use Rattle.split_lemma.proofs.SplitLaws
use Rattle.split_lemma.proofs.laws.split_splits.Goals as goal

pub returns : goal.returns
returns g c a valid = SplitLaws.split_splits (g.F.Ring.meaning a).scalars (g.met.F.Ring.laws a valid).numbers (g.met.F.Field.inverts a valid)
