use Rattle.split_lemma.proofs.SplitLaws
use Rattle.split_lemma.proofs.laws.split_forms_are_split.Goals as goal

pub returns : goal.returns
returns g c a valid = SplitLaws.split_forms_are_split (g.R.Ring.meaning a).scalars (g.met.R.Ring.laws a valid).numbers
