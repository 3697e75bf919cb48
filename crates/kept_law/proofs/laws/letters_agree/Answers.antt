use Rattle.kept_law.proofs.Agreeing
use Rattle.kept_law.proofs.laws.letters_agree.Goals as goal

pub returns : goal.returns
returns g c a valid = Agreeing.letters_agree (g.R.Ring.meaning a).scalars
