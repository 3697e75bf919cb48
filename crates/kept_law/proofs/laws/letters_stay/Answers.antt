use Rattle.kept_law.proofs.Agreeing
use Rattle.kept_law.proofs.laws.letters_stay.Goals as goal

pub returns : goal.returns
returns g c a valid = Agreeing.letters_stay (g.R.Ring.meaning a).scalars (g.met.R.Ring.laws a valid).numbers
