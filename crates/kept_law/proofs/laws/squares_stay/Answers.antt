use Rattle.kept_law.proofs.Agreeing
use Rattle.kept_law.proofs.laws.squares_stay.Goals as goal

pub returns : goal.returns
returns g c a valid = Agreeing.squares_stay (g.R.Ring.meaning a).scalars (g.met.R.Ring.laws a valid).numbers
