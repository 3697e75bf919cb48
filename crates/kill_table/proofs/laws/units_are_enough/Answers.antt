use Rattle.kill_table.proofs.Units
use Rattle.kill_table.proofs.laws.units_are_enough.Goals as goal

pub returns : goal.returns
returns g c a valid = Units.units_are_enough (g.F.Ring.meaning a).scalars (g.met.F.Ring.laws a valid).numbers (g.met.F.Field.inverts a valid)
