use Rattle.tern_cubic.proofs.MatrixEntries.{are_entries}
use Rattle.tern_cubic.proofs.moving.entries.Goals as goal

pub returns : goal.returns
returns g c = λ w is. are_entries (g.R.Ring.meaning c.args._ring.now) w c.args.a.now is c.told-a c.joined.result c.joined.ensures.elements c.joined.ensures.first c.joined.ensures.second c.joined.ensures.third
