use Rattle.std.proofs.Common.{take}
use Rattle.jacobian_row.specs.Numbers.{count_to}
use Rattle.jacobian_row.specs.Rows.{AreRowsOf}
use Rattle.jacobian_row.proofs.row.multiple_rows.Given as goal

abbrev pub invariant-loop-u : goal.invariant-loop-u
invariant-loop-u g l = AreRowsOf (g.R.Ring.meaning l.ring) l.n (count_to l.n l.k) l.k l.partials (take l.u-index l.multiples) l.rows.items
