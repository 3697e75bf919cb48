use Rattle.jet_law.specs.Terms.{exp_of}
use Rattle.check_quotient.specs.Tables.{IsUnitRow}
use Rattle.check_quotient.proofs.unit.is_unit_row.Given as goal

abbrev pub invariant-loop-j : goal.invariant-loop-j
invariant-loop-j g l = let m = g.R.Ring.meaning l.ring in IsUnitRow m l.n l.table l.j (exp_of l.n l.b) l.i
