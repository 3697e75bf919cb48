use Rattle.std.proofs.Common.{ℕ, ◌<◌, [], length, get_or}
use Rattle.jet_law.specs.Terms.{exp_of}
use Rattle.normal_forms.specs.Monomials.{in_eight}
use Rattle.check_quotient.specs.Tables.{IsUnitRow}
use Rattle.check_quotient.proofs.unit.are_unit_rows.Given as goal

abbrev pub invariant-loop-i : goal.invariant-loop-i
invariant-loop-i g l = let m = g.R.Ring.meaning l.ring in (i : ℕ) → i < l.i → IsUnitRow m l.n l.table (length l.basis) (exp_of l.n (get_or l.basis i (in_eight []))) i
