use Rattle.std.proofs.Common.{◌≡◌, ◌+◌, true, take, sum}
use Rattle.std.specs.Prelude.{nat_le}
use Rattle.std.specs.List.{list_all}
use Rattle.normal_forms.specs.Monomials.{monomials_in}
use Rattle.check_rows.proofs.report.is_low.Given as goal

abbrev pub invariant-loop-t : goal.invariant-loop-t
invariant-loop-t l = list_all (λ m. nat_le (sum m.e) (l.order + 1)) (monomials_in (take l.t-index l.values)) ≡ true
