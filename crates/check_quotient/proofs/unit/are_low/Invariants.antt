use Rattle.std.proofs.Common.{◌≤◌, take, sum}
use Rattle.std.specs.List.{AllByRecursion}
use Rattle.check_quotient.proofs.unit.are_low.Given as goal

abbrev pub invariant-loop-b : goal.invariant-loop-b
invariant-loop-b l = AllByRecursion (λ b. sum b.e ≤ l.k) (take l.b-index l.basis)
