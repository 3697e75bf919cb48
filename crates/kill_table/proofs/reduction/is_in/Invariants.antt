use Rattle.std.proofs.Common.{◌≡◌, drop, eqb}
use Rattle.std.specs.List.{list_all}
use Rattle.kill_table.proofs.reduction.is_in.Given as goal

abbrev pub invariant-loop-k : goal.invariant-loop-k
invariant-loop-k l = list_all (λ z. eqb z 0) (drop l.variables l.a.e) ≡ list_all (λ z. eqb z 0) (drop l.k l.a.e)
