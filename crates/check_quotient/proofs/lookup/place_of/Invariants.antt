use Rattle.std.proofs.Common.{◌≡◌, ◌+◌, drop}
use Rattle.std.specs.List.{position_or_len}
use Rattle.poly_law.specs.Exps.{same}
use Rattle.poly_law.specs.ExpList.{exps}
use Rattle.jet_law.specs.Terms.{exp_of}
use Rattle.check_quotient.proofs.lookup.place_of.Given as goal

abbrev pub invariant-loop-place : goal.invariant-loop-place
invariant-loop-place g l =
    position_or_len (λ row. same (exps l.n) (exp_of l.n row.monomial) (exp_of l.n l.a)) l.table
    ≡ l.place + position_or_len (λ row. same (exps l.n) (exp_of l.n row.monomial) (exp_of l.n l.a)) (drop l.place l.table)
