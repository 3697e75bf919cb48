use Rattle.std.proofs.Common.{◌≡◌, ◌+◌, leb, map, sum, take}
use Rattle.std.specs.List.{filter}
use Rattle.poly_law.specs.Exps.{plus}
use Rattle.poly_law.specs.ExpList.{exps}
use Rattle.jet_law.specs.Terms.{exp_of}
use Rattle.jacobian_row.specs.Numbers.{number}
use Rattle.jacobian_row.proofs.row.product_row.Given as goal

abbrev pub invariant-loop-t : goal.invariant-loop-t
invariant-loop-t g l =
    l.entries.items ≡ map (λ t. (number l.n (plus (exps l.n) (exp_of l.n l.factor) (exp_of l.n t.0)), t.1)) (filter (λ t. leb (sum l.factor.e + sum t.0.e) l.k) (take l.t-index l.terms))
