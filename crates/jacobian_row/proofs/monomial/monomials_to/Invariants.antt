use Rattle.std.proofs.Common.{◌≡◌, map}
use Rattle.std.specs.List.{All}
use Rattle.mono_exp.specs.Exponents.{IsIn, exponents, monomials_below}
use Rattle.jacobian_row.proofs.monomial.monomials_to.Given as goal

abbrev pub invariant-loop-degree : goal.invariant-loop-degree
invariant-loop-degree l = record {
  list : map (λ a. exponents l.n a.e) l.all.items ≡ monomials_below l.n l.degree;
  unused : All (λ a. IsIn l.n a.e) l.all.items;
}
