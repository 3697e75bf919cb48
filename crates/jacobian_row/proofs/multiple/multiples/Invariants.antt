use Rattle.std.proofs.Common.{◌≡◌, ◌≤◌, length, map}
use Rattle.std.specs.List.{All}
use Rattle.mono_exp.specs.Exponents.{IsIn, monomials_below}
use Rattle.jacobian_row.specs.Multiples.{pair_of}
use Rattle.jacobian_row.proofs.MultipleLemmas.{blocks, from_low}
use Rattle.jacobian_row.proofs.multiple.multiples.Given as goal

abbrev pub invariant-loop-degree : goal.invariant-loop-degree
invariant-loop-degree l = record {
  from : l.low ≤ l.degree;
  list : map (pair_of l.n) l.all.items ≡ blocks l.n (from_low l.low (monomials_below l.n l.degree));
  unused : All (λ u. IsIn l.n u.factor.e) l.all.items;
  long : All (λ u. length u.factor.e ≡ 8) l.all.items;
}
