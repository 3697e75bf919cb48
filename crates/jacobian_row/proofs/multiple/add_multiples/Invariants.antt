use Rattle.std.proofs.Common.{◌≡◌, ◌++◌, length, map}
use Rattle.std.specs.List.{All}
use Rattle.mono_exp.specs.Exponents.{IsIn, exponents, numbers_below}
use Rattle.jacobian_row.specs.Multiples.{pair_of}
use Rattle.jacobian_row.proofs.multiple.add_multiples.Given as goal

abbrev pub invariant-loop-variable : goal.invariant-loop-variable
invariant-loop-variable l = record {
  list : map (pair_of l.n) l.all.items ≡ map (pair_of l.n) l.fn.all.items ++ map (λ i. (exponents l.n l.factor.e, i)) (numbers_below l.variable);
  unused : All (λ u. IsIn l.n u.factor.e) l.all.items;
  long : All (λ u. length u.factor.e ≡ 8) l.all.items;
}
