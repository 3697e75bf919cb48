use Rattle.std.proofs.Common.{◌≡◌, ◌++◌, length, map, take}
use Rattle.std.specs.List.{All}
use Rattle.mono_exp.specs.Exponents.{IsIn, exponents}
use Rattle.jacobian_row.specs.Multiples.{pair_of}
use Rattle.jacobian_row.proofs.MultipleLemmas.{blocks}
use Rattle.jacobian_row.proofs.multiple.add_degree.Given as goal

abbrev pub invariant-loop-factor : goal.invariant-loop-factor
invariant-loop-factor l = record {
  list : map (pair_of l.n) l.all.items ≡ map (pair_of l.n) l.fn.all.items ++ blocks l.n (map (λ b. exponents l.n b.e) (take l.factor-index l.factor-items));
  unused : All (λ u. IsIn l.n u.factor.e) l.all.items;
  long : All (λ u. length u.factor.e ≡ 8) l.all.items;
}
