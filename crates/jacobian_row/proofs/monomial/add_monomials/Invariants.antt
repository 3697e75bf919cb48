use Rattle.std.proofs.Common.{◌≡◌, ◌++◌, map, take}
use Rattle.std.specs.List.{All}
use Rattle.mono_exp.specs.Exponents.{IsIn, exponents}
use Rattle.jacobian_row.proofs.monomial.add_monomials.Given as goal

abbrev pub invariant-loop-a : goal.invariant-loop-a
invariant-loop-a l = record {
  list : map (λ a. exponents l.n a.e) l.all.items ≡ map (λ a. exponents l.n a.e) l.fn.all.items ++ map (λ a. exponents l.n a.e) (take l.a-index l.more);
  unused : All (λ a. IsIn l.n a.e) l.all.items;
}
