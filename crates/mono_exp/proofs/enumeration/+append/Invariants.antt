use Rattle.std.proofs.Common.{◌≡◌, ◌-◌, ◌++◌, map, take}
use Rattle.std.specs.List.{All}
use Rattle.mono_exp.specs.Exponents.{IsIn, exponents}
use Rattle.mono_exp.proofs.ListLemmas.{begun}
use Rattle.mono_exp.proofs.enumeration.+append.Given as goal

abbrev pub decreases-append : goal.decreases-append
decreases-append l = l.n - l.from

abbrev pub invariant-loop-j : goal.invariant-loop-j
invariant-loop-j l = record {
  so_far : map (λ a. exponents l.n a.e) l.all.items ≡ map (λ a. exponents l.n a.e) l.initial.all.items ++ map (λ m. take l.from l.front.e ++ m) (begun (l.n - l.from - 1) l.d l.j);
  unused : All (λ a. IsIn l.n a.e) l.initial.all.items → All (λ a. IsIn l.n a.e) l.all.items;
}
