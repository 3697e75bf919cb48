use Rattle.std.proofs.Common.{◌≡◌, ◌+◌, ◌++◌, map, take}
use Rattle.std.specs.List.{zip}
use Rattle.normal_forms.specs.Monomials.{numbers_below, square_of}
use Rattle.normal_forms.proofs.assembly.push_square_terms.Given as goal

abbrev pub invariant-loop-i : goal.invariant-loop-i
invariant-loop-i g l =
    l.terms.items ≡ l.initial.terms.items ++ zip (map (λ i. square_of (l.c + i)) (numbers_below l.i)) (take l.i l.squares)
