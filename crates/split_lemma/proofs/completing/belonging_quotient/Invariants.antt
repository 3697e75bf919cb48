use Rattle.std.proofs.Common.{◌≡◌, ◌||◌, true, eqb, get_or}
use Rattle.std.specs.Prelude.{nat_lt}
use Rattle.poly_law.specs.Exps.{all_to}
use Rattle.split_lemma.proofs.completing.belonging_quotient.Given as goal

abbrev pub invariant-loop-i : goal.invariant-loop-i
invariant-loop-i l = all_to l.i (λ k. nat_lt k l.corank || eqb (get_or l.a.e k 0) 0) ≡ true
