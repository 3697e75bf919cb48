use Rattle.std.proofs.Common.{◌≡◌, ◌+◌, drop, sum}
use Rattle.mono_exp.specs.Exponents.{exponents}
use Rattle.mono_exp.proofs.Counting.{place}
use Rattle.mono_exp.proofs.number.rank.Given as goal

abbrev pub invariant-loop-i : goal.invariant-loop-i
invariant-loop-i l = record {
  rest : l.rest ≡ sum (drop l.i (exponents l.n l.a.e));
  number : l.number + place (drop l.i (exponents l.n l.a.e)) ≡ place (exponents l.n l.a.e);
}
