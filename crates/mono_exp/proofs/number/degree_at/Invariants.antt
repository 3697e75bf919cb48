use Rattle.std.proofs.Common.{◌+◌, ◌<◌, ◌≤◌, length}
use Rattle.mono_exp.specs.Exponents.{monomials_below}
use Rattle.mono_exp.proofs.number.degree_at.Given as goal

abbrev pub invariant-loop-d : goal.invariant-loop-d
invariant-loop-d l = record {
  small : l.d ≤ l.fn.most;
  next : l.number < length (monomials_below l.n (l.d + 1));
}

abbrev pub decreases-loop-d : goal.decreases-loop-d
decreases-loop-d l = l.d
