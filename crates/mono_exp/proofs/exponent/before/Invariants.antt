use Rattle.std.proofs.Common.{◌≡◌, drop}
use Rattle.mono_exp.specs.Exponents.{is_greater_first}
use Rattle.mono_exp.proofs.exponent.before.Given as goal

abbrev pub invariant-loop-i : goal.invariant-loop-i
invariant-loop-i l = is_greater_first l.a.e l.b.e ≡ is_greater_first (drop l.i l.a.e) (drop l.i l.b.e)
