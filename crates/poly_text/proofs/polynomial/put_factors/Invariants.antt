use Rattle.std.proofs.Common.{◌≡◌, ◌++◌, drop}
use Rattle.poly_text.specs.Polynomials.{factors_text}
use Rattle.poly_text.proofs.polynomial.put_factors.Given as goal

abbrev pub invariant-loop-i : goal.invariant-loop-i
invariant-loop-i l = l.out.items ++ factors_text (drop l.i l.names) (drop l.i l.exponents) ≡ l.initial.out.items ++ factors_text l.names l.exponents
