use Rattle.std.proofs.Common.{◌-◌}
use Rattle.mono_exp.proofs.NumberLemmas.{Found}
use Rattle.mono_exp.proofs.number.unrank.Given as goal

abbrev pub invariant-loop-i : goal.invariant-loop-i
invariant-loop-i l = Found l.fn.r l.e l.i (l.n - l.i) l.left l.d
