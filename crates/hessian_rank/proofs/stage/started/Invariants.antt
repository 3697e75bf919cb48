use Rattle.std.proofs.Common.{◌≡◌}
use Rattle.mono_exp.specs.Exponents.{numbers_below}
use Rattle.hessian_rank.proofs.stage.started.Given as goal

abbrev pub invariant-loop-i : goal.invariant-loop-i
invariant-loop-i g l = l.opened.items ≡ numbers_below l.i
