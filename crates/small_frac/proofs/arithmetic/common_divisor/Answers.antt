use Rattle.std.proofs.Common.{sym, ◌∙◌, ap, arith}
use Rattle.ring_theory.specs.Gcd.{gcd}
use Rattle.ring_theory.proofs.GcdLaws.{gcd-zero, gcd_step}
use Rattle.small_frac.proofs.arithmetic.common_divisor.Goals as goal

pub loop-y-preserved : goal.loop-y-preserved
loop-y-preserved c = gcd_step _ _ ∙ c.loop-y.invariant

pub returns : goal.returns
returns c = sym (gcd-zero c.loop-y.x) ∙ ap (gcd c.loop-y.x) (omega arith) ∙ c.loop-y.invariant
