use Rattle.std.proofs.Common.{◌<◌, sym, subst}
use Rattle.ring_theory.proofs.GcdLaws.{gcd_pos}
use Rattle.small_frac.proofs.root.small_multiple.Goals as goal

pub nonzero_div-a : goal.nonzero_div-a
nonzero_div-a c = subst (λ g. 0 < g) (sym c.common_divisor.ensures) (gcd_pos c.args.a c.args.b c.requires)
