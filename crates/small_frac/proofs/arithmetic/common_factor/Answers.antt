use Rattle.std.proofs.Common.{◌<◌, unsigned_abs, sym, ◌∙◌, ap, subst, arith}
use Rattle.ring_theory.proofs.GcdLaws.{gcd_pos}
use Rattle.ring_law.proofs.FractionLaws.{gcd_le}
use Rattle.small_frac.proofs.Parts.{kept}
use Rattle.small_frac.proofs.arithmetic.common_factor.Goals as goal

pub returns-clause-positive : goal.returns-clause-positive
returns-clause-positive c =
    let e = c.unsigned_abs-2.ensures.value ∙ ap unsigned_abs (kept c.args.den c.requires.den_small) in
    subst (λ g. 0 < g) (sym c.common_divisor.ensures) (gcd_pos _ _ (subst (λ x. 0 < x) (sym e) c.requires.den_nonzero))

pub returns-clause-small : goal.returns-clause-small
returns-clause-small c =
    let e = c.unsigned_abs-2.ensures.value ∙ ap unsigned_abs (kept c.args.den c.requires.den_small) in
    let h = gcd_le c.unsigned_abs.result c.unsigned_abs-2.result (subst (λ x. 0 < x) (sym e) c.requires.den_nonzero) in
    omega (arith, h, e, c.requires.den_small, c.common_divisor.ensures)
