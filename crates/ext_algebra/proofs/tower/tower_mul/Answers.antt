use Rattle.std.proofs.Common.{ap, ◌∙◌}
use Rattle.ring_theory.specs.Height.{rational_scalars}
use Rattle.ring_law.proofs.Exits.{handed_on}
use Rattle.ring_law.specs.Fraction.{frac_value}
use Rattle.ext_theory.specs.ExtensionScalars.{quadratic_scalars}
use Rattle.ext_theory.proofs.ExtensionLaws.{cubic_path, quadratic_path}
use Rattle.ext_algebra.specs.ExtRing.{triple_value}
use Rattle.ext_algebra.proofs.TowerMoves.{product_is, product_high}
use Rattle.ext_algebra.proofs.tower.tower_mul.Goals as goal

pub mul-requires-clause-left : goal.mul-requires-clause-left
unfolding quadratic_scalars
mul-requires-clause-left c = c.nest.ensures.valid

pub mul-requires-clause-right : goal.mul-requires-clause-right
unfolding quadratic_scalars
mul-requires-clause-right c = c.nest-2.ensures.valid

pub returns-in_err-product-clause-cause : goal.returns-in_err-product-clause-cause
returns-in_err-product-clause-cause c =
    let below = quadratic_path _ _ c.neg.ensures.value c.zero-zero.ensures.value in
    let lifted =
    cubic_path _ _ (quadratic_path _ _ (ap frac_value c.lift-m0.ensures.c0) c.lift-m0.ensures.c1)
    (quadratic_path _ _ (ap frac_value c.lift-m1.ensures.c0) c.lift-m1.ensures.c1)
    (quadratic_path _ _ (ap frac_value c.lift-m2.ensures.c0) c.lift-m2.ensures.c1) in
    handed_on _ c.from_residual.ensures.1
    (product_high rational_scalars (triple_value frac_value c.args.modulus) (frac_value c.args.d) _ _ below lifted _ _ _ _ c.nest.ensures.value c.nest-2.ensures.value)
    c.in_err-product.ensures.cause

pub returns-clause-value : goal.returns-clause-value
returns-clause-value c =
    let below = quadratic_path _ _ c.neg.ensures.value c.zero-zero.ensures.value in
    let lifted =
    cubic_path _ _ (quadratic_path _ _ (ap frac_value c.lift-m0.ensures.c0) c.lift-m0.ensures.c1)
    (quadratic_path _ _ (ap frac_value c.lift-m1.ensures.c0) c.lift-m1.ensures.c1)
    (quadratic_path _ _ (ap frac_value c.lift-m2.ensures.c0) c.lift-m2.ensures.c1) in
    c.flat.ensures.value
    ∙ product_is rational_scalars (triple_value frac_value c.args.modulus) (frac_value c.args.d) _ _ below lifted _ _ _ _ _ c.nest.ensures.value c.nest-2.ensures.value
    c.in_ok-product.ensures.value
