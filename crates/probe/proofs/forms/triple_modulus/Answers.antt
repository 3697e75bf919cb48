use Rattle.ring_theory.specs.Height.{rational_scalars}
use Rattle.ext_algebra.specs.declared.algebra.Algebra.TheVariants as algebra
use Rattle.ext_algebra.specs.Algebra.{IsElement}
use Rattle.normal_forms.specs.Units.{triple_discriminant}
use Rattle.probe.proofs.Rationals.{all_three, three_lists, not_zero}
use Rattle.probe.proofs.forms.triple_modulus.Goals as goal

pub modulus-requires-clause-rational : goal.modulus-requires-clause-rational
modulus-requires-clause-rational c = all_three (IsElement algebra.Rational) _ _ _ c.constant.ensures.elem c.constant-2.ensures.elem c.constant-3.ensures.elem

pub modulus-requires-clause-nondegenerate : goal.modulus-requires-clause-nondegenerate
modulus-requires-clause-nondegenerate c =
    not_zero (triple_discriminant rational_scalars) _ _ _ _ _ (three_lists _ _ _ _ _ _ c.constant.ensures.value c.constant-2.ensures.value c.constant-3.ensures.value) c.in_ok-discriminant.ensures.value
    c.zero.ensures.value c.if-eq.false c.eq.ensures
