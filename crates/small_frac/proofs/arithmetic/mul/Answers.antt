use Rattle.std.proofs.Common.{◌<◌, ◌^◌, pos, unsigned_abs, to_z, of_z, sym, ◌∙◌, ap, subst, refl}
use mir.Syntax.{w128}
use Rattle.ring_law.specs.Fraction.{mul_num, mul_den}
use Rattle.ring_law.proofs.FractionLaws.{mul_made, mul_num_fits, mul_den_fits}
use Rattle.small_frac.proofs.MulParts.{num_is, den_is}
use Rattle.small_frac.proofs.Parts.{kept}
use Rattle.small_frac.proofs.arithmetic.mul.Goals as goal

pub returns-in_default : goal.returns-in_default
returns-in_default c =
    let en = num_is c.args.a c.args.b c.requires.left c.requires.right _ _ c.common_factor-g.ensures.value c.common_factor-h.ensures.value _ _ c.divided.ensures c.divided-2.ensures in
    ((λ f. c.in_default.ensures (subst (λ z. unsigned_abs z < 2 ^ 127) (sym en) (mul_num_fits c.args.a c.args.b c.requires.left c.requires.right f))), refl)

pub returns-in_default-bounded_mul : goal.returns-in_default-bounded_mul
returns-in_default-bounded_mul c =
    let ed = den_is c.args.a c.args.b c.requires.left c.requires.right _ _ c.common_factor-g.ensures.value c.common_factor-h.ensures.value _ _ c.divided-3.ensures c.divided-4.ensures in
    ((λ f. c.in_default-bounded_mul.ensures (subst (λ z. unsigned_abs z < 2 ^ 127) (sym ed) (mul_den_fits c.args.a c.args.b c.requires.left c.requires.right f))), refl)

pub returns : goal.returns
returns c =
    let a = c.args.a in
    let b = c.args.b in
    let en = num_is a b c.requires.left c.requires.right _ _ c.common_factor-g.ensures.value c.common_factor-h.ensures.value _ _ c.divided.ensures c.divided-2.ensures in
    let ed = den_is a b c.requires.left c.requires.right _ _ c.common_factor-g.ensures.value c.common_factor-h.ensures.value _ _ c.divided-3.ensures c.divided-4.ensures in
    let fn : unsigned_abs (mul_num a b) < 2 ^ 127 = subst (λ z. unsigned_abs z < 2 ^ 127) en c.in-Some.ensures.0 in
    let fd : mul_den a b < 2 ^ 127 = subst (λ z. unsigned_abs z < 2 ^ 127) ed c.in-Some-bounded_mul.ensures.0 in
    mul_made a b _ c.requires.left c.requires.right fn fd
    (ap (λ z. to_z w128 (of_z w128 z)) (c.in-Some.ensures.1 ∙ en) ∙ kept (mul_num a b) fn)
    (ap (λ z. to_z w128 (of_z w128 z)) (c.in-Some-bounded_mul.ensures.1 ∙ ed) ∙ kept (pos (mul_den a b)) fd)
