use Rattle.std.proofs.Common.{◌<◌, ◌^◌, unsigned_abs, sym, ◌∙◌, ap, ap₂, subst}
use Rattle.std.specs.Prelude.{SomeIff}
use Rattle.ring_theory.specs.Height.{lcm}
use Rattle.ring_law.proofs.FractionLaws.{value_den}
use Rattle.small_frac.proofs.Parts.{kept}
use Rattle.small_frac.proofs.CubicRoots.{no_den, first_pos, second_pos, first_small, second_small}
use Rattle.small_frac.proofs.root.common_denominator.Goals as goal

pub returns-in_err-first : goal.returns-in_err-first
returns-in_err-first c =
    let r = c.requires in
    let a = c.args in
    let u0 = c.unsigned_abs.ensures.value ∙ ap unsigned_abs (kept a.m0.den r.m0_valid.den_fits) ∙ sym (value_den a.m0 r.m0_valid) in
    no_den a.m2 a.m1 a.m0 r.m2_valid r.m1_valid r.m0_valid _ c.from_residual.ensures
    (λ small. c.in_err-first.ensures (subst (λ x. x < 2 ^ 120) (ap (λ x. lcm x 1) (sym u0)) (first_small a.m2 a.m1 a.m0 r.m2_valid r.m1_valid r.m0_valid small)))

pub small_multiple-requires-2 : goal.small_multiple-requires-2
small_multiple-requires-2 c =
    let r = c.requires in
    let a = c.args in
    let u0 = c.unsigned_abs.ensures.value ∙ ap unsigned_abs (kept a.m0.den r.m0_valid.den_fits) ∙ sym (value_den a.m0 r.m0_valid) in
    subst (λ x. 0 < x) (sym (c.in_ok-first.ensures.1 ∙ ap (λ x. lcm x 1) u0)) (first_pos a.m2 a.m1 a.m0 r.m2_valid r.m1_valid r.m0_valid)

pub returns-in_err-second : goal.returns-in_err-second
returns-in_err-second c =
    let r = c.requires in
    let a = c.args in
    let u0 = c.unsigned_abs.ensures.value ∙ ap unsigned_abs (kept a.m0.den r.m0_valid.den_fits) ∙ sym (value_den a.m0 r.m0_valid) in
    let u1 = c.unsigned_abs-2.ensures.value ∙ ap unsigned_abs (kept a.m1.den r.m1_valid.den_fits) ∙ sym (value_den a.m1 r.m1_valid) in
    let e = ap₂ lcm u1 (c.in_ok-first.ensures.1 ∙ ap (λ x. lcm x 1) u0) in
    no_den a.m2 a.m1 a.m0 r.m2_valid r.m1_valid r.m0_valid _ c.from_residual-in_err-second.ensures
    (λ small. c.in_err-second.ensures (subst (λ x. x < 2 ^ 120) (sym e) (second_small a.m2 a.m1 a.m0 r.m2_valid r.m1_valid r.m0_valid small)))

pub small_multiple-requires-3 : goal.small_multiple-requires-3
small_multiple-requires-3 c =
    let r = c.requires in
    let a = c.args in
    let u0 = c.unsigned_abs.ensures.value ∙ ap unsigned_abs (kept a.m0.den r.m0_valid.den_fits) ∙ sym (value_den a.m0 r.m0_valid) in
    let u1 = c.unsigned_abs-2.ensures.value ∙ ap unsigned_abs (kept a.m1.den r.m1_valid.den_fits) ∙ sym (value_den a.m1 r.m1_valid) in
    let e = ap₂ lcm u1 (c.in_ok-first.ensures.1 ∙ ap (λ x. lcm x 1) u0) in
    subst (λ x. 0 < x) (sym (c.in_ok-second.ensures.1 ∙ e)) (second_pos a.m2 a.m1 a.m0 r.m2_valid r.m1_valid r.m0_valid)

pub returns : goal.returns
returns c =
    let r = c.requires in
    let a = c.args in
    let u0 = c.unsigned_abs.ensures.value ∙ ap unsigned_abs (kept a.m0.den r.m0_valid.den_fits) ∙ sym (value_den a.m0 r.m0_valid) in
    let u1 = c.unsigned_abs-2.ensures.value ∙ ap unsigned_abs (kept a.m1.den r.m1_valid.den_fits) ∙ sym (value_den a.m1 r.m1_valid) in
    let u2 = c.unsigned_abs-3.ensures.value ∙ ap unsigned_abs (kept a.m2.den r.m2_valid.den_fits) ∙ sym (value_den a.m2 r.m2_valid) in
    let e = ap₂ lcm u1 (c.in_ok-first.ensures.1 ∙ ap (λ x. lcm x 1) u0) in
    subst (λ x. SomeIff c.small_multiple-3.result (x < 2 ^ 120) x) (ap₂ lcm u2 (c.in_ok-second.ensures.1 ∙ e)) c.small_multiple-3.ensures
