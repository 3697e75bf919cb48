use Rattle.std.proofs.Common.{ap, ◌∙◌, sym, arith}
use Rattle.ring_theory.specs.Height.{rational_scalars}
use Rattle.ring_theory.specs.Rational.{rational_ops, rational_inv}
use Rattle.ring_theory.proofs.RationalLaws.{rational_field, rational_dec, rational_scalar_laws, rational_inverts}
use Rattle.ring_law.proofs.Exits.{handed_on}
use Rattle.ring_law.specs.Fraction.{frac_value}
use Rattle.ext_theory.specs.Extension.{quadratic_at, cubic_norm}
use Rattle.ext_theory.specs.Tower.{square_scalars, lifted_modulus}
use Rattle.ext_theory.proofs.ExtensionLaws.{cubic_path, quadratic_path}
use Rattle.ext_theory.proofs.TowerFields.{square_no_root, tower_norm-zero, tower_norm-of_zero}
use Rattle.ext_theory.specs.Tower.{nest as nested_value}
use Rattle.ext_algebra.specs.Algebra.{sextic_of}
use Rattle.ext_algebra.specs.ExtRing.{triple_value}
use Rattle.ext_algebra.specs.Tower.{pairs_value}
use Rattle.ext_algebra.proofs.TowerMoves.{norm_same, zero_same, inverse_is, inverse_high}
use Rattle.ext_algebra.proofs.tower.tower_inv.Goals as goal

pub cubic_inv-requires-clause-field : goal.cubic_inv-requires-clause-field
cubic_inv-requires-clause-field c =
    let below = quadratic_path _ _ c.neg.ensures.value c.zero-zero.ensures.value in
    record {
      ring = record {
        base = tt;
        m0_valid = c.neg.ensures.elem;
        m1_valid = c.zero-zero.ensures.elem;
        m2_valid = c.zero-zero.ensures.elem;
        at_least = omega arith;
        at_most = omega arith;
        pair = λ _. c.zero-zero.ensures.value;
      };
      no_root = λ x e.
          square_no_root rational_ops rational_inv rational_field rational_dec (frac_value c.args.d) c.requires.no_square x
          (ap (λ n. quadratic_at rational_ops n x) (sym below) ∙ e);
    }

pub returns-in_err-cubic_inv-clause-cause : goal.returns-in_err-cubic_inv-clause-cause
returns-in_err-cubic_inv-clause-cause c =
    let below = quadratic_path _ _ c.neg.ensures.value c.zero-zero.ensures.value in
    let lifted =
    cubic_path _ _ (quadratic_path _ _ (ap frac_value c.lift.ensures.c0) c.lift.ensures.c1)
    (quadratic_path _ _ (ap frac_value c.lift-2.ensures.c0) c.lift-2.ensures.c1)
    (quadratic_path _ _ (ap frac_value c.lift-3.ensures.c0) c.lift-3.ensures.c1) in
    let nested = ap pairs_value c.front.ensures ∙ c.nest-nested.ensures.value in
    handed_on _ c.from_residual.ensures.1
    (λ high. inverse_high rational_scalars (triple_value frac_value c.args.modulus) (frac_value c.args.d) _ _ below lifted _ _ nested high)
    c.in_err-cubic_inv.ensures.cause

pub returns-in-None-clause-zero : goal.returns-in-None-clause-zero
returns-in-None-clause-zero c =
    let below = quadratic_path _ _ c.neg.ensures.value c.zero-zero.ensures.value in
    let lifted =
    cubic_path _ _ (quadratic_path _ _ (ap frac_value c.lift.ensures.c0) c.lift.ensures.c1)
    (quadratic_path _ _ (ap frac_value c.lift-2.ensures.c0) c.lift-2.ensures.c1)
    (quadratic_path _ _ (ap frac_value c.lift-3.ensures.c0) c.lift-3.ensures.c1) in
    let nested = ap pairs_value c.front.ensures ∙ c.nest-nested.ensures.value in
    let m = triple_value frac_value c.args.modulus in
    let d = frac_value c.args.d in
    tower_norm-zero rational_scalars rational_scalar_laws rational_inverts m d c.requires.no_root c.requires.no_square (nested_value (sextic_of c.args.a))
    (sym (norm_same rational_scalars m d _ _ below lifted _ _ nested) ∙ (rw c.in-None.is at c.in_ok-cubic_inv.ensures.zero)
    ∙ zero_same rational_scalars m d _ _ below lifted _ _ nested)

pub returns-clause-zero : goal.returns-clause-zero
returns-clause-zero c =
    let below = quadratic_path _ _ c.neg.ensures.value c.zero-zero.ensures.value in
    let lifted =
    cubic_path _ _ (quadratic_path _ _ (ap frac_value c.lift.ensures.c0) c.lift.ensures.c1)
    (quadratic_path _ _ (ap frac_value c.lift-2.ensures.c0) c.lift-2.ensures.c1)
    (quadratic_path _ _ (ap frac_value c.lift-3.ensures.c0) c.lift-3.ensures.c1) in
    let nested = ap pairs_value c.front.ensures ∙ c.nest-nested.ensures.value in
    let m = triple_value frac_value c.args.modulus in
    let d = frac_value c.args.d in
    let unit = rw c.in-Some.is at c.in_ok-cubic_inv.ensures.zero in
    λ e. unit
    (norm_same rational_scalars m d _ _ below lifted _ _ nested
    ∙ ap (λ x. cubic_norm (square_scalars rational_scalars d).ops (lifted_modulus rational_ops m) x) e
    ∙ tower_norm-of_zero rational_scalars rational_scalar_laws m d
    ∙ sym (zero_same rational_scalars m d _ _ below lifted _ _ nested))

pub returns-clause-value : goal.returns-clause-value
returns-clause-value c =
    let below = quadratic_path _ _ c.neg.ensures.value c.zero-zero.ensures.value in
    let lifted =
    cubic_path _ _ (quadratic_path _ _ (ap frac_value c.lift.ensures.c0) c.lift.ensures.c1)
    (quadratic_path _ _ (ap frac_value c.lift-2.ensures.c0) c.lift-2.ensures.c1)
    (quadratic_path _ _ (ap frac_value c.lift-3.ensures.c0) c.lift-3.ensures.c1) in
    let nested = ap pairs_value c.front.ensures ∙ c.nest-nested.ensures.value in
    c.flat.ensures.value
    ∙ inverse_is rational_scalars (triple_value frac_value c.args.modulus) (frac_value c.args.d) _ _ below lifted _ _ nested _
    (rw c.in-Some.is at c.in_ok-cubic_inv.ensures.value)
