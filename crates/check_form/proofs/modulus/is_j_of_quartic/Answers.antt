use Rattle.std.proofs.Common.{[], ◌∷◌, map, ap, ◌∙◌}
use Rattle.ring_law.proofs.Exits.{handed_on, refused_by}
use Rattle.ext_algebra.specs.Algebra.{algebra_meaning}
use Rattle.ext_algebra.specs.AlgebraLaws.{algebra_scalar_laws}
use Rattle.jet_law.proofs.High.{high_left}
use Rattle.jet_poly.proofs.Steps.{if_ok}
use Rattle.ring_formula.specs.Formulas.{formula_value}
use Rattle.normal_forms.specs.declared.invariant.TheConstants.{QUARTIC_NUMERATOR}
use Rattle.normal_forms.specs.Units.{quartic_i, quartic_discriminant, quartic_heights}
use Rattle.check_form.specs.FormHeights.{times_divisor_heights}
use Rattle.check_form.proofs.Quotients.{same_test, quotient_high, quartic_numerator}
use Rattle.check_form.proofs.modulus.is_j_of_quartic.Goals as goal

pub returns-in_err-i-clause-range : goal.returns-in_err-i-clause-range
returns-in_err-i-clause-range c =
    let m = algebra_meaning c.args.ring.now.algebra in
    let v = map m.value c.args.coefs.now in
    handed_on _ c.from_residual.ensures.1
    (high_left (quartic_heights m.scalars v) (times_divisor_heights m.scalars QUARTIC_NUMERATOR (quartic_i m.scalars v) (m.value c.args.q) (quartic_discriminant m.scalars v)))
    c.in_err-i.ensures.range

pub returns-clause-line : goal.returns-clause-line
returns-clause-line c =
    let m = algebra_meaning c.args.ring.now.algebra in
    let s = m.scalars in
    let v = map m.value c.args.coefs.now in
    if_ok c.is_quotient.result
    (λ b h. same_test b _ _ _ _
    (ap (s.ops.mul (m.value c.args.q)) c.in_ok-i.ensures.discriminant_value)
    (ap (λ i. formula_value s (i ∷ []) QUARTIC_NUMERATOR) c.in_ok-i.ensures.i_value ∙ quartic_numerator s (algebra_scalar_laws c.args.ring.now.algebra) (quartic_i s v)) h)
    c.is_quotient.ensures.quotient

pub returns-clause-range : goal.returns-clause-range
returns-clause-range c =
    let m = algebra_meaning c.args.ring.now.algebra in
    let v = map m.value c.args.coefs.now in
    refused_by
    (quotient_high m.scalars QUARTIC_NUMERATOR (m.value c.in_ok-i.i) (m.value c.args.q) (m.value c.in_ok-i.discriminant) (quartic_i m.scalars v) (quartic_discriminant m.scalars v)
    (quartic_heights m.scalars v) c.in_ok-i.ensures.i_value c.in_ok-i.ensures.discriminant_value)
    c.is_quotient.ensures.range
