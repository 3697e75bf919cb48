use Rattle.std.proofs.Common.{[], ◌∷◌, map, ap, ◌∙◌, arith}
use Rattle.ring_law.proofs.Exits.{handed_on, refused_by}
use Rattle.ext_algebra.specs.Algebra.{algebra_meaning}
use Rattle.ext_algebra.specs.AlgebraLaws.{algebra_scalar_laws}
use Rattle.jet_law.proofs.High.{high_left}
use Rattle.jet_poly.proofs.Steps.{if_ok}
use Rattle.ring_formula.specs.Formulas.{formula_value}
use Rattle.normal_forms.specs.declared.invariant.TheConstants.{TRIPLE_NUMERATOR}
use Rattle.normal_forms.specs.Units.{at, triple_discriminant, triple_heights}
use Rattle.check_form.specs.FormHeights.{times_divisor_heights}
use Rattle.check_form.proofs.Quotients.{same_test, coefficient_read, quotient_high, triple_numerator}
use Rattle.check_form.proofs.modulus.is_j_of_triple.Goals as goal

pub returns-in_err-discriminant-clause-range : goal.returns-in_err-discriminant-clause-range
returns-in_err-discriminant-clause-range c =
    let m = algebra_meaning c.args.ring.now.algebra in
    let v = map m.value c.args.coefs.now in
    handed_on _ c.from_residual.ensures.1
    (high_left (triple_heights m.scalars v) (times_divisor_heights m.scalars TRIPLE_NUMERATOR (at m.scalars v 1) (m.value c.args.q) (triple_discriminant m.scalars v)))
    c.in_err-discriminant.ensures.range

pub returns-clause-line : goal.returns-clause-line
returns-clause-line c =
    let m = algebra_meaning c.args.ring.now.algebra in
    let s = m.scalars in
    let v = map m.value c.args.coefs.now in
    if_ok c.is_quotient.result
    (λ b h. same_test b _ _ _ _
    (ap (s.ops.mul (m.value c.args.q)) c.in_ok-discriminant.ensures.value)
    (ap (λ x. formula_value s (x ∷ []) TRIPLE_NUMERATOR) (coefficient_read s m.value c.args.coefs.now 1 _ (omega arith)) ∙ triple_numerator s (algebra_scalar_laws c.args.ring.now.algebra) (at s v 1)) h)
    c.is_quotient.ensures.quotient

pub returns-clause-range : goal.returns-clause-range
returns-clause-range c =
    let m = algebra_meaning c.args.ring.now.algebra in
    let s = m.scalars in
    let v = map m.value c.args.coefs.now in
    refused_by
    (quotient_high s TRIPLE_NUMERATOR _ (m.value c.args.q) (m.value c.in_ok-discriminant.discriminant) (at s v 1) (triple_discriminant s v)
    (triple_heights s v) (coefficient_read s m.value c.args.coefs.now 1 _ (omega arith)) c.in_ok-discriminant.ensures.value)
    c.is_quotient.ensures.range
