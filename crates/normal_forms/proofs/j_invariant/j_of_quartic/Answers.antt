use Rattle.std.proofs.Common.{map}
use Rattle.ring_theory.specs.Height.{rational_scalars}
use Rattle.ring_law.specs.Fraction.{frac_value}
use Rattle.ring_law.proofs.Exits.{handed_on, refused_by}
use Rattle.jet_law.proofs.High.{high_left}
use Rattle.normal_forms.specs.declared.invariant.TheConstants.{QUARTIC_NUMERATOR}
use Rattle.normal_forms.specs.Units.{quartic_i, quartic_discriminant, quartic_heights, quotient_heights}
use Rattle.normal_forms.proofs.JLines.{quotient_high}
use Rattle.normal_forms.proofs.j_invariant.j_of_quartic.Goals as goal

pub returns-in_err-i-clause-range : goal.returns-in_err-i-clause-range
returns-in_err-i-clause-range c =
    let qs = map frac_value c.args.q.now in
    handed_on _ c.from_residual.ensures.1
    (high_left (quartic_heights rational_scalars qs) (quotient_heights QUARTIC_NUMERATOR (quartic_i rational_scalars qs) (quartic_discriminant rational_scalars qs)))
    c.in_err-i.ensures.range

pub returns-clause-range : goal.returns-clause-range
returns-clause-range c =
    let qs = map frac_value c.args.q.now in
    refused_by
    (quotient_high QUARTIC_NUMERATOR (quartic_heights rational_scalars qs) (frac_value c.in_ok-i.i) (frac_value c.in_ok-i.discriminant) (quartic_i rational_scalars qs) (quartic_discriminant rational_scalars qs)
    c.in_ok-i.ensures.i_value c.in_ok-i.ensures.discriminant_value)
    c.quotient.ensures.range
