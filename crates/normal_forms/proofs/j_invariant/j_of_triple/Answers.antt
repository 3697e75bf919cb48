use Rattle.std.proofs.Common.{map, arith}
use Rattle.ring_theory.specs.Height.{rational_scalars}
use Rattle.ring_law.specs.Fraction.{frac_value}
use Rattle.ring_law.proofs.Exits.{handed_on, refused_by}
use Rattle.jet_law.proofs.High.{high_left}
use Rattle.normal_forms.specs.declared.invariant.TheConstants.{TRIPLE_NUMERATOR}
use Rattle.normal_forms.specs.Units.{at, triple_discriminant, triple_heights, quotient_heights}
use Rattle.normal_forms.proofs.JLines.{quotient_high, value_read}
use Rattle.normal_forms.proofs.j_invariant.j_of_triple.Goals as goal

pub returns-in_err-discriminant-clause-range : goal.returns-in_err-discriminant-clause-range
returns-in_err-discriminant-clause-range c =
    let cs = map frac_value c.args.c.now in
    handed_on _ c.from_residual.ensures.1
    (high_left (triple_heights rational_scalars cs) (quotient_heights TRIPLE_NUMERATOR (at rational_scalars cs 1) (triple_discriminant rational_scalars cs)))
    c.in_err-discriminant.ensures.range

pub returns-clause-range : goal.returns-clause-range
returns-clause-range c =
    let cs = map frac_value c.args.c.now in
    refused_by
    (quotient_high TRIPLE_NUMERATOR (triple_heights rational_scalars cs) _ (frac_value c.in_ok-discriminant.discriminant) (at rational_scalars cs 1) (triple_discriminant rational_scalars cs)
    (value_read c.args.c.now 1 _ (omega arith)) c.in_ok-discriminant.ensures.value)
    c.quotient.ensures.range
