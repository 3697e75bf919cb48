use Rattle.std.proofs.Common.{[], ◌∷◌}
use Rattle.ring_theory.specs.Height.{rational_scalars}
use Rattle.ring_theory.specs.Rational.{rational_inv}
use Rattle.ring_law.specs.Fraction.{frac_value}
use Rattle.ring_law.proofs.Exits.{handed_on, refused_by}
use Rattle.jet_law.proofs.High.{high_left}
use Rattle.ring_formula.specs.Formulas.{formula_value, formula_heights}
use Rattle.normal_forms.proofs.JLines.{product_high}
use Rattle.normal_forms.proofs.j_invariant.quotient.Goals as goal

pub returns-in_err-top-clause-range : goal.returns-in_err-top-clause-range
returns-in_err-top-clause-range c =
    let l = frac_value c.args.letter in
    handed_on _ c.from_residual.ensures.1
    (high_left (formula_heights rational_scalars (l ∷ []) c.args.numerator.now)
    (rational_scalars.product_height (formula_value rational_scalars (l ∷ []) c.args.numerator.now) (rational_inv (frac_value c.args.discriminant)) ∷ []))
    c.in_err-top.ensures.range

pub returns-clause-range : goal.returns-clause-range
returns-clause-range c =
    let inverse = rw c.unwrap.ensures at c.inv.ensures in
    refused_by
    (product_high c.args.numerator.now (frac_value c.args.letter) (frac_value c.args.discriminant) (frac_value c.in_ok-top.top) (frac_value c.unwrap.result) c.in_ok-top.ensures.value inverse.1.value_is)
    c.mul.ensures.cause
