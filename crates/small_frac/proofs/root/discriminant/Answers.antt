use Rattle.std.proofs.Common.{◌∙◌, ap}
use Rattle.ring_law.proofs.Exits.{handed_on, refused_by}
use Rattle.ring_theory.specs.Height.{rational_scalars}
use Rattle.ring_theory.proofs.HeightLaws.{le_most}
use Rattle.ring_theory.proofs.RationalLaws.{rational_laws}
use Rattle.ring_theory.proofs.Sums.{two_high}
use Rattle.ring_theory.specs.Rational.{rational_mul, rational_neg}
use Rattle.ring_law.specs.Fraction.{Represents, frac_value}
use Rattle.small_frac.specs.Roots.{quadratic_of, DiscriminantRefuses, four, discriminant_height, square, four_times, difference}
use Rattle.small_frac.proofs.Constants.{four_valid}
use Rattle.small_frac.proofs.Refusals.{of_value, of_sum, product_refused, said_of, said_on}
use Rattle.small_frac.proofs.root.discriminant.Goals as goal

pub mul-requires-2-clause-left : goal.mul-requires-2-clause-left
mul-requires-2-clause-left c = four_valid

pub returns-in_err-square-clause-cause : goal.returns-in_err-square-clause-cause
unfolding discriminant_height
returns-in_err-square-clause-cause c = handed_on _ c.from_residual.ensures.1 (λ high. le_most 0 _ high) c.in_err-square.ensures.cause

pub returns-in_err-product-clause-cause : goal.returns-in_err-product-clause-cause
unfolding discriminant_height
returns-in_err-product-clause-cause c = handed_on _ c.from_residual-in_err-product.ensures.1 (λ high. le_most 1 _ high) c.in_err-product.ensures.cause

pub returns-clause-cause : goal.returns-clause-cause
unfolding discriminant_height
returns-clause-cause c =
    refused_by (λ high. le_most 2 _ (two_high rational_scalars rational_laws _ _ (rw (c.neg.ensures.value, c.in_ok-product.ensures.value, c.in_ok-square.ensures.value) at high))) c.add.ensures.cause

pub returns-in_err-square-clause-refused : goal.returns-in_err-square-clause-refused
returns-in_err-square-clause-refused c = said_on (DiscriminantRefuses (quadratic_of c.args.m1 c.args.m0)) _ c.from_residual.ensures.1 (square (product_refused (of_value c.requires.m1_valid) (of_value c.requires.m1_valid) c.in_err-square.ensures.exact))

pub returns-in_err-product-clause-refused : goal.returns-in_err-product-clause-refused
returns-in_err-product-clause-refused c =
    said_on (DiscriminantRefuses (quadratic_of c.args.m1 c.args.m0)) _ c.from_residual-in_err-product.ensures.1 (four_times (product_refused (of_value four_valid) (of_value c.requires.m0_valid) c.in_err-product.ensures.exact))

pub returns-clause-refused : goal.returns-clause-refused
returns-clause-refused c =
    let minuend : Represents _ (rational_mul (frac_value c.args.m1) (frac_value c.args.m1)) = record { valid = c.in_ok-square.ensures.elem; value_is = c.in_ok-square.ensures.value } in
    let subtrahend : Represents _ (rational_neg (rational_mul four (frac_value c.args.m0))) = record { valid = c.neg.ensures.elem; value_is = c.neg.ensures.value ∙ ap rational_neg c.in_ok-product.ensures.value } in
    said_of _ (λ e h. difference h) (of_sum minuend subtrahend _ c.add.ensures.exact)
