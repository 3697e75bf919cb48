use Rattle.ring_law.proofs.Exits.{handed_on, refused_by}
use Rattle.ring_theory.specs.Height.{rational_scalars}
use Rattle.ring_theory.proofs.HeightLaws.{le_most}
use Rattle.ring_theory.proofs.RationalLaws.{rational_laws}
use Rattle.ring_theory.proofs.Sums.{two_high}
use Rattle.ring_theory.specs.Rational.{rational_add}
use Rattle.ring_law.specs.Fraction.{Represents, frac_value}
use Rattle.small_frac.specs.Roots.{HalfSumRefuses, half_sum_height, sum, halving}
use Rattle.small_frac.proofs.Constants.{half_valid}
use Rattle.small_frac.proofs.Refusals.{of_value, of_product, sum_refused, said_of, said_on}
use Rattle.small_frac.proofs.root.half_sum.Goals as goal

pub mul-requires-clause-right : goal.mul-requires-clause-right
mul-requires-clause-right c = half_valid

pub returns-in_err-sum-clause-cause : goal.returns-in_err-sum-clause-cause
unfolding half_sum_height
returns-in_err-sum-clause-cause c = handed_on _ c.from_residual.ensures.1 (λ high. le_most 0 _ (two_high rational_scalars rational_laws _ _ high)) c.in_err-sum.ensures.cause

pub returns-clause-cause : goal.returns-clause-cause
unfolding half_sum_height
returns-clause-cause c = refused_by (λ high. le_most 1 _ (rw c.in_ok-sum.ensures.value at high)) c.mul.ensures.cause

pub returns-in_err-sum-clause-refused : goal.returns-in_err-sum-clause-refused
returns-in_err-sum-clause-refused c = said_on (HalfSumRefuses (frac_value c.args.x) (frac_value c.args.y)) _ c.from_residual.ensures.1 (sum (sum_refused (of_value c.requires.x_valid) (of_value c.requires.y_valid) c.in_err-sum.ensures.exact))

pub returns-clause-refused : goal.returns-clause-refused
returns-clause-refused c =
    let added : Represents _ (rational_add (frac_value c.args.x) (frac_value c.args.y)) = record { valid = c.in_ok-sum.ensures.elem; value_is = c.in_ok-sum.ensures.value } in
    said_of _ (λ e h. halving h) (of_product added (of_value half_valid) _ c.mul.ensures.exact)
