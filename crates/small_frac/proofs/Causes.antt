-- What is refused is high, in the words of the trait.
use Rattle.std.proofs.Common.{◌≤◌, ◌^◌, arith, sym, Result, Ok, Err}
use Rattle.ring_theory.specs.Rational.{rational_mul}
use Rattle.ring_law.specs.Fraction.{IsFrac, FitsFrac, AddFits, frac_value}
use Rattle.ring_theory.specs.Height.{height, product_height, rational_scalars}
use Rattle.ring_theory.specs.Scalars.{SumIsHigh}
use Rattle.ring_law.specs.Refusals.{OnRange}
use Rattle.ring_law.specs.declared.fraction.Frac.{Frac}
use Rattle.ring_law.specs.declared.fraction.Range.{Range}
use Rattle.ring_law.proofs.SumHeights.{add_refused_high, refused_high}
use Rattle.small_frac.specs.Exact.{IsExactSum, IsExactProduct}

module _ (p q : Frac) (hp : IsFrac p) (hq : IsFrac q) where
  sum_high : ¬ AddFits p q → SumIsHigh rational_scalars (frac_value p) (frac_value q)
  sum_high refused xs ys zs parts ey ez = add_refused_high p q xs ys zs hp hq parts (sym ey) (sym ez) refused

  product_high : ¬ FitsFrac (rational_mul (frac_value p) (frac_value q)) → 2 ^ 120 ≤ product_height (frac_value p) (frac_value q)
  unfolding product_height
  product_high refused = let high : 2 ^ 120 ≤ height (rational_mul (frac_value p) (frac_value q)) = refused_high _ refused in omega arith

  pub add_cause : (r : Result Frac Range) → IsExactSum p q r → OnRange r (SumIsHigh rational_scalars (frac_value p) (frac_value q))
  add_cause (Ok f) h = record { only = tt }
  add_cause (Err e) h = record { only = rw h.1 (record { a_valid = hp; b_valid = hq; refused = h.0 }, sum_high h.0) }

  pub mul_cause : (r : Result Frac Range) → IsExactProduct p q r → OnRange r (2 ^ 120 ≤ product_height (frac_value p) (frac_value q))
  mul_cause (Ok f) h = record { only = tt }
  mul_cause (Err e) h = record { only = rw h.1 (record { a_valid = hp; b_valid = hq; refused = h.0 }, product_high h.0) }
