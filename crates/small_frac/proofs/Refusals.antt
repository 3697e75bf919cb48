-- Which operation a refusal names.
use Rattle.std.proofs.Common.{◌≡◌, refl, Result, Ok, Err, IfErr}
use Rattle.std.specs.Result.{IsErrAnd}
use Rattle.ring_theory.specs.Rational.{Rational, rational_mul}
use Rattle.ring_law.specs.Fraction.{IsFrac, Represents, FitsFrac, AddFits, frac_value}
use Rattle.ring_law.specs.declared.fraction.Frac.{Frac}
use Rattle.ring_law.specs.declared.fraction.Op.TheVariants.{Add, Mul}
use Rattle.ring_law.specs.declared.fraction.Range.{Range}
use Rattle.small_frac.specs.Exact.{IsExactSum, IsExactProduct, IsRefusalOf}

-- a valid fraction represents its value
pub of_value : {p : Frac} → IsFrac p → Represents p (frac_value p)
of_value h = record { valid = h; value_is = refl }

module _ {p q : Frac} {x y : Rational} (hp : Represents p x) (hq : Represents q y) where
  -- a sum that is refused names the sum
  pub sum_refused : {e : Range} → (¬ AddFits p q) × (e ≡ record { a = p; b = q; op = Add }) → IsRefusalOf Add x y e
  sum_refused h = rw h.1 (record { operation = refl; left = hp; right = hq; refused = h.0 })

  pub of_sum : (r : Result Frac Range) → IsExactSum p q r → IfErr r (IsRefusalOf Add x y)
  of_sum (Ok f) h = tt
  of_sum (Err e) h = sum_refused h

  -- a product that is refused names the product
  pub product_refused : {e : Range} → (¬ FitsFrac (rational_mul (frac_value p) (frac_value q))) × (e ≡ record { a = p; b = q; op = Mul }) → IsRefusalOf Mul x y e
  product_refused h = rw h.1 (record { operation = refl; left = hp; right = hq; refused = h.0 })

  pub of_product : (r : Result Frac Range) → IsExactProduct p q r → IfErr r (IsRefusalOf Mul x y)
  of_product (Ok f) h = tt
  of_product (Err e) h = product_refused h

-- what is said of a refusal, said more weakly
pub said_of : {T : Type 0} {P Q : Range → Type 0} (r : Result T Range) → ((e : Range) → P e → Q e) → IfErr r P → IfErr r Q
said_of (Ok x) f h = tt
said_of (Err e) f h = f e h

-- what is said of a refusal, said of the same one handed on
pub said_on : {U : Type 0} {e : Range} (P : Range → Type 0) (r : Result U Range) → IsErrAnd r (λ y. y ≡ e) → P e → IfErr r P
said_on P (Ok x) h p = absurd h
said_on P (Err y) h p = rw h p
