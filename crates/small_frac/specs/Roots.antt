-- Rational roots of monic polynomials of degree 2 and 3, and how large the numbers are that lead to them.
use Rattle.std.specs.Prelude.{◌≡◌, ℕ, ◌*◌, ◌≤◌, ◌^◌, ◌⊎◌, [], ◌∷◌, Option, MatchOption, pos, ◌≤ℤ◌}
use Rattle.ring_theory.specs.Height.{most, product_height, sum_height, common_den, scaled_abs}
use Rattle.ring_theory.specs.Rational.{Rational, rational, rational_add, rational_mul, rational_neg, rational_ops}
use Rattle.ring_law.specs.Fraction.{IsFrac, frac_value}
use Rattle.ring_law.specs.declared.fraction.Frac.{Frac}
use Rattle.ring_law.specs.declared.fraction.Op.TheVariants.{Add, Mul}
use Rattle.ring_law.specs.declared.fraction.Range.{Range}
use Rattle.small_frac.specs.Exact.{IsRefusalOf}
use Rattle.ext_theory.specs.Extension.{Quadratic, Cubic, quadratic_at}
use Rattle.ext_theory.specs.Roots.{IsAtMost, HasNoRoot, IsLeastRootOf}

-- ---- the least root of a function on the rational numbers

-- x is a valid fraction, and its value is the least rational root of f
pub record IsLeastRootFrac (f : Rational → Rational) (x : Frac) : Type 0 where
  pub valid : IsFrac x
  pub least : IsLeastRootOf f (frac_value x)

-- the least rational root of f, and nothing exactly where there is none
abbrev pub HasLeastRoot : (Rational → Rational) → Option Frac → Type 0
HasLeastRoot f r = MatchOption r (HasNoRoot f) (λ x. IsLeastRootFrac f x)

-- ---- degree 2

-- t^2 + m1 t + m0
abbrev pub quadratic_of : Frac → Frac → Quadratic Rational
quadratic_of m1 m0 = record { c0 = frac_value m0; c1 = frac_value m1 }

-- low and high are both roots of t^2 + m1 t + m0, the smaller first, and it has no others
pub record AreRoots (m : Quadratic Rational) (low high : Rational) : Type 0 where
  pub low_root : quadratic_at rational_ops m low ≡ rational_ops.zero
  pub high_root : quadratic_at rational_ops m high ≡ rational_ops.zero
  pub ordered : IsAtMost low high
  pub only : (x : Rational) → quadratic_at rational_ops m x ≡ rational_ops.zero → (x ≡ low) ⊎ (x ≡ high)

-- both are valid fractions, and their values are the roots
pub record IsRootPair (m1 m0 low high : Frac) : Type 0 where
  pub low_valid : IsFrac low
  pub high_valid : IsFrac high
  pub roots : AreRoots (quadratic_of m1 m0) (frac_value low) (frac_value high)

-- both roots, and nothing exactly where there is no rational root
abbrev pub HasRoots : Frac → Frac → Option (Frac × Frac) → Type 0
HasRoots m1 m0 r = MatchOption r (HasNoRoot (quadratic_at rational_ops (quadratic_of m1 m0))) (λ p. IsRootPair m1 m0 p.0 p.1)

abbrev pub four : Rational
four = rational (pos 4) 1

abbrev pub half : Rational
half = rational (pos 1) 2

-- m1 m1 - 4 m0
abbrev pub discriminant : Quadratic Rational → Rational
discriminant m = rational_add (rational_mul m.c1 m.c1) (rational_neg (rational_mul four m.c0))

-- the height of that
unfoldable pub discriminant_height : Quadratic Rational → ℕ
discriminant_height m =
    most (product_height m.c1 m.c1 ∷ product_height four m.c0 ∷ sum_height (rational_mul m.c1 m.c1 ∷ rational_neg (rational_mul four m.c0) ∷ []) ∷ [])

-- e is the refusal of one of its operations
pub data DiscriminantRefuses (m : Quadratic Rational) (e : Range) : Type 0 where
  square : IsRefusalOf Mul m.c1 m.c1 e → DiscriminantRefuses m e
  four_times : IsRefusalOf Mul four m.c0 e → DiscriminantRefuses m e
  difference : IsRefusalOf Add (rational_mul m.c1 m.c1) (rational_neg (rational_mul four m.c0)) e → DiscriminantRefuses m e

-- (x + y) / 2
abbrev pub half_sum : Rational → Rational → Rational
half_sum x y = rational_mul (rational_add x y) half

-- the height of that
unfoldable pub half_sum_height : Rational → Rational → ℕ
half_sum_height x y = most (sum_height (x ∷ y ∷ []) ∷ product_height (rational_add x y) half ∷ [])

-- e is the refusal of one of its operations
pub data HalfSumRefuses (x y : Rational) (e : Range) : Type 0 where
  sum : IsRefusalOf Add x y e → HalfSumRefuses x y e
  halving : IsRefusalOf Mul (rational_add x y) half e → HalfSumRefuses x y e

-- r is the root of the discriminant that is not negative
pub record IsDiscriminantRoot (m : Quadratic Rational) (r : Rational) : Type 0 where
  pub not_negative : pos 0 ≤ℤ r.num
  pub square : rational_mul r r ≡ discriminant m

-- an operation of m1 m1 - 4 m0, of (-m1 - r)/2 or of (-m1 + r)/2 is high, for the root r of the first
pub data QuadraticIsHigh (m : Quadratic Rational) : Type 0 where
  discriminant_high : 2 ^ 120 ≤ discriminant_height m → QuadraticIsHigh m
  low_high : (r : Rational) → IsDiscriminantRoot m r → 2 ^ 120 ≤ half_sum_height (rational_neg m.c1) (rational_neg r) → QuadraticIsHigh m
  high_high : (r : Rational) → IsDiscriminantRoot m r → 2 ^ 120 ≤ half_sum_height (rational_neg m.c1) r → QuadraticIsHigh m

-- e is the refusal of an operation of m1 m1 - 4 m0, of (-m1 - r)/2 or of (-m1 + r)/2, for the root r of the first
pub data QuadraticRefuses (m : Quadratic Rational) (e : Range) : Type 0 where
  in_discriminant : DiscriminantRefuses m e → QuadraticRefuses m e
  in_low : (r : Rational) → IsDiscriminantRoot m r → HalfSumRefuses (rational_neg m.c1) (rational_neg r) e → QuadraticRefuses m e
  in_high : (r : Rational) → IsDiscriminantRoot m r → HalfSumRefuses (rational_neg m.c1) r e → QuadraticRefuses m e

-- ---- degree 3

-- t^3 + m2 t^2 + m1 t + m0
abbrev pub cubic_of : Frac → Frac → Frac → Cubic Rational
cubic_of m2 m1 m0 = record { c0 = frac_value m0; c1 = frac_value m1; c2 = frac_value m2 }

-- the least common denominator d of the coefficients
abbrev pub cubic_den : Cubic Rational → ℕ
cubic_den m = common_den (m.c2 ∷ m.c1 ∷ m.c0 ∷ [])

-- the largest of d, d m2, d^2 m1 and d^3 m0 in absolute value
unfoldable pub cubic_root_height : Cubic Rational → ℕ
cubic_root_height m =
    let d = cubic_den m in
    most (d ∷ scaled_abs d m.c2 ∷ scaled_abs d m.c1 * d ∷ scaled_abs d m.c0 * d * d ∷ [])
