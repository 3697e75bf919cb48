-- The rational numbers: fractions in lowest terms, so that equal values are equal terms.
use Rattle.std.specs.Prelude.{◌≡◌, ℕ, suc, ◌*◌, ◌/◌, ℤ, pos, negsuc, ◌+ℤ◌, ◌*ℤ◌, neg_ℤ, unsigned_abs, Bool, true, false, IsTrue, ◌&&◌, ◌==◌, nat_lt, refl}
use Rattle.ring_theory.specs.Gcd.{gcd}
use Rattle.ring_theory.specs.Ring.{RingOps}
use Rattle.ring_theory.specs.Integers.{int_quotient}

-- n / d has a positive denominator and is in lowest terms
abbrev pub is_lowest : ℤ → ℕ → Bool
is_lowest n d = nat_lt 0 d && (gcd (unsigned_abs n) d == 1)

-- a whole number over a positive one, in lowest terms
pub record Rational : Type 0 where
  pub num : ℤ
  pub den : ℕ
  pub lowest : IsTrue (is_lowest num den)

unfoldable pub rational_zero : Rational
unfolding gcd
rational_zero = record { num = pos 0; den = 1; lowest = refl }

-- n / d, where the test b says that this is in lowest terms, else 0
abbrev pub checked : (n : ℤ) (d : ℕ) (b : Bool) → is_lowest n d ≡ b → Rational
checked n d true h = record { num = n; den = d; lowest = h }
checked n d false h = rational_zero

-- n / d in lowest terms, and 0 where d is 0
unfoldable pub rational : ℤ → ℕ → Rational
rational n d = let g = gcd (unsigned_abs n) d in checked (int_quotient n g) (d / g) (is_lowest (int_quotient n g) (d / g)) refl

-- a / b + c / d = (a d + c b) / (b d)
unfoldable pub rational_add : Rational → Rational → Rational
rational_add a b = rational (a.num *ℤ pos b.den +ℤ b.num *ℤ pos a.den) (a.den * b.den)

-- (a / b) (c / d) = (a c) / (b d)
unfoldable pub rational_mul : Rational → Rational → Rational
rational_mul a b = rational (a.num *ℤ b.num) (a.den * b.den)

-- the opposite of a / b is -a / b
unfoldable pub rational_neg : Rational → Rational
rational_neg a = rational (neg_ℤ a.num) a.den

-- the inverse of a / b is b / a, with the sign of a; of 0 it is 0
unfoldable pub rational_inv : Rational → Rational
rational_inv a = elim a.num [ pos n ↦ rational (pos a.den) n | negsuc n ↦ rational (neg_ℤ (pos a.den)) (suc n) ]

-- the field of the rational numbers
abbrev pub rational_ops : RingOps Rational
rational_ops = record { zero = rational (pos 0) 1; one = rational (pos 1) 1; add = rational_add; mul = rational_mul; neg = rational_neg }
