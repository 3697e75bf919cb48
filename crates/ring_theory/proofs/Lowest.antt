-- A fraction divided by its greatest common divisor is in lowest terms.
use Rattle.std.proofs.Common.{◌≡◌, ℕ, zero, suc, ◌*◌, ◌/◌, ◌<◌, ℤ, pos, negsuc, neg_ℤ, unsigned_abs, refl, sym, ◌∙◌, ap, ap₂, arith, one-mul, div-one, eq-zero-or-pos, ⊎_elim}
use Rattle.std.proofs.Math.Nat.{div-mul_cancel, eq_of_mul-eq-mul_right}
use Rattle.ring_theory.specs.Gcd.{gcd}
use Rattle.ring_theory.specs.Integers.{int_quotient}
use Rattle.ring_theory.proofs.GcdLaws.{gcd_is, gcd-mul, gcd_pos}

pub zero_lowest : gcd 0 1 ≡ 1
unfolding gcd
zero_lowest = refl

pub abs_neg : (n : ℕ) → unsigned_abs (neg_ℤ (pos n)) ≡ n
abs_neg zero = refl
abs_neg (suc n) = refl

pub unsigned_abs-quotient : (n : ℤ) (g : ℕ) → unsigned_abs (int_quotient n g) ≡ unsigned_abs n / g
unsigned_abs-quotient (pos n) g = refl
unsigned_abs-quotient (negsuc n) g = abs_neg (suc n / g)

pub den-mul : (n : ℤ) (d : ℕ) → d / gcd (unsigned_abs n) d * gcd (unsigned_abs n) d ≡ d
den-mul n d = div-mul_cancel (gcd (unsigned_abs n) d) (gcd_is (unsigned_abs n) d).1

-- a positive number divided by a common divisor is positive
pub quotient_pos : (n d : ℕ) → 0 < d → 0 < d / gcd n d
quotient_pos n d h = ⊎_elim (λ z. absurd (none z)) (λ p. p) (eq-zero-or-pos (d / gcd n d))
  where
    none : d / gcd n d ≡ 0 → ⊥
    none z = let e : 0 * gcd n d ≡ d = rw z at (div-mul_cancel (gcd n d) (gcd_is n d).1) in omega arith

pub quotient_pos_first : (n d : ℕ) → 0 < n → 0 < d → 0 < n / gcd n d
quotient_pos_first n d k h = ⊎_elim (λ z. absurd (none z)) (λ p. p) (eq-zero-or-pos (n / gcd n d))
  where
    none : n / gcd n d ≡ 0 → ⊥
    none z = let e : 0 * gcd n d ≡ n = rw z at (div-mul_cancel (gcd n d) (gcd_is n d).0) in omega arith

-- what is left of two numbers without their greatest common divisor is coprime
pub coprime_quotients : (a d : ℕ) → 0 < d → gcd (a / gcd a d) (d / gcd a d) ≡ 1
coprime_quotients a d h =
    eq_of_mul-eq-mul_right (gcd a d) (gcd_pos a d h) _ 1
    (sym (gcd-mul (a / gcd a d) (d / gcd a d) (gcd a d) (gcd_pos a d h)) ∙ ap₂ gcd (div-mul_cancel (gcd a d) (gcd_is a d).0) (div-mul_cancel (gcd a d) (gcd_is a d).1) ∙ sym (one-mul (gcd a d)))

-- the same of a whole number and a positive one
pub reduced_lowest : (n : ℤ) (d : ℕ) → 0 < d → gcd (unsigned_abs (int_quotient n (gcd (unsigned_abs n) d))) (d / gcd (unsigned_abs n) d) ≡ 1
reduced_lowest n d h =
    ap (λ a. gcd a (d / gcd (unsigned_abs n) d)) (unsigned_abs-quotient n (gcd (unsigned_abs n) d))
    ∙ coprime_quotients (unsigned_abs n) d h

pub quotient-one : (n : ℤ) → int_quotient n 1 ≡ n
quotient-one (pos n) = ap pos (div-one n)
quotient-one (negsuc n) = ap (λ k. neg_ℤ (pos k)) (div-one (suc n))
