-- Squares: of whole numbers, and of rational numbers in lowest terms.
use Rattle.std.proofs.Common.{◌≡◌, ◌≢◌, ℕ, zero, suc, ◌*◌, ◌<◌, ◌^◌, ◌<ℤ◌, ◌≤ℤ◌, ℤ, pos, negsuc, ◌*ℤ◌, unsigned_abs, refl, sym, ◌∙◌, ap, ap₂, subst, arith, mul-pos, Option, None}
use Rattle.std.proofs.Math.Nat.{dvd-mul_left}
use Rattle.std.proofs.lemmas.Int.{ints, unsigned_abs-mul}
use Rattle.ring_theory.specs.Gcd.{gcd}
use Rattle.ring_theory.specs.Rational.{Rational, rational, rational_mul}
use Rattle.ring_theory.proofs.GcdLaws.{gcd_comm, coprime_mul, coprime_of_dvd}
use Rattle.ring_theory.proofs.RationalLaws.{den_pos, coprime, own, mul_is, rational_is, unique, lowest_num, lowest_den}
use Rattle.ring_law.specs.declared.fraction.Frac.{Frac}
use Rattle.ring_law.specs.Fraction.{IsFrac, frac_value}
use Rattle.ring_law.proofs.FractionLaws.{value_num, value_den, den_nonzero}
use Rattle.small_frac.specs.Exact.{IsRootOf, IsSquareRoot}

-- the square of a whole number is that of its absolute value
square_abs : (n : ℤ) → n *ℤ n ≡ pos (unsigned_abs n * unsigned_abs n)
square_abs (pos n) = refl
square_abs (negsuc n) = refl

-- the squares of coprime numbers are coprime
coprime_squares : (n d : ℕ) → gcd n d ≡ 1 → gcd (n * n) (d * d) ≡ 1
coprime_squares n d e =
    let half : gcd n (d * d) ≡ 1 = gcd_comm n (d * d) ∙ coprime_mul d d n (gcd_comm d n ∙ e) (gcd_comm d n ∙ e) in
    coprime_mul n n (d * d) half half

-- the square of n / d in lowest terms is n² / d²
pub square_parts : (x : Rational) → ((rational_mul x x).num ≡ pos (unsigned_abs x.num * unsigned_abs x.num)) × ((rational_mul x x).den ≡ x.den * x.den)
square_parts x =
    let h = mul-pos (den_pos x) (den_pos x) in
    let same : rational_mul x x ≡ rational (x.num *ℤ x.num) (x.den * x.den) = unique (mul_is (own x) (own x)) (rational_is (x.num *ℤ x.num) (x.den * x.den) h) refl in
    let lowest : gcd (unsigned_abs (x.num *ℤ x.num)) (x.den * x.den) ≡ 1 =
    ap (λ k. gcd k (x.den * x.den)) (unsigned_abs-mul x.num x.num) ∙ coprime_squares (unsigned_abs x.num) x.den (coprime x) in
    (ap (λ q. q.num) same ∙ lowest_num _ _ h lowest ∙ square_abs x.num, ap (λ q. q.den) same ∙ lowest_den _ _ h lowest)

-- a fraction that is a square has squares as parts
pub parts_of_square : (q : Frac) (x : Rational) → IsFrac q → rational_mul x x ≡ frac_value q
    → (q.num ≡ pos (unsigned_abs x.num * unsigned_abs x.num)) × (unsigned_abs q.den ≡ x.den * x.den)
parts_of_square q x h e =
    let parts = square_parts x in
    (sym (value_num q h) ∙ ap (λ r. r.num) (sym e) ∙ parts.0, sym (value_den q h) ∙ ap (λ r. r.den) (sym e) ∙ parts.1)

-- q is the square of no rational number where a part of it is no square
pub no_root_of_num : (q : Frac) → IsFrac q → ((k : ℕ) → k * k ≢ unsigned_abs q.num) → (x : Rational) → rational_mul x x ≢ frac_value q
no_root_of_num q h none x e = none (unsigned_abs x.num) (sym (ap unsigned_abs (parts_of_square q x h e).0))

pub no_root_of_den : (q : Frac) → IsFrac q → ((k : ℕ) → k * k ≢ unsigned_abs q.den) → (x : Rational) → rational_mul x x ≢ frac_value q
no_root_of_den q h none x e = none x.den (sym (parts_of_square q x h e).1)

pub nothing : (q : Frac) (r : Option Frac) → r ≡ None → ((x : Rational) → rational_mul x x ≢ frac_value q) → IsRootOf q r
nothing q r e h = subst (λ o. IsRootOf q o) (sym e) h

-- the squares of numbers are coprime only where these are
coprime_roots : (n d : ℕ) → gcd (n * n) (d * d) ≡ 1 → gcd n d ≡ 1
coprime_roots n d e = coprime_of_dvd (n * n) (d * d) n d e (dvd-mul_left n n) (dvd-mul_left d d)

positive_root : (n d : ℕ) → n * n ≡ d → 0 < d → 0 < n
positive_root zero d e h = absurd (omega arith)
positive_root (suc n) d e h = omega arith

-- the roots of both parts make the root
pub root_made : (q f : Frac) (n d : ℕ) → IsFrac q → pos 0 ≤ℤ q.num → n < 2 ^ 64 → d < 2 ^ 64 → n * n ≡ unsigned_abs q.num → d * d ≡ unsigned_abs q.den → f.num ≡ pos n → f.den ≡ pos d → IsSquareRoot f q
root_made q f n d h sign small_n small_d en ed fn fd =
    let d_pos : 0 < d = positive_root d _ ed (den_nonzero q h) in
    let lowest : gcd n d ≡ 1 = coprime_roots n d (ap₂ gcd en ed ∙ h.lowest) in
    record {
      valid = record {
        den_pos = subst (λ z. pos 0 <ℤ z) (sym fd) (omega (arith, ints));
        lowest = ap₂ (λ x y. gcd (unsigned_abs x) (unsigned_abs y)) fn fd ∙ lowest;
        num_fits = subst (λ z. unsigned_abs z < 2 ^ 127) (sym fn) (omega arith);
        den_fits = subst (λ z. unsigned_abs z < 2 ^ 127) (sym fd) (omega arith);
      };
      not_negative = subst (λ z. pos 0 ≤ℤ z) (sym fn) (omega (arith, ints));
      square =
          ap₂ (λ x y. rational_mul (rational x (unsigned_abs y)) (rational x (unsigned_abs y))) fn fd
          ∙ unique (mul_is (rational_is (pos n) d d_pos) (rational_is (pos n) d d_pos)) (rational_is (pos (n * n)) (d * d) (mul-pos d_pos d_pos)) refl
          ∙ ap₂ rational (ap pos en ∙ sign_kept q.num sign) ed;
    }
  where
    sign_kept : (z : ℤ) → pos 0 ≤ℤ z → pos (unsigned_abs z) ≡ z
    sign_kept (pos n) k = refl
    sign_kept (negsuc n) k = absurd (omega (arith, ints))
