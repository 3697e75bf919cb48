-- `gcd` is the greatest common divisor, respects a common factor, and a coprime factor divides the other one.
use Rattle.std.proofs.Common.{◌≡◌, ℕ, zero, suc, ◌+◌, ◌*◌, ◌/◌, ◌%◌, ◌<◌, refl, sym, ◌∙◌, ap, subst, arith, zero-mul, mul-one, one-mul, mul_assoc, mod-lt, zero-lt-suc, div-add-mod', eq-zero-or-pos, mul-lt-mul_of_pos_right, add-mul, ⊎_elim}
use Rattle.std.proofs.Math.Nat.{dvd_refl, dvd_trans, eq-one_of_dvd-one, dvd-zero, dvd-mul_right, pos_of_dvd_of_pos}
use Rattle.std.proofs.lemmas.Nat.{mod-mul-add}
use Rattle.std.proofs.lemmas.Nat.Gcd.{IsGcd-from_zero, IsGcd-swap, IsGcd-from_mod, same_from_IsGcd}
use Rattle.std.specs.Int.{IsGcd, ◌∣◌}
use Rattle.ring_theory.specs.Gcd.{gcd_within, gcd}

-- a remainder respects a common factor
mod-scaled : (a b c : ℕ) → 0 < b → 0 < c → (a * c) % (b * c) ≡ a % b * c
mod-scaled a b c p q =
    ap (λ x. x % (b * c)) (ap (λ x. x * c) (sym (div-add-mod' a b)) ∙ add-mul (a / b * b) (a % b) c ∙ ap (λ x. x + a % b * c) (mul_assoc (a / b) b c))
    ∙ mod-mul-add (a / b) (b * c) (a % b * c) (mul-lt-mul_of_pos_right (mod-lt a p) q)

gcd_within-scaled : (k a b c : ℕ) → b < k → 0 < c → IsGcd (a * c) (b * c) (gcd_within k a b * c)
gcd_within-scaled zero a b c p q = absurd (omega arith)
gcd_within-scaled (suc k) a zero c p q = IsGcd-from_zero (a * c) (zero * c) (zero-mul c)
gcd_within-scaled (suc k) a (suc b) c p q =
    IsGcd-from_mod (a * c) (suc b * c) (gcd_within k (suc b) (a % suc b) * c)
    (subst (λ x. IsGcd (suc b * c) x (gcd_within k (suc b) (a % suc b) * c)) (sym (mod-scaled a (suc b) c (zero-lt-suc b) q))
    (gcd_within-scaled k (suc b) (a % suc b) c (let h : a % suc b < suc b = mod-lt a (zero-lt-suc b) in omega arith) q))

pub gcd-scaled : (a b c : ℕ) → 0 < c → IsGcd (a * c) (b * c) (gcd a b * c)
unfolding gcd
gcd-scaled a b c q = gcd_within-scaled (suc b) a b c (omega arith) q

pub gcd_is : (a b : ℕ) → IsGcd a b (gcd a b)
gcd_is a b = simp mul-one at (gcd-scaled a b 1 (zero-lt-suc 0))

pub gcd-mul : (a b c : ℕ) → 0 < c → gcd (a * c) (b * c) ≡ gcd a b * c
gcd-mul a b c q = same_from_IsGcd (a * c) (b * c) _ _ (gcd_is (a * c) (b * c)) (gcd-scaled a b c q)

pub gcd_pos : (a b : ℕ) → 0 < b → 0 < gcd a b
gcd_pos a b h = pos_of_dvd_of_pos (gcd_is a b).1 h

-- Gauss: a divisor of a product that is coprime to one factor divides the other
pub coprime_dvd : (a b d : ℕ) → gcd a d ≡ 1 → d ∣ a * b → d ∣ b
coprime_dvd a b d e h = ⊎_elim (λ z. subst (λ x. d ∣ x) (sym z) (dvd-zero d)) (λ q. subst (λ x. d ∣ x) (ap (λ x. x * b) e ∙ one-mul b) ((gcd-scaled a d b q).2 d h (dvd-mul_right d b))) (eq-zero-or-pos b)

pub gcd-zero : (a : ℕ) → gcd a 0 ≡ a
unfolding gcd
gcd-zero a = refl

-- one step of Euclid's algorithm
pub gcd_step : (a b : ℕ) → gcd b (a % b) ≡ gcd a b
gcd_step a b = same_from_IsGcd a b _ _ (IsGcd-from_mod a b _ (gcd_is b (a % b))) (gcd_is a b)

pub coprime_by : (a b : ℕ) → ((d : ℕ) → d ∣ a → d ∣ b → d ∣ 1) → gcd a b ≡ 1
coprime_by a b h = eq-one_of_dvd-one (h (gcd a b) (gcd_is a b).0 (gcd_is a b).1)

-- a common divisor of coprime numbers divides 1
pub coprime_one : (a b d : ℕ) → gcd a b ≡ 1 → d ∣ a → d ∣ b → d ∣ 1
coprime_one a b d e h k = subst (λ x. d ∣ x) e ((gcd_is a b).2 d h k)

pub coprime_of_dvd : (a b c d : ℕ) → gcd a b ≡ 1 → c ∣ a → d ∣ b → gcd c d ≡ 1
coprime_of_dvd a b c d e h k = coprime_by c d (λ x p q. coprime_one a b x e (dvd_trans x p h) (dvd_trans x q k))

pub gcd_comm : (a b : ℕ) → gcd a b ≡ gcd b a
gcd_comm a b = same_from_IsGcd a b _ _ (gcd_is a b) (IsGcd-swap b a _ (gcd_is b a))

-- a product of numbers that are coprime to c is coprime to c
pub coprime_mul : (a b c : ℕ) → gcd a c ≡ 1 → gcd b c ≡ 1 → gcd (a * b) c ≡ 1
coprime_mul a b c p q =
    coprime_by (a * b) c (λ d h k. coprime_one b c d q (coprime_dvd a b d (coprime_of_dvd a c a d p (dvd_refl a) k) h) k)
