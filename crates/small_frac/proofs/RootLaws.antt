-- The rational roots of a monic cubic are integers over the common denominator of its coefficients.
use Rattle.std.proofs.Common.{◌≡◌, ℕ, ◌*◌, ◌<◌, [], ◌∷◌, ℤ, pos, ◌+ℤ◌, ◌*ℤ◌, neg_ℤ, unsigned_abs, sym, ◌∙◌, ap, subst, mul-pos, one-mul}
use Rattle.std.proofs.Math.Nat.{dvd-mul_left, dvd_refl, eq-one_of_dvd-one}
use Rattle.std.proofs.lemmas.Int.{unsigned_abs-mul}
use Rattle.std.specs.Int.{◌∣◌}
use Rattle.ring_theory.specs.Gcd.{gcd}
use Rattle.ring_theory.proofs.GcdLaws.{coprime_mul, coprime_one}
use Rattle.ring_theory.specs.Integers.{int_ops}
use Rattle.ring_theory.specs.Rational.{Rational, rational, rational_add, rational_mul}
use Rattle.ring_theory.proofs.IntegerLaws.{int_laws}
use Rattle.ring_theory.proofs.RationalLaws.{IsFraction, den_pos, coprime, add_is, mul_is, cancel, rational_is, zero_is, unique, fractions_agree}
use Rattle.ring_theory.proofs.RingReify.{by_ring, reify}
use Rattle.root_search.specs.Cubic.{int_cubic}
use Rattle.ring_theory.proofs.RingSolver.{linear_combination, zero_mul}

-- x^3 + a x^2 + b x + c
abbrev pub cubic_value : Rational → Rational → Rational → Rational → Rational
cubic_value a b c x = rational_add (rational_add (rational_add (rational_mul x (rational_mul x x)) (rational_mul a (rational_mul x x))) (rational_mul b x)) c

-- y^3 + a y^2 + b y + c, made homogeneous by e
abbrev form : ℤ → ℤ → ℤ → ℤ → ℤ → ℤ
form a b c y e = y *ℤ (y *ℤ y) +ℤ (a *ℤ (y *ℤ y) +ℤ (b *ℤ y +ℤ c *ℤ e) *ℤ e) *ℤ e

-- the denominator that the value has, and the factor that its numerator has, for x = y / f, f = e d
abbrev value_den_of : ℕ → ℕ → ℕ
value_den_of f d = f * (f * f) * (d * (f * f)) * (d * d * f) * (d * d * d)

abbrev factor_of : ℕ → ℕ → ℕ
factor_of e d = e * e * e * (d * d * d * (d * d * d) * (d * d * d))

numerators : (y p q s e d : ℤ)
    → ((y *ℤ (y *ℤ y) *ℤ (d *ℤ (e *ℤ d *ℤ (e *ℤ d))) +ℤ p *ℤ (y *ℤ y) *ℤ (e *ℤ d *ℤ (e *ℤ d *ℤ (e *ℤ d)))) *ℤ (d *ℤ d *ℤ (e *ℤ d)) +ℤ q *ℤ y *ℤ (e *ℤ d *ℤ (e *ℤ d *ℤ (e *ℤ d)) *ℤ (d *ℤ (e *ℤ d *ℤ (e *ℤ d))))) *ℤ (d *ℤ d *ℤ d)
    +ℤ s *ℤ (e *ℤ d *ℤ (e *ℤ d *ℤ (e *ℤ d)) *ℤ (d *ℤ (e *ℤ d *ℤ (e *ℤ d))) *ℤ (d *ℤ d *ℤ (e *ℤ d)))
    ≡ form p q s y e *ℤ (e *ℤ e *ℤ e *ℤ (d *ℤ d *ℤ d *ℤ (d *ℤ d *ℤ d) *ℤ (d *ℤ d *ℤ d)))
numerators y p q s e d = by_ring int_laws (y ∷ p ∷ q ∷ s ∷ e ∷ d ∷ []) (search reify depth 40 fits 20000) tt

-- the value at x = y / (e d), for a = p / d, b = q / d^2 and c = s / d^3
cubic_is : (a b c x : Rational) (y p q s : ℤ) (e d : ℕ) → IsFraction x y (e * d) → IsFraction a p d → IsFraction b q (d * d) → IsFraction c s (d * d * d)
    → IsFraction (cubic_value a b c x) (form p q s y (pos e) *ℤ pos (factor_of e d)) (value_den_of (e * d) d)
cubic_is a b c x y p q s e d hx ha hb hc =
    subst (λ n. IsFraction (cubic_value a b c x) n (value_den_of (e * d) d)) (numerators y p q s (pos e) (pos d))
    (add_is (add_is (add_is (mul_is hx (mul_is hx hx)) (mul_is ha (mul_is hx hx))) (mul_is hb hx)) hc)

form_one : (p q s y : ℤ) → form p q s y (pos 1) ≡ int_cubic p q s y
form_one p q s y = by_ring int_laws (p ∷ q ∷ s ∷ y ∷ []) (search reify depth 20) tt

factor_pos : (e d : ℕ) → 0 < e → 0 < d → 0 < factor_of e d
factor_pos e d h k = mul-pos (mul-pos (mul-pos h h) h) (mul-pos (mul-pos cube cube) cube)
  where
    cube : 0 < d * d * d
    cube = mul-pos (mul-pos k k) k

-- an integer root gives a root
pub root_of_integer : (a b c : Rational) (y p q s : ℤ) (d : ℕ) → IsFraction a p d → IsFraction b q (d * d) → IsFraction c s (d * d * d) → int_cubic p q s y ≡ pos 0
    → cubic_value a b c (rational y d) ≡ rational (pos 0) 1
root_of_integer a b c y p q s d ha hb hc h =
    let x_is : IsFraction (rational y d) y (1 * d) = subst (IsFraction (rational y d) y) (sym (one-mul d)) (rational_is y d ha.den_pos) in
    let zero_form : form p q s y (pos 1) *ℤ pos (factor_of 1 d) ≡ pos 0 = ap (λ z. z *ℤ pos (factor_of 1 d)) (form_one p q s y ∙ h) ∙ zero_mul int_ops int_laws (pos (factor_of 1 d)) in
    unique (cubic_is a b c (rational y d) y p q s 1 d x_is ha hb hc) zero_is
    (ap (λ z. z *ℤ pos 1) zero_form ∙ sym (zero_mul int_ops int_laws (pos (value_den_of (1 * d) d))))

-- x is y / (e d) where d x is y / e
scaled_cross : (n k y e d : ℤ) → y *ℤ k ≡ n *ℤ d *ℤ e → n *ℤ (e *ℤ d) ≡ y *ℤ k
scaled_cross n k y e d h = linear_combination int_ops int_laws (neg_ℤ (pos 1)) h (by_ring int_laws (n ∷ k ∷ y ∷ e ∷ d ∷ []) (search reify depth 20) tt)

over_multiple : (x : Rational) (d : ℕ) → 0 < d → let y = rational (x.num *ℤ pos d) x.den in IsFraction x y.num (y.den * d)
over_multiple x d h =
    let y = rational (x.num *ℤ pos d) x.den in
    record { den_pos = mul-pos (den_pos y) h; cross = scaled_cross x.num (pos x.den) y.num (pos y.den) (pos d) (rational_is (x.num *ℤ pos d) x.den (den_pos x)).cross }

cube_of_form : (p q s y e : ℤ) → form p q s y e ≡ pos 0 → y *ℤ (y *ℤ y) ≡ neg_ℤ (p *ℤ (y *ℤ y) +ℤ (q *ℤ y +ℤ s *ℤ e) *ℤ e) *ℤ e
cube_of_form p q s y e h = linear_combination int_ops int_laws (pos 1) h (by_ring int_laws (p ∷ q ∷ s ∷ y ∷ e ∷ []) (search reify depth 30) tt)

-- a zero of the form in lowest terms is an integer
den_one : (p q s y : ℤ) (e : ℕ) → gcd (unsigned_abs y) e ≡ 1 → form p q s y (pos e) ≡ pos 0 → e ≡ 1
den_one p q s y e low h =
    let z = neg_ℤ (p *ℤ (y *ℤ y) +ℤ (q *ℤ y +ℤ s *ℤ pos e) *ℤ pos e) in
    let n = unsigned_abs y in
    let e_dvd : e ∣ n * (n * n) = subst (λ m. e ∣ m) (sym (unsigned_abs-mul z (pos e)) ∙ ap unsigned_abs (sym (cube_of_form p q s y (pos e) h)) ∙ unsigned_abs-mul y (y *ℤ y) ∙ ap (λ m. n * m) (unsigned_abs-mul y y)) (dvd-mul_left e (unsigned_abs z)) in
    eq-one_of_dvd-one (coprime_one (n * (n * n)) e e (coprime_mul n (n * n) e low (coprime_mul n n e low low)) e_dvd (dvd_refl e))

-- and each root is an integer over d
pub integer_of_root : (a b c x : Rational) (p q s : ℤ) (d : ℕ) → IsFraction a p d → IsFraction b q (d * d) → IsFraction c s (d * d * d) → cubic_value a b c x ≡ rational (pos 0) 1
    → (y : ℤ) × IsFraction x y d × (int_cubic p q s y ≡ pos 0)
integer_of_root a b c x p q s d ha hb hc h =
    let y = rational (x.num *ℤ pos d) x.den in
    let x_is = over_multiple x d ha.den_pos in
    let value_is = cubic_is a b c x y.num p q s y.den d x_is ha hb hc in
    let agree = fractions_agree (cubic_value a b c x) _ (pos 0) _ 1 value_is (subst (λ z. IsFraction z (pos 0) 1) (sym h) zero_is) in
    let form_zero : form p q s y.num (pos y.den) ≡ pos 0 = cancel _ (pos 0) (factor_of y.den d) (factor_pos y.den d (den_pos y) ha.den_pos)
    (sym (int_laws.mul_one _) ∙ agree ∙ zero_mul int_ops int_laws (pos (value_den_of (y.den * d) d)) ∙ sym (zero_mul int_ops int_laws (pos (factor_of y.den d)))) in
    let one_den : y.den ≡ 1 = den_one p q s y.num y.den (coprime y) form_zero in (
      y.num,
      subst (IsFraction x y.num) (ap (λ k. k * d) one_den ∙ one-mul d) x_is,
      sym (form_one p q s y.num) ∙ ap (λ k. form p q s y.num (pos k)) (sym one_den) ∙ form_zero,
    )
