-- Sums of lists of rational numbers over a common denominator, and the greatest of a list of heights.
use Rattle.std.proofs.Common.{◌≡◌, ℕ, zero, suc, ◌+◌, ◌*◌, ◌/◌, ◌≤◌, ◌<◌, List, [], ◌∷◌, get_or, max, ℤ, pos, ◌+ℤ◌, ◌*ℤ◌, unsigned_abs, refl, sym, ◌∙◌, ap, subst, arith, mul-pos, zero-lt-suc, le-mul_of_pos_right}
use Rattle.std.proofs.Math.Nat.{div-mul_cancel, dvd-mul_left, dvd-mul_right, dvd_trans, dvd_of_mul-dvd-mul_right, le-max_right, le_of_dvd, mul-dvd-mul_right, mul-div_cancel}
use Rattle.std.proofs.lemmas.Int.{ints, unsigned_abs-mul}
use Rattle.std.proofs.lemmas.Nat.{le-div}
use Rattle.std.specs.Int.{◌∣◌}
use Rattle.ring_theory.specs.Gcd.{gcd}
use Rattle.ring_theory.specs.Height.{most, height, lcm, common_den, scaled_abs, sum_abs, sum_height, product_height, inverse_height, rational_scalars}
use Rattle.ring_theory.specs.Integers.{int_ops}
use Rattle.ring_theory.specs.Rational.{Rational, rational, rational_add, rational_mul, rational_inv, rational_ops}
use Rattle.ring_theory.specs.Scalars.{TwoParts, none, first, second, neither, sum_of, HeightLaws, InverseHeightLaws}
use Rattle.ring_theory.proofs.GcdLaws.{gcd_is, gcd_pos, gcd_comm, coprime_dvd}
use Rattle.ring_theory.proofs.Lowest.{coprime_quotients, zero_lowest, quotient_pos_first}
use Rattle.ring_theory.proofs.IntegerLaws.{int_laws}
use Rattle.ring_theory.proofs.RationalLaws.{IsFraction, add_is, cancel, den_pos, coprime, lowest_num}
use Rattle.ring_theory.proofs.RingSolver.{linear_combination, zero_mul}
use Rattle.ring_theory.proofs.RingReify.{by_ring, reify}

-- a number that is at most the i-th of a list is at most the greatest
pub le_most : {n : ℕ} (i : ℕ) (xs : List ℕ) → n ≤ get_or xs i 0 → n ≤ most xs
unfolding most
le_most i [] h = h
le_most zero (x ∷ xs) h = omega arith
le_most {n} (suc i) (x ∷ xs) h = let below : n ≤ most xs = le_most i xs h in omega arith

-- ---- multiples

regroup : (x y z : ℕ) → x * (y * z) ≡ y * x * z
regroup x y z = omega arith

pub lcm_dvd : (a b d : ℕ) → 0 < b → a ∣ d → b ∣ d → lcm a b ∣ d
lcm_dvd a b d hb ha k =
    let g = gcd a b in
    let ea = div-mul_cancel g (gcd_is a b).0 in
    let eb = div-mul_cancel g (gcd_is a b).1 in
    let ed : d / b * b ≡ d = div-mul_cancel b k in
    let step : a / g * g ∣ b / g * (d / b) * g =
    subst (λ x. x ∣ b / g * (d / b) * g) (sym ea) (subst (λ x. a ∣ x) (sym ed ∙ ap (λ x. d / b * x) (sym eb) ∙ regroup (d / b) (b / g) g) ha) in
    let small : a / g ∣ d / b = coprime_dvd (b / g) (d / b) (a / g) (gcd_comm (b / g) (a / g) ∙ coprime_quotients a b hb) (dvd_of_mul-dvd-mul_right (a / g) (gcd_pos a b hb) step) in
    subst (λ x. lcm a b ∣ x) ed (mul-dvd-mul_right (a / g) small b)

pub lcm-dvd_left : (a b : ℕ) → a ∣ lcm a b
lcm-dvd_left a b =
    let g = gcd a b in
    subst (λ x. a ∣ x) (ap (λ x. x * (b / g)) (sym (div-mul_cancel g (gcd_is a b).0)) ∙ regroup_right (a / g) g (b / g) ∙ ap (λ x. a / g * x) (div-mul_cancel g (gcd_is a b).1)) (dvd-mul_right a (b / g))
  where
    regroup_right : (x y z : ℕ) → x * y * z ≡ x * (z * y)
    regroup_right x y z = omega arith

pub lcm-dvd_right : (a b : ℕ) → b ∣ lcm a b
lcm-dvd_right a b = dvd-mul_left b (a / gcd a b)

pub lcm_pos : (a b : ℕ) → 0 < a → 0 < b → 0 < lcm a b
lcm_pos a b h k = mul-pos (quotient_pos_first a b h k) k

-- d is a multiple of each denominator
abbrev pub Divides : ℕ → List Rational → Type 0
Divides d [] = Unit {0}
Divides d (q ∷ qs) = (q.den ∣ d) × Divides d qs

Divides-trans : (d e : ℕ) (qs : List Rational) → d ∣ e → Divides d qs → Divides e qs
Divides-trans d e [] h k = tt
Divides-trans d e (q ∷ qs) h k = (dvd_trans q.den k.0 h, Divides-trans d e qs h k.1)

pub common_den-pos : (qs : List Rational) → 0 < common_den qs
common_den-pos [] = zero-lt-suc 0
common_den-pos (q ∷ qs) = lcm_pos q.den (common_den qs) (den_pos q) (common_den-pos qs)

pub common_den-divides : (qs : List Rational) → Divides (common_den qs) qs
common_den-divides [] = tt
common_den-divides (q ∷ qs) = (lcm-dvd_left q.den (common_den qs), Divides-trans (common_den qs) _ qs (lcm-dvd_right q.den (common_den qs)) (common_den-divides qs))

pub Divides-parts : (d : ℕ) {zs xs ys : List Rational} → TwoParts zs xs ys → Divides d zs → Divides d xs × Divides d ys
Divides-parts d none h = (tt, tt)
Divides-parts d (first p) h = let k = Divides-parts d p h.1 in ((h.0, k.0), k.1)
Divides-parts d (second p) h = let k = Divides-parts d p h.1 in (k.0, (h.0, k.1))
Divides-parts d (neither p) h = Divides-parts d p h.1

pub sum_abs-parts : (d : ℕ) {zs xs ys : List Rational} → TwoParts zs xs ys → sum_abs d xs + sum_abs d ys ≤ sum_abs d zs
sum_abs-parts d none = omega arith
sum_abs-parts d (first {xs = zs} {ys = xs} {zs = ys} p) = let h : sum_abs d xs + sum_abs d ys ≤ sum_abs d zs = sum_abs-parts d p in omega arith
sum_abs-parts d (second {xs = zs} {ys = xs} {zs = ys} p) = let h : sum_abs d xs + sum_abs d ys ≤ sum_abs d zs = sum_abs-parts d p in omega arith
sum_abs-parts d (neither {xs = zs} {ys = xs} {zs = ys} p) = let h : sum_abs d xs + sum_abs d ys ≤ sum_abs d zs = sum_abs-parts d p in omega arith

-- ---- fractions over a common denominator

-- q is `over d q` / d
abbrev pub over : ℕ → Rational → ℤ
over d q = q.num *ℤ pos (d / q.den)

pub over_abs : (d : ℕ) (q : Rational) → unsigned_abs (over d q) ≡ scaled_abs d q
over_abs d q = unsigned_abs-mul q.num (pos (d / q.den))

pub over_is : (d : ℕ) (q : Rational) → 0 < d → q.den ∣ d → IsFraction q (over d q) d
over_is d q h k = record {
  den_pos = h;
  cross = ap (λ x. q.num *ℤ pos x) (sym (div-mul_cancel q.den k)) ∙ sym (mul_assoc_int q.num (pos (d / q.den)) (pos q.den));
}
  where
    mul_assoc_int : (x y z : ℤ) → x *ℤ y *ℤ z ≡ x *ℤ (y *ℤ z)
    mul_assoc_int = int_laws.mul_assoc

-- the denominator of n / d in lowest terms divides d
pub fraction_den_dvd : (q : Rational) (n : ℤ) (d : ℕ) → IsFraction q n d → q.den ∣ d
fraction_den_dvd q n d h =
    coprime_dvd (unsigned_abs q.num) d q.den (coprime q)
    (subst (λ x. q.den ∣ x) (sym (unsigned_abs-mul n (pos q.den)) ∙ ap unsigned_abs (sym h.cross) ∙ unsigned_abs-mul q.num (pos d)) (dvd-mul_left q.den (unsigned_abs n)))

pub fraction_over : (q : Rational) (n : ℤ) (d : ℕ) → IsFraction q n d → over d q ≡ n
fraction_over q n d h =
    let k = over_is d q h.den_pos (fraction_den_dvd q n d h) in
    cancel (over d q) n q.den (den_pos q) (sym k.cross ∙ h.cross)

add_common_cross : (r rd x y d : ℤ) → r *ℤ (d *ℤ d) ≡ (x *ℤ d +ℤ y *ℤ d) *ℤ rd → r *ℤ d *ℤ d ≡ (x +ℤ y) *ℤ rd *ℤ d
add_common_cross r rd x y d h = linear_combination int_ops int_laws (pos 1) h (by_ring int_laws (r ∷ rd ∷ x ∷ y ∷ d ∷ []) (search reify depth 20) tt)

-- fractions over one denominator are added by their numerators
pub add_common : (p q : Rational) (d : ℕ) → 0 < d → p.den ∣ d → q.den ∣ d → IsFraction (rational_add p q) (over d p +ℤ over d q) d
add_common p q d h hp hq = record {
  den_pos = h;
  cross =
      cancel _ _ d h
      (add_common_cross (rational_add p q).num (pos (rational_add p q).den) (over d p) (over d q) (pos d) (add_is (over_is d p h hp) (over_is d q h hq)).cross);
}

pub abs_add : (x y : ℤ) → unsigned_abs (x +ℤ y) ≤ unsigned_abs x + unsigned_abs y
abs_add x y = omega (arith, ints)

over_zero : (d : ℕ) → 0 < d → IsFraction (rational (pos 0) 1) (pos 0) d
over_zero d h = record { den_pos = h; cross = ap (λ x. x *ℤ pos d) (lowest_num (pos 0) 1 (zero-lt-suc 0) zero_lowest) ∙ zero_mul int_ops int_laws (pos d) ∙ sym (zero_mul int_ops int_laws (pos (rational (pos 0) 1).den)) }

pub sum_fraction : (d : ℕ) (qs : List Rational) → 0 < d → Divides d qs → ((sum_of rational_ops qs).den ∣ d) × (unsigned_abs (over d (sum_of rational_ops qs)) ≤ sum_abs d qs)
sum_fraction d [] h k =
    let z = over_zero d h in
    (fraction_den_dvd _ _ d z, subst (λ x. unsigned_abs x ≤ 0) (sym (fraction_over _ _ d z)) (omega arith))
sum_fraction d (q ∷ qs) h k =
    let ih = sum_fraction d qs h k.1 in
    let s = add_common q (sum_of rational_ops qs) d h k.0 ih.0 in (
      fraction_den_dvd _ _ d s,
      subst (λ x. unsigned_abs x ≤ sum_abs d (q ∷ qs)) (sym (fraction_over _ _ d s))
          (omega (arith, abs_add (over d q) (over d (sum_of rational_ops qs)), over_abs d q, ih.1)),
    )

-- ---- the sum of two fractions

pub div_first : (b c k : ℕ) → 0 < b → lcm b c * k / b ≡ c / gcd b c * k
div_first b c k h =
    let g = gcd b c in
    ap (λ x. x / b) (ap (λ x. b / g * x * k) (sym (div-mul_cancel g (gcd_is b c).1)) ∙ swap (b / g) (c / g) g k ∙ ap (λ x. c / g * k * x) (div-mul_cancel g (gcd_is b c).0))
    ∙ mul-div_cancel (c / g * k) h
  where
    swap : (x y z w : ℕ) → x * (y * z) * w ≡ y * w * (x * z)
    swap x y z w = omega arith

pub div_second : (b c k : ℕ) → 0 < c → lcm b c * k / c ≡ b / gcd b c * k
div_second b c k h = ap (λ x. x / c) (swap (b / gcd b c) c k) ∙ mul-div_cancel (b / gcd b c * k) h
  where
    swap : (x y z : ℕ) → x * y * z ≡ x * z * y
    swap x y z = omega arith

pub scaled_le : (x y : ℤ) (k : ℕ) → 0 < k → x ≡ y *ℤ pos k → unsigned_abs y ≤ unsigned_abs x
scaled_le x y k h e = subst (λ n. unsigned_abs y ≤ n) (sym (unsigned_abs-mul y (pos k)) ∙ ap unsigned_abs (sym e)) (le-mul_of_pos_right (unsigned_abs y) h)

-- ---- the height of what comes out

-- a sum is at most as high as its least common denominator and the absolute values over it
sum-height : (qs : List Rational) → height (sum_of rational_ops qs) ≤ sum_height qs
sum-height qs =
    let d = common_den qs in
    let q = sum_of rational_ops qs in
    let h = common_den-pos qs in
    let k = sum_fraction d qs h (common_den-divides qs) in
    let den : q.den ≤ d = le_of_dvd h k.0 in
    let num : unsigned_abs q.num ≤ unsigned_abs (over d q) = scaled_le (over d q) q.num (d / q.den) (let one : 1 ≤ d / q.den = le-div 1 d q.den (den_pos q) (omega (arith, den)) in omega arith) refl in
    omega (arith, k.1)

-- the heights of products and sums of rational numbers
pub rational_heights : HeightLaws rational_scalars
unfolding product_height
rational_heights = record {
  product = λ x y. let h : height (rational_mul x y) ≤ max (height x) (max (height y) (height (rational_mul x y))) = omega arith in h;
  sum = sum-height;
}

-- and of inverses
pub rational_inverse_heights : InverseHeightLaws rational_scalars
unfolding inverse_height
rational_inverse_heights = record { inverse = λ v n. le-max_right (height v) (height (rational_inv v)) }
