-- A sum or product of fractions is refused only where its height is large.
use Rattle.std.proofs.Common.{◌≡◌, ℕ, ◌+◌, ◌*◌, ◌/◌, ◌^◌, ◌<◌, ◌≤◌, List, pos, ◌+ℤ◌, ◌*ℤ◌, unsigned_abs, sym, ◌∙◌, ap, ap₂, subst, arith, mul_comm, eq-zero-or-pos, ⊎_elim, le-mul_of_pos_right}
use Rattle.std.proofs.Math.Nat.{div-mul_cancel}
use Rattle.std.proofs.Math.Decide.{dec_le}
use Rattle.std.specs.Int.{◌∣◌}
use Rattle.ring_theory.specs.Gcd.{gcd}
use Rattle.ring_theory.specs.Height.{common_den, height, sum_height}
use Rattle.ring_theory.specs.Rational.{Rational, rational_ops}
use Rattle.ring_theory.specs.Scalars.{TwoParts, sum_of}
use Rattle.ring_theory.proofs.IntegerLaws.{int_laws}
use Rattle.ring_theory.proofs.HeightLaws.{lcm_dvd, common_den-pos, common_den-divides, Divides-parts, sum_abs-parts, over, abs_add, sum_fraction, div_first, div_second, scaled_le}
use Rattle.ring_law.specs.declared.fraction.Frac.{Frac}
use Rattle.ring_law.specs.Fraction.{IsFrac, FitsFrac, AddFits, frac_value, add_left, add_right, add_den}
use Rattle.ring_law.proofs.FractionLaws.{den_nonzero, value_num, value_den}

-- over a common denominator d the numbers that the sum goes through are smaller than the scaled numerators
add_fits : (p q : Frac) (d : ℕ) → IsFrac p → IsFrac q → 0 < d → d < 2 ^ 127 → unsigned_abs p.den ∣ d → unsigned_abs q.den ∣ d
    → unsigned_abs (p.num *ℤ pos (d / unsigned_abs p.den)) + unsigned_abs (q.num *ℤ pos (d / unsigned_abs q.den)) < 2 ^ 127 → AddFits p q
add_fits p q d hp hq h small kp kq total = go (d / add_den p q) (sym (div-mul_cancel (add_den p q) (lcm_dvd (unsigned_abs p.den) (unsigned_abs q.den) d (den_nonzero q hq) kp kq)) ∙ mul_comm (d / add_den p q) (add_den p q))
  where
    go : (k : ℕ) → d ≡ add_den p q * k → AddFits p q
    go k e =
        let b = unsigned_abs p.den in
        let c = unsigned_abs q.den in
        let k_pos : 0 < k = ⊎_elim (λ z. absurd (let e' : d ≡ add_den p q * 0 = e ∙ ap (λ x. add_den p q * x) z in omega arith)) (λ x. x) (eq-zero-or-pos k) in
        let left : p.num *ℤ pos (d / b) ≡ add_left p q *ℤ pos k = ap (λ x. p.num *ℤ pos x) (ap (λ x. x / b) e ∙ div_first b c k (den_nonzero p hp)) ∙ sym (int_laws.mul_assoc p.num (pos (c / gcd b c)) (pos k)) in
        let right : q.num *ℤ pos (d / c) ≡ add_right p q *ℤ pos k = ap (λ x. q.num *ℤ pos x) (ap (λ x. x / c) e ∙ div_second b c k (den_nonzero q hq)) ∙ sym (int_laws.mul_assoc q.num (pos (b / gcd b c)) (pos k)) in
        let both : p.num *ℤ pos (d / b) +ℤ q.num *ℤ pos (d / c) ≡ (add_left p q +ℤ add_right p q) *ℤ pos k = ap₂ ◌+ℤ◌ left right ∙ sym (int_laws.distrib (add_left p q) (add_right p q) (pos k)) in
        record {
          left = omega (arith, scaled_le _ _ k k_pos left);
          right = omega (arith, scaled_le _ _ k k_pos right);
          sum = omega (arith, scaled_le _ _ k k_pos both, abs_add (p.num *ℤ pos (d / b)) (q.num *ℤ pos (d / c)));
          den = omega (arith, le-mul_of_pos_right (add_den p q) k_pos);
        }

-- the sums of two parts of a list add where the height of the list's sum is below 2^127
pub add_below_height : (p q : Frac) (zs xs ys : List Rational) → IsFrac p → IsFrac q → TwoParts zs xs ys → frac_value p ≡ sum_of rational_ops xs → frac_value q ≡ sum_of rational_ops ys
    → sum_height zs < 2 ^ 127 → AddFits p q
add_below_height p q zs xs ys hp hq parts ep eq small =
    let d = common_den zs in
    let hd = common_den-pos zs in
    let k = Divides-parts d parts (common_den-divides zs) in
    let fx = sum_fraction d xs hd k.0 in
    let fy = sum_fraction d ys hd k.1 in
    let dx : unsigned_abs p.den ≡ (sum_of rational_ops xs).den = sym (value_den p hp) ∙ ap (λ q. q.den) ep in
    let dy : unsigned_abs q.den ≡ (sum_of rational_ops ys).den = sym (value_den q hq) ∙ ap (λ q. q.den) eq in
    let nx : p.num ≡ (sum_of rational_ops xs).num = sym (value_num p hp) ∙ ap (λ q. q.num) ep in
    let ny : q.num ≡ (sum_of rational_ops ys).num = sym (value_num q hq) ∙ ap (λ q. q.num) eq in
    let ox : p.num *ℤ pos (d / unsigned_abs p.den) ≡ over d (sum_of rational_ops xs) = ap₂ (λ x y. x *ℤ pos (d / y)) nx dx in
    let oy : q.num *ℤ pos (d / unsigned_abs q.den) ≡ over d (sum_of rational_ops ys) = ap₂ (λ x y. x *ℤ pos (d / y)) ny dy in
    add_fits p q d hp hq hd (omega arith)
    (subst (λ x. x ∣ d) (sym dx) fx.0)
    (subst (λ x. x ∣ d) (sym dy) fy.0)
    (omega (arith, ap unsigned_abs ox, ap unsigned_abs oy, fx.1, fy.1, sum_abs-parts d parts))

-- a refused sum of the sums of two parts of a list is high
pub add_refused_high : (p q : Frac) (zs xs ys : List Rational) → IsFrac p → IsFrac q → TwoParts zs xs ys → frac_value p ≡ sum_of rational_ops xs → frac_value q ≡ sum_of rational_ops ys
    → ¬ AddFits p q → 2 ^ 120 ≤ sum_height zs
add_refused_high p q zs xs ys hp hq parts ep eq refused =
    elim (dec_le (2 ^ 120) (sum_height zs)) [ yes h ↦ h | no h ↦ absurd (refused (add_below_height p q zs xs ys hp hq parts ep eq (omega arith))) ]

pub refused_high : (q : Rational) → ¬ FitsFrac q → 2 ^ 120 ≤ height q
refused_high q refused =
    elim (dec_le (2 ^ 120) (height q)) [ yes h ↦ h | no h ↦ absurd (refused (record { num_fits = omega arith; den_fits = omega arith })) ]
