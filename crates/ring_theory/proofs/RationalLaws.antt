-- The rational numbers are a field.
-- A sum or product of fractions n / d and m / e is the fraction of school arithmetic, whatever the terms are reduced by, and fractions
-- that agree crosswise are equal. So each law is an equation between integers.
use Rattle.std.proofs.Common.{◌⊎◌, inl, inr, ◌≡◌, ◌≢◌, ℕ, zero, suc, ◌*◌, ◌/◌, ◌<◌, [], ◌∷◌, ℤ, pos, negsuc, ◌+ℤ◌, ◌*ℤ◌, neg_ℤ, unsigned_abs, refl, sym, ◌∙◌, ap, subst, arith, mul-pos, zero-lt-suc, zero-mul, div-one, Bool, true, false, IsTrue, ◌↔◌, ◌&&◌, ◌==◌, nat_lt, ltb-true, lt-ltb, eqb-true, eq-eqb}
use Rattle.std.proofs.Math.Nat.{div-mul_cancel, eq_of_mul-eq-mul_right, dvd-mul_left, dvd_antisymm}
use Rattle.std.proofs.Math.IntN.{+ℤ_invr}
use Rattle.std.proofs.lemmas.Bool.Decides.{Decides-int_eq}
use Rattle.std.proofs.lemmas.Int.{unsigned_abs-mul}
use Rattle.std.specs.Int.{◌∣◌}
use mathlib.Core.HLevel.{is_prop→PathP}
use mathlib.Core.Bool.{Bool-set}
use Rattle.ring_theory.specs.Gcd.{gcd}
use Rattle.ring_theory.proofs.GcdLaws.{gcd_is, coprime_dvd}
use Rattle.ring_theory.proofs.Lowest.{den-mul, quotient-one, quotient_pos, reduced_lowest}
use Rattle.ring_theory.specs.Integers.{int_ops, int_quotient}
use Rattle.ring_theory.specs.Rational.{Rational, rational_zero, is_lowest, checked, rational, rational_add, rational_mul, rational_neg, rational_inv, rational_ops}
use Rattle.ring_theory.specs.Ring.{IsCommRing, IsField}
use Rattle.ring_theory.specs.Scalars.{ScalarLaws, HasInverses}
use Rattle.ring_theory.specs.Height.{rational_scalars, is_zero_rational}
use Rattle.ring_theory.proofs.IntegerLaws.{int_laws}
use Rattle.ring_theory.proofs.RingReify.{by_ring, reify}
use Rattle.ring_theory.proofs.RingSolver.{neg_mul, zero_mul, eq_of_sub, linear_combination}

-- ---- numerator and denominator

both_true : (a b : Bool) → IsTrue a → IsTrue b → IsTrue (a && b)
both_true true b h k = k
both_true false b h k = cc

left_true : (a b : Bool) → IsTrue (a && b) → IsTrue a
left_true true b h = refl
left_true false b h = h

right_true : (a b : Bool) → IsTrue (a && b) → IsTrue b
right_true true b h = h
right_true false b h = cc

-- the denominator is positive
pub den_pos : (q : Rational) → 0 < q.den
den_pos q = ltb-true 0 q.den (left_true (nat_lt 0 q.den) (gcd (unsigned_abs q.num) q.den == 1) q.lowest)

-- numerator and denominator have no common factor
pub coprime : (q : Rational) → gcd (unsigned_abs q.num) q.den ≡ 1
coprime q = eqb-true _ 1 (right_true (nat_lt 0 q.den) (gcd (unsigned_abs q.num) q.den == 1) q.lowest)

passes : (n : ℤ) (d : ℕ) → 0 < d → gcd (unsigned_abs n) d ≡ 1 → IsTrue (is_lowest n d)
passes n d h e = both_true (nat_lt 0 d) (gcd (unsigned_abs n) d == 1) (lt-ltb 0 d h) (eq-eqb _ 1 e)

checked_parts : (n : ℤ) (d : ℕ) (b : Bool) (h : is_lowest n d ≡ b) → IsTrue b → ((checked n d b h).num ≡ n) × ((checked n d b h).den ≡ d)
checked_parts n d true h e = (refl, refl)
checked_parts n d false h e = cc

-- the parts of n / d, reduced
pub rational_parts : (n : ℤ) (d : ℕ) → 0 < d → ((rational n d).num ≡ int_quotient n (gcd (unsigned_abs n) d)) × ((rational n d).den ≡ d / gcd (unsigned_abs n) d)
unfolding rational
rational_parts n d h =
    checked_parts (int_quotient n (gcd (unsigned_abs n) d)) (d / gcd (unsigned_abs n) d) _ refl
    (passes (int_quotient n (gcd (unsigned_abs n) d)) (d / gcd (unsigned_abs n) d) (quotient_pos (unsigned_abs n) d h) (reduced_lowest n d h))

-- a fraction in lowest terms keeps its parts
pub lowest_num : (n : ℤ) (d : ℕ) → 0 < d → gcd (unsigned_abs n) d ≡ 1 → (rational n d).num ≡ n
lowest_num n d h e = (rational_parts n d h).0 ∙ ap (int_quotient n) e ∙ quotient-one n

pub lowest_den : (n : ℤ) (d : ℕ) → 0 < d → gcd (unsigned_abs n) d ≡ 1 → (rational n d).den ≡ d
lowest_den n d h e = (rational_parts n d h).1 ∙ ap (λ g. d / g) e ∙ div-one d

-- ---- equal values are equal terms

rational_path : (a b : Rational) → a.num ≡ b.num → a.den ≡ b.den → a ≡ b
rational_path a b p q = λ i. record {
  num = p i;
  den = q i;
  lowest = is_prop→PathP (λ j. IsTrue (is_lowest (p j) (q j))) (λ j. Bool-set (is_lowest (p j) (q j)) true) a.lowest b.lowest i;
}

zero_of_abs : (z : ℤ) → unsigned_abs z ≡ 0 → z ≡ pos 0
zero_of_abs (pos n) e = ap pos e
zero_of_abs (negsuc n) e = absurd (omega arith)

zero_factor : (z : ℤ) (d : ℕ) → 0 < d → z *ℤ pos d ≡ pos 0 → z ≡ pos 0
zero_factor z d h e =
    zero_of_abs z (eq_of_mul-eq-mul_right d h (unsigned_abs z) 0 (sym (unsigned_abs-mul z (pos d)) ∙ ap unsigned_abs e ∙ sym (zero-mul d)))

sub_mul : (x y d : ℤ) → (x +ℤ neg_ℤ y) *ℤ d ≡ x *ℤ d +ℤ neg_ℤ (y *ℤ d)
sub_mul x y d = by_ring int_laws (x ∷ y ∷ d ∷ []) (search reify depth 20) tt

pub cancel : (x y : ℤ) (d : ℕ) → 0 < d → x *ℤ pos d ≡ y *ℤ pos d → x ≡ y
cancel x y d h e = eq_of_sub int_ops int_laws x y (zero_factor (x +ℤ neg_ℤ y) d h (sub_mul x y (pos d) ∙ ap (λ z. z +ℤ neg_ℤ (y *ℤ pos d)) e ∙ +ℤ_invr (y *ℤ pos d)))

-- of two fractions that agree crosswise each denominator divides the other
den_dvd : (a b : Rational) → a.num *ℤ pos b.den ≡ b.num *ℤ pos a.den → a.den ∣ b.den
den_dvd a b e =
    coprime_dvd (unsigned_abs a.num) b.den a.den (coprime a)
    (subst (λ n. a.den ∣ n) (sym (unsigned_abs-mul b.num (pos a.den)) ∙ ap unsigned_abs (sym e) ∙ unsigned_abs-mul a.num (pos b.den)) (dvd-mul_left a.den (unsigned_abs b.num)))

pub same_value : (a b : Rational) → a.num *ℤ pos b.den ≡ b.num *ℤ pos a.den → a ≡ b
same_value a b e =
    rational_path a b (cancel a.num b.num b.den (den_pos b) (e ∙ ap (λ d. b.num *ℤ pos d) same_den)) same_den
  where
    same_den : a.den ≡ b.den
    same_den = dvd_antisymm (den_dvd a b e) (den_dvd b a (sym e))

-- ---- reduced fractions

-- an exact quotient times the divisor
pub quotient-mul : (n : ℤ) (g : ℕ) → g ∣ unsigned_abs n → int_quotient n g *ℤ pos g ≡ n
quotient-mul (pos n) g h = ap pos (div-mul_cancel g h)
quotient-mul (negsuc n) g h = neg_mul int_ops int_laws (pos (suc n / g)) (pos g) ∙ ap (λ k. neg_ℤ (pos k)) (div-mul_cancel g h)

pub num-mul : (n : ℤ) (d : ℕ) → int_quotient n (gcd (unsigned_abs n) d) *ℤ pos (gcd (unsigned_abs n) d) ≡ n
num-mul n d = quotient-mul n (gcd (unsigned_abs n) d) (gcd_is (unsigned_abs n) d).0

-- q is n / d
pub record IsFraction (q : Rational) (n : ℤ) (d : ℕ) : Type 0 where
  pub den_pos : 0 < d
  pub cross : q.num *ℤ pos d ≡ n *ℤ pos q.den

pub own : (q : Rational) → IsFraction q q.num q.den
own q = record { den_pos = den_pos q; cross = refl }

reorder : (n d g : ℤ) → n *ℤ (d *ℤ g) ≡ n *ℤ g *ℤ d
reorder n d g = by_ring int_laws (n ∷ d ∷ g ∷ []) (search reify depth 20) tt

pub rational_is : (n : ℤ) (d : ℕ) → 0 < d → IsFraction (rational n d) n d
rational_is n d h =
    let g = gcd (unsigned_abs n) d in
    let parts = rational_parts n d h in
    record {
      den_pos = h;
      cross =
          ap (λ z. z *ℤ pos d) parts.0
          ∙ ap (λ x. int_quotient n g *ℤ pos x) (sym (den-mul n d))
          ∙ reorder (int_quotient n g) (pos (d / g)) (pos g)
          ∙ ap (λ x. x *ℤ pos (d / g)) (num-mul n d)
          ∙ ap (λ x. n *ℤ pos x) (sym parts.1);
    }

-- fractions that agree crosswise are equal
cross_equal : (pn pd qn qd n d m e : ℤ) → pn *ℤ d ≡ n *ℤ pd → qn *ℤ e ≡ m *ℤ qd → n *ℤ e ≡ m *ℤ d → pn *ℤ qd *ℤ (d *ℤ e) ≡ qn *ℤ pd *ℤ (d *ℤ e)
cross_equal pn pd qn qd n d m e h₁ h₂ h₃ =
    linear_combination int_ops int_laws (qd *ℤ e) h₁
    (linear_combination int_ops int_laws (neg_ℤ (pd *ℤ d)) h₂
    (linear_combination int_ops int_laws (pd *ℤ qd) h₃
    (by_ring int_laws (pn ∷ pd ∷ qn ∷ qd ∷ n ∷ d ∷ m ∷ e ∷ []) (search reify depth 20) tt)))

pub unique : {p q : Rational} {n m : ℤ} {d e : ℕ} → IsFraction p n d → IsFraction q m e → n *ℤ pos e ≡ m *ℤ pos d → p ≡ q
unique {p = p} {q = q} {n = n} {m = m} {d = d} {e = e} hp hq h =
    same_value p q (cancel _ _ (d * e) (mul-pos hp.den_pos hq.den_pos) (cross_equal p.num (pos p.den) q.num (pos q.den) n (pos d) m (pos e) hp.cross hq.cross h))

-- ---- the operations on fractions

add_cross : (rn rd pn pd qn qd n d m e : ℤ) → rn *ℤ (pd *ℤ qd) ≡ (pn *ℤ qd +ℤ qn *ℤ pd) *ℤ rd → pn *ℤ d ≡ n *ℤ pd → qn *ℤ e ≡ m *ℤ qd
    → rn *ℤ (d *ℤ e) *ℤ (pd *ℤ qd) ≡ (n *ℤ e +ℤ m *ℤ d) *ℤ rd *ℤ (pd *ℤ qd)
add_cross rn rd pn pd qn qd n d m e h₀ h₁ h₂ =
    linear_combination int_ops int_laws (d *ℤ e) h₀
    (linear_combination int_ops int_laws (qd *ℤ e *ℤ rd) h₁
    (linear_combination int_ops int_laws (pd *ℤ d *ℤ rd) h₂
    (by_ring int_laws (rn ∷ rd ∷ pn ∷ pd ∷ qn ∷ qd ∷ n ∷ d ∷ m ∷ e ∷ []) (search reify depth 20) tt)))

pub add_is : {p q : Rational} {n m : ℤ} {d e : ℕ} → IsFraction p n d → IsFraction q m e → IsFraction (rational_add p q) (n *ℤ pos e +ℤ m *ℤ pos d) (d * e)
unfolding rational_add
add_is {p = p} {q = q} {n = n} {m = m} {d = d} {e = e} hp hq =
    let r = rational_is (p.num *ℤ pos q.den +ℤ q.num *ℤ pos p.den) (p.den * q.den) (mul-pos (den_pos p) (den_pos q)) in
    record {
      den_pos = mul-pos hp.den_pos hq.den_pos;
      cross = cancel _ _ (p.den * q.den) (mul-pos (den_pos p) (den_pos q)) (add_cross (rational_add p q).num (pos (rational_add p q).den) p.num (pos p.den) q.num (pos q.den) n (pos d) m (pos e) r.cross hp.cross hq.cross);
    }

mul_cross : (rn rd pn pd qn qd n d m e : ℤ) → rn *ℤ (pd *ℤ qd) ≡ (pn *ℤ qn) *ℤ rd → pn *ℤ d ≡ n *ℤ pd → qn *ℤ e ≡ m *ℤ qd
    → rn *ℤ (d *ℤ e) *ℤ (pd *ℤ qd) ≡ (n *ℤ m) *ℤ rd *ℤ (pd *ℤ qd)
mul_cross rn rd pn pd qn qd n d m e h₀ h₁ h₂ =
    linear_combination int_ops int_laws (d *ℤ e) h₀
    (linear_combination int_ops int_laws (qn *ℤ e *ℤ rd) h₁
    (linear_combination int_ops int_laws (n *ℤ pd *ℤ rd) h₂
    (by_ring int_laws (rn ∷ rd ∷ pn ∷ pd ∷ qn ∷ qd ∷ n ∷ d ∷ m ∷ e ∷ []) (search reify depth 20) tt)))

pub mul_is : {p q : Rational} {n m : ℤ} {d e : ℕ} → IsFraction p n d → IsFraction q m e → IsFraction (rational_mul p q) (n *ℤ m) (d * e)
unfolding rational_mul
mul_is {p = p} {q = q} {n = n} {m = m} {d = d} {e = e} hp hq =
    let r = rational_is (p.num *ℤ q.num) (p.den * q.den) (mul-pos (den_pos p) (den_pos q)) in
    record {
      den_pos = mul-pos hp.den_pos hq.den_pos;
      cross = cancel _ _ (p.den * q.den) (mul-pos (den_pos p) (den_pos q)) (mul_cross (rational_mul p q).num (pos (rational_mul p q).den) p.num (pos p.den) q.num (pos q.den) n (pos d) m (pos e) r.cross hp.cross hq.cross);
    }

neg_cross : (rn rd pn pd n d : ℤ) → rn *ℤ pd ≡ neg_ℤ pn *ℤ rd → pn *ℤ d ≡ n *ℤ pd → rn *ℤ d *ℤ pd ≡ neg_ℤ n *ℤ rd *ℤ pd
neg_cross rn rd pn pd n d h₀ h₁ =
    linear_combination int_ops int_laws d h₀
    (linear_combination int_ops int_laws (neg_ℤ rd) h₁
    (by_ring int_laws (rn ∷ rd ∷ pn ∷ pd ∷ n ∷ d ∷ []) (search reify depth 20) tt))

pub neg_is : {p : Rational} {n : ℤ} {d : ℕ} → IsFraction p n d → IsFraction (rational_neg p) (neg_ℤ n) d
unfolding rational_neg
neg_is {p = p} {n = n} {d = d} hp =
    record {
      den_pos = hp.den_pos;
      cross = cancel _ _ p.den (den_pos p) (neg_cross (rational_neg p).num (pos (rational_neg p).den) p.num (pos p.den) n (pos d) (rational_is (neg_ℤ p.num) p.den (den_pos p)).cross hp.cross);
    }

-- ---- the laws

add_assoc_cross : (n d m e k f : ℤ) → ((n *ℤ e +ℤ m *ℤ d) *ℤ f +ℤ k *ℤ (d *ℤ e)) *ℤ (d *ℤ (e *ℤ f)) ≡ (n *ℤ (e *ℤ f) +ℤ (m *ℤ f +ℤ k *ℤ e) *ℤ d) *ℤ (d *ℤ e *ℤ f)
add_assoc_cross n d m e k f = by_ring int_laws (n ∷ d ∷ m ∷ e ∷ k ∷ f ∷ []) (search reify depth 20) tt

add_comm_cross : (n d m e : ℤ) → (n *ℤ e +ℤ m *ℤ d) *ℤ (e *ℤ d) ≡ (m *ℤ d +ℤ n *ℤ e) *ℤ (d *ℤ e)
add_comm_cross n d m e = by_ring int_laws (n ∷ d ∷ m ∷ e ∷ []) (search reify depth 20) tt

add_zero_cross : (n d : ℤ) → (n *ℤ pos 1 +ℤ pos 0 *ℤ d) *ℤ d ≡ n *ℤ (d *ℤ pos 1)
add_zero_cross n d = by_ring int_laws (n ∷ d ∷ []) (search reify depth 20) tt

add_neg_cross : (n d : ℤ) → (n *ℤ d +ℤ neg_ℤ n *ℤ d) *ℤ pos 1 ≡ pos 0 *ℤ (d *ℤ d)
add_neg_cross n d = by_ring int_laws (n ∷ d ∷ []) (search reify depth 20) tt

mul_assoc_cross : (n d m e k f : ℤ) → (n *ℤ m *ℤ k) *ℤ (d *ℤ (e *ℤ f)) ≡ (n *ℤ (m *ℤ k)) *ℤ (d *ℤ e *ℤ f)
mul_assoc_cross n d m e k f = by_ring int_laws (n ∷ d ∷ m ∷ e ∷ k ∷ f ∷ []) (search reify depth 20) tt

mul_comm_cross : (n d m e : ℤ) → n *ℤ m *ℤ (e *ℤ d) ≡ m *ℤ n *ℤ (d *ℤ e)
mul_comm_cross n d m e = by_ring int_laws (n ∷ d ∷ m ∷ e ∷ []) (search reify depth 20) tt

mul_one_cross : (n d : ℤ) → n *ℤ pos 1 *ℤ d ≡ n *ℤ (d *ℤ pos 1)
mul_one_cross n d = by_ring int_laws (n ∷ d ∷ []) (search reify depth 20) tt

distrib_cross : (n d m e k f : ℤ) → (n *ℤ e +ℤ m *ℤ d) *ℤ k *ℤ (d *ℤ f *ℤ (e *ℤ f)) ≡ (n *ℤ k *ℤ (e *ℤ f) +ℤ m *ℤ k *ℤ (d *ℤ f)) *ℤ (d *ℤ e *ℤ f)
distrib_cross n d m e k f = by_ring int_laws (n ∷ d ∷ m ∷ e ∷ k ∷ f ∷ []) (search reify depth 20) tt

pub zero_is : IsFraction (rational (pos 0) 1) (pos 0) 1
zero_is = rational_is (pos 0) 1 (zero-lt-suc 0)

one_is : IsFraction (rational (pos 1) 1) (pos 1) 1
one_is = rational_is (pos 1) 1 (zero-lt-suc 0)

pub rational_laws : IsCommRing rational_ops
rational_laws = record {
  add_assoc = λ a b c. unique (add_is (add_is (own a) (own b)) (own c)) (add_is (own a) (add_is (own b) (own c))) (add_assoc_cross a.num (pos a.den) b.num (pos b.den) c.num (pos c.den));
  add_comm = λ a b. unique (add_is (own a) (own b)) (add_is (own b) (own a)) (add_comm_cross a.num (pos a.den) b.num (pos b.den));
  add_zero = λ a. unique (add_is (own a) zero_is) (own a) (add_zero_cross a.num (pos a.den));
  add_neg = λ a. unique (add_is (own a) (neg_is (own a))) zero_is (add_neg_cross a.num (pos a.den));
  mul_assoc = λ a b c. unique (mul_is (mul_is (own a) (own b)) (own c)) (mul_is (own a) (mul_is (own b) (own c))) (mul_assoc_cross a.num (pos a.den) b.num (pos b.den) c.num (pos c.den));
  mul_comm = λ a b. unique (mul_is (own a) (own b)) (mul_is (own b) (own a)) (mul_comm_cross a.num (pos a.den) b.num (pos b.den));
  mul_one = λ a. unique (mul_is (own a) one_is) (own a) (mul_one_cross a.num (pos a.den));
  distrib = λ a b c. unique (mul_is (add_is (own a) (own b)) (own c)) (add_is (mul_is (own a) (own c)) (mul_is (own b) (own c))) (distrib_cross a.num (pos a.den) b.num (pos b.den) c.num (pos c.den));
}

-- ---- the inverse

one-ne-zero : rational (pos 1) 1 ≢ rational (pos 0) 1
unfolding rational gcd rational_zero
one-ne-zero e = let h : pos 1 ≡ pos 0 = ap (λ q. q.num) e in cc

inv_cross : (n d : ℤ) → n *ℤ d *ℤ pos 1 ≡ pos 1 *ℤ (d *ℤ n)
inv_cross n d = by_ring int_laws (n ∷ d ∷ []) (search reify depth 20) tt

inv_neg_cross : (n d : ℤ) → neg_ℤ n *ℤ neg_ℤ d *ℤ pos 1 ≡ pos 1 *ℤ (d *ℤ n)
inv_neg_cross n d = by_ring int_laws (n ∷ d ∷ []) (search reify depth 20) tt

zero_num : (a : Rational) → a.num ≡ pos 0 → a ≡ rational (pos 0) 1
zero_num a e = unique (own a) zero_is (ap (λ n. n *ℤ pos 1) e ∙ sym (zero_mul int_ops int_laws (pos a.den)))

pub rational-mul_inv : (a : Rational) → a ≢ rational (pos 0) 1 → rational_mul a (rational_inv a) ≡ rational (pos 1) 1
unfolding rational_inv
rational-mul_inv a h = go a.num refl
  where
    go : (n : ℤ) → a.num ≡ n → rational_mul a (elim n [ pos n ↦ rational (pos a.den) n | negsuc n ↦ rational (neg_ℤ (pos a.den)) (suc n) ]) ≡ rational (pos 1) 1
    go (pos zero) e = absurd (h (zero_num a e))
    go (pos (suc n)) e = unique (mul_is (own a) (rational_is (pos a.den) (suc n) (zero-lt-suc n))) one_is (ap (λ x. x *ℤ pos a.den *ℤ pos 1) e ∙ inv_cross (pos (suc n)) (pos a.den))
    go (negsuc n) e = unique (mul_is (own a) (rational_is (neg_ℤ (pos a.den)) (suc n) (zero-lt-suc n))) one_is (ap (λ x. x *ℤ neg_ℤ (pos a.den) *ℤ pos 1) e ∙ inv_neg_cross (pos (suc n)) (pos a.den))

pub rational_field : IsField rational_ops rational_inv
rational_field = record { ring = rational_laws; one-ne-zero = one-ne-zero; mul_inv = rational-mul_inv }

zero_num_is : (rational (pos 0) 1).num ≡ pos 0
unfolding rational gcd rational_zero
zero_num_is = refl

agree_cross : (q qd n d m e : ℤ) → q *ℤ d ≡ n *ℤ qd → q *ℤ e ≡ m *ℤ qd → n *ℤ e *ℤ qd ≡ m *ℤ d *ℤ qd
agree_cross q qd n d m e h k =
    linear_combination int_ops int_laws (neg_ℤ e) h (linear_combination int_ops int_laws d k (by_ring int_laws (q ∷ qd ∷ n ∷ d ∷ m ∷ e ∷ []) (search reify depth 20) tt))

-- the test for zero
pub zero_test : (a : Rational) → IsTrue (is_zero_rational a) ↔ (a ≡ rational (pos 0) 1)
zero_test a = (
  λ h. zero_num a ((Decides-int_eq a.num (pos 0)).0 h),
  λ e. (Decides-int_eq a.num (pos 0)).1 (ap (λ q. q.num) e ∙ zero_num_is),
)

pub rational_dec : (a : Rational) → (a ≡ rational (pos 0) 1) ⊎ (a ≢ rational (pos 0) 1)
rational_dec a = go (is_zero_rational a) refl
  where
    go : (b : Bool) → is_zero_rational a ≡ b → (a ≡ rational (pos 0) 1) ⊎ (a ≢ rational (pos 0) 1)
    go true e = inl ((zero_test a).0 e)
    go false e = inr (λ z. let h : is_zero_rational a ≡ true = (zero_test a).1 z in cc)

-- two fractions of one number agree crosswise
pub fractions_agree : (q : Rational) (n m : ℤ) (d e : ℕ) → IsFraction q n d → IsFraction q m e → n *ℤ pos e ≡ m *ℤ pos d
fractions_agree q n m d e h k = cancel _ _ q.den (den_pos q) (agree_cross q.num (pos q.den) n (pos d) m (pos e) h.cross k.cross)

-- ---- the rational numbers as scalars

pub rational_scalar_laws : ScalarLaws rational_scalars
rational_scalar_laws = record {
  ring = rational_laws;
  nontrivial = one-ne-zero;
  embeds = record { one = refl; add = λ x y. refl; mul = λ x y. refl };
  zero_test = zero_test;
}

pub rational_inverts : HasInverses rational_scalars
rational_inverts = record { mul_inverse = rational-mul_inv }
