-- What `rational` makes of a fraction: it keeps one in lowest terms, and drops a common factor.
use Rattle.std.proofs.Common.{◌≡◌, ℕ, zero, suc, ◌*◌, ◌/◌, ◌^◌, ◌<◌, ◌≤◌, ◌<ℤ◌, ◌⊎◌, [], ◌∷◌, Bool, true, false, ℤ, pos, negsuc, ◌+ℤ◌, ◌*ℤ◌, neg_ℤ, unsigned_abs, refl, sym, ◌∙◌, ap, ap₂, arith, mul-pos, subst, ◌≢◌, zero-lt-suc, div-le_self}
use Rattle.std.proofs.Math.Nat.{div-mul_cancel, dvd-mul_right, le_of_dvd}
use Rattle.std.specs.Int.{◌∣◌}
use Rattle.std.proofs.lemmas.Int.{ints, unsigned_abs-mul}
use Rattle.ring_law.specs.declared.fraction.Frac.{Frac}
use Rattle.ring_theory.specs.Scalars.{MeaningLaws}
use Rattle.ring_law.specs.Fraction.{rational_meaning, IsFrac, Represents, FitsFrac, frac_value, signed, add_left, add_right, add_den, mul_num, mul_den}
use Rattle.ring_theory.proofs.GcdLaws.{gcd_is, gcd_pos, gcd_comm, coprime_of_dvd, coprime_mul}
use Rattle.ring_theory.proofs.Lowest.{quotient_pos, quotient_pos_first, abs_neg, zero_lowest, coprime_quotients, unsigned_abs-quotient}
use Rattle.ring_theory.specs.Gcd.{gcd}
use Rattle.ring_theory.specs.Integers.{int_ops, int_quotient}
use Rattle.ring_theory.specs.Rational.{Rational, rational, rational_add, rational_mul, rational_neg, rational_inv}
use Rattle.ring_theory.proofs.IntegerLaws.{int_laws}
use Rattle.ring_theory.proofs.RationalLaws.{rational_is, rational_parts, lowest_num, lowest_den, unique, quotient-mul, add_is, mul_is, neg_is, rational_scalar_laws}
use Rattle.ring_theory.proofs.RingSolver.{neg_mul, zero_mul}
use Rattle.ring_theory.proofs.RingReify.{by_ring, reify}

scaled_cross : (n d g : ℤ) → n *ℤ g *ℤ d ≡ n *ℤ (d *ℤ g)
scaled_cross n d g = by_ring int_laws (n ∷ d ∷ g ∷ []) (search reify depth 20) tt

-- a common factor drops out
pub rational-scaled : (n : ℤ) (d g : ℕ) → 0 < d → 0 < g → rational (n *ℤ pos g) (d * g) ≡ rational n d
rational-scaled n d g h k = unique (rational_is (n *ℤ pos g) (d * g) (mul-pos h k)) (rational_is n d h) (scaled_cross n (pos d) (pos g))

-- ---- the fraction that code makes of n, d and a sign

abs-signed : (b : Bool) (n : ℕ) → unsigned_abs (signed b n) ≡ n
abs-signed false n = refl
abs-signed true n = abs_neg n

signed-mul : (b : Bool) (n g : ℕ) → signed b (n * g) ≡ signed b n *ℤ pos g
signed-mul false n g = refl
signed-mul true n g = sym (neg_mul int_ops int_laws (pos n) (pos g))

reduced : (b : Bool) (n d : ℕ) → 0 < d → rational (signed b n) d ≡ rational (signed b (n / gcd n d)) (d / gcd n d)
reduced b n d h =
    ap₂ rational
    (ap (signed b) (sym (div-mul_cancel (gcd n d) (gcd_is n d).0)) ∙ signed-mul b (n / gcd n d) (gcd n d))
    (sym (div-mul_cancel (gcd n d) (gcd_is n d).1))
    ∙ rational-scaled (signed b (n / gcd n d)) (d / gcd n d) (gcd n d) (quotient_pos n d h) (gcd_pos n d h)

coprime_signed : (b : Bool) (n d : ℕ) → 0 < d → gcd (unsigned_abs (signed b (n / gcd n d))) (d / gcd n d) ≡ 1
coprime_signed b n d h = ap (λ a. gcd a (d / gcd n d)) (abs-signed b (n / gcd n d)) ∙ coprime_quotients n d h

pub reduced_num : (b : Bool) (n d : ℕ) → 0 < d → (rational (signed b n) d).num ≡ signed b (n / gcd n d)
reduced_num b n d h = ap (λ q. q.num) (reduced b n d h) ∙ lowest_num _ _ (quotient_pos n d h) (coprime_signed b n d h)

pub reduced_den : (b : Bool) (n d : ℕ) → 0 < d → (rational (signed b n) d).den ≡ d / gcd n d
reduced_den b n d h = ap (λ q. q.den) (reduced b n d h) ∙ lowest_den _ _ (quotient_pos n d h) (coprime_signed b n d h)

-- parts that fit make a valid fraction of the value
pub made : (b : Bool) (n d : ℕ) (f : Frac) → 0 < d → n / gcd n d < 2 ^ 127 → d / gcd n d < 2 ^ 127 → f.num ≡ signed b (n / gcd n d) → f.den ≡ pos (d / gcd n d)
    → Represents f (rational (signed b n) d)
made b n d f h p q en ed =
    record {
      valid = record {
        den_pos = subst (λ z. pos 0 <ℤ z) (sym ed) (let k : 0 < d / gcd n d = quotient_pos n d h in omega (arith, ints));
        lowest = ap₂ (λ x y. gcd (unsigned_abs x) (unsigned_abs y)) en ed ∙ coprime_signed b n d h;
        num_fits = subst (λ x. x < 2 ^ 127) (sym (ap unsigned_abs en ∙ abs-signed b (n / gcd n d))) p;
        den_fits = subst (λ x. x < 2 ^ 127) (sym (ap unsigned_abs ed)) q;
      };
      value_is = ap₂ (λ x y. rational x (unsigned_abs y)) en ed ∙ sym (reduced b n d h);
    }

-- a part that does not fit shows in the rational number
pub too_large : (b : Bool) (n d : ℕ) → 0 < d → (2 ^ 127 ≤ n / gcd n d) ⊎ (2 ^ 127 ≤ d / gcd n d) → ¬ FitsFrac (rational (signed b n) d)
too_large b n d h e f =
    let p : n / gcd n d < 2 ^ 127 = subst (λ x. x < 2 ^ 127) (ap unsigned_abs (reduced_num b n d h) ∙ abs-signed b (n / gcd n d)) f.num_fits in
    let q : d / gcd n d < 2 ^ 127 = subst (λ x. x < 2 ^ 127) (reduced_den b n d h) f.den_fits in
    omega arith

pub den_nonzero : (f : Frac) → IsFrac f → 0 < unsigned_abs f.den
den_nonzero f h = from_pos f.den h.den_pos
  where
    from_pos : (z : ℤ) → pos 0 <ℤ z → 0 < unsigned_abs z
    from_pos (pos n) k = omega (arith, ints)
    from_pos (negsuc n) k = absurd (omega (arith, ints))

-- ---- sums

add_value_cross : (n m b d g : ℤ) → (n *ℤ d +ℤ m *ℤ b) *ℤ (b *ℤ g *ℤ (d *ℤ g)) ≡ (n *ℤ (d *ℤ g) +ℤ m *ℤ (b *ℤ g)) *ℤ (b *ℤ (d *ℤ g))
add_value_cross n m b d g = by_ring int_laws (n ∷ m ∷ b ∷ d ∷ g ∷ []) (search reify depth 20) tt

-- the sum over the least common denominator is the sum
add_over_gcd : (n m : ℤ) (b d g : ℕ) → 0 < b → 0 < d → 0 < g
    → rational (n *ℤ pos d +ℤ m *ℤ pos b) (b * (d * g)) ≡ rational_add (rational n (b * g)) (rational m (d * g))
add_over_gcd n m b d g hb hd hg =
    unique
    (rational_is (n *ℤ pos d +ℤ m *ℤ pos b) (b * (d * g)) (mul-pos hb (mul-pos hd hg)))
    (add_is (rational_is n (b * g) (mul-pos hb hg)) (rational_is m (d * g) (mul-pos hd hg)))
    (add_value_cross n m (pos b) (pos d) (pos g))

pub add_value : (p q : Frac) → 0 < unsigned_abs p.den → 0 < unsigned_abs q.den → rational (add_left p q +ℤ add_right p q) (add_den p q) ≡ rational_add (frac_value p) (frac_value q)
add_value p q h k =
    let b = unsigned_abs p.den in
    let d = unsigned_abs q.den in
    let eb = div-mul_cancel (gcd b d) (gcd_is b d).0 in
    let ed = div-mul_cancel (gcd b d) (gcd_is b d).1 in
    ap (λ x. rational (add_left p q +ℤ add_right p q) (b / gcd b d * x)) (sym ed)
    ∙ add_over_gcd p.num q.num (b / gcd b d) (d / gcd b d) (gcd b d) (quotient_pos_first b d h k) (quotient_pos b d k) (gcd_pos b d k)
    ∙ ap₂ (λ x y. rational_add (rational p.num x) (rational q.num y)) eb ed

-- ---- products

coprime_four : (a b c d : ℕ) → gcd a c ≡ 1 → gcd a d ≡ 1 → gcd b c ≡ 1 → gcd b d ≡ 1 → gcd (a * b) (c * d) ≡ 1
coprime_four a b c d ac ad bc bd =
    coprime_mul a b (c * d)
    (gcd_comm a (c * d) ∙ coprime_mul c d a (gcd_comm c a ∙ ac) (gcd_comm d a ∙ ad))
    (gcd_comm b (c * d) ∙ coprime_mul c d b (gcd_comm c b ∙ bc) (gcd_comm d b ∙ bd))

div_dvd : (g n : ℕ) → g ∣ n → n / g ∣ n
div_dvd g n h = subst (λ x. n / g ∣ x) (div-mul_cancel g h) (dvd-mul_right (n / g) g)

-- cancelled crosswise, the product of two fractions in lowest terms is in lowest terms
mul_lowest_abs : (a b c d : ℕ) → 0 < b → 0 < d → gcd a b ≡ 1 → gcd c d ≡ 1 → gcd (a / gcd a d * (c / gcd c b)) (b / gcd c b * (d / gcd a d)) ≡ 1
mul_lowest_abs a b c d hb hd ab cd =
    coprime_four (a / gcd a d) (c / gcd c b) (b / gcd c b) (d / gcd a d)
    (coprime_of_dvd a b _ _ ab (div_dvd _ a (gcd_is a d).0) (div_dvd _ b (gcd_is c b).1))
    (coprime_quotients a d hd)
    (coprime_quotients c b hb)
    (coprime_of_dvd c d _ _ cd (div_dvd _ c (gcd_is c b).0) (div_dvd _ d (gcd_is a d).1))

pub mul_lowest : (p q : Frac) → IsFrac p → IsFrac q → gcd (unsigned_abs (mul_num p q)) (mul_den p q) ≡ 1
mul_lowest p q hp hq =
    ap (λ x. gcd x (mul_den p q)) (unsigned_abs-mul (int_quotient p.num (gcd (unsigned_abs p.num) (unsigned_abs q.den))) (int_quotient q.num (gcd (unsigned_abs q.num) (unsigned_abs p.den))) ∙ ap₂ ◌*◌ (unsigned_abs-quotient p.num _) (unsigned_abs-quotient q.num _))
    ∙ mul_lowest_abs (unsigned_abs p.num) (unsigned_abs p.den) (unsigned_abs q.num) (unsigned_abs q.den) (den_nonzero p hp) (den_nonzero q hq) hp.lowest hq.lowest

mul_reorder : (x y g h : ℤ) → x *ℤ y *ℤ (g *ℤ h) ≡ x *ℤ g *ℤ (y *ℤ h)
mul_reorder x y g h = by_ring int_laws (x ∷ y ∷ g ∷ h ∷ []) (search reify depth 20) tt

mul_reorder_nat : (x y g h : ℕ) → x * y * (g * h) ≡ x * h * (y * g)
mul_reorder_nat x y g h = omega arith

pub mul_value : (p q : Frac) → IsFrac p → IsFrac q → rational (mul_num p q) (mul_den p q) ≡ rational_mul (frac_value p) (frac_value q)
mul_value p q hp hq =
    let a = unsigned_abs p.num in
    let b = unsigned_abs p.den in
    let c = unsigned_abs q.num in
    let d = unsigned_abs q.den in
    let hb = den_nonzero p hp in
    let hd = den_nonzero q hq in
    sym (rational-scaled (mul_num p q) (mul_den p q) (gcd a d * gcd c b) (mul-pos (quotient_pos c b hb) (quotient_pos a d hd)) (mul-pos (gcd_pos a d hd) (gcd_pos c b hb)))
    ∙ ap₂ rational
    (mul_reorder (int_quotient p.num (gcd a d)) (int_quotient q.num (gcd c b)) (pos (gcd a d)) (pos (gcd c b)) ∙ ap₂ ◌*ℤ◌ (quotient-mul p.num (gcd a d) (gcd_is a d).0) (quotient-mul q.num (gcd c b) (gcd_is c b).0))
    (mul_reorder_nat (b / gcd c b) (d / gcd a d) (gcd a d) (gcd c b) ∙ ap₂ ◌*◌ (div-mul_cancel (gcd c b) (gcd_is c b).1) (div-mul_cancel (gcd a d) (gcd_is a d).1))
    ∙ unique (rational_is (p.num *ℤ q.num) (b * d) (mul-pos hb hd)) (mul_is (rational_is p.num b hb) (rational_is q.num d hd)) refl

-- a valid fraction is the fraction of its value
pub value_num : (f : Frac) → IsFrac f → (frac_value f).num ≡ f.num
value_num f h = lowest_num f.num (unsigned_abs f.den) (den_nonzero f h) h.lowest

pub value_den : (f : Frac) → IsFrac f → (frac_value f).den ≡ unsigned_abs f.den
value_den f h = lowest_den f.num (unsigned_abs f.den) (den_nonzero f h) h.lowest

-- ---- the opposite and the inverse

abs-neg : (z : ℤ) → unsigned_abs (neg_ℤ z) ≡ unsigned_abs z
abs-neg (pos zero) = refl
abs-neg (pos (suc n)) = refl
abs-neg (negsuc n) = refl

pub neg_made : (p f : Frac) → IsFrac p → f.num ≡ neg_ℤ p.num → f.den ≡ p.den → Represents f (rational_neg (frac_value p))
neg_made p f h en ed =
    record {
      valid = record {
        den_pos = subst (λ z. pos 0 <ℤ z) (sym ed) h.den_pos;
        lowest = ap₂ (λ x y. gcd (unsigned_abs x) (unsigned_abs y)) en ed ∙ ap (λ x. gcd x (unsigned_abs p.den)) (abs-neg p.num) ∙ h.lowest;
        num_fits = subst (λ x. x < 2 ^ 127) (sym (ap unsigned_abs en ∙ abs-neg p.num)) h.num_fits;
        den_fits = subst (λ x. unsigned_abs x < 2 ^ 127) (sym ed) h.den_fits;
      };
      value_is = ap₂ (λ x y. rational x (unsigned_abs y)) en ed ∙ unique (rational_is (neg_ℤ p.num) (unsigned_abs p.den) (den_nonzero p h)) (neg_is (rational_is p.num (unsigned_abs p.den) (den_nonzero p h))) refl;
    }

pub zero_value : (f : Frac) → IsFrac f → f.num ≡ pos 0 → frac_value f ≡ rational (pos 0) 1
zero_value f h e =
    ap (λ n. rational n (unsigned_abs f.den)) e
    ∙ unique (rational_is (pos 0) (unsigned_abs f.den) (den_nonzero f h)) (rational_is (pos 0) 1 (zero-lt-suc 0)) (sym (zero_mul int_ops int_laws (pos (unsigned_abs f.den))))

pub nonzero_value : (f : Frac) → IsFrac f → f.num ≢ pos 0 → frac_value f ≢ rational (pos 0) 1
nonzero_value f h ne e = ne (sym (value_num f h) ∙ ap (λ q. q.num) e ∙ lowest_num (pos 0) 1 (zero-lt-suc 0) zero_lowest)

-- the inverse of a valid fraction, by its sign
inv_of : (q : Rational) (n : ℤ) (d : ℕ) → q.num ≡ n → q.den ≡ d → rational_inv q ≡ elim n [ pos k ↦ rational (pos d) k | negsuc k ↦ rational (neg_ℤ (pos d)) (suc k) ]
unfolding rational_inv
inv_of q n d en ed = ap₂ (λ (x : ℤ) (y : ℕ). elim x [ pos k ↦ rational (pos y) k | negsuc k ↦ rational (neg_ℤ (pos y)) (suc k) ]) en ed

pub pos_den : (z : ℤ) → pos 0 <ℤ z → z ≡ pos (unsigned_abs z)
pos_den (pos n) k = refl
pos_den (negsuc n) k = absurd (omega (arith, ints))

pub inv_pos : (p f : Frac) → IsFrac p → pos 0 <ℤ p.num → f.num ≡ p.den → f.den ≡ p.num → Represents f (rational_inv (frac_value p))
inv_pos p f h k en ed =
    record {
      valid = record {
        den_pos = subst (λ z. pos 0 <ℤ z) (sym ed) k;
        lowest = ap₂ (λ x y. gcd (unsigned_abs x) (unsigned_abs y)) en ed ∙ gcd_comm (unsigned_abs p.den) (unsigned_abs p.num) ∙ h.lowest;
        num_fits = subst (λ x. unsigned_abs x < 2 ^ 127) (sym en) h.den_fits;
        den_fits = subst (λ x. unsigned_abs x < 2 ^ 127) (sym ed) h.num_fits;
      };
      value_is = ap₂ (λ x y. rational x (unsigned_abs y)) (en ∙ pos_den p.den h.den_pos) ed
          ∙ sym (inv_of (frac_value p) (pos (unsigned_abs p.num)) (unsigned_abs p.den) (value_num p h ∙ pos_den p.num k) (value_den p h));
    }

neg_num : (z : ℤ) → z <ℤ pos 0 → (k : ℕ) × (z ≡ negsuc k)
neg_num (pos n) k = absurd (omega (arith, ints))
neg_num (negsuc n) k = (n, refl)

pub inv_neg : (p f : Frac) → IsFrac p → p.num <ℤ pos 0 → f.num ≡ neg_ℤ p.den → f.den ≡ neg_ℤ p.num → Represents f (rational_inv (frac_value p))
inv_neg p f h k en ed = go (neg_num p.num k)
  where
    go : (n : ℕ) × (p.num ≡ negsuc n) → Represents f (rational_inv (frac_value p))
    go (n, e) =
        let ed' : f.den ≡ pos (suc n) = ed ∙ ap neg_ℤ e in
        let abs_num : unsigned_abs f.num ≡ unsigned_abs p.den = ap unsigned_abs en ∙ abs-neg p.den in
        record {
          valid = record {
            den_pos = subst (λ z. pos 0 <ℤ z) (sym ed') (omega (arith, ints));
            lowest = ap₂ gcd abs_num (ap unsigned_abs (ed' ∙ ap pos refl) ∙ ap unsigned_abs (sym e)) ∙ gcd_comm (unsigned_abs p.den) (unsigned_abs p.num) ∙ h.lowest;
            num_fits = subst (λ x. x < 2 ^ 127) (sym abs_num) h.den_fits;
            den_fits = subst (λ x. x < 2 ^ 127) (ap unsigned_abs e ∙ sym (ap unsigned_abs ed')) h.num_fits;
          };
          value_is = ap₂ (λ x y. rational x (unsigned_abs y)) (en ∙ ap neg_ℤ (pos_den p.den h.den_pos)) ed'
              ∙ sym (inv_of (frac_value p) (negsuc n) (unsigned_abs p.den) (value_num p h ∙ e) (value_den p h));
        }

-- ---- bounds

-- reducing makes no part greater
pub parts_fit : (n : ℤ) (d : ℕ) → 0 < d → unsigned_abs n < 2 ^ 127 → d < 2 ^ 127 → FitsFrac (rational n d)
parts_fit n d h p q =
    let parts = rational_parts n d h in
    let num_is = ap unsigned_abs parts.0 ∙ unsigned_abs-quotient n (gcd (unsigned_abs n) d) in
    record {
      num_fits = omega (arith, num_is, div-le_self (unsigned_abs n) (gcd (unsigned_abs n) d));
      den_fits = omega (arith, parts.1, div-le_self d (gcd (unsigned_abs n) d));
    }

pub add_den_pos : (p q : Frac) → IsFrac p → IsFrac q → 0 < add_den p q
add_den_pos p q hp hq = mul-pos (quotient_pos_first (unsigned_abs p.den) (unsigned_abs q.den) (den_nonzero p hp) (den_nonzero q hq)) (den_nonzero q hq)

-- ---- the product as a fraction

mul_den_pos : (p q : Frac) → IsFrac p → IsFrac q → 0 < mul_den p q
mul_den_pos p q hp hq = mul-pos (quotient_pos (unsigned_abs q.num) (unsigned_abs p.den) (den_nonzero p hp)) (quotient_pos (unsigned_abs p.num) (unsigned_abs q.den) (den_nonzero q hq))

pub mul_made : (p q f : Frac) → IsFrac p → IsFrac q → unsigned_abs (mul_num p q) < 2 ^ 127 → mul_den p q < 2 ^ 127 → f.num ≡ mul_num p q → f.den ≡ pos (mul_den p q)
    → Represents f (rational_mul (frac_value p) (frac_value q))
mul_made p q f hp hq h k en ed =
    record {
      valid = record {
        den_pos = subst (λ z. pos 0 <ℤ z) (sym ed) (let m : 0 < mul_den p q = mul_den_pos p q hp hq in omega (arith, ints));
        lowest = ap₂ (λ x y. gcd (unsigned_abs x) (unsigned_abs y)) en ed ∙ mul_lowest p q hp hq;
        num_fits = subst (λ x. unsigned_abs x < 2 ^ 127) (sym en) h;
        den_fits = subst (λ x. unsigned_abs x < 2 ^ 127) (sym ed) k;
      };
      value_is = ap₂ (λ x y. rational x (unsigned_abs y)) en ed ∙ mul_value p q hp hq;
    }

pub mul_num_fits : (p q : Frac) → IsFrac p → IsFrac q → FitsFrac (rational_mul (frac_value p) (frac_value q)) → unsigned_abs (mul_num p q) < 2 ^ 127
mul_num_fits p q hp hq f =
    subst (λ x. unsigned_abs x < 2 ^ 127) (ap (λ r. r.num) (sym (mul_value p q hp hq)) ∙ lowest_num (mul_num p q) (mul_den p q) (mul_den_pos p q hp hq) (mul_lowest p q hp hq)) f.num_fits

pub mul_den_fits : (p q : Frac) → IsFrac p → IsFrac q → FitsFrac (rational_mul (frac_value p) (frac_value q)) → mul_den p q < 2 ^ 127
mul_den_fits p q hp hq f =
    subst (λ x. x < 2 ^ 127) (ap (λ r. r.den) (sym (mul_value p q hp hq)) ∙ lowest_den (mul_num p q) (mul_den p q) (mul_den_pos p q hp hq) (mul_lowest p q hp hq)) f.den_fits

-- the greatest common divisor is at most its positive second number
pub gcd_le : (a b : ℕ) → 0 < b → gcd a b ≤ b
gcd_le a b h = le_of_dvd h (gcd_is a b).1

pub abs-quotient_le : (n : ℤ) (g : ℕ) → unsigned_abs (int_quotient n g) ≤ unsigned_abs n
abs-quotient_le n g = omega (arith, unsigned_abs-quotient n g, div-le_self (unsigned_abs n) g)

-- ---- values and fractions

pos_injective : (y z : ℤ) → pos 0 <ℤ y → pos 0 <ℤ z → unsigned_abs y ≡ unsigned_abs z → y ≡ z
pos_injective y z h k e = pos_den y h ∙ ap pos e ∙ sym (pos_den z k)

-- equal values are equal fractions
pub value_injective : (f g : Frac) → IsFrac f → IsFrac g → frac_value f ≡ frac_value g → f ≡ g
value_injective f g hf hg e =
    let en : f.num ≡ g.num = sym (value_num f hf) ∙ ap (λ q. q.num) e ∙ value_num g hg in
    let ed : f.den ≡ g.den = pos_injective f.den g.den hf.den_pos hg.den_pos (sym (value_den f hf) ∙ ap (λ q. q.den) e ∙ value_den g hg) in
    λ i. record { num = en i; den = ed i }

-- the fractions mean the rational numbers
pub rational_meaning_laws : MeaningLaws rational_meaning
rational_meaning_laws = record { numbers = rational_scalar_laws; equal = value_injective }
