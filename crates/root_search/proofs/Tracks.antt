-- A saturated number that follows an unlimited one: equal, or both far out on one side.
use Rattle.std.proofs.Common.{◌≡◌, ℕ, zero, suc, ◌+◌, ◌^◌, ◌<◌, ◌≤◌, ℤ, pos, negsuc, ◌+ℤ◌, ◌*ℤ◌, neg_ℤ, ◌≤ℤ◌, ◌<ℤ◌, unsigned_abs, refl, sym, ◌∙◌, ap, subst, arith, List, [], ◌∷◌, ⊎_elim, ◌⊎◌, ◌↔◌, Bool, true, false, T, IsTrue, inl, inr}
use lib.Signed.{le_z}
use Rattle.std.proofs.Math.Decide.{dec_le}
use Rattle.ring_theory.specs.Integers.{int_ops}
use Rattle.ring_theory.proofs.IntegerLaws.{int_laws}
use Rattle.ring_theory.proofs.RingSolver.{zero_mul}
use Rattle.ring_theory.proofs.RingReify.{by_ring, reify, Reified}
use Rattle.ring_theory.proofs.RingExpr.{lit}
use Rattle.root_search.specs.Cubic.{int_cubic, slope, bend, place, Shape}
use Rattle.std.proofs.lemmas.Int.{ints}
use Rattle.std.specs.Int.{w128, saturate_signed, int_signum}

pub data Tracks (t : ℕ) (v z : ℤ) : Type 0 where
  same : v ≡ z → Tracks t v z
  high : pos t ≤ℤ v → pos t ≤ℤ z → Tracks t v z
  low : v ≤ℤ neg_ℤ (pos t) → z ≤ℤ neg_ℤ (pos t) → Tracks t v z

pub mul_high : (x v : ℤ) (t : ℕ) → pos 0 <ℤ x → pos t ≤ℤ v → pos t ≤ℤ (x *ℤ v)
mul_high (pos zero) v t h k = absurd (omega (arith, ints))
mul_high (pos (suc n)) (pos m) t h k = omega (arith, ints)
mul_high (pos (suc n)) (negsuc m) t h k = absurd (omega (arith, ints))
mul_high (negsuc n) v t h k = absurd (omega (arith, ints))

pub mul_low : (x v : ℤ) (t : ℕ) → pos 0 <ℤ x → v ≤ℤ neg_ℤ (pos t) → (x *ℤ v) ≤ℤ neg_ℤ (pos t)
mul_low (pos zero) v t h k = absurd (omega (arith, ints))
mul_low (pos (suc n)) (pos zero) t h k = omega (arith, ints)
mul_low (pos (suc n)) (pos (suc m)) t h k = absurd (omega (arith, ints))
mul_low (pos (suc n)) (negsuc m) t h k = omega (arith, ints)
mul_low (negsuc n) v t h k = absurd (omega (arith, ints))

mul_high_negative : (x v : ℤ) (t : ℕ) → x <ℤ pos 0 → pos t ≤ℤ v → (x *ℤ v) ≤ℤ neg_ℤ (pos t)
mul_high_negative (pos n) v t h k = absurd (omega (arith, ints))
mul_high_negative (negsuc n) (pos m) t h k = omega (arith, ints)
mul_high_negative (negsuc n) (negsuc m) t h k = absurd (omega (arith, ints))

pub mul_low_negative : (x v : ℤ) (t : ℕ) → x <ℤ pos 0 → v ≤ℤ neg_ℤ (pos t) → pos t ≤ℤ (x *ℤ v)
mul_low_negative (pos n) v t h k = absurd (omega (arith, ints))
mul_low_negative (negsuc n) (pos zero) t h k = omega (arith, ints)
mul_low_negative (negsuc n) (pos (suc m)) t h k = absurd (omega (arith, ints))
mul_low_negative (negsuc n) (negsuc m) t h k = omega (arith, ints)

pub lt_or_le : (a b : ℕ) → (a < b) ⊎ (b ≤ a)
lt_or_le a b = elim (dec_le (suc a) b) [ yes h ↦ inl h | no f ↦ inr (omega arith) ]

saturate_tracks : (z : ℤ) (t : ℕ) → t < 2 ^ 127 → Tracks t (saturate_signed w128 z) z
saturate_tracks (pos n) t h = ⊎_elim (λ k. same (ap pos (omega arith))) (λ k. high (omega (arith, ints)) (omega (arith, ints))) (lt_or_le n (2 ^ 127))
saturate_tracks (negsuc n) t h = ⊎_elim (λ k. same (ap negsuc (omega arith))) (λ k. low (omega (arith, ints)) (omega (arith, ints))) (lt_or_le n (2 ^ 127))

mul_zero : (x v z : ℤ) → x ≡ pos 0 → x *ℤ v ≡ x *ℤ z
mul_zero x v z e = ap (λ y. y *ℤ v) e ∙ zero_mul int_ops int_laws v ∙ sym (zero_mul int_ops int_laws z) ∙ ap (λ y. y *ℤ z) (sym e)

data Sign (x : ℤ) : Type 0 where
  negative : x <ℤ pos 0 → Sign x
  none : x ≡ pos 0 → Sign x
  positive : pos 0 <ℤ x → Sign x

sign_of : (x : ℤ) → Sign x
sign_of (pos zero) = none refl
sign_of (pos (suc n)) = positive (omega (arith, ints))
sign_of (negsuc n) = negative (omega (arith, ints))

mul_tracks : (x v z : ℤ) (t : ℕ) → Tracks t v z → Tracks t (x *ℤ v) (x *ℤ z)
mul_tracks x v z t (same e) = same (ap (λ y. x *ℤ y) e)
mul_tracks x v z t (high p q) = elim (sign_of x) [ negative n ↦ low (mul_high_negative x v t n p) (mul_high_negative x z t n q) | none e ↦ same (mul_zero x v z e) | positive n ↦ high (mul_high x v t n p) (mul_high x z t n q) ]
mul_tracks x v z t (low p q) = elim (sign_of x) [ negative n ↦ high (mul_low_negative x v t n p) (mul_low_negative x z t n q) | none e ↦ same (mul_zero x v z e) | positive n ↦ low (mul_low x v t n p) (mul_low x z t n q) ]

add_tracks : (v z c : ℤ) (t s : ℕ) → unsigned_abs c ≤ s → Tracks (t + s) v z → Tracks t (v +ℤ c) (z +ℤ c)
add_tracks v z c t s h (same e) = same (ap (λ y. y +ℤ c) e)
add_tracks v z c t s h (high p q) = high (omega (arith, ints)) (omega (arith, ints))
add_tracks v z c t s h (low p q) = low (omega (arith, ints)) (omega (arith, ints))

through : (u v z : ℤ) (t : ℕ) → 0 < t → Tracks t u v → Tracks t v z → Tracks t u z
through u v z t h (same e) k = subst (λ y. Tracks t y z) (sym e) k
through u v z t h (high p q) (same e) = high p (subst (λ y. pos t ≤ℤ y) e q)
through u v z t h (high p q) (high p' q') = high p q'
through u v z t h (high p q) (low p' q') = absurd (omega (arith, ints))
through u v z t h (low p q) (same e) = low p (subst (λ y. y ≤ℤ neg_ℤ (pos t)) e q)
through u v z t h (low p q) (high p' q') = absurd (omega (arith, ints))
through u v z t h (low p q) (low p' q') = low p q'

pub horner_tracks : (x v z c : ℤ) (t : ℕ) → 0 < t → unsigned_abs c < 2 ^ 122 → t + 2 ^ 122 < 2 ^ 127 → Tracks (t + 2 ^ 122) v z
    → Tracks t (saturate_signed w128 (saturate_signed w128 (x *ℤ v) +ℤ c)) (x *ℤ z +ℤ c)
horner_tracks x v z c t ht0 hc ht k =
    let product = through _ _ _ (t + 2 ^ 122) (omega arith) (saturate_tracks (x *ℤ v) (t + 2 ^ 122) ht) (mul_tracks x v z (t + 2 ^ 122) k) in
    through _ _ _ t ht0 (saturate_tracks (saturate_signed w128 (x *ℤ v) +ℤ c) t (omega arith)) (add_tracks (saturate_signed w128 (x *ℤ v)) (x *ℤ z) c t (2 ^ 122) (omega arith) product)

pub horner_form : (a b c x : ℤ) → x *ℤ (x *ℤ (x +ℤ a) +ℤ b) +ℤ c ≡ int_cubic a b c x
horner_form a b c x = by_ring int_laws (a ∷ b ∷ c ∷ x ∷ []) (search reify depth 20) tt

signum_same : (t : ℕ) (v z : ℤ) → 0 < t → Tracks t v z → int_signum v ≡ int_signum z
signum_same t v z h (same e) = ap int_signum e
signum_same t v z h (high p q) = grind (arith, ints)
signum_same t v z h (low p q) = grind (arith, ints)

-- the saturated cubic has the sign of the cubic
pub cubic_tracks : (a b c x : ℤ) → unsigned_abs b < 2 ^ 120 → unsigned_abs c < 2 ^ 120
    → int_signum (saturate_signed w128 (saturate_signed w128 (x *ℤ saturate_signed w128 (saturate_signed w128 (x *ℤ (x +ℤ a)) +ℤ b)) +ℤ c)) ≡ int_signum (int_cubic a b c x)
cubic_tracks a b c x hb hc =
    signum_same 1 _ _ (omega arith) (horner_tracks x _ _ c 1 (omega arith) (omega arith) (omega arith) (horner_tracks x (x +ℤ a) (x +ℤ a) b (1 + 2 ^ 122) (omega arith) (omega arith) (omega arith) (same refl)))
    ∙ ap int_signum (horner_form a b c x)

abbrev two : {xs : List ℤ} → Reified int_ops xs (pos 2)
two = record { expr = lit (pos 2); is = refl }

abbrev three : {xs : List ℤ} → Reified int_ops xs (pos 3)
three = record { expr = lit (pos 3); is = refl }

slope_form : (a b x : ℤ) → x *ℤ (pos 3 *ℤ x +ℤ (pos 3 +ℤ pos 2 *ℤ a)) +ℤ (pos 1 +ℤ a +ℤ b) ≡ slope a b x
slope_form a b x = by_ring int_laws (a ∷ b ∷ x ∷ []) (search (reify, two, three) depth 20) tt

pub slope_tracks : (a b x : ℤ) → unsigned_abs a < 2 ^ 120 → unsigned_abs b < 2 ^ 120
    → int_signum (saturate_signed w128 (saturate_signed w128 (x *ℤ (pos 3 *ℤ x +ℤ (pos 3 +ℤ pos 2 *ℤ a))) +ℤ (pos 1 +ℤ a +ℤ b))) ≡ int_signum (slope a b x)
slope_tracks a b x ha hb =
    let h : unsigned_abs (pos 1 +ℤ a +ℤ b) < 2 ^ 122 = omega (arith, ints) in
    signum_same 1 _ _ (omega arith) (horner_tracks x _ _ (pos 1 +ℤ a +ℤ b) 1 (omega arith) h (omega arith) (same refl)) ∙ ap int_signum (slope_form a b x)

-- ---- the steps from place to place

next_cubic : (a b c x : ℤ) → int_cubic a b c (x +ℤ pos 1) ≡ int_cubic a b c x +ℤ slope a b x
next_cubic a b c x = by_ring int_laws (a ∷ b ∷ c ∷ x ∷ []) (search (reify, two, three) depth 20) tt

abbrev six : {xs : List ℤ} → Reified int_ops xs (pos 6)
six = record { expr = lit (pos 6); is = refl }

next_slope : (a b x : ℤ) → slope a b (x +ℤ pos 1) ≡ slope a b x +ℤ bend a x
next_slope a b x = by_ring int_laws (a ∷ b ∷ x ∷ []) (search (reify, two, three, six) depth 20) tt

next_bend : (a x : ℤ) → bend a x ≤ℤ bend a (x +ℤ pos 1)
next_bend a x = omega (arith, ints)

next_place : (k : ℕ) → place (suc k) ≡ place k +ℤ pos 1
next_place k = omega (arith, ints)

pub cubic_shape : (a b c : ℤ) → Shape (λ k. int_cubic a b c (place k)) (λ k. slope a b (place k)) (λ k. bend a (place k))
cubic_shape a b c = record {
  slope = λ k. ap (int_cubic a b c) (next_place k) ∙ next_cubic a b c (place k);
  bend = λ k. ap (slope a b) (next_place k) ∙ next_slope a b (place k);
  bend_rises = λ k. subst (λ x. bend a (place k) ≤ℤ bend a x) (sym (next_place k)) (next_bend a (place k));
}

-- ---- tests of a sign

at_least : (w z : ℤ) → w ≡ int_signum z → (pos 0 ≤ℤ w) ↔ (pos 0 ≤ℤ z)
at_least w (pos n) e = ((λ h. omega (arith, ints)), (λ h. omega (arith, ints)))
at_least w (negsuc n) e = ((λ h. omega (arith, ints)), (λ h. omega (arith, ints)))

at_most : (w z : ℤ) → w ≡ int_signum z → (w ≤ℤ pos 0) ↔ (pos 0 ≤ℤ neg_ℤ z)
at_most w (pos n) e = ((λ h. omega (arith, ints)), (λ h. omega (arith, ints)))
at_most w (negsuc n) e = ((λ h. omega (arith, ints)), (λ h. omega (arith, ints)))

to_T : (b : Bool) → IsTrue b → T b
to_T b e = subst T (sym e) tt

from_T : (b : Bool) → T b → IsTrue b
from_T true t = refl
from_T false t = absurd t

pub test_at_least : (w z : ℤ) → w ≡ int_signum z → IsTrue (le_z (pos 0) w) ↔ (pos 0 ≤ℤ z)
test_at_least w z e = ((λ t. (at_least w z e).0 (record { le = to_T _ t })), (λ h. from_T _ ((at_least w z e).1 h).le))

pub test_at_most : (w z : ℤ) → w ≡ int_signum z → IsTrue (le_z w (pos 0)) ↔ (pos 0 ≤ℤ neg_ℤ z)
test_at_most w z e = ((λ t. (at_most w z e).0 (record { le = to_T _ t })), (λ h. from_T _ ((at_most w z e).1 h).le))

pub test_same : (w z : ℤ) → w ≡ z → IsTrue (le_z (pos 0) w) ↔ (pos 0 ≤ℤ z)
test_same w z e = ((λ t. subst (λ y. pos 0 ≤ℤ y) e (record { le = to_T _ t })), (λ h. from_T _ (subst (λ y. pos 0 ≤ℤ y) (sym e) h).le))
