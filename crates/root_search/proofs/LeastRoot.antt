-- The roots of a cubic with small coefficients are near, and the bisections find the least.
use Rattle.std.proofs.Common.{◌≡◌, ◌≢◌, ℕ, suc, ◌+◌, ◌-◌, ◌^◌, ◌<◌, ◌≤◌, ℤ, pos, negsuc, ◌+ℤ◌, ◌*ℤ◌, neg_ℤ, ◌≤ℤ◌, ◌<ℤ◌, unsigned_abs, sym, ◌∙◌, ap, subst, arith, ⊎_elim, ◌⊎◌, inl, inr, FitsSigned, to_z, of_z, to_z-of_z}
use Rattle.std.proofs.lemmas.Int.{ints}
use Rattle.std.proofs.Math.IntN.{*ℤ_comm}
use Rattle.std.specs.Int.{w128, int_signum}
use Rattle.root_search.specs.Cubic.{int_cubic, slope, bend, place, measured, Crosses, IsSmall, IsLeastRoot}
use Rattle.root_search.specs.declared.Test.{Test}
use Rattle.root_search.specs.declared.Test.TheVariants.{Rise, Drop, Top, Bottom, Bend}
use Rattle.root_search.proofs.Tracks.{horner_form, cubic_shape, mul_high, mul_low, mul_low_negative, lt_or_le}
use Rattle.root_search.proofs.Stretches.{Found, none_at_all, least_first, least_second, least_third}

-- far to the right the cubic is positive, far to the left negative
far_right : (a b c y : ℤ) → IsSmall a b c → pos (2 ^ 121) <ℤ y → pos 0 <ℤ (y *ℤ (y *ℤ (y +ℤ a) +ℤ b) +ℤ c)
far_right a b c y h p =
    let ha = h.a_small in
    let hb = h.b_small in
    let hc = h.c_small in
    let v = mul_high y (y +ℤ a) (2 ^ 120) (omega (arith, ints)) (omega (arith, ints)) in
    let w : pos 0 <ℤ (y *ℤ (y +ℤ a) +ℤ b) = omega (arith, ints) in
    let u = subst (λ z. pos (2 ^ 121) ≤ℤ z) (*ℤ_comm (y *ℤ (y +ℤ a) +ℤ b) y) (mul_high (y *ℤ (y +ℤ a) +ℤ b) y (2 ^ 121) w (omega (arith, ints))) in
    omega (arith, ints)

far_left : (a b c y : ℤ) → IsSmall a b c → y <ℤ neg_ℤ (pos (2 ^ 121)) → (y *ℤ (y *ℤ (y +ℤ a) +ℤ b) +ℤ c) <ℤ pos 0
far_left a b c y h p =
    let ha = h.a_small in
    let hb = h.b_small in
    let hc = h.c_small in
    let v = mul_low_negative y (y +ℤ a) (2 ^ 120) (omega (arith, ints)) (omega (arith, ints)) in
    let w : pos 0 <ℤ (y *ℤ (y +ℤ a) +ℤ b) = omega (arith, ints) in
    let u = subst (λ z. z ≤ℤ neg_ℤ (pos (2 ^ 121))) (*ℤ_comm (y *ℤ (y +ℤ a) +ℤ b) y) (mul_low (y *ℤ (y +ℤ a) +ℤ b) y (2 ^ 121) w (omega (arith, ints))) in
    omega (arith, ints)

-- each root is at most 2^121 in absolute value
pub near : (a b c y : ℤ) → IsSmall a b c → int_cubic a b c y ≡ pos 0 → unsigned_abs y ≤ 2 ^ 121
near a b c y h z =
    let e = horner_form a b c y ∙ z in
    ⊎_elim
    (λ l. absurd (⊎_elim
    (λ p. let u = far_right a b c y h p in omega (arith, ints))
    (λ p. let u = far_left a b c y h p in omega (arith, ints))
    (side y l)))
    (λ l. l)
    (lt_or_le (2 ^ 121) (unsigned_abs y))
  where
    side : (y : ℤ) → 2 ^ 121 < unsigned_abs y → (pos (2 ^ 121) <ℤ y) ⊎ (y <ℤ neg_ℤ (pos (2 ^ 121)))
    side (pos n) l = inl (omega (arith, ints))
    side (negsuc n) l = inr (omega (arith, ints))

-- a near number stands at a place
place_of : (y : ℤ) → unsigned_abs y ≤ 2 ^ 121 → (k : ℕ) × (k ≤ 2 ^ 122) × (place k ≡ y)
place_of (pos n) h = (n + 2 ^ 121, omega arith, omega (arith, ints))
place_of (negsuc n) h = (2 ^ 121 - suc n, omega arith, omega (arith, ints))

pub zero_of_signum : (z : ℤ) → int_signum z ≡ pos 0 → z ≡ pos 0
zero_of_signum (pos n) e = omega (arith, ints)
zero_of_signum (negsuc n) e = absurd (omega (arith, ints))

place_le : (k l : ℕ) → k ≤ l → place k ≤ℤ place l
place_le k l h = omega (arith, ints)

module _ (a b c : ℤ) (small : IsSmall a b c) (m p q r₁ r₂ r₃ : ℕ) (found : Found (λ k. int_cubic a b c (place k)) (λ k. slope a b (place k)) (λ k. bend a (place k)) (2 ^ 122) m p q r₁ r₂ r₃) where
  abbrev f : ℕ → ℤ
  f k = int_cubic a b c (place k)

  at_place : (r : ℕ) → ((k : ℕ) → f k ≡ pos 0 → r ≤ k) → f r ≡ pos 0 → IsLeastRoot a b c (place r)
  at_place r h e = record {
    root = e;
    least = λ y z.
        let k = place_of y (near a b c y small z) in
        subst (λ x. place r ≤ℤ x) k.2 (place_le r k.0 (h k.0 (ap (int_cubic a b c) k.2 ∙ z)));
  }

  -- the first of the three places where the cubic is 0 is the least root
  pub is_first : f r₁ ≡ pos 0 → IsLeastRoot a b c (place r₁)
  is_first = at_place r₁ (least_first f (λ k. slope a b (place k)) (λ k. bend a (place k)) (2 ^ 122) m p q r₁ r₂ r₃ (cubic_shape a b c) found)

  pub is_second : f r₁ ≢ pos 0 → f r₂ ≡ pos 0 → IsLeastRoot a b c (place r₂)
  is_second ne = at_place r₂ (least_second f (λ k. slope a b (place k)) (λ k. bend a (place k)) (2 ^ 122) m p q r₁ r₂ r₃ (cubic_shape a b c) found ne)

  pub is_third : f r₁ ≢ pos 0 → f r₂ ≢ pos 0 → f r₃ ≡ pos 0 → IsLeastRoot a b c (place r₃)
  is_third ne ne' = at_place r₃ (least_third f (λ k. slope a b (place k)) (λ k. bend a (place k)) (2 ^ 122) m p q r₁ r₂ r₃ (cubic_shape a b c) found ne ne')

  pub no_root : f r₁ ≢ pos 0 → f r₂ ≢ pos 0 → f r₃ ≢ pos 0 → (y : ℤ) → int_cubic a b c y ≢ pos 0
  no_root ne ne' ne'' y z =
      let k = place_of y (near a b c y small z) in
      none_at_all f (λ k. slope a b (place k)) (λ k. bend a (place k)) (2 ^ 122) m p q r₁ r₂ r₃ (cubic_shape a b c) found ne ne' ne'' k.0 k.1 (ap (int_cubic a b c) k.2 ∙ z)

-- ---- the same for the numbers as the code has them

abbrev kept : ℤ → ℤ
kept z = to_z w128 (of_z w128 z)

module _ (a b c : ℤ) (fa : FitsSigned w128 a) (fb : FitsSigned w128 b) (fc : FitsSigned w128 c) where
  abbrev found_at : Test → ℕ → ℕ → ℕ → Type 0
  found_at t i j r = Crosses (λ k. measured t (kept a) (kept b) (kept c) (place k)) i j r

  abbrev plain_at : Test → ℕ → ℕ → ℕ → Type 0
  plain_at t i j r = Crosses (λ k. measured t a b c (place k)) i j r

  plain : (t : Test) (i j r : ℕ) → found_at t i j r → plain_at t i j r
  plain t i j r h = simp to_z-of_z at h

  pub found_of : (m p q r₁ r₂ r₃ : ℕ) → found_at Bend 0 (2 ^ 122) m → found_at Top 0 m p → found_at Bottom m (2 ^ 122) q → found_at Rise 0 p r₁ → found_at Drop p q r₂ → found_at Rise q (2 ^ 122) r₃
      → Found (λ k. int_cubic a b c (place k)) (λ k. slope a b (place k)) (λ k. bend a (place k)) (2 ^ 122) m p q r₁ r₂ r₃
  found_of m p q r₁ r₂ r₃ h₁ h₂ h₃ h₄ h₅ h₆ = record {
    bends = plain Bend 0 (2 ^ 122) m h₁;
    tops = plain Top 0 m p h₂;
    bottoms = plain Bottom m (2 ^ 122) q h₃;
    first = plain Rise 0 p r₁ h₄;
    second = plain Drop p q r₂ h₅;
    third = plain Rise q (2 ^ 122) r₃ h₆;
  }

  module _ (x s : ℤ) (fx : FitsSigned w128 x) (fs : FitsSigned w128 s) (r : ℕ) (ex : x ≡ place r) (es : s ≡ int_signum (int_cubic (kept a) (kept b) (kept c) (kept x))) where
    sign_is : s ≡ int_signum (int_cubic a b c (place r))
    sign_is = (simp to_z-of_z at es) ∙ ap (λ y. int_signum (int_cubic a b c y)) ex

    pub zero_at : of_z w128 s ≡ 0 → int_cubic a b c (place r) ≡ pos 0
    zero_at e = zero_of_signum (int_cubic a b c (place r)) (sym sign_is ∙ sym (to_z-of_z fs) ∙ ap (to_z w128) e)

    pub nonzero_at : (of_z w128 s ≡ 0 → ⊥) → int_cubic a b c (place r) ≢ pos 0
    nonzero_at h z = h (ap (of_z w128) (sign_is ∙ ap int_signum z))

    pub root_is : IsLeastRoot a b c (place r) → IsLeastRoot a b c (kept x)
    root_is h = subst (IsLeastRoot a b c) (sym ex ∙ sym (to_z-of_z fx)) h
