-- Sums with matrices that are the identity but for one row, and with those of permutations.
use Rattle.std.proofs.Common.{◌≡◌, ℕ, ◌<◌, Bool, true, false, cond, eqb, eqb-true, eq-eqb, ne_eqb, ap, ap₂, sym, ◌∙◌, refl}
use Rattle.ring_theory.specs.Ring.{RingOps, IsCommRing}
use Rattle.poly_law.specs.Sums.{sum_to, unit_at}
use Rattle.poly_law.proofs.Sums

module _ {V : Type 0} (r : RingOps V) (c : IsCommRing r) (n : ℕ) where
  -- the matrix w is the identity but for d in row i
  abbrev pub IsShear : ℕ → (ℕ → V) → (ℕ → ℕ → V) → Type 0
  IsShear i d w = (a b : ℕ) → a < n → b < n → w a b ≡ r.add (unit_at r a b) (cond (eqb a i) (d b) r.zero)

  -- column q of a shear, summed with t
  shear-column : (i : ℕ) → i < n → (d : ℕ → V) (w : ℕ → ℕ → V) → IsShear i d w → (t : ℕ → V) (q : ℕ) → q < n → sum_to r n (λ b. r.mul (t b) (w b q)) ≡ r.add (t q) (r.mul (t i) (d q))
  shear-column i hi d w is t q hq =
      Sums.sum_to-cong r n (λ b. r.mul (t b) (w b q)) (λ b. r.add (r.mul (t b) (unit_at r b q)) (r.mul (cond (eqb b i) (d q) r.zero) (t b)))
      (λ b h. ap (r.mul (t b)) (is b q h hq) ∙ Sums.distrib_left r c (t b) (unit_at r b q) (cond (eqb b i) (d q) r.zero) ∙ ap (r.add (r.mul (t b) (unit_at r b q))) (c.mul_comm (t b) (cond (eqb b i) (d q) r.zero)))
      ∙ Sums.sum_to-add r c n (λ b. r.mul (t b) (unit_at r b q)) (λ b. r.mul (cond (eqb b i) (d q) r.zero) (t b))
      ∙ ap₂ r.add (Sums.sum_to-unit r c n q t hq) (Sums.sum_to-one r c n i t (d q) hi ∙ c.mul_comm (d q) (t i))

  -- the product of the transpose of a shear, S and the shear
  pub sheared : (i : ℕ) → i < n → (d : ℕ → V) (w : ℕ → ℕ → V) → IsShear i d w → (S : ℕ → ℕ → V) (p q : ℕ) → p < n → q < n
      → sum_to r n (λ a. r.mul (w a p) (sum_to r n (λ b. r.mul (S a b) (w b q)))) ≡ r.add (r.add (S p q) (r.mul (S p i) (d q))) (r.mul (r.add (S i q) (r.mul (S i i) (d q))) (d p))
  sheared i hi d w is S p q hp hq =
      Sums.sum_to-cong r n (λ a. r.mul (w a p) (sum_to r n (λ b. r.mul (S a b) (w b q)))) (λ a. r.mul (r.add (S a q) (r.mul (S a i) (d q))) (w a p))
      (λ a h. ap (r.mul (w a p)) (shear-column i hi d w is (S a) q hq) ∙ c.mul_comm (w a p) (r.add (S a q) (r.mul (S a i) (d q))))
      ∙ shear-column i hi d w is (λ a. r.add (S a q) (r.mul (S a i) (d q))) p hp

  -- row a of a shear, summed with x
  shear-row : (i : ℕ) (d : ℕ → V) (w : ℕ → ℕ → V) → IsShear i d w → (x : ℕ → V) (a : ℕ) → a < n → sum_to r n (λ b. r.mul (w a b) (x b)) ≡ r.add (x a) (cond (eqb a i) (sum_to r n (λ b. r.mul (d b) (x b))) r.zero)
  shear-row i d w is x a ha =
      Sums.sum_to-cong r n (λ b. r.mul (w a b) (x b)) (λ b. r.add (r.mul (x b) (unit_at r b a)) (r.mul (cond (eqb a i) (d b) r.zero) (x b)))
      (λ b h. ap (λ z. r.mul z (x b)) (is a b ha h) ∙ Sums.distrib_right r c (unit_at r a b) (cond (eqb a i) (d b) r.zero) (x b)
      ∙ ap (λ z. r.add z (r.mul (cond (eqb a i) (d b) r.zero) (x b))) (c.mul_comm (unit_at r a b) (x b) ∙ ap (r.mul (x b)) (Sums.unit_at-swap r a b)))
      ∙ Sums.sum_to-add r c n (λ b. r.mul (x b) (unit_at r b a)) (λ b. r.mul (cond (eqb a i) (d b) r.zero) (x b))
      ∙ ap₂ r.add (Sums.sum_to-unit r c n a x ha) (step (eqb a i))
    where
      step : (t : Bool) → sum_to r n (λ b. r.mul (cond t (d b) r.zero) (x b)) ≡ cond t (sum_to r n (λ b. r.mul (d b) (x b))) r.zero
      step true = refl
      step false = Sums.sum_to-nothing r c n (λ b. r.mul r.zero (x b)) (λ b h. Sums.zero_mul r c (x b))

  -- a shear with d(i) = 0 takes no vector but 0 to 0
  pub shear_is_regular : (i : ℕ) → i < n → (d : ℕ → V) (w : ℕ → ℕ → V) → IsShear i d w → d i ≡ r.zero → (x : ℕ → V) → ((a : ℕ) → a < n → sum_to r n (λ b. r.mul (w a b) (x b)) ≡ r.zero) → (a : ℕ) → a < n → x a ≡ r.zero
  shear_is_regular i hi d w is own x zeros a ha = step (eqb a i) refl
    where
      other : (b : ℕ) → b < n → (b ≡ i → ⊥) → x b ≡ r.zero
      other b hb ne = sym (c.add_zero (x b)) ∙ sym (shear-row i d w is x b hb ∙ ap (λ t. r.add (x b) (cond t (sum_to r n (λ b. r.mul (d b) (x b))) r.zero)) (ne_eqb b i ne)) ∙ zeros b hb

      nothing : sum_to r n (λ b. r.mul (d b) (x b)) ≡ r.zero
      nothing = Sums.sum_to-nothing r c n (λ b. r.mul (d b) (x b)) (λ b h. each b h (eqb b i) refl)
        where
          each : (b : ℕ) → b < n → (t : Bool) → eqb b i ≡ t → r.mul (d b) (x b) ≡ r.zero
          each b h true e = ap (λ z. r.mul (d z) (x b)) (eqb-true b i e) ∙ ap (λ z. r.mul z (x b)) own ∙ Sums.zero_mul r c (x b)
          each b h false e = ap (r.mul (d b)) (other b h (λ q. bad (sym e ∙ eq-eqb b i q))) ∙ Sums.mul_zero r c (d b)
            where
              bad : false ≡ true → ⊥
              bad q = cc q

      bad : false ≡ true → ⊥
      bad q = cc q

      step : (t : Bool) → eqb a i ≡ t → x a ≡ r.zero
      step true e = sym (c.add_zero (x a)) ∙ ap (r.add (x a)) (sym nothing)
          ∙ sym (shear-row i d w is x a ha ∙ ap (λ t. r.add (x a) (cond t (sum_to r n (λ b. r.mul (d b) (x b))) r.zero)) e) ∙ zeros a ha
      step false e = other a ha (λ q. bad (sym e ∙ eq-eqb a i q))

  -- the matrix w has its ones at the places (g(b), b)
  abbrev pub IsPlacing : (ℕ → ℕ) → (ℕ → ℕ → V) → Type 0
  IsPlacing g w = (a b : ℕ) → a < n → b < n → w a b ≡ unit_at r a (g b)

  -- the product of the transpose of such a matrix, S and the matrix
  pub placed : (g : ℕ → ℕ) → ((b : ℕ) → b < n → g b < n) → (w : ℕ → ℕ → V) → IsPlacing g w → (S : ℕ → ℕ → V) (p q : ℕ) → p < n → q < n
      → sum_to r n (λ a. r.mul (w a p) (sum_to r n (λ b. r.mul (S a b) (w b q)))) ≡ S (g p) (g q)
  placed g inside w is S p q hp hq =
      Sums.sum_to-cong r n (λ a. r.mul (w a p) (sum_to r n (λ b. r.mul (S a b) (w b q)))) (λ a. r.mul (S a (g q)) (unit_at r a (g p)))
      (λ a h. ap₂ r.mul (is a p h hp) (Sums.sum_to-cong r n (λ b. r.mul (S a b) (w b q)) (λ b. r.mul (S a b) (unit_at r b (g q))) (λ b k. ap (r.mul (S a b)) (is b q k hq)) ∙ Sums.sum_to-unit r c n (g q) (S a) (inside q hq))
      ∙ c.mul_comm (unit_at r a (g p)) (S a (g q)))
      ∙ Sums.sum_to-unit r c n (g p) (λ a. S a (g q)) (inside p hp)

  -- such a matrix takes no vector but 0 to 0, where g takes different numbers to different ones
  pub placing_is_regular : (g : ℕ → ℕ) → ((b : ℕ) → b < n → g b < n) → ((b d : ℕ) → b < n → d < n → g b ≡ g d → b ≡ d) → (w : ℕ → ℕ → V) → IsPlacing g w
      → (x : ℕ → V) → ((a : ℕ) → a < n → sum_to r n (λ b. r.mul (w a b) (x b)) ≡ r.zero) → (a : ℕ) → a < n → x a ≡ r.zero
  placing_is_regular g inside injective w is x zeros a ha =
      sym (Sums.sum_to-unit r c n a x ha)
      ∙ Sums.sum_to-cong r n (λ b. r.mul (x b) (unit_at r b a)) (λ b. r.mul (w (g a) b) (x b))
      (λ b h. c.mul_comm (x b) (unit_at r b a) ∙ ap (λ z. r.mul z (x b)) (same b h (eqb b a) refl ∙ sym (is (g a) b (inside a ha) h)))
      ∙ zeros (g a) (inside a ha)
    where
      bad : false ≡ true → ⊥
      bad q = cc q

      same : (b : ℕ) → b < n → (t : Bool) → eqb b a ≡ t → unit_at r b a ≡ unit_at r (g a) (g b)
      same b h true e = ap (λ t. cond t r.one r.zero) (e ∙ sym (eq-eqb (g a) (g b) (ap g (sym (eqb-true b a e)))))
      same b h false e = ap (λ t. cond t r.one r.zero) (e ∙ sym (ne_eqb (g a) (g b) (λ q. bad (sym e ∙ eq-eqb b a (injective b a h ha (sym q))))))
