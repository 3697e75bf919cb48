-- A ring with a derivation: powers and products.
use Rattle.std.proofs.Common.{◌≡◌, ℕ, zero, suc, ◌-◌, ◌<◌, cond, eqb, ne_eqb, eq-eqb, ap, sym, ◌∙◌, refl, ap₂, arith}
use Rattle.ring_theory.specs.Ring.{RingOps, IsCommRing}
use Rattle.poly_law.specs.Sums.{sum_to, power, multiple, monomial}
use Rattle.poly_law.proofs.Sums

pub record IsDerivation {A : Type 0} (r : RingOps A) (d : A → A) : Type 0 where
  pub of_add : (a b : A) → d (r.add a b) ≡ r.add (d a) (d b)
  pub of_mul : (a b : A) → d (r.mul a b) ≡ r.add (r.mul (d a) b) (r.mul a (d b))
  pub of_one : d r.one ≡ r.zero

pub multiple_when : {A : Type 0} (r : RingOps A) (k : ℕ) (u v : A) → (0 < k → u ≡ v) → multiple r k u ≡ multiple r k v
multiple_when r zero u v h = refl
multiple_when r (suc k) u v h = ap (multiple r (suc k)) (h (omega arith))

-- the exponents a, one less at i
abbrev pub less : ℕ → (ℕ → ℕ) → ℕ → ℕ
less i a k = cond (eqb k i) (a k - 1) (a k)

module _ {A : Type 0} (r : RingOps A) (c : IsCommRing r) (d : A → A) (q : IsDerivation r d) where
  pub of_power : (u : A) (k : ℕ) → d (power r u k) ≡ multiple r k (r.mul (power r u (k - 1)) (d u))
  of_power u zero = q.of_one
  of_power u (suc k) =
      q.of_mul (power r u k) u
      ∙ ap (λ z. r.add z (r.mul (power r u k) (d u)))
      (ap (λ z. r.mul z u) (of_power u k)
      ∙ Sums.multiple-mul_left r c k (r.mul (power r u (k - 1)) (d u)) u
      ∙ multiple_when r k (r.mul (r.mul (power r u (k - 1)) (d u)) u) (r.mul (power r u k) (d u)) (step k))
      ∙ ap (λ z. multiple r (suc k) (r.mul (power r u z) (d u))) (omega arith)
    where
      step : (k : ℕ) → 0 < k → r.mul (r.mul (power r u (k - 1)) (d u)) u ≡ r.mul (power r u k) (d u)
      step zero h = absurd (omega arith)
      step (suc k) h =
          let e : suc k - 1 ≡ k = omega arith in
          ap (λ z. r.mul (r.mul (power r u z) (d u)) u) e ∙ c.mul_assoc (power r u k) (d u) u ∙ ap (r.mul (power r u k)) (c.mul_comm (d u) u) ∙ sym (c.mul_assoc (power r u k) u (d u))

  less_other : (i k : ℕ) (a : ℕ → ℕ) → (k ≡ i → ⊥) → less i a k ≡ a k
  less_other i k a h = ap (λ t. cond t (a k - 1) (a k)) (ne_eqb k i h)

  less_same : (i : ℕ) (a : ℕ → ℕ) → less i a i ≡ a i - 1
  less_same i a = ap (λ t. cond t (a i - 1) (a i)) (eq-eqb i i refl)

  -- the derivative of a product of powers
  pub of_monomial : (n : ℕ) (u : ℕ → A) (a : ℕ → ℕ)
      → d (monomial r n u a) ≡ sum_to r n (λ i. multiple r (a i) (r.mul (monomial r n u (less i a)) (d (u i))))
  of_monomial zero u a = q.of_one
  of_monomial (suc n) u a =
      q.of_mul (monomial r n u a) (power r (u n) (a n))
      ∙ ap₂ r.add (first (of_monomial n u a)) second
    where
      first : d (monomial r n u a) ≡ sum_to r n (λ i. multiple r (a i) (r.mul (monomial r n u (less i a)) (d (u i))))
          → r.mul (d (monomial r n u a)) (power r (u n) (a n)) ≡ sum_to r n (λ i. multiple r (a i) (r.mul (monomial r (suc n) u (less i a)) (d (u i))))
      first ih =
          ap (λ z. r.mul z (power r (u n) (a n))) ih
          ∙ sym (Sums.sum_to-mul_right r c n (λ i. multiple r (a i) (r.mul (monomial r n u (less i a)) (d (u i)))) (power r (u n) (a n)))
          ∙ Sums.sum_to-cong r n _ _ (λ i h.
          Sums.multiple-mul_left r c (a i) (r.mul (monomial r n u (less i a)) (d (u i))) (power r (u n) (a n))
          ∙ ap (multiple r (a i))
          (c.mul_assoc (monomial r n u (less i a)) (d (u i)) (power r (u n) (a n))
          ∙ ap (r.mul (monomial r n u (less i a))) (c.mul_comm (d (u i)) (power r (u n) (a n)))
          ∙ sym (c.mul_assoc (monomial r n u (less i a)) (power r (u n) (a n)) (d (u i)))
          ∙ ap (λ z. r.mul (r.mul (monomial r n u (less i a)) (power r (u n) z)) (d (u i))) (sym (less_other i n a (λ e. omega arith)))))

      second : r.mul (monomial r n u a) (d (power r (u n) (a n))) ≡ multiple r (a n) (r.mul (monomial r (suc n) u (less n a)) (d (u n)))
      second =
          ap (r.mul (monomial r n u a)) (of_power (u n) (a n))
          ∙ sym (Sums.multiple-mul r c (a n) (monomial r n u a) (r.mul (power r (u n) (a n - 1)) (d (u n))))
          ∙ ap (multiple r (a n))
          (sym (c.mul_assoc (monomial r n u a) (power r (u n) (a n - 1)) (d (u n)))
          ∙ ap₂ (λ y z. r.mul (r.mul y (power r (u n) z)) (d (u n)))
          (Sums.product_to-cong r n (λ i. power r (u i) (a i)) (λ i. power r (u i) (less n a i)) (λ i h. ap (power r (u i)) (sym (less_other n i a (λ e. omega arith)))))
          (sym (less_same n a)))
