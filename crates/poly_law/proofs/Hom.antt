-- A map of rings takes powers, products and sums to such.
use Rattle.std.proofs.Common.{◌≡◌, ℕ, zero, suc, ap, sym, ◌∙◌, refl}
use Rattle.ring_theory.specs.Ring.{RingOps, IsCommRing}
use Rattle.poly_law.specs.Sums.{sum_to, product_to, power, multiple, monomial}
use Rattle.poly_law.proofs.Sums

pub record IsHom {A B : Type 0} (r : RingOps A) (s : RingOps B) (h : A → B) : Type 0 where
  pub of_zero : h r.zero ≡ s.zero
  pub of_one : h r.one ≡ s.one
  pub of_add : (a b : A) → h (r.add a b) ≡ s.add (h a) (h b)
  pub of_mul : (a b : A) → h (r.mul a b) ≡ s.mul (h a) (h b)

module _ {A B : Type 0} (r : RingOps A) (s : RingOps B) (h : A → B) (q : IsHom r s h) where
  pub of_power : (a : A) (k : ℕ) → h (power r a k) ≡ power s (h a) k
  of_power a zero = q.of_one
  of_power a (suc k) = q.of_mul (power r a k) a ∙ ap (λ z. s.mul z (h a)) (of_power a k)

  pub of_product_to : (n : ℕ) (w : ℕ → A) → h (product_to r n w) ≡ product_to s n (λ i. h (w i))
  of_product_to zero w = q.of_one
  of_product_to (suc n) w = q.of_mul (product_to r n w) (w n) ∙ ap (λ z. s.mul z (h (w n))) (of_product_to n w)

  pub of_monomial : (n : ℕ) (u : ℕ → A) (a : ℕ → ℕ) → h (monomial r n u a) ≡ monomial s n (λ i. h (u i)) a
  of_monomial n u a =
      of_product_to n (λ i. power r (u i) (a i)) ∙ Sums.product_to-cong s n (λ i. h (power r (u i) (a i))) (λ i. power s (h (u i)) (a i)) (λ i g. of_power (u i) (a i))

  pub of_sum_to : (n : ℕ) (w : ℕ → A) → h (sum_to r n w) ≡ sum_to s n (λ i. h (w i))
  of_sum_to zero w = q.of_zero
  of_sum_to (suc n) w = q.of_add (sum_to r n w) (w n) ∙ ap (λ z. s.add z (h (w n))) (of_sum_to n w)

  pub of_multiple : (k : ℕ) (a : A) → h (multiple r k a) ≡ multiple s k (h a)
  of_multiple zero a = q.of_zero
  of_multiple (suc k) a = q.of_add (multiple r k a) a ∙ ap (λ z. s.add z (h a)) (of_multiple k a)

module _ {A B : Type 0} (r : RingOps A) (s : RingOps B) (c : IsCommRing r) (c' : IsCommRing s) (h : A → B) (q : IsHom r s h) where
  pub of_neg : (a : A) → h (r.neg a) ≡ s.neg (h a)
  of_neg a = Sums.neg_unique s c' (h a) (h (r.neg a)) (sym (q.of_add a (r.neg a)) ∙ ap h (c.add_neg a) ∙ q.of_zero)

  pub of_sub : (a b : A) → h (r.add a (r.neg b)) ≡ s.add (h a) (s.neg (h b))
  of_sub a b = q.of_add a (r.neg b) ∙ ap (s.add (h a)) (of_neg b)

pub product_to-one : {A : Type 0} (r : RingOps A) (c : IsCommRing r) (n : ℕ) → product_to r n (λ i. r.one) ≡ r.one
product_to-one r c zero = refl
product_to-one r c (suc n) = ap (λ z. r.mul z r.one) (product_to-one r c n) ∙ c.mul_one r.one
