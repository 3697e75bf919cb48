-- Substitution and cuts.
use mathlib.Core.Path.{fun_ext}
use Rattle.std.proofs.Common.{◌≡◌, ℕ, zero, suc, ◌+◌, ◌<◌, ap, sym, ◌∙◌, refl, subst, arith}
use Rattle.ring_theory.specs.Ring.{RingOps, IsCommRing}
use Rattle.poly_law.specs.Sums.{product_to, power, monomial}
use Rattle.poly_law.specs.Exps.{Exps, IsExps, nat_sum_to}
use Rattle.poly_law.specs.Poly.{Terms, coefficient, poly_ops, cut, Same, SameTo, StartsAt, monomial_of, subst_in}
use Rattle.poly_law.proofs.Pair
use Rattle.poly_law.proofs.Pair.{pair, at_only}
use Rattle.poly_law.proofs.Order
use Rattle.poly_law.proofs.Subst

-- products and powers of polynomials that start at a degree, and that agree up to a degree
module _ {F V : Type 0} (y : Exps F) (m : IsExps y) (r : RingOps V) (c : IsCommRing r) where
  starts_none : (f : Terms F V) → StartsAt y r 0 f
  starts_none f a h = absurd (omega arith)

  pub starts_power : (f : Terms F V) → StartsAt y r 1 f → (k : ℕ) → StartsAt y r k (power (poly_ops y r) f k)
  starts_power f s zero = starts_none (power (poly_ops y r) f 0)
  starts_power f s (suc k) = subst (λ z. StartsAt y r z (power (poly_ops y r) f (suc k))) (let e : k + 1 ≡ suc k = omega arith in e) (Order.starts_times y m r c k 1 (power (poly_ops y r) f k) f (starts_power f s k) s)

  pub starts_product : (n : ℕ) (w : ℕ → Terms F V) (a : ℕ → ℕ) → ((i : ℕ) → i < n → StartsAt y r (a i) (w i)) → StartsAt y r (nat_sum_to n a) (product_to (poly_ops y r) n w)
  starts_product zero w a h = starts_none (product_to (poly_ops y r) 0 w)
  starts_product (suc n) w a h = Order.starts_times y m r c (nat_sum_to n a) (a n) (product_to (poly_ops y r) n w) (w n) (starts_product n w a (λ i g. h i (omega arith))) (h n (omega arith))

  pub starts_monomial : (n : ℕ) (u : ℕ → Terms F V) (a : ℕ → ℕ) → ((i : ℕ) → i < n → StartsAt y r 1 (u i)) → StartsAt y r (nat_sum_to n a) (monomial (poly_ops y r) n u a)
  starts_monomial n u a h = starts_product n (λ i. power (poly_ops y r) (u i) (a i)) a λ i g. starts_power (u i) (h i g) (a i)

  power_same_to : (k : ℕ) (f g : Terms F V) → SameTo y r k f g → (e : ℕ) → SameTo y r k (power (poly_ops y r) f e) (power (poly_ops y r) g e)
  power_same_to k f g p zero = λ a h. refl
  power_same_to k f g p (suc e) = Order.times_same_to y m r c k (power (poly_ops y r) f e) (power (poly_ops y r) g e) f g (power_same_to k f g p e) p

  monomial_same_to : (k n : ℕ) (u v : ℕ → Terms F V) (a : ℕ → ℕ) → ((i : ℕ) → i < n → SameTo y r k (u i) (v i)) → SameTo y r k (monomial (poly_ops y r) n u a) (monomial (poly_ops y r) n v a)
  monomial_same_to k zero u v a p = λ b h. refl
  monomial_same_to k (suc n) u v a p =
      Order.times_same_to y m r c k (monomial (poly_ops y r) n u a) (monomial (poly_ops y r) n v a) (power (poly_ops y r) (u n) (a n)) (power (poly_ops y r) (v n) (a n))
      (monomial_same_to k n u v a (λ i g. p i (omega arith))) (power_same_to k (u n) (v n) (p n (omega arith)) (a n))

  power_near : (f g : Terms F V) → StartsAt y r 1 f → StartsAt y r 1 g → SameTo y r 1 f g → (e : ℕ) → SameTo y r e (power (poly_ops y r) f e) (power (poly_ops y r) g e)
  power_near f g s t p zero = λ a h. refl
  power_near f g s t p (suc e) = subst (λ z. SameTo y r z (power (poly_ops y r) f (suc e)) (power (poly_ops y r) g (suc e))) (let e : e + 1 ≡ suc e = omega arith in e)
      (Order.times_near y m r c e 1 (power (poly_ops y r) f e) (power (poly_ops y r) g e) f g (starts_power f s e) t (power_near f g s t p e) p)

  pub monomial_near : (n : ℕ) (u v : ℕ → Terms F V) (a : ℕ → ℕ) → ((i : ℕ) → i < n → StartsAt y r 1 (u i)) → ((i : ℕ) → i < n → StartsAt y r 1 (v i))
      → ((i : ℕ) → i < n → SameTo y r 1 (u i) (v i)) → SameTo y r (nat_sum_to n a) (monomial (poly_ops y r) n u a) (monomial (poly_ops y r) n v a)
  monomial_near zero u v a s t p = λ b h. refl
  monomial_near (suc n) u v a s t p =
      Order.times_near y m r c (nat_sum_to n a) (a n) (monomial (poly_ops y r) n u a) (monomial (poly_ops y r) n v a) (power (poly_ops y r) (u n) (a n)) (power (poly_ops y r) (v n) (a n))
      (starts_monomial n u a (λ i g. s i (omega arith))) (starts_power (v n) (t n (omega arith)) (a n))
      (monomial_near n u v a (λ i g. s i (omega arith)) (λ i g. t i (omega arith)) (λ i g. p i (omega arith)))
      (power_near (u n) (v n) (s n (omega arith)) (t n (omega arith)) (p n (omega arith)) (a n))

  power_near_by : (j : ℕ) (f g : Terms F V) → StartsAt y r 1 f → StartsAt y r 1 g → SameTo y r (1 + j) f g → (e : ℕ) → SameTo y r (e + j) (power (poly_ops y r) f e) (power (poly_ops y r) g e)
  power_near_by j f g s t p zero = λ a h. refl
  power_near_by j f g s t p (suc e) = subst (λ z. SameTo y r (z + j) (power (poly_ops y r) f (suc e)) (power (poly_ops y r) g (suc e))) (let e : e + 1 ≡ suc e = omega arith in e)
      (Order.times_near_by y m r c j e 1 (power (poly_ops y r) f e) (power (poly_ops y r) g e) f g (starts_power f s e) t (power_near_by j f g s t p e) p)

  pub monomial_near_by : (j n : ℕ) (u v : ℕ → Terms F V) (a : ℕ → ℕ) → ((i : ℕ) → i < n → StartsAt y r 1 (u i)) → ((i : ℕ) → i < n → StartsAt y r 1 (v i))
      → ((i : ℕ) → i < n → SameTo y r (1 + j) (u i) (v i)) → SameTo y r (nat_sum_to n a + j) (monomial (poly_ops y r) n u a) (monomial (poly_ops y r) n v a)
  monomial_near_by j zero u v a s t p = λ b h. refl
  monomial_near_by j (suc n) u v a s t p =
      Order.times_near_by y m r c j (nat_sum_to n a) (a n) (monomial (poly_ops y r) n u a) (monomial (poly_ops y r) n v a) (power (poly_ops y r) (u n) (a n)) (power (poly_ops y r) (v n) (a n))
      (starts_monomial n u a (λ i g. s i (omega arith))) (starts_power (v n) (t n (omega arith)) (a n))
      (monomial_near_by j n u v a (λ i g. s i (omega arith)) (λ i g. t i (omega arith)) (λ i g. p i (omega arith)))
      (power_near_by j (u n) (v n) (s n (omega arith)) (t n (omega arith)) (p n (omega arith)) (a n))

module _ {E F V : Type 0} (x : Exps E) (l : IsExps x) (y : Exps F) (m : IsExps y) (r : RingOps V) (c : IsCommRing r) (s : IsSet V) where
  pub coefficient-subst : (parts : ℕ → Terms F V) (f : Terms E V) (b : F) → coefficient y r (subst_in x y r parts f) b ≡ pair r f (λ a. coefficient y r (monomial_of x y r parts a) b)
  coefficient-subst parts f b =
      Pair.coefficient_is y r c (subst_in x y r parts f) b ∙ Subst.pair-subst x l y m r c s parts f (at_only y r b)
      ∙ ap (pair r f) (fun_ext λ a. sym (Pair.coefficient_is y r c (monomial_of x y r parts a) b))

  module _ (parts : ℕ → Terms F V) (no_constant : (i : ℕ) → i < x.count → StartsAt y r 1 (parts i)) where
    pub starts_subst : (d : ℕ) (f : Terms E V) → StartsAt x r d f → StartsAt y r d (subst_in x y r parts f)
    starts_subst d f t b h =
        coefficient-subst parts f b
        ∙ Order.pair_high_zero x l r c d f t (λ a. coefficient y r (monomial_of x y r parts a) b) λ a ha. starts_monomial y m r c x.count parts (x.at a) no_constant b (omega arith)

    -- up to degree k, only the terms of f up to degree k count
    pub subst_same_to : (k : ℕ) (f g : Terms E V) → SameTo x r k f g → SameTo y r k (subst_in x y r parts f) (subst_in x y r parts g)
    subst_same_to k f g p b h =
        coefficient-subst parts f b
        ∙ Order.pair_low x l r c k f g p (λ a. coefficient y r (monomial_of x y r parts a) b) (λ a ha. starts_monomial y m r c x.count parts (x.at a) no_constant b (omega arith))
        ∙ sym (coefficient-subst parts g b)

    pub cut-subst : (k : ℕ) (f : Terms E V) → Same y r (cut y r k (subst_in x y r parts f)) (cut y r k (subst_in x y r parts (cut x r k f)))
    cut-subst k f = Order.same-cut y m r c k (subst_in x y r parts f) (subst_in x y r parts (cut x r k f)) (subst_same_to k f (cut x r k f) (λ a h. sym (Order.cut_same_to x l r c k f a h)))

  -- and only the terms of the parts up to degree k
  pub parts_same_to : (k : ℕ) (u v : ℕ → Terms F V) → ((i : ℕ) → i < x.count → SameTo y r k (u i) (v i)) → (f : Terms E V) → SameTo y r k (subst_in x y r u f) (subst_in x y r v f)
  parts_same_to k u v p f b h =
      coefficient-subst u f b
      ∙ ap (pair r f) (fun_ext λ a. monomial_same_to y m r c k x.count u v (x.at a) p b h)
      ∙ sym (coefficient-subst v f b)
