-- A ring with a filtration by order: Ord d a says that a has no terms below degree d.
use Rattle.std.proofs.Common.{◌≡◌, ℕ, zero, suc, ◌+◌, ◌<◌, ◌≤◌, ap, sym, ◌∙◌, refl, arith, subst}
use Rattle.ring_theory.specs.Ring.{RingOps, IsCommRing}
use Rattle.poly_law.specs.Sums.{sum_to}
use Rattle.poly_law.proofs.Sums

pub record IsFiltration {A : Type 0} (r : RingOps A) (Ord : ℕ → A → Type 0) : Type 0 where
  pub zero_in : (d : ℕ) → Ord d r.zero
  pub add_in : (d : ℕ) (a b : A) → Ord d a → Ord d b → Ord d (r.add a b)
  pub neg_in : (d : ℕ) (a : A) → Ord d a → Ord d (r.neg a)
  pub mul_in : (d e : ℕ) (a b : A) → Ord d a → Ord e b → Ord (d + e) (r.mul a b)
  pub lower_in : (d e : ℕ) (a : A) → e ≤ d → Ord d a → Ord e a

module _ {A : Type 0} (r : RingOps A) (c : IsCommRing r) (Ord : ℕ → A → Type 0) (o : IsFiltration r Ord) where
  -- equal up to terms of degree d and more
  abbrev pub Close : ℕ → A → A → Type 0
  Close d a b = Ord d (r.add a (r.neg b))

  pub close_path : (d : ℕ) (a b : A) → a ≡ b → Close d a b
  close_path d a b e = subst (Ord d) (sym (c.add_neg b) ∙ ap (λ z. r.add z (r.neg b)) (sym e)) (o.zero_in d)

  pub close_sym : (d : ℕ) (a b : A) → Close d a b → Close d b a
  close_sym d a b h = subst (Ord d) step (o.neg_in d (r.add a (r.neg b)) h)
    where
      step : r.neg (r.add a (r.neg b)) ≡ r.add b (r.neg a)
      step =
          Sums.neg_add r c a (r.neg b)
          ∙ ap (r.add (r.neg a)) (sym (Sums.neg_unique r c (r.neg b) b (c.add_comm (r.neg b) b ∙ c.add_neg b)))
          ∙ c.add_comm (r.neg a) b

  -- (a - b) + (b - e) is a - e
  sub-sub : (a b e : A) → r.add (r.add a (r.neg b)) (r.add b (r.neg e)) ≡ r.add a (r.neg e)
  sub-sub a b e =
      c.add_assoc a (r.neg b) (r.add b (r.neg e))
      ∙ ap (r.add a) (sym (c.add_assoc (r.neg b) b (r.neg e)) ∙ ap (λ z. r.add z (r.neg e)) (c.add_comm (r.neg b) b ∙ c.add_neg b) ∙ Sums.zero_add r c (r.neg e))

  pub close_trans : (d : ℕ) (a b e : A) → Close d a b → Close d b e → Close d a e
  close_trans d a b e h k = subst (Ord d) (sub-sub a b e) (o.add_in d (r.add a (r.neg b)) (r.add b (r.neg e)) h k)

  pub close_down : (d e : ℕ) (a b : A) → e ≤ d → Close d a b → Close e a b
  close_down d e a b g h = o.lower_in d e (r.add a (r.neg b)) g h

  pub close_add : (d : ℕ) (a b a' b' : A) → Close d a a' → Close d b b' → Close d (r.add a b) (r.add a' b')
  close_add d a b a' b' h k =
      subst (Ord d) (Sums.add_swap r c a (r.neg a') b (r.neg b') ∙ ap (r.add (r.add a b)) (sym (Sums.neg_add r c a' b')))
      (o.add_in d (r.add a (r.neg a')) (r.add b (r.neg b')) h k)

  pub close_neg : (d : ℕ) (a a' : A) → Close d a a' → Close d (r.neg a) (r.neg a')
  close_neg d a a' h = subst (Ord d) (Sums.neg_add r c a (r.neg a')) (o.neg_in d (r.add a (r.neg a')) h)

  pub close_mul : (d e : ℕ) (a b b' : A) → Ord d a → Close e b b' → Close (d + e) (r.mul a b) (r.mul a b')
  close_mul d e a b b' h k =
      subst (Ord (d + e)) (Sums.distrib_left r c a b (r.neg b') ∙ ap (r.add (r.mul a b)) (Sums.mul_neg r c a b')) (o.mul_in d e a (r.add b (r.neg b')) h k)

  pub close_mul_left : (d e : ℕ) (a a' b : A) → Close d a a' → Ord e b → Close (e + d) (r.mul a b) (r.mul a' b)
  close_mul_left d e a a' b h k =
      subst (λ z. Ord (e + d) (r.add z (r.neg (r.mul a' b)))) (c.mul_comm b a)
      (subst (λ z. Ord (e + d) (r.add (r.mul b a) (r.neg z))) (c.mul_comm b a') (close_mul e d b a a' k h))

  pub close_sum_to : (d n : ℕ) (v w : ℕ → A) → ((i : ℕ) → i < n → Close d (v i) (w i)) → Close d (sum_to r n v) (sum_to r n w)
  close_sum_to d zero v w h = close_path d r.zero r.zero refl
  close_sum_to d (suc n) v w h = close_add d (sum_to r n v) (v n) (sum_to r n w) (w n) (close_sum_to d n v w (λ i g. h i (omega arith))) (h n (omega arith))

  pub sum_to_in : (d n : ℕ) (w : ℕ → A) → ((i : ℕ) → i < n → Ord d (w i)) → Ord d (sum_to r n w)
  sum_to_in d zero w h = o.zero_in d
  sum_to_in d (suc n) w h = o.add_in d (sum_to r n w) (w n) (sum_to_in d n w (λ i g. h i (omega arith))) (h n (omega arith))

  pub close_zero : (d : ℕ) (a : A) → Ord d a → Close d a r.zero
  close_zero d a h = subst (Ord d) (sym (ap (r.add a) (Sums.neg_zero r c) ∙ c.add_zero a)) h

  pub in_from_close : (d : ℕ) (a b : A) → Close d a b → Ord d a → Ord d b
  in_from_close d a b h k = subst (Ord d) step (o.add_in d (r.add b (r.neg a)) a (close_sym d a b h) k)
    where
      step : r.add (r.add b (r.neg a)) a ≡ b
      step = c.add_assoc b (r.neg a) a ∙ ap (r.add b) (c.add_comm (r.neg a) a ∙ c.add_neg a) ∙ c.add_zero b
