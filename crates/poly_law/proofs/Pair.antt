-- The sum of coefficient times W over the terms: what every linear map of a polynomial is made of.
use mathlib.Core.Path.{fun_ext}
use Rattle.std.proofs.Common.{◌≡◌, [], ◌∷◌, ◌++◌, Bool, true, false, cond, ap, sym, ◌∙◌, refl, ap₂}
use Rattle.ring_theory.specs.Ring.{RingOps, IsCommRing}
use Rattle.poly_law.specs.Sums.{total}
use Rattle.poly_law.specs.Exps.{Exps, IsExps, plus, none, same}
use Rattle.poly_law.specs.Poly.{Terms, coefficient, scale, times_term, times, poly_ops, Same}
use Rattle.poly_law.proofs.Sums
use Rattle.poly_law.proofs.ExpLaws

abbrev pub pair : {E V : Type 0} → RingOps V → Terms E V → (E → V) → V
pair r f w = total r (λ t. r.mul t.1 (w t.0)) f

-- 1 at m and 0 elsewhere: the coefficient at m, as a pairing
abbrev pub at_only : {E V : Type 0} → Exps E → RingOps V → E → E → V
at_only x r m e = cond (same x e m) r.one r.zero

module _ {V : Type 0} (r : RingOps V) (c : IsCommRing r) where
  pub pair_swap : {E F : Type 0} (f : Terms E V) (g : Terms F V) (w : E → F → V)
      → pair r f (λ a. pair r g (λ b. w a b)) ≡ pair r g (λ b. pair r f (λ a. w a b))
  pair_swap f g w =
      ap (λ k. total r k f) (fun_ext λ s. sym (Sums.total-mul r c s.1 (λ t. r.mul t.1 (w s.0 t.0)) g))
      ∙ Sums.total-total r c (λ s t. r.mul s.1 (r.mul t.1 (w s.0 t.0))) f g
      ∙ ap (λ k. total r k g) (fun_ext λ t.
      ap (λ k. total r k f) (fun_ext λ s. Sums.mul_left_comm r c s.1 t.1 (w s.0 t.0))
      ∙ Sums.total-mul r c t.1 (λ s. r.mul s.1 (w s.0 t.0)) f)

  pub pair-add : {E : Type 0} (f : Terms E V) (v w : E → V) → pair r f (λ a. r.add (v a) (w a)) ≡ r.add (pair r f v) (pair r f w)
  pair-add f v w = ap (λ k. total r k f) (fun_ext λ t. Sums.distrib_left r c t.1 (v t.0) (w t.0)) ∙ Sums.total-add r c (λ t. r.mul t.1 (v t.0)) (λ t. r.mul t.1 (w t.0)) f

  pub pair-mul : {E : Type 0} (f : Terms E V) (a : V) (w : E → V) → pair r f (λ e. r.mul a (w e)) ≡ r.mul a (pair r f w)
  pair-mul f a w = ap (λ k. total r k f) (fun_ext λ t. Sums.mul_left_comm r c t.1 a (w t.0)) ∙ Sums.total-mul r c a (λ t. r.mul t.1 (w t.0)) f

  pub pair-append : {E : Type 0} (f g : Terms E V) (w : E → V) → pair r (f ++ g) w ≡ r.add (pair r f w) (pair r g w)
  pair-append f g w = Sums.total-append r c (λ t. r.mul t.1 (w t.0)) f g

module _ {E V : Type 0} (x : Exps E) (r : RingOps V) (c : IsCommRing r) where
  pub pair-scale : (a : V) (f : Terms E V) (w : E → V) → pair r (scale x r a f) w ≡ r.mul a (pair r f w)
  pair-scale a f w =
      Sums.total-map r c (λ t. r.mul t.1 (w t.0)) (λ t. (t.0, r.mul a t.1)) f
      ∙ ap (λ k. total r k f) (fun_ext λ t. c.mul_assoc a t.1 (w t.0))
      ∙ Sums.total-mul r c a (λ t. r.mul t.1 (w t.0)) f

  pub pair-neg : (f : Terms E V) (w : E → V) → pair r ((poly_ops x r).neg f) w ≡ r.neg (pair r f w)
  pair-neg f w =
      Sums.total-map r c (λ t. r.mul t.1 (w t.0)) (λ t. (t.0, r.neg t.1)) f
      ∙ ap (λ k. total r k f) (fun_ext λ t. Sums.neg_mul r c t.1 (w t.0))
      ∙ Sums.total-neg r c (λ t. r.mul t.1 (w t.0)) f

  pub pair-times : (f g : Terms E V) (w : E → V) → pair r (times x r f g) w ≡ pair r f (λ a. pair r g (λ b. w (plus x a b)))
  pair-times f g w =
      Sums.total-flat_map r c (λ t. r.mul t.1 (w t.0)) (λ s. times_term x r s g) f
      ∙ ap (λ k. total r k f) (fun_ext λ s.
      Sums.total-map r c (λ t. r.mul t.1 (w t.0)) (λ t. (plus x s.0 t.0, r.mul s.1 t.1)) g
      ∙ ap (λ k. total r k g) (fun_ext λ t. c.mul_assoc s.1 t.1 (w (plus x s.0 t.0)))
      ∙ Sums.total-mul r c s.1 (λ t. r.mul t.1 (w (plus x s.0 t.0))) g)

  pub coefficient_is : (f : Terms E V) (m : E) → coefficient x r f m ≡ pair r f (at_only x r m)
  coefficient_is f m = ap (λ k. total r k f) (fun_ext λ t. step (same x t.0 m) t.1)
    where
      step : (b : Bool) (a : V) → cond b a r.zero ≡ r.mul a (cond b r.one r.zero)
      step true a = sym (c.mul_one a)
      step false a = sym (Sums.mul_zero r c a)

module _ {E V : Type 0} (x : Exps E) (l : IsExps x) (r : RingOps V) (c : IsCommRing r) where
  -- w, but 0 at e; and 0 at each exponent of a list
  zero_at : E → (E → V) → E → V
  zero_at e w a = cond (same x a e) r.zero (w a)

  zero_at_all : Terms E V → (E → V) → E → V
  zero_at_all [] w = w
  zero_at_all (t ∷ f) w = zero_at_all f (zero_at t.0 w)

  split_at : (e : E) (w : E → V) (a : E) → w a ≡ r.add (zero_at e w a) (r.mul (w e) (at_only x r e a))
  unfolding zero_at
  split_at e w a = step (same x a e) refl
    where
      step : (b : Bool) → same x a e ≡ b → w a ≡ r.add (cond b r.zero (w a)) (r.mul (w e) (cond b r.one r.zero))
      step true h = ap w (ExpLaws.same-eq x l a e h) ∙ sym (Sums.zero_add r c (w e)) ∙ ap (r.add r.zero) (sym (c.mul_one (w e)))
      step false h = sym (c.add_zero (w a)) ∙ ap (r.add (w a)) (sym (Sums.mul_zero r c (w e)))

  pair-zero_at : (h : Terms E V) → ((m : E) → coefficient x r h m ≡ r.zero) → (e : E) (w : E → V) → pair r h w ≡ pair r h (zero_at e w)
  pair-zero_at h none e w =
      ap (pair r h) (fun_ext λ a. split_at e w a)
      ∙ pair-add r c h (zero_at e w) (λ a. r.mul (w e) (at_only x r e a))
      ∙ ap (r.add (pair r h (zero_at e w))) (pair-mul r c h (w e) (at_only x r e) ∙ ap (r.mul (w e)) (sym (coefficient_is x r c h e) ∙ none e) ∙ Sums.mul_zero r c (w e))
      ∙ c.add_zero (pair r h (zero_at e w))

  pair-zero_at_all : (h : Terms E V) → ((m : E) → coefficient x r h m ≡ r.zero) → (f : Terms E V) (w : E → V) → pair r h w ≡ pair r h (zero_at_all f w)
  unfolding zero_at_all
  pair-zero_at_all h z [] w = refl
  pair-zero_at_all h z (t ∷ f) w = pair-zero_at h z t.0 w ∙ pair-zero_at_all h z f (zero_at t.0 w)

  zero_stays : (f : Terms E V) (w : E → V) (a : E) → w a ≡ r.zero → zero_at_all f w a ≡ r.zero
  unfolding zero_at_all zero_at
  zero_stays [] w a z = z
  zero_stays (t ∷ f) w a z = zero_stays f (zero_at t.0 w) a (step (same x a t.0))
    where
      step : (b : Bool) → cond b r.zero (w a) ≡ r.zero
      step true = refl
      step false = z

  zero_there : (f : Terms E V) (w : E → V) → pair r f (zero_at_all f w) ≡ r.zero
  unfolding zero_at_all zero_at
  zero_there [] w = refl
  zero_there (t ∷ f) w =
      ap₂ r.add
      (ap (r.mul t.1) (zero_stays f (zero_at t.0 w) t.0 (ap (λ b. cond b r.zero (w t.0)) (ExpLaws.same_refl x l t.0))) ∙ Sums.mul_zero r c t.1)
      (zero_there f (zero_at t.0 w))
      ∙ c.add_zero r.zero

  -- a polynomial whose coefficients are all 0 pairs to 0, and two with the same coefficients pair alike
  pub pair_nothing : (h : Terms E V) → ((m : E) → coefficient x r h m ≡ r.zero) → (w : E → V) → pair r h w ≡ r.zero
  pair_nothing h none w = pair-zero_at_all h none h w ∙ zero_there h w

  pub pair_same : (f g : Terms E V) → Same x r f g → (w : E → V) → pair r f w ≡ pair r g w
  pair_same f g e w = Sums.equal_from_sub r c (pair r f w) (pair r g w)
      (ap (r.add (pair r f w)) (sym (pair-neg x r c g w)) ∙ sym (pair-append r c f ((poly_ops x r).neg g) w)
      ∙ pair_nothing (f ++ (poly_ops x r).neg g) none w)
    where
      none : (m : E) → coefficient x r (f ++ (poly_ops x r).neg g) m ≡ r.zero
      none m =
          coefficient_is x r c (f ++ (poly_ops x r).neg g) m ∙ pair-append r c f ((poly_ops x r).neg g) (at_only x r m)
          ∙ ap₂ r.add (sym (coefficient_is x r c f m) ∙ e m) (pair-neg x r c g (at_only x r m) ∙ ap r.neg (sym (coefficient_is x r c g m)))
          ∙ c.add_neg (coefficient x r g m)

  pub same_from_pair : (f g : Terms E V) → ((w : E → V) → pair r f w ≡ pair r g w) → Same x r f g
  same_from_pair f g e m = coefficient_is x r c f m ∙ e (at_only x r m) ∙ sym (coefficient_is x r c g m)
