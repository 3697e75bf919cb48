-- What stands below a degree: cuts, and polynomials that start at a degree.
use mathlib.Core.Path.{fun_ext}
use Rattle.std.proofs.Common.{◌≡◌, ℕ, zero, suc, ◌+◌, ◌<◌, ◌≤◌, ◌++◌, filter, Bool, true, false, cond, leb, leb-true, leb-false, le-leb, ap, sym, ◌∙◌, refl, ap₂, arith}
use Rattle.ring_theory.specs.Ring.{RingOps, IsCommRing}
use Rattle.poly_law.specs.Sums.{total, multiple}
use Rattle.poly_law.specs.Exps.{Exps, IsExps, plus, lower, same, degree}
use Rattle.poly_law.specs.Poly.{Terms, coefficient, times, poly_ops, derivative, cut, Same, SameTo, StartsAt}
use Rattle.poly_law.proofs.Sums
use Rattle.poly_law.proofs.ExpLaws
use Rattle.poly_law.proofs.Pair
use Rattle.poly_law.proofs.Pair.{pair, at_only}
use Rattle.poly_law.proofs.Derivation.{multiple_when}
use Rattle.poly_law.proofs.Derivative
use Rattle.poly_law.proofs.Derivative.{slope}

module _ {E V : Type 0} (x : Exps E) (l : IsExps x) (r : RingOps V) (c : IsCommRing r) where
  cond_none : (b : Bool) → cond b r.zero r.zero ≡ r.zero
  cond_none true = refl
  cond_none false = refl

  total-cond : (b : Bool) (w : E × V → V) (f : Terms E V) → total r (λ t. cond b (w t) r.zero) f ≡ cond b (total r w f) r.zero
  total-cond true w f = refl
  total-cond false w f = Sums.total-zero r c f

  -- a filter by the exponent
  pub coefficient-filter : (p : E → Bool) (f : Terms E V) (m : E) → coefficient x r (filter (λ t. p t.0) f) m ≡ cond (p m) (coefficient x r f m) r.zero
  coefficient-filter p f m =
      Sums.total-filter r c (λ t. cond (same x t.0 m) t.1 r.zero) (λ t. p t.0) f
      ∙ ap (λ k. total r k f) (fun_ext λ t. step t (same x t.0 m) refl)
      ∙ total-cond (p m) (λ t. cond (same x t.0 m) t.1 r.zero) f
    where
      step : (t : E × V) (b : Bool) → same x t.0 m ≡ b → cond (p t.0) (cond b t.1 r.zero) r.zero ≡ cond (p m) (cond b t.1 r.zero) r.zero
      step t true e = ap (λ a. cond (p a) t.1 r.zero) (ExpLaws.same-eq x l t.0 m e)
      step t false e = cond_none (p t.0) ∙ sym (cond_none (p m))

  pub coefficient-cut : (k : ℕ) (f : Terms E V) (m : E) → coefficient x r (cut x r k f) m ≡ cond (leb (degree x m) k) (coefficient x r f m) r.zero
  coefficient-cut k f m = coefficient-filter (λ a. leb (degree x a) k) f m

  pub cut_same_to : (k : ℕ) (f : Terms E V) → SameTo x r k (cut x r k f) f
  cut_same_to k f m h = coefficient-cut k f m ∙ ap (λ b. cond b (coefficient x r f m) r.zero) (le-leb (degree x m) k h)

  -- the same up to k: the same cuts at k
  pub same-cut : (k : ℕ) (f g : Terms E V) → SameTo x r k f g → Same x r (cut x r k f) (cut x r k g)
  same-cut k f g e m = coefficient-cut k f m ∙ step (leb (degree x m) k) refl ∙ sym (coefficient-cut k g m)
    where
      step : (b : Bool) → leb (degree x m) k ≡ b → cond b (coefficient x r f m) r.zero ≡ cond b (coefficient x r g m) r.zero
      step true h = e m (leb-true (degree x m) k h)
      step false h = refl

  pub keep_high : (d : ℕ) (f : Terms E V) → StartsAt x r d f → Same x r f (filter (λ t. leb d (degree x t.0)) f)
  keep_high d f s m = step (leb d (degree x m)) refl ∙ sym (coefficient-filter (λ a. leb d (degree x a)) f m)
    where
      step : (b : Bool) → leb d (degree x m) ≡ b → coefficient x r f m ≡ cond b (coefficient x r f m) r.zero
      step true h = refl
      step false h = s m (leb-false d (degree x m) h)

  -- what starts at d pairs alike with what is alike from degree d on
  pub pair_high : (d : ℕ) (f : Terms E V) → StartsAt x r d f → (v w : E → V) → ((a : E) → d ≤ degree x a → v a ≡ w a) → pair r f v ≡ pair r f w
  pair_high d f s v w e =
      Pair.pair_same x l r c f (filter (λ t. leb d (degree x t.0)) f) (keep_high d f s) v
      ∙ Sums.total-filter r c (λ t. r.mul t.1 (v t.0)) (λ t. leb d (degree x t.0)) f
      ∙ ap (λ k. total r k f) (fun_ext λ t. step t (leb d (degree x t.0)) refl)
      ∙ sym (Sums.total-filter r c (λ t. r.mul t.1 (w t.0)) (λ t. leb d (degree x t.0)) f)
      ∙ sym (Pair.pair_same x l r c f (filter (λ t. leb d (degree x t.0)) f) (keep_high d f s) w)
    where
      step : (t : E × V) (b : Bool) → leb d (degree x t.0) ≡ b → cond b (r.mul t.1 (v t.0)) r.zero ≡ cond b (r.mul t.1 (w t.0)) r.zero
      step t true h = ap (r.mul t.1) (e t.0 (leb-true d (degree x t.0) h))
      step t false h = refl

  pub pair-zero : (f : Terms E V) → pair r f (λ a. r.zero) ≡ r.zero
  pair-zero f = ap (λ k. total r k f) (fun_ext λ t. Sums.mul_zero r c t.1) ∙ Sums.total-zero r c f

  pub pair_high_zero : (d : ℕ) (f : Terms E V) → StartsAt x r d f → (w : E → V) → ((a : E) → d ≤ degree x a → w a ≡ r.zero) → pair r f w ≡ r.zero
  pair_high_zero d f s w e = pair_high d f s w (λ a. r.zero) e ∙ pair-zero f

  -- coefficients of sums and negatives
  pub coefficient-append : (f g : Terms E V) (m : E) → coefficient x r (f ++ g) m ≡ r.add (coefficient x r f m) (coefficient x r g m)
  coefficient-append f g m = Sums.total-append r c (λ t. cond (same x t.0 m) t.1 r.zero) f g

  pub coefficient-neg : (f : Terms E V) (m : E) → coefficient x r ((poly_ops x r).neg f) m ≡ r.neg (coefficient x r f m)
  coefficient-neg f m = Pair.coefficient_is x r c ((poly_ops x r).neg f) m ∙ Pair.pair-neg x r c f (at_only x r m) ∙ ap r.neg (sym (Pair.coefficient_is x r c f m))

  pub starts_append : (d : ℕ) (f g : Terms E V) → StartsAt x r d f → StartsAt x r d g → StartsAt x r d (f ++ g)
  starts_append d f g s t m h = coefficient-append f g m ∙ ap₂ r.add (s m h) (t m h) ∙ c.add_zero r.zero

  pub starts_neg : (d : ℕ) (f : Terms E V) → StartsAt x r d f → StartsAt x r d ((poly_ops x r).neg f)
  starts_neg d f s m h = coefficient-neg f m ∙ ap r.neg (s m h) ∙ Sums.neg_zero r c

  -- the same up to degree k is a difference that starts at k + 1
  pub difference_starts : (k : ℕ) (f g : Terms E V) → SameTo x r k f g → StartsAt x r (suc k) (f ++ (poly_ops x r).neg g)
  difference_starts k f g e m h = coefficient-append f ((poly_ops x r).neg g) m ∙ ap₂ r.add (e m (omega arith)) (coefficient-neg g m) ∙ c.add_neg (coefficient x r g m)

  pub same_to_from_difference : (k : ℕ) (f g : Terms E V) → StartsAt x r (suc k) (f ++ (poly_ops x r).neg g) → SameTo x r k f g
  same_to_from_difference k f g s m h =
      Sums.equal_from_sub r c (coefficient x r f m) (coefficient x r g m) (ap (r.add (coefficient x r f m)) (sym (coefficient-neg g m)) ∙ sym (coefficient-append f ((poly_ops x r).neg g) m) ∙ s m (omega arith))

  pub pair_low : (k : ℕ) (f g : Terms E V) → SameTo x r k f g → (w : E → V) → ((a : E) → k < degree x a → w a ≡ r.zero) → pair r f w ≡ pair r g w
  pair_low k f g e w h = Sums.equal_from_sub r c (pair r f w) (pair r g w)
      (ap (r.add (pair r f w)) (sym (Pair.pair-neg x r c g w)) ∙ sym (Pair.pair-append r c f ((poly_ops x r).neg g) w)
      ∙ pair_high_zero (suc k) (f ++ (poly_ops x r).neg g) (difference_starts k f g e) w h)

  pub at_only_high : (m a : E) → degree x m < degree x a → at_only x r m a ≡ r.zero
  at_only_high m a h = ap (λ b. cond b r.one r.zero) (ExpLaws.same-no x l a m (λ e. let e' : degree x a ≡ degree x m = ap (degree x) e in omega arith))

  pub coefficient-times : (f g : Terms E V) (m : E) → coefficient x r (times x r f g) m ≡ pair r f (λ a. pair r g (λ b. at_only x r m (plus x a b)))
  coefficient-times f g m = Pair.coefficient_is x r c (times x r f g) m ∙ Pair.pair-times x r c f g (at_only x r m)

  -- the powers of the ideal
  pub starts_times : (d e : ℕ) (f g : Terms E V) → StartsAt x r d f → StartsAt x r e g → StartsAt x r (d + e) (times x r f g)
  starts_times d e f g s t m h =
      coefficient-times f g m
      ∙ pair_high_zero d f s (λ a. pair r g (λ b. at_only x r m (plus x a b))) λ a ha.
      pair_high_zero e g t (λ b. at_only x r m (plus x a b)) λ b hb.
      at_only_high m (plus x a b) (let e = ExpLaws.degree-plus x l a b in omega arith)

  pub starts_derivative : (j d : ℕ) (f : Terms E V) → j < x.count → StartsAt x r (suc d) f → StartsAt x r d (derivative x r j f)
  starts_derivative j d f g s m h =
      Pair.coefficient_is x r c (derivative x r j f) m ∙ Derivative.pair-derivative x l r c j f (at_only x r m)
      ∙ pair_high_zero (suc d) f s (slope x l r c j (at_only x r m)) λ a ha.
      multiple_when r (x.at a j) (at_only x r m (lower x j a)) r.zero (λ p. at_only_high m (lower x j a) (let e = ExpLaws.degree-lower x l j a p g in omega arith))
      ∙ multiple-zero (x.at a j)
    where
      multiple-zero : (k : ℕ) → multiple r k r.zero ≡ r.zero
      multiple-zero zero = refl
      multiple-zero (suc k) = ap (λ z. r.add z r.zero) (multiple-zero k) ∙ c.add_zero r.zero

  -- products that agree: in the lowest degree, and up to a degree
  pub times_near : (d e : ℕ) (f f' g g' : Terms E V) → StartsAt x r d f → StartsAt x r e g' → SameTo x r d f f' → SameTo x r e g g'
      → SameTo x r (d + e) (times x r f g) (times x r f' g')
  times_near d e f f' g g' s t p q m h =
      coefficient-times f g m
      ∙ pair_high d f s (λ a. pair r g (λ b. w a b)) (λ a. pair r g' (λ b. w a b)) (λ a ha. pair_low e g g' q (λ b. w a b) λ b hb. at_only_high m (plus x a b) (let e = ExpLaws.degree-plus x l a b in omega arith))
      ∙ Pair.pair_swap r c f g' w
      ∙ pair_high e g' t (λ b. pair r f (λ a. w a b)) (λ b. pair r f' (λ a. w a b)) (λ b hb. pair_low d f f' p (λ a. w a b) λ a ha. at_only_high m (plus x a b) (let e = ExpLaws.degree-plus x l a b in omega arith))
      ∙ sym (Pair.pair_swap r c f' g' w)
      ∙ sym (coefficient-times f' g' m)
    where
      w : E → E → V
      w a b = at_only x r m (plus x a b)

  -- the same, j degrees further up
  pub times_near_by : (j d e : ℕ) (f f' g g' : Terms E V) → StartsAt x r d f → StartsAt x r e g' → SameTo x r (d + j) f f' → SameTo x r (e + j) g g'
      → SameTo x r (d + e + j) (times x r f g) (times x r f' g')
  times_near_by j d e f f' g g' s t p q m h =
      coefficient-times f g m
      ∙ pair_high d f s (λ a. pair r g (λ b. w a b)) (λ a. pair r g' (λ b. w a b)) (λ a ha. pair_low (e + j) g g' q (λ b. w a b) λ b hb. at_only_high m (plus x a b) (let e = ExpLaws.degree-plus x l a b in omega arith))
      ∙ Pair.pair_swap r c f g' w
      ∙ pair_high e g' t (λ b. pair r f (λ a. w a b)) (λ b. pair r f' (λ a. w a b)) (λ b hb. pair_low (d + j) f f' p (λ a. w a b) λ a ha. at_only_high m (plus x a b) (let e = ExpLaws.degree-plus x l a b in omega arith))
      ∙ sym (Pair.pair_swap r c f' g' w)
      ∙ sym (coefficient-times f' g' m)
    where
      w : E → E → V
      w a b = at_only x r m (plus x a b)

  pub times_same_to : (k : ℕ) (f f' g g' : Terms E V) → SameTo x r k f f' → SameTo x r k g g' → SameTo x r k (times x r f g) (times x r f' g')
  times_same_to k f f' g g' p q m h =
      coefficient-times f g m
      ∙ pair_low k f f' p (λ a. pair r g (λ b. w a b)) (λ a ha. ap (pair r g) (fun_ext λ b. at_only_high m (plus x a b) (let e = ExpLaws.degree-plus x l a b in omega arith)) ∙ pair-zero g)
      ∙ Pair.pair_swap r c f' g w
      ∙ pair_low k g g' q (λ b. pair r f' (λ a. w a b)) (λ b hb. ap (pair r f') (fun_ext λ a. at_only_high m (plus x a b) (let e = ExpLaws.degree-plus x l a b in omega arith)) ∙ pair-zero f')
      ∙ sym (Pair.pair_swap r c f' g' w)
      ∙ sym (coefficient-times f' g' m)
    where
      w : E → E → V
      w a b = at_only x r m (plus x a b)

  -- a product cut at k needs its factors up to k only
  pub cut-times : (k : ℕ) (f g : Terms E V) → Same x r (cut x r k (times x r f g)) (cut x r k (times x r (cut x r k f) (cut x r k g)))
  cut-times k f g = same-cut k (times x r f g) (times x r (cut x r k f) (cut x r k g))
      (times_same_to k f (cut x r k f) g (cut x r k g) (λ m h. sym (cut_same_to k f m h)) (λ m h. sym (cut_same_to k g m h)))
