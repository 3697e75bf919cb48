-- A functional excludes rows.
use mathlib.Core.Path.{fun_ext}
use Rattle.std.proofs.Common.{◌≡◌, ℕ, zero, suc, ◌+◌, ◌<◌, ◌++◌, Bool, true, false, cond, leb, leb-false, ap, sym, ◌∙◌, refl, ap₂, arith}
use Rattle.ring_theory.specs.Ring.{RingOps, IsCommRing}
use Rattle.poly_law.specs.Sums.{total, sum_to}
use Rattle.poly_law.specs.Exps.{Exps, IsExps, plus, degree}
use Rattle.poly_law.specs.Poly.{Terms, coefficient, times, poly_ops, derivative, cut, Same, term, combination, MatherRow, value_on, MatherFails}
use Rattle.poly_law.proofs.ExpLaws
use Rattle.poly_law.proofs.Pair
use Rattle.poly_law.proofs.Pair.{pair, at_only}
use Rattle.poly_law.proofs.Order
use Rattle.poly_law.proofs.Near

module _ {E V : Type 0} (x : Exps E) (l : IsExps x) (r : RingOps V) (c : IsCommRing r) (s : IsSet V) where
  value_same : (values f g : Terms E V) → Same x r f g → value_on x r values f ≡ value_on x r values g
  value_same values f g e = ap (λ k. total r k values) (fun_ext λ t. ap (r.mul t.1) (e t.0))

  -- the value on a product, cut, by the terms of the first factor
  value_times : (k : ℕ) (values f g : Terms E V) → value_on x r values (cut x r k (times x r f g)) ≡ pair r f (λ a. value_on x r values (cut x r k (times x r (term x r a) g)))
  value_times k values f g =
      ap (λ w. pair r values w) (fun_ext λ e. coefficient_is e)
      ∙ Pair.pair_swap r c values f (λ e a. coefficient x r (cut x r k (times x r (term x r a) g)) e)
    where
      of_term : (e a : E) → coefficient x r (cut x r k (times x r (term x r a) g)) e ≡ cond (leb (degree x e) k) (pair r g (λ b. at_only x r e (plus x a b))) r.zero
      of_term e a = Order.coefficient-cut x l r c k (times x r (term x r a) g) e
          ∙ ap (λ z. cond (leb (degree x e) k) z r.zero) (Order.coefficient-times x l r c (term x r a) g e ∙ Near.pair-term x l r c s a (λ a. pair r g (λ b. at_only x r e (plus x a b))))

      pulled : (b : Bool) (w : E → V) → cond b (pair r f w) r.zero ≡ pair r f (λ a. cond b (w a) r.zero)
      pulled true w = refl
      pulled false w = sym (Order.pair-zero x l r c f)

      coefficient_is : (e : E) → coefficient x r (cut x r k (times x r f g)) e ≡ pair r f (λ a. coefficient x r (cut x r k (times x r (term x r a) g)) e)
      coefficient_is e =
          Order.coefficient-cut x l r c k (times x r f g) e
          ∙ ap (λ z. cond (leb (degree x e) k) z r.zero) (Order.coefficient-times x l r c f g e)
          ∙ pulled (leb (degree x e) k) (λ a. pair r g (λ b. at_only x r e (plus x a b)))
          ∙ ap (pair r f) (fun_ext λ a. sym (of_term e a))

  value-append : (k : ℕ) (values f g : Terms E V) → value_on x r values (cut x r k (f ++ g)) ≡ r.add (value_on x r values (cut x r k f)) (value_on x r values (cut x r k g))
  value-append k values f g =
      ap (λ w. pair r values w) (fun_ext λ e.
      Order.coefficient-cut x l r c k (f ++ g) e ∙ ap (λ z. cond (leb (degree x e) k) z r.zero) (Order.coefficient-append x l r c f g e) ∙ both (leb (degree x e) k) (coefficient x r f e) (coefficient x r g e)
      ∙ ap₂ r.add (sym (Order.coefficient-cut x l r c k f e)) (sym (Order.coefficient-cut x l r c k g e)))
      ∙ Pair.pair-add r c values (λ e. coefficient x r (cut x r k f) e) (λ e. coefficient x r (cut x r k g) e)
    where
      both : (b : Bool) (u v : V) → cond b (r.add u v) r.zero ≡ r.add (cond b u r.zero) (cond b v r.zero)
      both true u v = refl
      both false u v = sym (c.add_zero r.zero)

  value-sum_to : (k n : ℕ) (values : Terms E V) (w : ℕ → Terms E V) → ((i : ℕ) → i < n → value_on x r values (cut x r k (w i)) ≡ r.zero) → value_on x r values (cut x r k (sum_to (poly_ops x r) n w)) ≡ r.zero
  value-sum_to k zero values w h = Order.pair-zero x l r c values
  value-sum_to k (suc n) values w h =
      value-append k values (sum_to (poly_ops x r) n w) (w n) ∙ ap₂ r.add (value-sum_to k n values w (λ i g. h i (omega arith))) (h n (omega arith)) ∙ c.add_zero r.zero

  -- no row where the functional is
  pub no_row : (k : ℕ) (g values : Terms E V) (m : E) → MatherFails x r k g values m → MatherRow x r k g m → r.zero ≡ r.one
  no_row k g values m q w =
      sym (value-sum_to (k + 1) x.count values (λ i. times x r (w.multiplier i) (derivative x r i g)) λ i h.
      value_times (k + 1) values (w.multiplier i) (derivative x r i g)
      ∙ Order.pair_high_zero x l r c 2 (w.multiplier i) (w.is_row.order_two i h) (λ a. value_on x r values (cut x r (k + 1) (times x r (term x r a) (derivative x r i g)))) (λ a e. q.zero_on a i e h))
      ∙ value_same values (cut x r (k + 1) (combination x r w.multiplier g)) (cut x r (k + 1) (term x r m)) (Order.same-cut x l r c (k + 1) (combination x r w.multiplier g) (term x r m) w.is_row.adds_up)
      ∙ value_same values (cut x r (k + 1) (term x r m)) (term x r m) whole
      ∙ q.one_on
    where
      whole : Same x r (cut x r (k + 1) (term x r m)) (term x r m)
      whole e = Order.coefficient-cut x l r c (k + 1) (term x r m) e ∙ step (leb (degree x e) (k + 1)) refl
        where
          step : (b : Bool) → leb (degree x e) (k + 1) ≡ b → cond b (coefficient x r (term x r m) e) r.zero ≡ coefficient x r (term x r m) e
          step true h = refl
          step false h = sym (Near.coefficient-term x l r c s m e ∙ ap (λ b. cond b r.one r.zero) (ExpLaws.same-no x l m e (λ z. let z' : degree x m ≡ degree x e = ap (degree x) z in let y = leb-false (degree x e) (k + 1) h in let o = q.of_degree in omega arith)))
