-- The chain rule.
use mathlib.Core.Path.{fun_ext}
use mathlib.Core.Quot.{mk, ind, lift}
use Rattle.std.proofs.Common.{◌≡◌, ℕ, zero, suc, ◌<◌, ap, sym, ◌∙◌, refl}
use Rattle.ring_theory.specs.Ring.{RingOps, IsCommRing}
use Rattle.poly_law.specs.Sums.{total, sum_to, power, multiple, monomial}
use Rattle.poly_law.specs.Exps.{Exps, IsExps, plus, lower}
use Rattle.poly_law.specs.Poly.{Terms, times, poly_ops, derivative, Same, monomial_of, subst_in}
use Rattle.poly_law.proofs.Sums
use Rattle.poly_law.proofs.ExpLaws
use Rattle.poly_law.proofs.Pair
use Rattle.poly_law.proofs.Pair.{pair}
use Rattle.poly_law.proofs.PolyRing.{Poly, poly_ring, poly_is_ring}
use Rattle.poly_law.proofs.Derivation
use Rattle.poly_law.proofs.Derivation.{less}
use Rattle.poly_law.proofs.Derivative
use Rattle.poly_law.proofs.Derivative.{partial, partial_is, slope}
use Rattle.poly_law.proofs.Subst

module _ {E F V : Type 0} (x : Exps E) (l : IsExps x) (y : Exps F) (m : IsExps y) (r : RingOps V) (c : IsCommRing r) (s : IsSet V) where
  abbrev ring : RingOps (Poly y r)
  ring = poly_ring y m r c

  -- the pairing, on the ring
  abbrev pair_at : (F → V) → Poly y r → V
  pair_at w = lift {r = Same y r} s (λ f. pair r f w) (λ f g h. Pair.pair_same y m r c f g h w)

  pair_at-add : (w : F → V) (p q : Poly y r) → pair_at w (ring.add p q) ≡ r.add (pair_at w p) (pair_at w q)
  pair_at-add w p q =
      ind {r = Same y r} {β = λ p. pair_at w (ring.add p q) ≡ r.add (pair_at w p) (pair_at w q)} (λ p. s _ _)
      (λ f. ind {r = Same y r} {β = λ q. pair_at w (ring.add (mk f) q) ≡ r.add (pair r f w) (pair_at w q)} (λ q. s _ _) (λ g. Pair.pair-append r c f g w) q) p

  pair_at-sum_to : (w : F → V) (n : ℕ) (u : ℕ → Poly y r) → pair_at w (sum_to ring n u) ≡ sum_to r n (λ i. pair_at w (u i))
  pair_at-sum_to w zero u = refl
  pair_at-sum_to w (suc n) u = pair_at-add w (sum_to ring n u) (u n) ∙ ap (λ k. r.add k (pair_at w (u n))) (pair_at-sum_to w n u)

  pair_at-multiple : (w : F → V) (k : ℕ) (p : Poly y r) → pair_at w (multiple ring k p) ≡ multiple r k (pair_at w p)
  pair_at-multiple w zero p = refl
  pair_at-multiple w (suc k) p = pair_at-add w (multiple ring k p) p ∙ ap (λ z. r.add z (pair_at w p)) (pair_at-multiple w k p)

  pair-sum_to : (f : Terms E V) (n : ℕ) (w : ℕ → E → V) → pair r f (λ a. sum_to r n (λ i. w i a)) ≡ sum_to r n (λ i. pair r f (w i))
  pair-sum_to f zero w = ap (λ k. total r k f) (fun_ext λ t. Sums.mul_zero r c t.1) ∙ Sums.total-zero r c f
  pair-sum_to f (suc n) w = Pair.pair-add r c f (λ a. sum_to r n (λ i. w i a)) (w n) ∙ ap (λ z. r.add z (pair r f (w n))) (pair-sum_to f n w)

  module _ (parts : ℕ → Terms F V) (j : ℕ) (h : j < y.count) where
    abbrev image : E → Terms F V
    image = monomial_of x y r parts

    abbrev slope_of : ℕ → Terms F V
    slope_of i = derivative y r j (parts i)

    -- of one monomial
    of_image : (a : E) → ◌≡◌ {A = Poly y r} (mk (derivative y r j (image a)))
        (sum_to ring x.count (λ i. multiple ring (x.at a i) (mk (times y r (image (lower x i a)) (slope_of i)))))
    of_image a =
        ap (partial y m r c j) (Subst.mk_monomial x l y m r c s parts a)
        ∙ Derivation.of_monomial ring (poly_is_ring y m r c) (partial y m r c j) (partial_is y m r c j h) x.count (λ i. mk (parts i)) (x.at a)
        ∙ Sums.sum_to-cong ring x.count
        (λ i. multiple ring (x.at a i) (ring.mul (monomial ring x.count (λ i. mk (parts i)) (less i (x.at a))) (mk (slope_of i))))
        (λ i. multiple ring (x.at a i) (mk (times y r (image (lower x i a)) (slope_of i))))
        (λ i g. ap (λ z. multiple ring (x.at a i) (ring.mul z (mk (slope_of i))))
        (Sums.product_to-cong ring x.count (λ k. power ring (mk (parts k)) (less i (x.at a) k)) (λ k. power ring (mk (parts k)) (x.at (lower x i a) k))
        (λ k e. ap (power ring (mk (parts k))) (sym (ExpLaws.at-lower x l i a k e)))
        ∙ sym (Subst.mk_monomial x l y m r c s parts (lower x i a))))

    of_image-pair : (a : E) (w : F → V)
        → pair r (derivative y r j (image a)) w ≡ sum_to r x.count (λ i. multiple r (x.at a i) (pair r (times y r (image (lower x i a)) (slope_of i)) w))
    of_image-pair a w =
        ap (pair_at w) (of_image a)
        ∙ pair_at-sum_to w x.count (λ i. multiple ring (x.at a i) (mk (times y r (image (lower x i a)) (slope_of i))))
        ∙ ap (sum_to r x.count) (fun_ext λ i. pair_at-multiple w (x.at a i) (mk (times y r (image (lower x i a)) (slope_of i))))

    pair-sum_of : (n : ℕ) (u : ℕ → Terms F V) (w : F → V) → pair r (sum_to (poly_ops y r) n u) w ≡ sum_to r n (λ i. pair r (u i) w)
    pair-sum_of zero u w = refl
    pair-sum_of (suc n) u w = Pair.pair-append r c (sum_to (poly_ops y r) n u) (u n) w ∙ ap (λ z. r.add z (pair r (u n) w)) (pair-sum_of n u w)

    pub chain_rule : (f : Terms E V)
        → Same y r (derivative y r j (subst_in x y r parts f)) (sum_to (poly_ops y r) x.count (λ i. times y r (subst_in x y r parts (derivative x r i f)) (slope_of i)))
    chain_rule f = Pair.same_from_pair y m r c (derivative y r j (subst_in x y r parts f)) (sum_to (poly_ops y r) x.count (λ i. times y r (subst_in x y r parts (derivative x r i f)) (slope_of i))) λ w.
        Derivative.pair-derivative y m r c j (subst_in x y r parts f) w
        ∙ Subst.pair-subst x l y m r c s parts f (slope y m r c j w)
        ∙ ap (pair r f) (fun_ext λ a. sym (Derivative.pair-derivative y m r c j (image a) w) ∙ of_image-pair a w)
        ∙ pair-sum_to f x.count (λ i a. multiple r (x.at a i) (pair r (times y r (image (lower x i a)) (slope_of i)) w))
        ∙ ap (sum_to r x.count) (fun_ext λ i.
        ap (pair r f) (fun_ext λ a. ap (multiple r (x.at a i)) (Pair.pair-times y r c (image (lower x i a)) (slope_of i) w))
        ∙ sym (Derivative.pair-derivative x l r c i f (λ a. pair r (image a) (λ a'. pair r (slope_of i) (λ b. w (plus y a' b)))))
        ∙ sym (Subst.pair-subst x l y m r c s parts (derivative x r i f) (λ a'. pair r (slope_of i) (λ b. w (plus y a' b))))
        ∙ sym (Pair.pair-times y r c (subst_in x y r parts (derivative x r i f)) (slope_of i) w))
        ∙ sym (pair-sum_of x.count (λ i. times y r (subst_in x y r parts (derivative x r i f)) (slope_of i)) w)
