-- Partial derivatives of polynomials.
use mathlib.Core.Path.{fun_ext}
use mathlib.Core.Quot.{mk, sound, lift, Quot-set}
use Rattle.std.proofs.Common.{◌≡◌, ℕ, ◌<◌, [], ◌++◌, ap, sym, ◌∙◌, ap₂}
use Rattle.ring_theory.specs.Ring.{RingOps, IsCommRing}
use Rattle.poly_law.specs.Sums.{total, multiple}
use Rattle.poly_law.specs.Exps.{Exps, IsExps, plus, none, lower}
use Rattle.poly_law.specs.Poly.{Terms, times, constant, derivative, Same}
use Rattle.poly_law.proofs.Sums
use Rattle.poly_law.proofs.ExpLaws
use Rattle.poly_law.proofs.Pair
use Rattle.poly_law.proofs.Pair.{pair}
use Rattle.poly_law.proofs.PolyRing
use Rattle.poly_law.proofs.PolyRing.{Poly, poly_ring}
use Rattle.poly_law.proofs.Derivation.{IsDerivation, multiple_when}

module _ {E V : Type 0} (x : Exps E) (l : IsExps x) (r : RingOps V) (c : IsCommRing r) where
  -- what a derivative pairs with
  abbrev pub slope : ℕ → (E → V) → E → V
  slope j w a = multiple r (x.at a j) (w (lower x j a))

  pub pair-multiple : (f : Terms E V) (k : ℕ) (w : E → V) → pair r f (λ a. multiple r k (w a)) ≡ multiple r k (pair r f w)
  pair-multiple f k w =
      ap (pair r f) (fun_ext λ a. Sums.multiple_is r c k (w a)) ∙ Pair.pair-mul r c f (multiple r k r.one) w ∙ sym (Sums.multiple_is r c k (pair r f w))

  pub pair-derivative : (j : ℕ) (f : Terms E V) (w : E → V) → pair r (derivative x r j f) w ≡ pair r f (slope j w)
  pair-derivative j f w =
      Sums.total-map r c (λ t. r.mul t.1 (w t.0)) (λ t. (lower x j t.0, multiple r (x.at t.0 j) t.1)) f
      ∙ ap (λ k. total r k f) (fun_ext λ t.
      Sums.multiple-mul_left r c (x.at t.0 j) t.1 (w (lower x j t.0)) ∙ Sums.multiple-mul r c (x.at t.0 j) t.1 (w (lower x j t.0)))

  pub derivative_same : (j : ℕ) (f g : Terms E V) → Same x r f g → Same x r (derivative x r j f) (derivative x r j g)
  derivative_same j f g e = Pair.same_from_pair x l r c (derivative x r j f) (derivative x r j g) λ w.
      pair-derivative j f w ∙ Pair.pair_same x l r c f g e (slope j w) ∙ sym (pair-derivative j g w)

  slope-plus : (j : ℕ) → j < x.count → (w : E → V) (a b : E)
      → slope j w (plus x a b) ≡ r.add (multiple r (x.at a j) (w (plus x (lower x j a) b))) (multiple r (x.at b j) (w (plus x a (lower x j b))))
  slope-plus j h w a b =
      ap (λ k. multiple r k (w (lower x j (plus x a b)))) (ExpLaws.at-plus x l a b j h)
      ∙ Sums.multiple-plus r c (x.at a j) (x.at b j) (w (lower x j (plus x a b)))
      ∙ ap₂ r.add
      (multiple_when r (x.at a j) (w (lower x j (plus x a b))) (w (plus x (lower x j a) b)) (λ p. ap w (ExpLaws.lower-plus x l j a b p h)))
      (multiple_when r (x.at b j) (w (lower x j (plus x a b))) (w (plus x a (lower x j b))) (λ p. ap w (ExpLaws.lower-plus_right x l j a b p h)))

  -- the product rule
  pub derivative_times : (j : ℕ) → j < x.count → (f g : Terms E V)
      → Same x r (derivative x r j (times x r f g)) (times x r (derivative x r j f) g ++ times x r f (derivative x r j g))
  derivative_times j h f g = Pair.same_from_pair x l r c (derivative x r j (times x r f g)) (times x r (derivative x r j f) g ++ times x r f (derivative x r j g)) λ w.
      pair-derivative j (times x r f g) w
      ∙ Pair.pair-times x r c f g (slope j w)
      ∙ ap (pair r f) (fun_ext λ a.
      ap (pair r g) (fun_ext λ b. slope-plus j h w a b)
      ∙ Pair.pair-add r c g (λ b. multiple r (x.at a j) (w (plus x (lower x j a) b))) (λ b. multiple r (x.at b j) (w (plus x a (lower x j b))))
      ∙ ap₂ r.add (pair-multiple g (x.at a j) (λ b. w (plus x (lower x j a) b))) (sym (pair-derivative j g (λ b. w (plus x a b)))))
      ∙ Pair.pair-add r c f (slope j (λ a. pair r g (λ b. w (plus x a b)))) (λ a. pair r (derivative x r j g) (λ b. w (plus x a b)))
      ∙ ap₂ r.add (sym (pair-derivative j f (λ a. pair r g (λ b. w (plus x a b)))) ∙ sym (Pair.pair-times x r c (derivative x r j f) g w)) (sym (Pair.pair-times x r c f (derivative x r j g) w))
      ∙ sym (Pair.pair-append r c (times x r (derivative x r j f) g) (times x r f (derivative x r j g)) w)

  derivative_append : (j : ℕ) (f g : Terms E V) → Same x r (derivative x r j (f ++ g)) (derivative x r j f ++ derivative x r j g)
  derivative_append j f g = Pair.same_from_pair x l r c (derivative x r j (f ++ g)) (derivative x r j f ++ derivative x r j g) λ w.
      pair-derivative j (f ++ g) w ∙ Pair.pair-append r c f g (slope j w)
      ∙ ap₂ r.add (sym (pair-derivative j f w)) (sym (pair-derivative j g w)) ∙ sym (Pair.pair-append r c (derivative x r j f) (derivative x r j g) w)

  derivative_constant : (j : ℕ) → j < x.count → (a : V) → Same x r (derivative x r j (constant x r a)) []
  derivative_constant j h a = Pair.same_from_pair x l r c (derivative x r j (constant x r a)) [] λ w.
      pair-derivative j (constant x r a) w
      ∙ c.add_zero (r.mul a (slope j w (none x)))
      ∙ ap (λ k. r.mul a (multiple r k (w (lower x j (none x))))) (ExpLaws.at-none x l j h)
      ∙ Sums.mul_zero r c a

  -- in the ring of polynomials
  abbrev pub partial : ℕ → Poly x r → Poly x r
  partial j = lift {r = Same x r} Quot-set (λ f. mk (derivative x r j f)) (λ f g e. sound (derivative_same j f g e))

  pub partial_is : (j : ℕ) → j < x.count → IsDerivation (poly_ring x l r c) (partial j)
  partial_is j h =
      let p = poly_ring x l r c in
      record {
        of_add = PolyRing.same_two x r (λ f g. partial j (p.add f g)) (λ f g. p.add (partial j f) (partial j g)) λ f g. sound (derivative_append j f g);
        of_mul = PolyRing.same_two x r (λ f g. partial j (p.mul f g)) (λ f g. p.add (p.mul (partial j f) g) (p.mul f (partial j g))) λ f g. sound (derivative_times j h f g);
        of_one = sound (derivative_constant j h r.one);
      }

  pub partial_constant : (j : ℕ) → j < x.count → (a : V) → partial j (mk (constant x r a)) ≡ mk []
  partial_constant j h a = sound (derivative_constant j h a)
