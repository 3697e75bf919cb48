-- Substitution is a map of rings.
use mathlib.Core.Path.{fun_ext}
use mathlib.Core.Quot.{mk, sound, ind, lift, Quot-set}
use Rattle.std.proofs.Common.{◌≡◌, ℕ, zero, suc, ◌<◌, ◌++◌, cond, eqb, eq-eqb, ne_eqb, ap, sym, ◌∙◌, refl, ap₂}
use Rattle.ring_theory.specs.Ring.{RingOps, IsCommRing}
use Rattle.poly_law.specs.Sums.{total, sum_to, product_to, power, monomial}
use Rattle.poly_law.specs.Exps.{Exps, IsExps, plus, none}
use Rattle.poly_law.specs.Poly.{Terms, scale, times, constant, poly_ops, Same, monomial_of, subst_in}
use Rattle.poly_law.proofs.Sums
use Rattle.poly_law.proofs.ExpLaws
use Rattle.poly_law.proofs.Pair
use Rattle.poly_law.proofs.Pair.{pair}
use Rattle.poly_law.proofs.PolyRing.{Poly, poly_ring, poly_is_ring}
use Rattle.poly_law.proofs.Hom
use Rattle.poly_law.proofs.Hom.{IsHom}

-- equal in the ring of polynomials: the same coefficients
module _ {F V : Type 0} (y : Exps F) (m : IsExps y) (r : RingOps V) (c : IsCommRing r) (s : IsSet V) where
  pub pair_from_path : (f g : Terms F V) → ◌≡◌ {A = Poly y r} (mk f) (mk g) → (w : F → V) → pair r f w ≡ pair r g w
  pair_from_path f g e w = ap (lift {r = Same y r} s (λ f. pair r f w) (λ f g h. Pair.pair_same y m r c f g h w)) e

  pub same_from_path : (f g : Terms F V) → ◌≡◌ {A = Poly y r} (mk f) (mk g) → Same y r f g
  same_from_path f g e = Pair.same_from_pair y m r c f g (pair_from_path f g e)

  abbrev pub ring : RingOps (Poly y r)
  ring = poly_ring y m r c

  pub laws : IsCommRing ring
  laws = poly_is_ring y m r c

  mk_power : (f : Terms F V) (k : ℕ) → ◌≡◌ {A = Poly y r} (mk (power (poly_ops y r) f k)) (power ring (mk f) k)
  mk_power f zero = refl
  mk_power f (suc k) = ap (λ z. ring.mul z (mk f)) (mk_power f k)

  mk_product_to : (n : ℕ) (w : ℕ → Terms F V) → ◌≡◌ {A = Poly y r} (mk (product_to (poly_ops y r) n w)) (product_to ring n (λ i. mk (w i)))
  mk_product_to zero w = refl
  mk_product_to (suc n) w = ap (λ z. ring.mul z (mk (w n))) (mk_product_to n w)

  pub mk_sum_to : (n : ℕ) (w : ℕ → Terms F V) → ◌≡◌ {A = Poly y r} (mk (sum_to (poly_ops y r) n w)) (sum_to ring n (λ i. mk (w i)))
  mk_sum_to zero w = refl
  mk_sum_to (suc n) w = ap (λ z. ring.add z (mk (w n))) (mk_sum_to n w)

module _ {E F V : Type 0} (x : Exps E) (l : IsExps x) (y : Exps F) (m : IsExps y) (r : RingOps V) (c : IsCommRing r) (s : IsSet V) where
  abbrev target : RingOps (Poly y r)
  target = ring y m r c s

  -- the parts, as elements of the ring
  abbrev pub inside : (ℕ → Terms F V) → ℕ → Poly y r
  inside parts i = mk (parts i)

  pub mk_monomial : (parts : ℕ → Terms F V) (a : E) → ◌≡◌ {A = Poly y r} (mk (monomial_of x y r parts a)) (monomial target x.count (inside parts) (x.at a))
  mk_monomial parts a =
      mk_product_to y m r c s x.count (λ i. power (poly_ops y r) (parts i) (x.at a i))
      ∙ Sums.product_to-cong target x.count (λ i. mk (power (poly_ops y r) (parts i) (x.at a i))) (λ i. power target (mk (parts i)) (x.at a i)) (λ i h. mk_power y m r c s (parts i) (x.at a i))

  monomial-plus : (u : ℕ → Poly y r) (a b : E)
      → monomial target x.count u (x.at (plus x a b)) ≡ target.mul (monomial target x.count u (x.at a)) (monomial target x.count u (x.at b))
  monomial-plus u a b =
      Sums.product_to-cong target x.count (λ i. power target (u i) (x.at (plus x a b) i)) (λ i. target.mul (power target (u i) (x.at a i)) (power target (u i) (x.at b i)))
      (λ i h. ap (power target (u i)) (ExpLaws.at-plus x l a b i h) ∙ Sums.power-plus target (laws y m r c s) (u i) (x.at a i) (x.at b i))
      ∙ Sums.product_to-mul target (laws y m r c s) x.count (λ i. power target (u i) (x.at a i)) (λ i. power target (u i) (x.at b i))

  monomial-none : (u : ℕ → Poly y r) → monomial target x.count u (x.at (none x)) ≡ target.one
  monomial-none u =
      Sums.product_to-cong target x.count (λ i. power target (u i) (x.at (none x) i)) (λ i. target.one) (λ i h. ap (power target (u i)) (ExpLaws.at-none x l i h))
      ∙ Hom.product_to-one target (laws y m r c s) x.count

  module _ (parts : ℕ → Terms F V) where
    abbrev pub image : E → Terms F V
    image = monomial_of x y r parts

    abbrev pub subst : Terms E V → Terms F V
    subst = subst_in x y r parts

    pub pair-subst : (f : Terms E V) (w : F → V) → pair r (subst f) w ≡ pair r f (λ a. pair r (image a) w)
    pair-subst f w =
        Sums.total-flat_map r c (λ t. r.mul t.1 (w t.0)) (λ t. scale y r t.1 (image t.0)) f
        ∙ ap (λ k. total r k f) (fun_ext λ t. Pair.pair-scale y r c t.1 (image t.0) w)

    pub subst_same : (f g : Terms E V) → Same x r f g → Same y r (subst f) (subst g)
    subst_same f g e = Pair.same_from_pair y m r c (subst f) (subst g) λ w.
        pair-subst f w ∙ Pair.pair_same x l r c f g e (λ a. pair r (image a) w) ∙ sym (pair-subst g w)

    pub subst_append : (f g : Terms E V) → Same y r (subst (f ++ g)) (subst f ++ subst g)
    subst_append f g = Pair.same_from_pair y m r c (subst (f ++ g)) (subst f ++ subst g) λ w.
        pair-subst (f ++ g) w ∙ Pair.pair-append r c f g (λ a. pair r (image a) w)
        ∙ ap₂ r.add (sym (pair-subst f w)) (sym (pair-subst g w)) ∙ sym (Pair.pair-append r c (subst f) (subst g) w)

    image-plus : (a b : E) (w : F → V) → pair r (image (plus x a b)) w ≡ pair r (times y r (image a) (image b)) w
    image-plus a b = pair_from_path y m r c s (image (plus x a b)) (times y r (image a) (image b))
        (mk_monomial parts (plus x a b) ∙ monomial-plus (inside parts) a b ∙ ap₂ target.mul (sym (mk_monomial parts a)) (sym (mk_monomial parts b)))

    pub subst_times : (f g : Terms E V) → Same y r (subst (times x r f g)) (times y r (subst f) (subst g))
    subst_times f g = Pair.same_from_pair y m r c (subst (times x r f g)) (times y r (subst f) (subst g)) λ w.
        pair-subst (times x r f g) w
        ∙ Pair.pair-times x r c f g (λ a. pair r (image a) w)
        ∙ ap (pair r f) (fun_ext λ a.
        ap (pair r g) (fun_ext λ b. image-plus a b w ∙ Pair.pair-times y r c (image a) (image b) w)
        ∙ Pair.pair_swap r c g (image a) (λ b a'. pair r (image b) (λ b'. w (plus y a' b')))
        ∙ ap (pair r (image a)) (fun_ext λ a'. sym (pair-subst g (λ b'. w (plus y a' b')))))
        ∙ sym (pair-subst f (λ a'. pair r (subst g) (λ b'. w (plus y a' b'))))
        ∙ sym (Pair.pair-times y r c (subst f) (subst g) w)

    pub subst_constant : (a : V) → Same y r (subst (constant x r a)) (constant y r a)
    subst_constant a = Pair.same_from_pair y m r c (subst (constant x r a)) (constant y r a) λ w.
        pair-subst (constant x r a) w
        ∙ ap (λ z. r.add (r.mul a z) r.zero)
        (pair_from_path y m r c s (image (none x)) (constant y r r.one) (mk_monomial parts (none x) ∙ monomial-none (inside parts)) w
        ∙ c.add_zero (r.mul r.one (w (none y))) ∙ c.mul_comm r.one (w (none y)) ∙ c.mul_one (w (none y)))

    -- the products of powers, at a product of monomials, at 1 and at a power of one variable
    pub monomial_of-plus : (a b : E) → Same y r (image (plus x a b)) (times y r (image a) (image b))
    monomial_of-plus a b = Pair.same_from_pair y m r c (image (plus x a b)) (times y r (image a) (image b)) (image-plus a b)

    pub monomial_of-none : Same y r (image (none x)) (constant y r r.one)
    monomial_of-none = same_from_path y m r c s (image (none x)) (constant y r r.one) (mk_monomial parts (none x) ∙ monomial-none (inside parts))

    pub monomial_of-single : (i e : ℕ) → i < x.count → Same y r (image (x.make (λ j. cond (eqb j i) e 0))) (power (poly_ops y r) (parts i) e)
    monomial_of-single i e h = same_from_path y m r c s (image (x.make (λ j. cond (eqb j i) e 0))) (power (poly_ops y r) (parts i) e)
        (mk_monomial parts (x.make (λ j. cond (eqb j i) e 0))
        ∙ Sums.product_to-one target (laws y m r c s) x.count i (λ j. power target (inside parts j) (x.at (x.make (λ j. cond (eqb j i) e 0)) j)) h other
        ∙ ap (power target (inside parts i)) (l.at_make (λ j. cond (eqb j i) e 0) i h ∙ ap (λ b. cond {A = ℕ} b e 0) (eq-eqb i i refl))
        ∙ sym (mk_power y m r c s (parts i) e))
      where
        other : (j : ℕ) → j < x.count → (j ≡ i → ⊥) → power target (inside parts j) (x.at (x.make (λ j. cond (eqb j i) e 0)) j) ≡ target.one
        other j g ne = ap (power target (inside parts j)) (l.at_make (λ j. cond (eqb j i) e 0) j g ∙ ap (λ b. cond {A = ℕ} b e 0) (ne_eqb j i ne))

    -- in the rings
    abbrev pub at_parts : Poly x r → Poly y r
    at_parts = lift {r = Same x r} Quot-set (λ f. mk (subst f)) (λ f g e. sound (subst_same f g e))

    pub at_parts_is : IsHom (poly_ring x l r c) target at_parts
    at_parts_is = record {
      of_zero = refl;
      of_one = sound (subst_constant r.one);
      of_add = λ p q. two_path (λ p q. at_parts ((poly_ring x l r c).add p q)) (λ p q. target.add (at_parts p) (at_parts q)) (λ f g. sound (subst_append f g)) p q;
      of_mul = λ p q. two_path (λ p q. at_parts ((poly_ring x l r c).mul p q)) (λ p q. target.mul (at_parts p) (at_parts q)) (λ f g. sound (subst_times f g)) p q;
    }
      where
        two_path : (u v : Poly x r → Poly x r → Poly y r) → ((f g : Terms E V) → u (mk f) (mk g) ≡ v (mk f) (mk g)) → (p q : Poly x r) → u p q ≡ v p q
        two_path u v h p q =
            ind {r = Same x r} {β = λ p. u p q ≡ v p q} (λ p. Quot-set (u p q) (v p q))
            (λ f. ind {r = Same x r} {β = λ q. u (mk f) q ≡ v (mk f) q} (λ q. Quot-set (u (mk f) q) (v (mk f) q)) (λ g. h f g) q) p
