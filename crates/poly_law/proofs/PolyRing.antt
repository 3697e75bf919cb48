-- Polynomials up to equal coefficients: a commutative ring in which equal is a path.
use mathlib.Core.Path.{fun_ext}
use mathlib.Core.HLevel.{→_set}
use mathlib.Core.Quot.{Quot, mk, sound, ind, lift, Quot-set}
use Rattle.std.proofs.Common.{◌≡◌, [], ◌++◌, ap, sym, ◌∙◌, ap₂, append_assoc, append-nil}
use Rattle.ring_theory.specs.Ring.{RingOps, IsCommRing}
use Rattle.poly_law.specs.Exps.{Exps, IsExps, plus, none}
use Rattle.poly_law.specs.Poly.{Terms, times, constant, poly_ops, Same}
use Rattle.poly_law.proofs.ExpLaws
use Rattle.poly_law.proofs.Pair
use Rattle.poly_law.proofs.Pair.{pair}

abbrev pub Poly : {E V : Type 0} → Exps E → RingOps V → Type 0
Poly {E} {V} x r = Quot {α = Terms E V} (Same x r)

module _ {E V : Type 0} (x : Exps E) (r : RingOps V) where
  abbrev pub lift_two : (h : Terms E V → Terms E V → Terms E V)
      → ((f f' g : Terms E V) → Same x r f f' → Same x r (h f g) (h f' g)) → ((f g g' : Terms E V) → Same x r g g' → Same x r (h f g) (h f g'))
      → Poly x r → Poly x r → Poly x r
  lift_two h left right p q =
      lift {r = Same x r} (→_set Quot-set)
      (λ f. lift {r = Same x r} Quot-set (λ g. mk (h f g)) (λ g g' e. sound (right f g g' e)))
      (λ f f' e. fun_ext (ind {r = Same x r} (λ q. Quot-set _ _) (λ g. sound (left f f' g e))))
      p q

  pub same_one : (u v : Poly x r → Poly x r) → ((f : Terms E V) → u (mk f) ≡ v (mk f)) → (p : Poly x r) → u p ≡ v p
  same_one u v h = ind {r = Same x r} (λ p. Quot-set (u p) (v p)) h

  pub same_two : (u v : Poly x r → Poly x r → Poly x r) → ((f g : Terms E V) → u (mk f) (mk g) ≡ v (mk f) (mk g)) → (p q : Poly x r) → u p q ≡ v p q
  same_two u v h p q =
      same_one (λ p. u p q) (λ p. v p q) (λ f. same_one (λ q. u (mk f) q) (λ q. v (mk f) q) (λ g. h f g) q) p

  pub same_three : (u v : Poly x r → Poly x r → Poly x r → Poly x r) → ((f g h : Terms E V) → u (mk f) (mk g) (mk h) ≡ v (mk f) (mk g) (mk h))
      → (p q s : Poly x r) → u p q s ≡ v p q s
  same_three u v h p q s = same_two (λ p q. u p q s) (λ p q. v p q s) (λ f g. same_one (λ s. u (mk f) (mk g) s) (λ s. v (mk f) (mk g) s) (λ k. h f g k) s) p q

module _ {E V : Type 0} (x : Exps E) (l : IsExps x) (r : RingOps V) (c : IsCommRing r) where
  same_of : (f g : Terms E V) → ((w : E → V) → pair r f w ≡ pair r g w) → Same x r f g
  same_of = Pair.same_from_pair x l r c

  pair_of : (f g : Terms E V) → Same x r f g → (w : E → V) → pair r f w ≡ pair r g w
  pair_of = Pair.pair_same x l r c

  pub add_left : (f f' g : Terms E V) → Same x r f f' → Same x r (f ++ g) (f' ++ g)
  add_left f f' g e = same_of (f ++ g) (f' ++ g) λ w.
      Pair.pair-append r c f g w ∙ ap (λ z. r.add z (pair r g w)) (pair_of f f' e w) ∙ sym (Pair.pair-append r c f' g w)

  pub add_right : (f g g' : Terms E V) → Same x r g g' → Same x r (f ++ g) (f ++ g')
  add_right f g g' e = same_of (f ++ g) (f ++ g') λ w.
      Pair.pair-append r c f g w ∙ ap (r.add (pair r f w)) (pair_of g g' e w) ∙ sym (Pair.pair-append r c f g' w)

  pub times_left : (f f' g : Terms E V) → Same x r f f' → Same x r (times x r f g) (times x r f' g)
  times_left f f' g e = same_of (times x r f g) (times x r f' g) λ w.
      Pair.pair-times x r c f g w ∙ pair_of f f' e (λ a. pair r g (λ b. w (plus x a b))) ∙ sym (Pair.pair-times x r c f' g w)

  pub times_right : (f g g' : Terms E V) → Same x r g g' → Same x r (times x r f g) (times x r f g')
  times_right f g g' e = same_of (times x r f g) (times x r f g') λ w.
      Pair.pair-times x r c f g w ∙ ap (pair r f) (fun_ext λ a. pair_of g g' e (λ b. w (plus x a b)))
      ∙ sym (Pair.pair-times x r c f g' w)

  pub neg_same : (f f' : Terms E V) → Same x r f f' → Same x r ((poly_ops x r).neg f) ((poly_ops x r).neg f')
  neg_same f f' e = same_of ((poly_ops x r).neg f) ((poly_ops x r).neg f') λ w.
      Pair.pair-neg x r c f w ∙ ap r.neg (pair_of f f' e w) ∙ sym (Pair.pair-neg x r c f' w)

  -- the ring
  abbrev pub poly_ring : RingOps (Poly x r)
  poly_ring = record {
    zero = mk [];
    one = mk (constant x r r.one);
    add = lift_two x r (λ f g. f ++ g) add_left add_right;
    mul = lift_two x r (times x r) times_left times_right;
    neg = lift {r = Same x r} Quot-set (λ f. mk ((poly_ops x r).neg f)) (λ f f' e. sound (neg_same f f' e));
  }

  pub append_comm : (f g : Terms E V) → Same x r (f ++ g) (g ++ f)
  append_comm f g = same_of (f ++ g) (g ++ f) λ w.
      Pair.pair-append r c f g w ∙ c.add_comm (pair r f w) (pair r g w) ∙ sym (Pair.pair-append r c g f w)

  pub append_neg : (f : Terms E V) → Same x r (f ++ (poly_ops x r).neg f) []
  append_neg f = same_of (f ++ (poly_ops x r).neg f) [] λ w.
      Pair.pair-append r c f ((poly_ops x r).neg f) w ∙ ap (r.add (pair r f w)) (Pair.pair-neg x r c f w) ∙ c.add_neg (pair r f w)

  pub times_assoc : (f g h : Terms E V) → Same x r (times x r (times x r f g) h) (times x r f (times x r g h))
  times_assoc f g h = same_of (times x r (times x r f g) h) (times x r f (times x r g h)) λ w.
      Pair.pair-times x r c (times x r f g) h w
      ∙ Pair.pair-times x r c f g (λ a. pair r h (λ b. w (plus x a b)))
      ∙ ap (pair r f) (fun_ext λ a. ap (pair r g) (fun_ext λ b. ap (pair r h) (fun_ext λ d. ap w (ExpLaws.plus_assoc x l a b d)))
      ∙ sym (Pair.pair-times x r c g h (λ b. w (plus x a b))))
      ∙ sym (Pair.pair-times x r c f (times x r g h) w)

  pub times_comm : (f g : Terms E V) → Same x r (times x r f g) (times x r g f)
  times_comm f g = same_of (times x r f g) (times x r g f) λ w.
      Pair.pair-times x r c f g w
      ∙ Pair.pair_swap r c f g (λ a b. w (plus x a b))
      ∙ ap (pair r g) (fun_ext λ b. ap (pair r f) (fun_ext λ a. ap w (ExpLaws.plus_comm x l a b)))
      ∙ sym (Pair.pair-times x r c g f w)

  pub times_one : (f : Terms E V) → Same x r (times x r f (constant x r r.one)) f
  times_one f = same_of (times x r f (constant x r r.one)) f λ w.
      Pair.pair-times x r c f (constant x r r.one) w
      ∙ ap (pair r f) (fun_ext λ a. c.add_zero (r.mul r.one (w (plus x a (none x)))) ∙ c.mul_comm r.one (w (plus x a (none x))) ∙ c.mul_one (w (plus x a (none x))) ∙ ap w (ExpLaws.plus-none x l a))

  pub times_append : (f g h : Terms E V) → Same x r (times x r f (g ++ h)) (times x r f g ++ times x r f h)
  times_append f g h = same_of (times x r f (g ++ h)) (times x r f g ++ times x r f h) λ w.
      Pair.pair-times x r c f (g ++ h) w
      ∙ ap (pair r f) (fun_ext λ a. Pair.pair-append r c g h (λ b. w (plus x a b)))
      ∙ Pair.pair-add r c f (λ a. pair r g (λ b. w (plus x a b))) (λ a. pair r h (λ b. w (plus x a b)))
      ∙ ap₂ r.add (sym (Pair.pair-times x r c f g w)) (sym (Pair.pair-times x r c f h w))
      ∙ sym (Pair.pair-append r c (times x r f g) (times x r f h) w)

  pub append_times : (f g h : Terms E V) → Same x r (times x r (f ++ g) h) (times x r f h ++ times x r g h)
  append_times f g h = same_of (times x r (f ++ g) h) (times x r f h ++ times x r g h) λ w.
      Pair.pair-times x r c (f ++ g) h w
      ∙ Pair.pair-append r c f g (λ a. pair r h (λ b. w (plus x a b)))
      ∙ ap₂ r.add (sym (Pair.pair-times x r c f h w)) (sym (Pair.pair-times x r c g h w))
      ∙ sym (Pair.pair-append r c (times x r f h) (times x r g h) w)

  pub poly_is_ring : IsCommRing poly_ring
  poly_is_ring =
      let p = poly_ring in
      record {
        add_assoc = same_three x r (λ f g h. p.add (p.add f g) h) (λ f g h. p.add f (p.add g h)) λ f g h. ap (λ z. mk z) (append_assoc f g h);
        add_comm = same_two x r (λ f g. p.add f g) (λ f g. p.add g f) λ f g. sound (append_comm f g);
        add_zero = same_one x r (λ f. p.add f p.zero) (λ f. f) λ f. ap (λ z. mk z) (append-nil f);
        add_neg = same_one x r (λ f. p.add f (p.neg f)) (λ f. p.zero) λ f. sound (append_neg f);
        mul_assoc = same_three x r (λ f g h. p.mul (p.mul f g) h) (λ f g h. p.mul f (p.mul g h)) λ f g h. sound (times_assoc f g h);
        mul_comm = same_two x r (λ f g. p.mul f g) (λ f g. p.mul g f) λ f g. sound (times_comm f g);
        mul_one = same_one x r (λ f. p.mul f p.one) (λ f. f) λ f. sound (times_one f);
        distrib = same_three x r (λ f g h. p.mul (p.add f g) h) (λ f g h. p.add (p.mul f h) (p.mul g h)) λ f g h. sound (append_times f g h);
      }
