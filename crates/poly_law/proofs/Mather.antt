-- Mather's condition is kept by a change of coordinates: the proof, over a ring with a filtration, partial derivatives and two maps.
use mathlib.Core.Path.{fun_ext}
use Rattle.std.proofs.Common.{◌≡◌, ℕ, zero, suc, ◌+◌, ◌<◌, ◌≤◌, Bool, true, false, cond, eqb, ap, sym, ◌∙◌, refl, ap₂, arith, subst, subst₂}
use Rattle.ring_theory.specs.Ring.{RingOps, IsCommRing}
use Rattle.poly_law.specs.Sums.{sum_to, unit_at}
use Rattle.poly_law.proofs.Sums
use Rattle.poly_law.proofs.Filtration
use Rattle.poly_law.proofs.Filtration.{IsFiltration, Close}
use Rattle.poly_law.proofs.Hom
use Rattle.poly_law.proofs.Hom.{IsHom}

-- n partial derivatives d
pub record HasPartials {A : Type 0} (r : RingOps A) (Ord : ℕ → A → Type 0) (n : ℕ) (d : ℕ → A → A) : Type 0 where
  pub of_sub : (j : ℕ) (a b : A) → j < n → d j (r.add a (r.neg b)) ≡ r.add (d j a) (r.neg (d j b))
  pub down_in : (j e : ℕ) (a : A) → j < n → Ord (suc e) a → Ord e (d j a)
  pub stays_in : (j : ℕ) (a : A) → j < n → Ord 0 a → Ord 0 (d j a)

-- a change of coordinates s with parts u, and a change t that undoes its linear part, by the matrix v
pub record IsChange {A : Type 0} (r : RingOps A) (Ord : ℕ → A → Type 0) (n : ℕ) (d : ℕ → A → A) (u : ℕ → A) (v : ℕ → ℕ → A) (s t : A → A) : Type 0 where
  pub s_is : IsHom r r s
  pub t_is : IsHom r r t
  pub s_in : (e : ℕ) (a : A) → Ord e a → Ord e (s a)
  pub t_in : (e : ℕ) (a : A) → Ord e a → Ord e (t a)
  pub s-t : (e : ℕ) (a : A) → Ord e a → Ord (suc e) (r.add (s (t a)) (r.neg a))
  pub t-s : (e : ℕ) (a : A) → Ord e a → Ord (suc e) (r.add (t (s a)) (r.neg a))
  pub u_in : (i : ℕ) → Ord 0 (u i)
  pub v_in : (i j : ℕ) → Ord 0 (v i j)
  pub chain : (j : ℕ) (a : A) → j < n → d j (s a) ≡ sum_to r n (λ i. r.mul (s (d i a)) (d j (u i)))
  pub inverse : (i k : ℕ) → i < n → k < n → Ord 1 (r.add (sum_to r n (λ j. r.mul (d j (u i)) (v j k))) (r.neg (unit_at r i k)))

module _ {A : Type 0} (r : RingOps A) (c : IsCommRing r) (Ord : ℕ → A → Type 0) (o : IsFiltration r Ord) (n : ℕ) (d : ℕ → A → A) (p : HasPartials r Ord n d) where
  abbrev C : ℕ → A → A → Type 0
  C = Close r c Ord o

  -- q is a sum of multiplier times partial of f, up to degree k + 2, with multipliers of order 2
  pub record In (k : ℕ) (f q : A) : Type 0 where
    pub multiplier : ℕ → A
    pub order_two : (i : ℕ) → Ord 2 (multiplier i)
    pub adds_up : C (k + 2) (sum_to r n (λ i. r.mul (multiplier i) (d i f))) q

  pub in_close : (k : ℕ) (f q q' : A) → C (k + 2) q q' → In k f q → In k f q'
  in_close k f q q' e h = record {
    multiplier = h.multiplier;
    order_two = h.order_two;
    adds_up = Filtration.close_trans r c Ord o (k + 2) (sum_to r n (λ i. r.mul (h.multiplier i) (d i f))) q q' h.adds_up e;
  }

  pub in_zero : (k : ℕ) (f : A) → In k f r.zero
  in_zero k f = record {
    multiplier = λ i. r.zero;
    order_two = λ i. o.zero_in 2;
    adds_up = Filtration.close_path r c Ord o (k + 2) (sum_to r n (λ i. r.mul r.zero (d i f))) r.zero
        (ap (sum_to r n) (fun_ext λ i. Sums.zero_mul r c (d i f)) ∙ Sums.sum_to-zero r c n);
  }

  pub in_add : (k : ℕ) (f q q' : A) → In k f q → In k f q' → In k f (r.add q q')
  in_add k f q q' h h' = record {
    multiplier = λ i. r.add (h.multiplier i) (h'.multiplier i);
    order_two = λ i. o.add_in 2 (h.multiplier i) (h'.multiplier i) (h.order_two i) (h'.order_two i);
    adds_up = subst (λ z. C (k + 2) z (r.add q q'))
        (sym (ap (sum_to r n) (fun_ext λ i. Sums.distrib_right r c (h.multiplier i) (h'.multiplier i) (d i f)) ∙ Sums.sum_to-add r c n (λ i. r.mul (h.multiplier i) (d i f)) (λ i. r.mul (h'.multiplier i) (d i f))))
        (Filtration.close_add r c Ord o (k + 2) (sum_to r n (λ i. r.mul (h.multiplier i) (d i f))) (sum_to r n (λ i. r.mul (h'.multiplier i) (d i f))) q q' h.adds_up h'.adds_up);
  }

  pub in_mul : (k : ℕ) (f q a : A) → Ord 0 a → In k f q → In k f (r.mul a q)
  in_mul k f q a e h = record {
    multiplier = λ i. r.mul a (h.multiplier i);
    order_two = λ i. subst (λ m. Ord m (r.mul a (h.multiplier i))) (let z : 0 + 2 ≡ 2 = refl in z) (o.mul_in 0 2 a (h.multiplier i) e (h.order_two i));
    adds_up = subst (λ z. C (k + 2) z (r.mul a q))
        (sym (ap (sum_to r n) (fun_ext λ i. c.mul_assoc a (h.multiplier i) (d i f)) ∙ Sums.sum_to-mul r c n a (λ i. r.mul (h.multiplier i) (d i f))))
        (subst (λ m. C m (r.mul a (sum_to r n (λ i. r.mul (h.multiplier i) (d i f)))) (r.mul a q)) (let z : 0 + (k + 2) ≡ k + 2 = omega arith in z)
        (Filtration.close_mul r c Ord o 0 (k + 2) a (sum_to r n (λ i. r.mul (h.multiplier i) (d i f))) q e h.adds_up));
  }

  pub in_neg : (k : ℕ) (f q : A) → In k f q → In k f (r.neg q)
  in_neg k f q h = record {
    multiplier = λ i. r.neg (h.multiplier i);
    order_two = λ i. o.neg_in 2 (h.multiplier i) (h.order_two i);
    adds_up = subst (λ z. C (k + 2) z (r.neg q))
        (sym (ap (sum_to r n) (fun_ext λ i. Sums.neg_mul r c (h.multiplier i) (d i f)) ∙ Sums.sum_to-neg r c n (λ i. r.mul (h.multiplier i) (d i f))))
        (Filtration.close_neg r c Ord o (k + 2) (sum_to r n (λ i. r.mul (h.multiplier i) (d i f))) q h.adds_up);
  }

  pub in_sum_to : (k : ℕ) (f : A) (m : ℕ) (w : ℕ → A) → ((i : ℕ) → i < m → In k f (w i)) → In k f (sum_to r m w)
  in_sum_to k f zero w h = in_zero k f
  in_sum_to k f (suc m) w h = in_add k f (sum_to r m w) (w m) (in_sum_to k f m w (λ i g. h i (omega arith))) (h m (omega arith))

  -- one partial, times what has order 2
  pub in_partial : (k : ℕ) (f a : A) (j : ℕ) → j < n → Ord 2 a → In k f (r.mul a (d j f))
  in_partial k f a j g e = record {
    multiplier = λ i. cond (eqb i j) a r.zero;
    order_two = λ i. step (eqb i j);
    adds_up = Filtration.close_path r c Ord o (k + 2) (sum_to r n (λ i. r.mul (cond (eqb i j) a r.zero) (d i f))) (r.mul a (d j f)) (Sums.sum_to-one r c n j (λ i. d i f) a g);
  }
    where
      step : (b : Bool) → Ord 2 (cond b a r.zero)
      step true = e
      step false = o.zero_in 2

  -- one order higher
  pub in_up : (k : ℕ) (f a q : A) → Ord 1 a → In k f q → In (k + 1) f (r.mul a q)
  in_up k f a q a_in h = record {
    multiplier = λ i. r.mul a (h.multiplier i);
    order_two = λ i. o.lower_in (1 + 2) 2 (r.mul a (h.multiplier i)) (omega arith) (o.mul_in 1 2 a (h.multiplier i) a_in (h.order_two i));
    adds_up = subst (λ z. C (k + 1 + 2) z (r.mul a q))
        (sym (ap (sum_to r n) (fun_ext λ i. c.mul_assoc a (h.multiplier i) (d i f)) ∙ Sums.sum_to-mul r c n a (λ i. r.mul (h.multiplier i) (d i f))))
        (subst (λ m. C m (r.mul a (sum_to r n (λ i. r.mul (h.multiplier i) (d i f)))) (r.mul a q)) (let z : 1 + (k + 2) ≡ k + 1 + 2 = omega arith in z)
        (Filtration.close_mul r c Ord o 1 (k + 2) a (sum_to r n (λ i. r.mul (h.multiplier i) (d i f))) q a_in h.adds_up));
  }

  -- all that has order k + 1 is in: Mather's condition at k
  abbrev pub Rows : ℕ → A → Type 0
  Rows k f = (q : A) → Ord (k + 1) q → In k f q

  module _ (u : ℕ → A) (v : ℕ → ℕ → A) (s t : A → A) (q : IsChange r Ord n d u v s t) (k : ℕ) (f h : A) (f_in : Ord 0 f) (carried : C (k + 1) h (s f)) where
    -- the partials of f, after the change; the Jacobian matrix times the printed inverse
    abbrev moved : ℕ → A
    moved i = s (d i f)

    abbrev product : ℕ → ℕ → A
    product i l = sum_to r n (λ j. r.mul (d j (u i)) (v j l))

    abbrev off : ℕ → ℕ → A
    off i l = r.add (product i l) (r.neg (unit_at r i l))

    moved_in : (i : ℕ) → i < n → Ord 0 (moved i)
    moved_in i g = q.s_in 0 (d i f) (p.stays_in i f g f_in)

    partial_of : (j : ℕ) → j < n → C k (d j h) (sum_to r n (λ i. r.mul (moved i) (d j (u i))))
    partial_of j g =
        subst (Ord k) (p.of_sub j h (s f) g ∙ ap (λ z. r.add (d j h) (r.neg z)) (q.chain j f g))
        (p.down_in j k (r.add h (r.neg (s f))) g (subst (λ m. Ord m (r.add h (r.neg (s f)))) (let z : k + 1 ≡ suc k = omega arith in z) carried))

    -- sums over the matrix change places
    regroup : (a : A) (l : ℕ) → sum_to r n (λ j. r.mul (r.mul a (v j l)) (sum_to r n (λ i. r.mul (moved i) (d j (u i))))) ≡ sum_to r n (λ i. r.mul (r.mul a (moved i)) (product i l))
    regroup a l =
        ap (sum_to r n) (fun_ext λ j. sym (Sums.sum_to-mul r c n (r.mul a (v j l)) (λ i. r.mul (moved i) (d j (u i)))))
        ∙ Sums.sum_to-sum_to r c n n (λ j i. r.mul (r.mul a (v j l)) (r.mul (moved i) (d j (u i))))
        ∙ ap (sum_to r n) (fun_ext λ i.
        ap (sum_to r n) (fun_ext λ j. Sums.mul_swap r c a (v j l) (moved i) (d j (u i)) ∙ ap (r.mul (r.mul a (moved i))) (c.mul_comm (v j l) (d j (u i))))
        ∙ Sums.sum_to-mul r c n (r.mul a (moved i)) (λ j. r.mul (d j (u i)) (v j l)))

    -- the product is the identity and what is off it
    split : (a : A) (i l : ℕ) → r.mul (r.mul a (moved i)) (product i l) ≡ r.add (r.mul (unit_at r i l) (r.mul a (moved i))) (r.mul (r.mul a (off i l)) (moved i))
    split a i l =
        ap (r.mul (r.mul a (moved i))) (sym (Sums.add_sub r c (unit_at r i l) (product i l)))
        ∙ Sums.distrib_left r c (r.mul a (moved i)) (unit_at r i l) (off i l)
        ∙ ap₂ r.add (c.mul_comm (r.mul a (moved i)) (unit_at r i l)) (c.mul_assoc a (moved i) (off i l) ∙ ap (r.mul a) (c.mul_comm (moved i) (off i l)) ∙ sym (c.mul_assoc a (off i l) (moved i)))

    rest : A → ℕ → A
    rest a l = sum_to r n (λ i. r.mul (r.mul a (off i l)) (moved i))

    split_sum : (a : A) (l : ℕ) → l < n → sum_to r n (λ i. r.mul (r.mul a (moved i)) (product i l)) ≡ r.add (r.mul a (moved l)) (rest a l)
    unfolding rest
    split_sum a l g =
        ap (sum_to r n) (fun_ext λ i. split a i l)
        ∙ Sums.sum_to-add r c n (λ i. r.mul (unit_at r i l) (r.mul a (moved i))) (λ i. r.mul (r.mul a (off i l)) (moved i))
        ∙ ap (λ z. r.add z (sum_to r n (λ i. r.mul (r.mul a (off i l)) (moved i))))
        (Sums.sum_to-one r c n l (λ i. r.mul a (moved i)) r.one g ∙ c.mul_comm r.one (r.mul a (moved l)) ∙ c.mul_one (r.mul a (moved l)))

    abbrev through : A → ℕ → A
    through a l = sum_to r n (λ j. r.mul (r.mul a (v j l)) (d j h))

    -- a times a moved partial of f, by the partials of h, up to what has one order more
    through_close : (a : A) (l : ℕ) → l < n → Ord 2 a → C (k + 2) (through a l) (r.add (r.mul a (moved l)) (rest a l))
    through_close a l g e =
        Filtration.close_trans r c Ord o (k + 2) (through a l) (sum_to r n (λ j. r.mul (r.mul a (v j l)) (sum_to r n (λ i. r.mul (moved i) (d j (u i)))))) (r.add (r.mul a (moved l)) (rest a l))
        (Filtration.close_sum_to r c Ord o (k + 2) n (λ j. r.mul (r.mul a (v j l)) (d j h)) (λ j. r.mul (r.mul a (v j l)) (sum_to r n (λ i. r.mul (moved i) (d j (u i))))) λ j y.
        subst (λ m. C m (r.mul (r.mul a (v j l)) (d j h)) (r.mul (r.mul a (v j l)) (sum_to r n (λ i. r.mul (moved i) (d j (u i)))))) (let z : 2 + 0 + k ≡ k + 2 = omega arith in z)
        (Filtration.close_mul r c Ord o (2 + 0) k (r.mul a (v j l)) (d j h) (sum_to r n (λ i. r.mul (moved i) (d j (u i)))) (o.mul_in 2 0 a (v j l) e (q.v_in j l)) (partial_of j y)))
        (Filtration.close_path r c Ord o (k + 2) _ _ (regroup a l ∙ split_sum a l g))

    through_in : (a : A) (l : ℕ) → Ord 2 a → In k h (through a l)
    through_in a l e = in_sum_to k h n (λ j. r.mul (r.mul a (v j l)) (d j h)) λ j g. in_partial k h (r.mul a (v j l)) j g (o.mul_in 2 0 a (v j l) e (q.v_in j l))

    -- each moved partial of f, times what has order 2, is in: from order k + 2 downwards
    spread : (e m : ℕ) → 2 ≤ m → m + e ≡ k + 2 → (a : A) → Ord m a → (l : ℕ) → l < n → In k h (r.mul a (moved l))
    unfolding rest
    spread zero m _ y a a_in l g =
        in_close k h r.zero (r.mul a (moved l))
        (Filtration.close_sym r c Ord o (k + 2) (r.mul a (moved l)) r.zero
        (Filtration.close_zero r c Ord o (k + 2) (r.mul a (moved l))
        (subst (λ z. Ord z (r.mul a (moved l))) (let z : m + 0 ≡ k + 2 = omega arith in z) (o.mul_in m 0 a (moved l) a_in (moved_in l g)))))
        (in_zero k h)
    spread (suc e) m two y a a_in l g =
        in_close k h (r.add (through a l) (r.neg (rest a l))) (r.mul a (moved l))
        (last (Filtration.close_add r c Ord o (k + 2) (through a l) (r.neg (rest a l)) (r.add (r.mul a (moved l)) (rest a l)) (r.neg (rest a l))
        (through_close a l g (o.lower_in m 2 a two a_in)) (Filtration.close_path r c Ord o (k + 2) (r.neg (rest a l)) (r.neg (rest a l)) refl)))
        (in_add k h (through a l) (r.neg (rest a l)) (through_in a l (o.lower_in m 2 a two a_in)) (in_neg k h (rest a l)
        (rest_in λ i z. spread e (m + 1) (omega arith) (omega arith) (r.mul a (off i l)) (o.mul_in m 1 a (off i l) a_in (q.inverse i l z g)) i z)))
      where
        last : C (k + 2) (r.add (through a l) (r.neg (rest a l))) (r.add (r.add (r.mul a (moved l)) (rest a l)) (r.neg (rest a l)))
            → C (k + 2) (r.add (through a l) (r.neg (rest a l))) (r.mul a (moved l))
        last = subst (C (k + 2) (r.add (through a l) (r.neg (rest a l))))
            (c.add_assoc (r.mul a (moved l)) (rest a l) (r.neg (rest a l)) ∙ ap (r.add (r.mul a (moved l))) (c.add_neg (rest a l)) ∙ c.add_zero (r.mul a (moved l)))

        rest_in : ((i : ℕ) → i < n → In k h (r.mul (r.mul a (off i l)) (moved i))) → In k h (rest a l)
        rest_in w = in_sum_to k h n (λ i. r.mul (r.mul a (off i l)) (moved i)) w

    -- the change of a sum of multiplier times partial
    moved_sum : (a : ℕ → A) → s (sum_to r n (λ i. r.mul (a i) (d i f))) ≡ sum_to r n (λ i. r.mul (s (a i)) (moved i))
    moved_sum a = Hom.of_sum_to r r s q.s_is n (λ i. r.mul (a i) (d i f)) ∙ ap (sum_to r n) (fun_ext λ i. q.s_is.of_mul (a i) (d i f))

    s_close : (e : ℕ) (a b : A) → C e a b → C e (s a) (s b)
    s_close e a b y = subst (Ord e) (Hom.of_sub r r c c s q.s_is a b) (q.s_in e (r.add a (r.neg b)) y)

    -- rows for f give rows for h
    pub rows_after : Rows k f → Rows k h
    rows_after rows y y_in =
        let w = rows (t y) (q.t_in (k + 1) y y_in) in
        in_close k h (sum_to r n (λ i. r.mul (s (w.multiplier i)) (moved i))) y
        (Filtration.close_trans r c Ord o (k + 2) (sum_to r n (λ i. r.mul (s (w.multiplier i)) (moved i))) (s (t y)) y
        (subst (λ z. C (k + 2) z (s (t y))) (moved_sum w.multiplier) (s_close (k + 2) (sum_to r n (λ i. r.mul (w.multiplier i) (d i f))) (t y) w.adds_up))
        (subst (λ m. Ord m (r.add (s (t y)) (r.neg y))) (let z : suc (k + 1) ≡ k + 2 = omega arith in z) (q.s-t (k + 1) y y_in)))
        (in_sum_to k h n (λ i. r.mul (s (w.multiplier i)) (moved i)) λ i g. spread k 2 (omega arith) (omega arith) (s (w.multiplier i)) (q.s_in 2 (w.multiplier i) (w.order_two i)) i g)

    -- what has order m is, up to order m + e, the image of something of order m
    record Source (m e : ℕ) (y : A) : Type 0 where
      source : A
      source_in : Ord m source
      onto : C (m + e) (s source) y

    find_source : (e m : ℕ) (y : A) → Ord m y → Source m e y
    find_source zero m y y_in = record {
      source = r.zero;
      source_in = o.zero_in m;
      onto = Filtration.close_trans r c Ord o (m + 0) (s r.zero) r.zero y
          (Filtration.close_path r c Ord o (m + 0) (s r.zero) r.zero q.s_is.of_zero)
          (Filtration.close_sym r c Ord o (m + 0) y r.zero (Filtration.close_zero r c Ord o (m + 0) y (subst (λ z. Ord z y) (let z : m ≡ m + 0 = omega arith in z) y_in)));
    }
    find_source (suc e) m y y_in = step (find_source e (m + 1) left left_in)
      where
        left : A
        left = r.add y (r.neg (s (t y)))

        left_in : Ord (m + 1) left
        left_in = Filtration.close_sym r c Ord o (m + 1) (s (t y)) y (subst (λ z. Ord z (r.add (s (t y)) (r.neg y))) (let z : suc m ≡ m + 1 = omega arith in z) (q.s-t m y y_in))

        step : Source (m + 1) e left → Source m (suc e) y
        step w = record {
          source = r.add (t y) w.source;
          source_in = o.add_in m (t y) w.source (q.t_in m y y_in) (o.lower_in (m + 1) m w.source (omega arith) w.source_in);
          onto =
              let b : ℕ = m + suc e in
              subst₂ (λ z z'. C b z z') (sym (q.s_is.of_add (t y) w.source)) (Sums.add_sub r c (s (t y)) y)
              (Filtration.close_add r c Ord o b (s (t y)) (s w.source) (s (t y)) (r.add y (r.neg (s (t y))))
              (Filtration.close_path r c Ord o b (s (t y)) (s (t y)) refl)
              (subst (λ z. C z (s w.source) (r.add y (r.neg (s (t y))))) (let z : m + 1 + e ≡ m + suc e = omega arith in z) w.onto));
        }

    -- what a change takes to order m has order m
    into : (m : ℕ) (y : A) → Ord 0 y → Ord m (s y) → Ord m y
    into zero y y_in e = y_in
    into (suc m) y y_in e =
        Filtration.in_from_close r c Ord o (suc m) (t (s y)) y (q.t-s m y (into m y y_in (o.lower_in (suc m) m (s y) (omega arith) e))) (q.t_in (suc m) (s y) e)

    -- the multipliers of h, as coefficients of the moved partials of f
    turned : (ℕ → A) → ℕ → A
    turned b i = sum_to r n (λ j. r.mul (b j) (d j (u i)))

    turned_in : (b : ℕ → A) → ((j : ℕ) → Ord 2 (b j)) → (i : ℕ) → Ord 2 (turned b i)
    unfolding turned
    turned_in b e i = Filtration.sum_to_in r c Ord o 2 n (λ j. r.mul (b j) (d j (u i))) λ j g. o.mul_in 2 0 (b j) (d j (u i)) (e j) (p.stays_in j (u i) g (q.u_in i))

    turned_sum : (b : ℕ → A) → sum_to r n (λ j. r.mul (b j) (sum_to r n (λ i. r.mul (moved i) (d j (u i))))) ≡ sum_to r n (λ i. r.mul (turned b i) (moved i))
    unfolding turned
    turned_sum b =
        ap (sum_to r n) (fun_ext λ j. sym (Sums.sum_to-mul r c n (b j) (λ i. r.mul (moved i) (d j (u i)))))
        ∙ Sums.sum_to-sum_to r c n n (λ j i. r.mul (b j) (r.mul (moved i) (d j (u i))))
        ∙ ap (sum_to r n) (fun_ext λ i.
        ap (sum_to r n) (fun_ext λ j. ap (r.mul (b j)) (c.mul_comm (moved i) (d j (u i))) ∙ sym (c.mul_assoc (b j) (d j (u i)) (moved i)))
        ∙ Sums.sum_to-mul_right r c n (λ j. r.mul (b j) (d j (u i))) (moved i))

    -- rows for h give rows for f
    pub rows_before : Rows k h → Rows k f
    rows_before rows y y_in = record {
      multiplier = a;
      order_two = λ i. (sources i).source_in;
      adds_up = into (k + 2) (r.add total_of (r.neg y)) difference_in (subst (Ord (k + 2)) (sym (Hom.of_sub r r c c s q.s_is total_of y)) close_after);
    }
      where
        w : In k h (s y)
        w = rows (s y) (q.s_in (k + 1) y y_in)

        sources : (i : ℕ) → Source 2 k (turned w.multiplier i)
        sources i = find_source k 2 (turned w.multiplier i) (turned_in w.multiplier w.order_two i)

        a : ℕ → A
        a i = (sources i).source

        total_of : A
        total_of = sum_to r n (λ i. r.mul (a i) (d i f))

        difference_in : Ord 0 (r.add total_of (r.neg y))
        difference_in = o.add_in 0 total_of (r.neg y)
            (Filtration.sum_to_in r c Ord o 0 n (λ i. r.mul (a i) (d i f)) λ i g. o.lower_in (2 + 0) 0 (r.mul (a i) (d i f)) (omega arith) (o.mul_in 2 0 (a i) (d i f) (sources i).source_in (p.stays_in i f g f_in)))
            (o.neg_in 0 y (o.lower_in (k + 1) 0 y (omega arith) y_in))

        middle : A
        middle = sum_to r n (λ j. r.mul (w.multiplier j) (sum_to r n (λ i. r.mul (moved i) (d j (u i)))))

        close_after : C (k + 2) (s total_of) (s y)
        close_after =
            Filtration.close_trans r c Ord o (k + 2) (s total_of) middle (s y)
            (Filtration.close_trans r c Ord o (k + 2) (s total_of) (sum_to r n (λ i. r.mul (turned w.multiplier i) (moved i))) middle
            (subst (λ z. C (k + 2) z (sum_to r n (λ i. r.mul (turned w.multiplier i) (moved i)))) (sym (moved_sum a))
            (Filtration.close_sum_to r c Ord o (k + 2) n (λ i. r.mul (s (a i)) (moved i)) (λ i. r.mul (turned w.multiplier i) (moved i)) λ i g.
            subst (λ m. C m (r.mul (s (a i)) (moved i)) (r.mul (turned w.multiplier i) (moved i))) (let z : 0 + (2 + k) ≡ k + 2 = omega arith in z)
            (Filtration.close_mul_left r c Ord o (2 + k) 0 (s (a i)) (turned w.multiplier i) (moved i) (sources i).onto (moved_in i g))))
            (Filtration.close_path r c Ord o (k + 2) (sum_to r n (λ i. r.mul (turned w.multiplier i) (moved i))) middle (sym (turned_sum w.multiplier))))
            (Filtration.close_trans r c Ord o (k + 2) middle (sum_to r n (λ j. r.mul (w.multiplier j) (d j h))) (s y)
            (Filtration.close_sum_to r c Ord o (k + 2) n (λ j. r.mul (w.multiplier j) (sum_to r n (λ i. r.mul (moved i) (d j (u i))))) (λ j. r.mul (w.multiplier j) (d j h)) λ j g.
            subst (λ m. C m (r.mul (w.multiplier j) (sum_to r n (λ i. r.mul (moved i) (d j (u i))))) (r.mul (w.multiplier j) (d j h))) (let z : 2 + k ≡ k + 2 = omega arith in z)
            (Filtration.close_mul r c Ord o 2 k (w.multiplier j) (sum_to r n (λ i. r.mul (moved i) (d j (u i)))) (d j h) (w.order_two j)
            (Filtration.close_sym r c Ord o k (d j h) (sum_to r n (λ i. r.mul (moved i) (d j (u i)))) (partial_of j g))))
            w.adds_up)
