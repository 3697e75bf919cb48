-- Mather rows of polynomials, and that a change keeps them.
use mathlib.Core.Path.{fun_ext}
use mathlib.Core.Quot.{mk, sound}
use Rattle.std.proofs.Common.{◌≡◌, ℕ, zero, suc, ◌+◌, ◌<◌, ◌≤◌, [], ◌∷◌, ◌++◌, filter, Bool, true, false, cond, eqb, leb, eqb-true, eq-eqb, leb-true, ap, sym, ◌∙◌, refl, subst, arith}
use Rattle.ring_theory.specs.Ring.{RingOps, IsCommRing}
use Rattle.poly_law.specs.Sums.{sum_to}
use Rattle.poly_law.specs.Exps.{Exps, IsExps, plus, none, lower, variable, same, degree}
use Rattle.poly_law.specs.Poly.{Terms, times, constant, poly_ops, derivative, SameTo, StartsAt, subst_in, term, IsInvertible, combination, MatherRow, MatherRows}
use Rattle.poly_law.proofs.ExpLaws
use Rattle.poly_law.proofs.Pair
use Rattle.poly_law.proofs.Pair.{pair, at_only}
use Rattle.poly_law.proofs.PolyRing.{Poly, poly_ring, poly_is_ring}
use Rattle.poly_law.proofs.Derivative.{partial}
use Rattle.poly_law.proofs.Order
use Rattle.poly_law.proofs.Subst
use Rattle.poly_law.proofs.Near
use Rattle.poly_law.proofs.Mather
use Rattle.poly_law.proofs.Rows.{row_of, mather_row}
use Rattle.poly_law.proofs.Filtration
use Rattle.poly_law.proofs.Change
use Rattle.poly_law.proofs.Change.{Ord}

module _ {E V : Type 0} (x : Exps E) (l : IsExps x) (r : RingOps V) (c : IsCommRing r) (s : IsSet V) where
  abbrev ring : RingOps (Poly x r)
  ring = poly_ring x l r c

  abbrev laws : IsCommRing ring
  laws = poly_is_ring x l r c

  -- the same in the ring: what is there for the polynomial k and g
  abbrev In : ℕ → Terms E V → Poly x r → Type 0
  In k g q = Mather.In ring laws (Ord x l r c s) (Change.ord_filtration x l r c s) x.count (partial x l r c) (Change.partials x l r c s) k (mk g) q

  abbrev Rows : ℕ → Terms E V → Type 0
  Rows k g = Mather.Rows ring laws (Ord x l r c s) (Change.ord_filtration x l r c s) x.count (partial x l r c) (Change.partials x l r c s) k (mk g)

  abbrev Close : ℕ → Poly x r → Poly x r → Type 0
  Close = Filtration.Close ring laws (Ord x l r c s) (Change.ord_filtration x l r c s)

  pub mk_combination : (multiplier : ℕ → Terms E V) (g : Terms E V)
      → ◌≡◌ {A = Poly x r} (mk (combination x r multiplier g)) (sum_to ring x.count (λ i. ring.mul (mk (multiplier i)) (partial x l r c i (mk g))))
  mk_combination multiplier g = Subst.mk_sum_to x l r c s x.count (λ i. times x r (multiplier i) (derivative x r i g))

  -- close in the ring is the same up to a degree
  close_of : (k : ℕ) (f g : Terms E V) → SameTo x r k f g → Ord x l r c s (suc k) (ring.add (mk f) (ring.neg (mk g)))
  close_of k f g e = record { list = f ++ (poly_ops x r).neg g; is = refl; starts = Order.difference_starts x l r c k f g e }

  same_of : (k : ℕ) (f g : Terms E V) → Ord x l r c s (suc k) (ring.add (mk f) (ring.neg (mk g))) → SameTo x r k f g
  same_of k f g u = Order.same_to_from_difference x l r c k f g λ m h.
      sym (Subst.same_from_path x l r c s u.list (f ++ (poly_ops x r).neg g) u.is m) ∙ u.starts m h

  starts_of : (d : ℕ) (f : Terms E V) → Ord x l r c s d (mk f) → StartsAt x r d f
  starts_of d f u m h = sym (Subst.same_from_path x l r c s u.list f u.is m) ∙ u.starts m h

  row_in : (k : ℕ) (g : Terms E V) (m : E) → MatherRow x r k g m → In k g (mk (term x r m))
  row_in k g m row = let w = row_of x r k g m row in record {
    multiplier = λ i. mk (w.multiplier i);
    order_two = λ i. record { list = w.multiplier i; is = refl; starts = w.order_two i };
    adds_up = subst (λ z. Close (k + 2) z (mk (term x r m))) (mk_combination w.multiplier g)
        (subst (λ z. Close z (mk (combination x r w.multiplier g)) (mk (term x r m))) (let z : suc (k + 1) ≡ k + 2 = omega arith in z) (close_of (k + 1) (combination x r w.multiplier g) (term x r m) w.adds_up));
  }

  row_out : (k : ℕ) (g : Terms E V) (m : E) → In k g (mk (term x r m)) → MatherRow x r k g m
  row_out k g m w = mather_row x r k g m (record {
    multiplier = list;
    order_two = λ i. (w.order_two i).starts;
    adds_up = same_of (k + 1) (combination x r list g) (term x r m)
        (subst (λ z. Close z (mk (combination x r list g)) (mk (term x r m))) (let z : k + 2 ≡ suc (k + 1) = omega arith in z)
        (subst (λ z. Close (k + 2) z (mk (term x r m)))
        (ap (sum_to ring x.count) (fun_ext λ i. ap (λ p. ring.mul p (partial x l r c i (mk g))) (sym (w.order_two i).is)) ∙ sym (mk_combination list g)) w.adds_up));
  })
    where
      list : ℕ → Terms E V
      list i = (w.order_two i).list

  term_in : (k : ℕ) (g : Terms E V) → MatherRows x r k g → (a : E) (b : V) → k + 1 ≤ degree x a → In k g (mk ((a, b) ∷ []))
  term_in k g rows a b h = step (eqb (degree x a) (k + 1)) refl
    where
      scaled : ◌≡◌ {A = Poly x r} (ring.mul (mk (constant x r b)) (mk (term x r a))) (mk ((a, b) ∷ []))
      scaled = sound (Pair.same_from_pair x l r c (times x r (constant x r b) (term x r a)) ((a, b) ∷ []) λ w.
          Pair.pair-times x r c (constant x r b) (term x r a) w
          ∙ ap (λ z. r.add (r.mul b z) r.zero) (Near.pair-term x l r c s a (λ e. w (plus x (none x) e)) ∙ ap w (ExpLaws.plus_comm x l (none x) a ∙ ExpLaws.plus-none x l a)))

      step : (t : Bool) → eqb (degree x a) (k + 1) ≡ t → In k g (mk ((a, b) ∷ []))
      step true e = subst (In k g) scaled
          (Mather.in_mul ring laws (Ord x l r c s) (Change.ord_filtration x l r c s) x.count (partial x l r c) (Change.partials x l r c s) k (mk g) (mk (term x r a)) (mk (constant x r b))
          (record { list = constant x r b; is = refl; starts = Change.starts_none x l r c s (constant x r b) })
          (row_in k g a (rows a (eqb-true (degree x a) (k + 1) e))))
      step false e =
          Mather.in_close ring laws (Ord x l r c s) (Change.ord_filtration x l r c s) x.count (partial x l r c) (Change.partials x l r c s) k (mk g) ring.zero (mk ((a, b) ∷ []))
          (Filtration.close_sym ring laws (Ord x l r c s) (Change.ord_filtration x l r c s) (k + 2) (mk ((a, b) ∷ [])) ring.zero
          (Filtration.close_zero ring laws (Ord x l r c s) (Change.ord_filtration x l r c s) (k + 2) (mk ((a, b) ∷ [])) (record {
            list = (a, b) ∷ [];
            is = refl;
            starts = λ m y. c.add_zero (cond (same x a m) b r.zero) ∙ ap (λ t. cond t b r.zero) (ExpLaws.same-no x l a m (λ z. let z' : degree x a ≡ degree x m = ap (degree x) z in far z' y e));
          })))
          (Mather.in_zero ring laws (Ord x l r c s) (Change.ord_filtration x l r c s) x.count (partial x l r c) (Change.partials x l r c s) k (mk g))
        where
          far : {d : ℕ} → degree x a ≡ d → d < k + 2 → eqb (degree x a) (k + 1) ≡ false → ⊥
          far {d} z y e = bad (sym e ∙ eq-eqb (degree x a) (k + 1) (omega arith))
            where
              bad : false ≡ true → ⊥
              bad e = cc e

  -- what starts at degree k + 1 is a sum of its terms
  high_in : (k : ℕ) (g : Terms E V) → MatherRows x r k g → (f : Terms E V) → In k g (mk (filter (λ t. leb (k + 1) (degree x t.0)) f))
  high_in k g rows [] = Mather.in_zero ring laws (Ord x l r c s) (Change.ord_filtration x l r c s) x.count (partial x l r c) (Change.partials x l r c s) k (mk g)
  high_in k g rows (t ∷ f) = step (leb (k + 1) (degree x t.0)) refl (high_in k g rows f)
    where
      step : (b : Bool) → leb (k + 1) (degree x t.0) ≡ b → In k g (mk (filter (λ t. leb (k + 1) (degree x t.0)) f))
          → In k g (mk (cond b (t ∷ filter (λ t. leb (k + 1) (degree x t.0)) f) (filter (λ t. leb (k + 1) (degree x t.0)) f)))
      step true h ih =
          Mather.in_add ring laws (Ord x l r c s) (Change.ord_filtration x l r c s) x.count (partial x l r c) (Change.partials x l r c s) k (mk g) (mk (t ∷ [])) (mk (filter (λ t. leb (k + 1) (degree x t.0)) f))
          (term_in k g rows t.0 t.1 (leb-true (k + 1) (degree x t.0) h)) ih
      step false h ih = ih

  rows_in : (k : ℕ) (g : Terms E V) → MatherRows x r k g → Rows k g
  rows_in k g rows q u = subst (In k g) (sym (sound (Order.keep_high x l r c (k + 1) u.list u.starts)) ∙ u.is) (high_in k g rows u.list)

  rows_out : (k : ℕ) (g : Terms E V) → Rows k g → MatherRows x r k g
  rows_out k g rows m e = row_out k g m (rows (mk (term x r m)) (record {
    list = term x r m;
    is = refl;
    starts = λ a h. Near.coefficient-term x l r c s m a ∙ Order.at_only_high x l r c a m (omega arith);
  }))

  -- rows at an order give rows at the next, and at each higher one
  pub rows_up : (k : ℕ) (g : Terms E V) → MatherRows x r k g → MatherRows x r (k + 1) g
  rows_up k g rows m e =
      let v = ExpLaws.positive_term x.count (x.at m) (omega arith) in
      let j : ℕ = v.0 in
      let e' : degree x (lower x j m) + 1 ≡ degree x m = ExpLaws.degree-lower x l j m v.2 v.1 in
      row_out (k + 1) g m (subst (In (k + 1) g) (sound (Near.times_term_term x l r c s (variable x j) (lower x j m)) ∙ ap (λ a. mk (term x r a)) (ExpLaws.variable-lower x l j m v.2))
      (Mather.in_up ring laws (Ord x l r c s) (Change.ord_filtration x l r c s) x.count (partial x l r c) (Change.partials x l r c s) k (mk g) (mk (term x r (variable x j))) (mk (term x r (lower x j m)))
      (record { list = term x r (variable x j); is = refl; starts = Near.variables_start x l r c s j v.1 })
      (row_in k g (lower x j m) (rows (lower x j m) (omega arith)))))

  pub rows_above : (e k : ℕ) (g : Terms E V) → MatherRows x r k g → MatherRows x r (k + e) g
  rows_above zero k g rows = subst (λ z. MatherRows x r z g) (let z : k ≡ k + 0 = omega arith in z) rows
  rows_above (suc e) k g rows = subst (λ z. MatherRows x r z g) (let z : k + e + 1 ≡ k + suc e = omega arith in z) (rows_up (k + e) g (rows_above e k g rows))

  module _ (parts : ℕ → Terms E V) (matrix : ℕ → ℕ → V) (q : IsInvertible x r parts matrix) (k : ℕ) (f h : Terms E V) (carried : SameTo x r k h (subst_in x x r parts f)) where
    carried_close : Close (k + 1) (mk h) (mk (subst_in x x r parts f))
    carried_close = subst (λ z. Close z (mk h) (mk (subst_in x x r parts f))) (let z : suc k ≡ k + 1 = omega arith in z) (close_of k h (subst_in x x r parts f) carried)

    f_in : Ord x l r c s 0 (mk f)
    f_in = record { list = f; is = refl; starts = Change.starts_none x l r c s f }

    pub kept_after : MatherRows x r k f → MatherRows x r k h
    kept_after rows = rows_out k h
        (Mather.rows_after ring laws (Ord x l r c s) (Change.ord_filtration x l r c s) x.count (partial x l r c) (Change.partials x l r c s)
        (λ i. mk (parts i)) (λ j k. mk (constant x r (matrix j k))) (Change.forth_map x l r c s parts matrix q) (Change.back_map x l r c s parts matrix q)
        (Change.change x l r c s parts matrix q) k (mk f) (mk h) f_in carried_close (rows_in k f rows))

    pub kept_before : MatherRows x r k h → MatherRows x r k f
    kept_before rows = rows_out k f
        (Mather.rows_before ring laws (Ord x l r c s) (Change.ord_filtration x l r c s) x.count (partial x l r c) (Change.partials x l r c s)
        (λ i. mk (parts i)) (λ j k. mk (constant x r (matrix j k))) (Change.forth_map x l r c s parts matrix q) (Change.back_map x l r c s parts matrix q)
        (Change.change x l r c s parts matrix q) k (mk f) (mk h) f_in carried_close (rows_in k h rows))
