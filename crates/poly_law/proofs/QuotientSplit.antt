-- The quotient of a split form is that of its residual part.
use mathlib.Core.Path.{fun_ext}
use Rattle.std.proofs.Common.{◌≡◌, ℕ, ◌<◌, ◌≤◌, inl, inr, [], ◌∷◌, ◌++◌, Bool, true, false, cond, eqb, leb, ltb, ne_eqb, eq-eqb, ltb-true, ltb-false, lt-ltb, le-ltb, ap, sym, ◌∙◌, refl, ap₂, subst, arith}
use Rattle.ring_theory.specs.Ring.{RingOps, IsCommRing}
use Rattle.poly_law.specs.Sums.{sum_to, multiple}
use Rattle.poly_law.specs.Exps.{Exps, IsExps, plus, lower, variable, degree}
use Rattle.poly_law.specs.Poly.{Terms, coefficient, scale, times, poly_ops, derivative, Same, SameTo, term, combination, square, IsSplit, of_basis, values_of, InIdeal, IsQuotient}
use Rattle.poly_law.proofs.Sums
use Rattle.poly_law.proofs.ExpLaws
use Rattle.poly_law.proofs.Pair
use Rattle.poly_law.proofs.Pair.{pair}
use Rattle.poly_law.proofs.PolyRing
use Rattle.poly_law.proofs.PolyRing.{Poly}
use Rattle.poly_law.proofs.Near
use Rattle.poly_law.proofs.Linear
use Rattle.poly_law.proofs.Place
use Rattle.poly_law.proofs.Split
use Rattle.poly_law.proofs.Quotient

module _ {E F V : Type 0} (x : Exps E) (l : IsExps x) (y : Exps F) (m : IsExps y) (fewer : y.count ≤ x.count) (r : RingOps V) (c : IsCommRing r) (s : IsSet V)
    (f : Terms E V) (g : Terms F V) (split : IsSplit x y r f g) where
  abbrev placed : F → E
  placed = Place.placed x l y m fewer

  abbrev restrict : E → F
  restrict = Place.restrict x l y m fewer

  abbrev pure : E → Bool
  pure = Place.pure x l y m fewer

  abbrev down : Terms E V → Terms F V
  down = Split.down x l y m fewer r c s

  abbrev up : Terms F V → Terms E V
  up = Split.up x l y m fewer r c s

  -- a combination of the partials of g is one of those of f
  abbrev lifted : (ℕ → Terms F V) → ℕ → Terms E V
  lifted multiplier i = cond (ltb i y.count) (up (multiplier i)) []

  combination_up : (multiplier : ℕ → Terms F V) → Same x r (combination x r (lifted multiplier) f) (up (combination y r multiplier g))
  combination_up multiplier a =
      Linear.coefficient-sum_to x l r c x.count (λ i. times x r (lifted multiplier i) (derivative x r i f)) a
      ∙ Sums.sum_to-front r c y.count x.count (λ i. coefficient x r (times x r (lifted multiplier i) (derivative x r i f)) a) fewer
      (λ i z z'. ap (λ t. coefficient x r (times x r (cond t (up (multiplier i)) []) (derivative x r i f)) a) (le-ltb i y.count z))
      ∙ Sums.sum_to-cong r y.count (λ i. coefficient x r (times x r (lifted multiplier i) (derivative x r i f)) a) (λ i. coefficient x r (up (times y r (multiplier i) (derivative y r i g))) a)
      (λ i z.
      ap (λ t. coefficient x r (times x r (cond t (up (multiplier i)) []) (derivative x r i f)) a) (lt-ltb i y.count z)
      ∙ PolyRing.times_right x l r c (up (multiplier i)) (derivative x r i f) (up (derivative y r i g)) (Split.up_front x l y m fewer r c s f g split i z) a
      ∙ sym (Split.up_times x l y m fewer r c s (multiplier i) (derivative y r i g) a))
      ∙ step (pure a) refl
    where
      each : ℕ → Terms F V
      each i = times y r (multiplier i) (derivative y r i g)

      step : (t : Bool) → pure a ≡ t → sum_to r y.count (λ i. coefficient x r (up (each i)) a) ≡ coefficient x r (up (combination y r multiplier g)) a
      step true e =
          ap (λ z. sum_to r y.count (λ i. coefficient x r (up (each i)) z)) (Place.pure-is x l y m fewer a e)
          ∙ ap (sum_to r y.count) (fun_ext λ i. Split.coefficient-up x l y m fewer r c s (each i) (restrict a))
          ∙ sym (Linear.coefficient-sum_to y m r c y.count each (restrict a))
          ∙ sym (Split.coefficient-up x l y m fewer r c s (combination y r multiplier g) (restrict a))
          ∙ ap (coefficient x r (up (combination y r multiplier g))) (sym (Place.pure-is x l y m fewer a e))
      step false e =
          Sums.sum_to-nothing r c y.count (λ i. coefficient x r (up (each i)) a) (λ i z. Split.coefficient-up_other x l y m fewer r c s (each i) a (Place.not_placed x l y m fewer a e))
          ∙ sym (Split.coefficient-up_other x l y m fewer r c s (combination y r multiplier g) a (Place.not_placed x l y m fewer a e))

  up_same_to : (k : ℕ) (h h' : Terms F V) → SameTo y r k h h' → SameTo x r k (up h) (up h')
  up_same_to k h h' e a z = step (pure a) refl
    where
      step : (t : Bool) → pure a ≡ t → coefficient x r (up h) a ≡ coefficient x r (up h') a
      step true p =
          ap (coefficient x r (up h)) (Place.pure-is x l y m fewer a p) ∙ Split.coefficient-up x l y m fewer r c s h (restrict a)
          ∙ e (restrict a) (let e₁ = Place.degree-placed x l y m fewer (restrict a) in let e₂ : degree x a ≡ degree x (placed (restrict a)) = ap (degree x) (Place.pure-is x l y m fewer a p) in omega arith)
          ∙ sym (Split.coefficient-up x l y m fewer r c s h' (restrict a)) ∙ ap (coefficient x r (up h')) (sym (Place.pure-is x l y m fewer a p))
      step false p = Split.coefficient-up_other x l y m fewer r c s h a (Place.not_placed x l y m fewer a p) ∙ sym (Split.coefficient-up_other x l y m fewer r c s h' a (Place.not_placed x l y m fewer a p))

  module _ (inverse : ℕ → V) (units : (w : ℕ) → y.count ≤ w → w < x.count → r.mul (inverse w) (multiple r 2 (coefficient x r f (square x y r w))) ≡ r.one)
      (k : ℕ) (size : ℕ) (basis : ℕ → F) (row : F → ℕ → V) (q : IsQuotient y r k g size basis row) where
    -- the values, 0 where a square variable stands
    abbrev pub split_row : E → ℕ → V
    split_row a j = cond (pure a) (row (restrict a) j) r.zero

    values_down : (h : Terms E V) (j : ℕ) → values_of x r split_row k h j ≡ values_of y r row k (down h) j
    values_down h j =
        Quotient.values_is x l r c s k split_row h j
        ∙ ap (pair r h) (fun_ext λ e. step e (pure e) refl)
        ∙ sym (Split.pair-down x l y m fewer r c s h (λ b. cond (leb (degree y b) k) (row b j) r.zero))
        ∙ sym (Quotient.values_is y m r c s k row (down h) j)
      where
        none : (b : Bool) → cond b r.zero r.zero ≡ r.zero
        none true = refl
        none false = refl

        step : (e : E) (t : Bool) → pure e ≡ t → cond (leb (degree x e) k) (cond t (row (restrict e) j) r.zero) r.zero ≡ cond t (cond (leb (degree y (restrict e)) k) (row (restrict e) j) r.zero) r.zero
        step e true p = ap (λ d. cond (leb d k) (row (restrict e) j) r.zero) (ap (degree x) (Place.pure-is x l y m fewer e p) ∙ Place.degree-placed x l y m fewer (restrict e))
        step e false p = none (leb (degree x e) k)

    down_term : (a : E) → pure a ≡ true → Same y r (down (term x r a)) (term y r (restrict a))
    down_term a p = Pair.same_from_pair y m r c (down (term x r a)) (term y r (restrict a)) λ w.
        Split.pair-down x l y m fewer r c s (term x r a) w ∙ Near.pair-term x l r c s a (λ e. cond (pure e) (w (restrict e)) r.zero)
        ∙ ap (λ t. cond t (w (restrict a)) r.zero) p ∙ sym (Near.pair-term y m r c s (restrict a) w)

    down_other : (a : E) → pure a ≡ false → Same y r (down (term x r a)) []
    down_other a p = Pair.same_from_pair y m r c (down (term x r a)) [] λ w.
        Split.pair-down x l y m fewer r c s (term x r a) w ∙ Near.pair-term x l r c s a (λ e. cond (pure e) (w (restrict e)) r.zero)
        ∙ ap (λ t. cond t (w (restrict a)) r.zero) p

    values-from : (h h' : Terms F V) → Same y r h h' → (j : ℕ) → values_of y r row k h j ≡ values_of y r row k h' j
    values-from h h' e j = Quotient.values_same y m r c s k row h h' (λ b z. e b) j

    on_partial : (a : E) (i j : ℕ) → i < x.count → j < size → (t : Bool) → ltb i y.count ≡ t → (u : Bool) → pure a ≡ u → values_of y r row k (times y r (down (term x r a)) (down (derivative x r i f))) j ≡ r.zero
    on_partial a i j h g' false e u p =
        values-from (times y r (down (term x r a)) (down (derivative x r i f))) [] (λ b.
        PolyRing.times_right y m r c (down (term x r a)) (down (derivative x r i f)) [] (Split.down_past x l y m fewer r c s f g split i (ltb-false i y.count e) h) b
        ∙ Split.times_nothing x l y m fewer r c s (down (term x r a)) b) j
    on_partial a i j h g' true e true p =
        values-from (times y r (down (term x r a)) (down (derivative x r i f))) (times y r (term y r (restrict a)) (derivative y r i g)) (λ b.
        PolyRing.times_left y m r c (down (term x r a)) (term y r (restrict a)) (down (derivative x r i f)) (down_term a p) b
        ∙ PolyRing.times_right y m r c (term y r (restrict a)) (down (derivative x r i f)) (derivative y r i g) (Split.down_front x l y m fewer r c s f g split i (ltb-true i y.count e)) b) j
        ∙ q.zero_on (restrict a) i j (ltb-true i y.count e) g'
    on_partial a i j h g' true e false p =
        values-from (times y r (down (term x r a)) (down (derivative x r i f))) [] (λ b. PolyRing.times_left y m r c (down (term x r a)) [] (down (derivative x r i f)) (down_other a p) b) j

    -- a monomial with a square variable is in the ideal
    only : E → ℕ → Terms E V
    only a w = (lower x w a, inverse w) ∷ []

    single : E → ℕ → ℕ → Terms E V
    single a w i = cond (eqb i w) (only a w) []

    of_single : (a : E) (w : ℕ) → y.count ≤ w → w < x.count → 0 < x.at a w → Same x r (combination x r (single a w) f) (term x r a)
    unfolding single only
    of_single a w h h' p b =
        Linear.coefficient-sum_to x l r c x.count (λ i. times x r (single a w i) (derivative x r i f)) b
        ∙ Sums.sum_to-single r c x.count w (λ i. coefficient x r (times x r (single a w i) (derivative x r i f)) b) h' (λ i z ne. ap (λ t. coefficient x r (times x r (cond t (only a w) []) (derivative x r i f)) b) (ne_eqb i w ne))
        ∙ ap (λ t. coefficient x r (times x r (cond t (only a w) []) (derivative x r w f)) b) (eq-eqb w w refl)
        ∙ PolyRing.times_right x l r c (only a w) (derivative x r w f) (Split.slope_at x l y m fewer r c s f g split w) (Split.up_past x l y m fewer r c s f g split w h h') b
        ∙ Pair.same_from_pair x l r c (times x r (only a w) (Split.slope_at x l y m fewer r c s f g split w)) (term x r a) (λ v.
        Pair.pair-times x r c (only a w) (Split.slope_at x l y m fewer r c s f g split w) v
        ∙ ap (λ z. r.add z r.zero)
        (ap (r.mul (inverse w)) (c.add_zero (r.mul (multiple r 2 (coefficient x r f (square x y r w))) (v (plus x (lower x w a) (variable x w)))))
        ∙ sym (c.mul_assoc (inverse w) (multiple r 2 (coefficient x r f (square x y r w))) (v (plus x (lower x w a) (variable x w))))
        ∙ ap₂ r.mul (units w h h') (ap v (ExpLaws.plus_comm x l (lower x w a) (variable x w) ∙ ExpLaws.variable-lower x l w a p)))) b

    abbrev split_basis : ℕ → E
    split_basis i = placed (basis i)

    pair-basis : (v : ℕ → V) (w : E → V) → pair r (of_basis x r size split_basis v) w ≡ sum_to r size (λ j. r.mul (v j) (w (placed (basis j))))
    pair-basis v w =
        Linear.pair-sum_to x l r c size (λ j. scale x r (v j) (term x r (placed (basis j)))) w
        ∙ ap (sum_to r size) (fun_ext λ j. Pair.pair-scale x r c (v j) (term x r (placed (basis j))) w ∙ ap (r.mul (v j)) (Near.pair-term x l r c s (placed (basis j)) w))

    pair-basis_below : (v : ℕ → V) (w : F → V) → pair r (of_basis y r size basis v) w ≡ sum_to r size (λ j. r.mul (v j) (w (basis j)))
    pair-basis_below v w =
        Linear.pair-sum_to y m r c size (λ j. scale y r (v j) (term y r (basis j))) w
        ∙ ap (sum_to r size) (fun_ext λ j. Pair.pair-scale y r c (v j) (term y r (basis j)) w ∙ ap (r.mul (v j)) (Near.pair-term y m r c s (basis j) w))

    row-placed : (b : F) (j : ℕ) → split_row (placed b) j ≡ row b j
    row-placed b j = ap₂ (λ t z. cond t (row z j) r.zero) (Place.pure-placed x l y m fewer b) (Place.restrict-placed x l y m fewer b)

    up_rest : (b : F) → Same x r (up (term y r b ++ (poly_ops y r).neg (of_basis y r size basis (row b)))) (term x r (placed b) ++ (poly_ops x r).neg (of_basis x r size split_basis (split_row (placed b))))
    up_rest b = Pair.same_from_pair x l r c (up (term y r b ++ (poly_ops y r).neg (of_basis y r size basis (row b)))) (term x r (placed b) ++ (poly_ops x r).neg (of_basis x r size split_basis (split_row (placed b)))) λ w.
        Split.pair-up x l y m fewer r c s (term y r b ++ (poly_ops y r).neg (of_basis y r size basis (row b))) w
        ∙ Pair.pair-append r c (term y r b) ((poly_ops y r).neg (of_basis y r size basis (row b))) (λ b. w (placed b))
        ∙ ap₂ r.add
        (Near.pair-term y m r c s b (λ b. w (placed b)) ∙ sym (Near.pair-term x l r c s (placed b) w))
        (Pair.pair-neg y r c (of_basis y r size basis (row b)) (λ b. w (placed b))
        ∙ ap r.neg (pair-basis_below (row b) (λ b. w (placed b)) ∙ ap (sum_to r size) (fun_ext λ j. ap (λ v. r.mul v (w (placed (basis j)))) (sym (row-placed b j))) ∙ sym (pair-basis (split_row (placed b)) w))
        ∙ sym (Pair.pair-neg x r c (of_basis x r size split_basis (split_row (placed b))) w))
        ∙ sym (Pair.pair-append r c (term x r (placed b)) ((poly_ops x r).neg (of_basis x r size split_basis (split_row (placed b)))) w)

    no_rest : (a : E) → pure a ≡ false → Same x r (term x r a) (term x r a ++ (poly_ops x r).neg (of_basis x r size split_basis (split_row a)))
    no_rest a p = Pair.same_from_pair x l r c (term x r a) (term x r a ++ (poly_ops x r).neg (of_basis x r size split_basis (split_row a))) λ w. sym
        (Pair.pair-append r c (term x r a) ((poly_ops x r).neg (of_basis x r size split_basis (split_row a))) w
        ∙ ap (r.add (pair r (term x r a) w))
        (Pair.pair-neg x r c (of_basis x r size split_basis (split_row a)) w
        ∙ ap r.neg (pair-basis (split_row a) w ∙ Sums.sum_to-nothing r c size (λ j. r.mul (split_row a j) (w (placed (basis j)))) (λ j z. ap (λ t. r.mul (cond t (row (restrict a) j) r.zero) (w (placed (basis j)))) p ∙ Sums.zero_mul r c (w (placed (basis j)))))
        ∙ Sums.neg_zero r c)
        ∙ c.add_zero (pair r (term x r a) w))

    pub quotient_of_split : IsQuotient x r k f size split_basis split_row
    quotient_of_split = record {
      low = λ i h. let z = q.low i h in let z' = Place.degree-placed x l y m fewer (basis i) in omega arith;
      units = λ i j h h'. row-placed (basis i) j ∙ q.units i j h h';
      zero_on = λ a i j h h'.
          values_down (times x r (term x r a) (derivative x r i f)) j
          ∙ values-from (down (times x r (term x r a) (derivative x r i f))) (times y r (down (term x r a)) (down (derivative x r i f))) (Split.down_times x l y m fewer r c s (term x r a) (derivative x r i f)) j
          ∙ on_partial a i j h h' (ltb i y.count) refl (pure a) refl;
      spans = λ a h. elim (ExpLaws.find_past y.count x.count (x.at a)) [
        | inl z ↦
            let p : a ≡ placed (restrict a) = Place.placed-restrict x l y m fewer a z in
            subst (λ a. InIdeal x r k f (term x r a ++ (poly_ops x r).neg (of_basis x r size split_basis (split_row a)))) (sym p)
            (spans_up (restrict a) (q.spans (restrict a) (let d = Place.degree-placed x l y m fewer (restrict a) in let d' : degree x a ≡ degree x (placed (restrict a)) = ap (degree x) p in omega arith)))
        | inr v ↦ spans_single a v.0 v.1 v.2 v.3
      ];
    }
      where
        spans_up : (b : F) → InIdeal y r k g (term y r b ++ (poly_ops y r).neg (of_basis y r size basis (row b))) → InIdeal x r k f (term x r (placed b) ++ (poly_ops x r).neg (of_basis x r size split_basis (split_row (placed b))))
        spans_up b w = record {
          multiplier = lifted w.multiplier;
          adds_up = λ e z.
              sym (up_rest b e)
              ∙ up_same_to k (term y r b ++ (poly_ops y r).neg (of_basis y r size basis (row b))) (combination y r w.multiplier g) w.adds_up e z
              ∙ sym (combination_up w.multiplier e);
        }

        impure : (a : E) (w : ℕ) → y.count ≤ w → w < x.count → 0 < x.at a w → pure a ≡ false
        impure a w h h' p = decide (pure a) refl
          where
            decide : (t : Bool) → pure a ≡ t → pure a ≡ false
            decide true e = absurd (let z = Place.pure-past x l y m fewer a e w h h' in omega arith)
            decide false e = e

        spans_single : (a : E) (w : ℕ) → y.count ≤ w → w < x.count → 0 < x.at a w → InIdeal x r k f (term x r a ++ (poly_ops x r).neg (of_basis x r size split_basis (split_row a)))
        spans_single a w h h' p = record {
          multiplier = single a w;
          adds_up = λ e z. sym (no_rest a (impure a w h h' p) e) ∙ sym (of_single a w h h' p e);
        }
