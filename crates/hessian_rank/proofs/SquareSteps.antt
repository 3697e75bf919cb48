-- Closing one square after the other: what stays true of the open and the closed variables.
use Rattle.std.proofs.Common.{◌≡◌, ◌≢◌, ℕ, suc, ◌<◌, ◌⊎◌, inl, inr, Bool, true, false, cond, eqb, eqb-true, eq-eqb, ne_eqb, Some, None, List, [], ◌∷◌, ◌++◌, map, length-append, ap, ap₂, sym, ◌∙◌, refl, subst, arith}
use Rattle.ring_theory.specs.Scalars.{Scalars, ScalarLaws, HasInverses}
use Rattle.ring_theory.proofs.ValueSet.{values_are_set}
use Rattle.poly_law.specs.Sums.{sum_to, multiple, unit_at}
use Rattle.poly_law.specs.Exps.{variable, plus}
use Rattle.poly_law.specs.ExpList.{exps}
use Rattle.poly_law.specs.Poly.{coefficient, SameTo, StartsAt}
use Rattle.poly_law.specs.Polynomials.{Polynomial, substitute}
use Rattle.poly_law.proofs.ExpLists.{exps_are}
use Rattle.poly_law.proofs.ExpLaws
use Rattle.poly_law.proofs.Linear
use Rattle.poly_law.proofs.Place
use Rattle.poly_law.proofs.Sums
use Rattle.poly_law.proofs.SubstOrder
use Rattle.mono_exp.proofs.Lists.{Each, each-append, each-map}
use Rattle.jet_poly.proofs.Derived.{whole-mul}
use Rattle.germ_law.proofs.Canonical
use Rattle.kill_law.specs.Kill.{first}
use Rattle.coord_change.specs.Moves.{Move, put, variable_of}
use Rattle.coord_change.specs.Carries.{carry}
use Rattle.move_law.specs.Moves.{over, linear}
use Rattle.move_law.specs.Hessian.{Squares, pairs, others, moved, entry, double, completing, close, mixing}
use Rattle.split_lemma.proofs.Halves.{zero_from_double}
use Rattle.hessian_rank.proofs.NumberLists
use Rattle.hessian_rank.specs.Sound.{Has, Distinct, IsLinear, partial, IsSound}
use Rattle.hessian_rank.proofs.MatrixSums
use Rattle.hessian_rank.proofs.SecondPartials
use Rattle.hessian_rank.proofs.PairExponents
use Rattle.hessian_rank.proofs.LinearMoves

-- ---- the first of a list

module _ {A : Type 0} (p : A → Bool) where
  -- the first that passes passes
  pub first_passes : (xs : List A) (x : A) → first p xs ≡ Some x → p x ≡ true
  first_passes [] x e = let bad : ⊥ = cc e in absurd bad
  first_passes (y ∷ ys) x e = step (p y) refl (first_passes ys x) e
    where
      same : Some y ≡ Some x → y ≡ x
      same q = cc q

      step : (b : Bool) → p y ≡ b → (first p ys ≡ Some x → p x ≡ true) → cond b (Some y) (first p ys) ≡ Some x → p x ≡ true
      step true q rest h = subst (λ z. p z ≡ true) (same h) q
      step false q rest h = rest h

  -- what holds of each holds of the first that passes
  pub first_each : (P : A → Type 0) (xs : List A) (x : A) → Each P xs → first p xs ≡ Some x → P x
  first_each P [] x a e = let bad : ⊥ = cc e in absurd bad
  first_each P (y ∷ ys) x a e = step (p y) (first_each P ys x a.1) e
    where
      same : Some y ≡ Some x → y ≡ x
      same q = cc q

      step : (b : Bool) → (first p ys ≡ Some x → P x) → cond b (Some y) (first p ys) ≡ Some x → P x
      step true rest h = subst P (same h) a.0
      step false rest h = rest h

  -- where there is no first, none passes
  pub none_passes : (xs : List A) → first p xs ≡ None → Each (λ x. p x ≡ false) xs
  none_passes [] e = tt
  none_passes (y ∷ ys) e = step (p y) refl (none_passes ys) e
    where
      step : (b : Bool) → p y ≡ b → (first p ys ≡ None → Each (λ x. p x ≡ false) ys) → cond b (Some y) (first p ys) ≡ None → Each (λ x. p x ≡ false) (y ∷ ys)
      step true q rest h = let bad : ⊥ = cc h in absurd bad
      step false q rest h = (q, rest h)

-- what holds of the pairs of different numbers of a list
pub each-pairs : (P : ℕ × ℕ → Type 0) (xs : List ℕ) → Distinct xs → ((i j : ℕ) → Has xs i → Has xs j → i ≢ j → P (i, j)) → Each P (pairs xs)
each-pairs P [] d f = tt
each-pairs P (x ∷ xs) d f =
    each-append P (map (λ y. (x, y)) xs) (pairs xs)
    (each-map P (λ (y : ℕ). (x, y)) xs (NumberLists.each-from (λ y. P (x, y)) xs (λ j h. f x j (inl refl) (inr h) (NumberLists.each-has (λ y. x ≢ y) xs j d.0 h))))
    (each-pairs P xs d.1 (λ i j h g ne. f i j (inr h) (inr g) ne))

-- two different numbers of a list stand in a pair, in one order or the other
pub pair-has : (P : ℕ × ℕ → Type 0) (xs : List ℕ) → Each P (pairs xs) → (i j : ℕ) → Has xs i → Has xs j → i ≢ j → P (i, j) ⊎ P (j, i)
pair-has P [] e i j h g ne = absurd h
pair-has P (x ∷ xs) e i j h g ne = step (halves (map (λ y. (x, y)) xs) (pairs xs) e) h g (λ a b. pair-has P xs (halves (map (λ y. (x, y)) xs) (pairs xs) e).1 i j a b ne)
  where
    halves : (us vs : List (ℕ × ℕ)) → Each P (us ++ vs) → Each P us × Each P vs
    halves [] vs a = (tt, a)
    halves (y ∷ us) vs a = let z = halves us vs a.1 in ((a.0, z.0), z.1)

    mapped : (ys : List ℕ) → Each P (map (λ y. (x, y)) ys) → (k : ℕ) → Has ys k → P (x, k)
    mapped [] a k m = absurd m
    mapped (y ∷ ys) a k (inl q) = subst (λ z. P (x, z)) q a.0
    mapped (y ∷ ys) a k (inr m) = mapped ys a.1 k m

    step : Each P (map (λ y. (x, y)) xs) × Each P (pairs xs) → Has (x ∷ xs) i → Has (x ∷ xs) j → (Has xs i → Has xs j → P (i, j) ⊎ P (j, i)) → P (i, j) ⊎ P (j, i)
    step a (inl q) (inl r) rest = absurd (ne (sym q ∙ r))
    step a (inl q) (inr r) rest = inl (subst (λ z. P (z, j)) q (mapped xs a.0 j r))
    step a (inr q) (inl r) rest = inr (subst (λ z. P (z, i)) r (mapped xs a.0 i q))
    step a (inr q) (inr r) rest = rest q r

module _ {V : Type 0} (n : ℕ) (s : Scalars V) (laws : ScalarLaws s) where
  -- ---- carrying by a linear move

  -- second partials at 0 are those of the terms of degree 2
  pub partial_same : (f g : Polynomial n V) → SameTo (exps n) s.ops 2 f g → (i j : ℕ) → i < n → j < n → partial n s f i j ≡ partial n s g i j
  partial_same f g e i j hi hj =
      Place.coefficient-derivative (exps n) (exps_are n) s.ops laws.ring i hi f (variable (exps n) j)
      ∙ ap (multiple s.ops (suc ((exps n).at (variable (exps n) j) i))) (e (plus (exps n) (variable (exps n) j) (variable (exps n) i))
      (let a = ExpLaws.degree-plus (exps n) (exps_are n) (variable (exps n) j) (variable (exps n) i) in
      let b = ExpLaws.degree-variable (exps n) (exps_are n) i hi in
      let d = ExpLaws.degree-variable (exps n) (exps_are n) j hj in omega arith))
      ∙ sym (Place.coefficient-derivative (exps n) (exps_are n) s.ops laws.ring i hi g (variable (exps n) j))

  -- carrying up to degree 2 is substitution up to degree 2
  carried : (move : Move n V) (f : Polynomial n V) → SameTo (exps n) s.ops 2 (carry n s 2 move f) (substitute n n s.ops (put n s move) f)
  unfolding carry
  carried move f = Canonical.jet_same_to n s laws 2 (substitute n n s.ops (put n s move) f)

  module _ (w : ℕ → ℕ → V) (move : Move n V) (linear_move : IsLinear n s w move) where
    -- what the move puts has no constant term
    pub no_constant : (a : ℕ) → a < n → StartsAt (exps n) s.ops 1 (put n s move a)
    no_constant a h b low = linear_move.forms a h b ∙ Linear.starts_linear (exps n) (exps_are n) s.ops laws.ring (w a) b low

    -- carrying keeps that there are no terms of degree below 2
    pub carried_low : (f : Polynomial n V) → StartsAt (exps n) s.ops 2 f → StartsAt (exps n) s.ops 2 (carry n s 2 move f)
    carried_low f two b h =
        carried move f b (omega arith) ∙ SubstOrder.starts_subst (exps n) (exps_are n) (exps n) (exps_are n) s.ops laws.ring (values_are_set s laws) (put n s move) no_constant 2 f two b h

    -- the second partials of what is carried
    carried_partial : (f : Polynomial n V) → StartsAt (exps n) s.ops 2 f → (i j : ℕ) → i < n → j < n
        → partial n s (carry n s 2 move f) i j ≡ sum_to s.ops n (λ a. s.ops.mul (coefficient (exps n) s.ops (put n s move a) (variable (exps n) i)) (sum_to s.ops n (λ b. s.ops.mul (partial n s f a b) (coefficient (exps n) s.ops (put n s move b) (variable (exps n) j)))))
    carried_partial f two i j hi hj =
        partial_same (carry n s 2 move f) (substitute n n s.ops (put n s move) f) (carried move f) i j hi hj
        ∙ SecondPartials.second-subst (exps n) (exps_are n) s.ops laws.ring (values_are_set s laws) (put n s move) no_constant f two i j hi hj

  -- after x(i) went to itself and the sum of the d(b) x(b)
  pub after_shear : (i : ℕ) → i < n → (d : ℕ → V) (move : Move n V) → IsLinear n s (λ a b. s.ops.add (unit_at s.ops a b) (cond (eqb a i) (d b) s.ops.zero)) move
      → (f : Polynomial n V) → StartsAt (exps n) s.ops 2 f → (p q : ℕ) → p < n → q < n
      → partial n s (carry n s 2 move f) p q ≡ s.ops.add (s.ops.add (partial n s f p q) (s.ops.mul (partial n s f p i) (d q))) (s.ops.mul (s.ops.add (partial n s f i q) (s.ops.mul (partial n s f i i) (d q))) (d p))
  after_shear i hi d move is f two p q hp hq =
      carried_partial (λ a b. s.ops.add (unit_at s.ops a b) (cond (eqb a i) (d b) s.ops.zero)) move is f two p q hp hq
      ∙ MatrixSums.sheared s.ops laws.ring n i hi d (λ a b. coefficient (exps n) s.ops (put n s move a) (variable (exps n) b))
      (LinearMoves.entries n s laws (λ a b. s.ops.add (unit_at s.ops a b) (cond (eqb a i) (d b) s.ops.zero)) move is) (partial n s f) p q hp hq

  -- after x(g(k)) went to x(k)
  pub after_places : (g : ℕ → ℕ) → ((b : ℕ) → b < n → g b < n) → (move : Move n V) → IsLinear n s (λ a b. unit_at s.ops a (g b)) move
      → (f : Polynomial n V) → StartsAt (exps n) s.ops 2 f → (p q : ℕ) → p < n → q < n → partial n s (carry n s 2 move f) p q ≡ partial n s f (g p) (g q)
  after_places g inside move is f two p q hp hq =
      carried_partial (λ a b. unit_at s.ops a (g b)) move is f two p q hp hq
      ∙ MatrixSums.placed s.ops laws.ring n g inside (λ a b. coefficient (exps n) s.ops (put n s move a) (variable (exps n) b))
      (LinearMoves.entries n s laws (λ a b. unit_at s.ops a (g b)) move is) (partial n s f) p q hp hq

  -- where d is 0 at p and products with p are 0, nothing changes at p
  pub unchanged : (i : ℕ) → i < n → (d : ℕ → V) (move : Move n V) → IsLinear n s (λ a b. s.ops.add (unit_at s.ops a b) (cond (eqb a i) (d b) s.ops.zero)) move
      → (f : Polynomial n V) → StartsAt (exps n) s.ops 2 f → (p q : ℕ) → p < n → q < n → d p ≡ s.ops.zero → partial n s f p i ≡ s.ops.zero → partial n s (carry n s 2 move f) p q ≡ partial n s f p q
  unchanged i hi d move is f two p q hp hq own none =
      after_shear i hi d move is f two p q hp hq
      ∙ ap₂ s.ops.add (ap (λ z. s.ops.add (partial n s f p q) (s.ops.mul z (d q))) none ∙ ap (s.ops.add (partial n s f p q)) (Sums.zero_mul s.ops laws.ring (d q)) ∙ laws.ring.add_zero (partial n s f p q))
      (ap (s.ops.mul (s.ops.add (partial n s f i q) (s.ops.mul (partial n s f i i) (d q)))) own ∙ Sums.mul_zero s.ops laws.ring (s.ops.add (partial n s f i q) (s.ops.mul (partial n s f i i) (d q))))
      ∙ laws.ring.add_zero (partial n s f p q)

  -- ---- completing a square

  -- the coefficient of x(j) in what completing the square of x(i) puts for x(i)
  abbrev pub coefficient_over : Squares n V → ℕ → ℕ → V
  coefficient_over q i j = s.ops.neg (over s (entry n s q i j) (double n s q i))

  -- the coefficients of all variables there, but for x(i) itself
  abbrev pub row_of : Squares n V → ℕ → ℕ → V
  row_of q i b = coefficient (exps n) s.ops (linear n s (map (λ j. (coefficient_over q i j, j)) (others i q.opened))) (variable (exps n) b)

  -- completing a square is the identity but for its row
  pub completing_is : (q : Squares n V) → IsSound n s q → (i : ℕ) → i < n → IsLinear n s (λ a b. s.ops.add (unit_at s.ops a b) (cond (eqb a i) (row_of q i b) s.ops.zero)) (completing n s i q)
  completing_is q sound i hi =
      LinearMoves.one_more n s laws i hi (linear n s (map (λ j. (coefficient_over q i j, j)) (others i q.opened)))
      (LinearMoves.multiples_linear n s laws (coefficient_over q i) (others i q.opened) (NumberLists.each-without i (λ j. j < n) q.opened sound.opened_inside)) (row_of q i) (λ b h. refl)

  -- another open variable has its coefficient
  pub row_there : (q : Squares n V) → IsSound n s q → (i b : ℕ) → b < n → Has q.opened b → b ≢ i → row_of q i b ≡ coefficient_over q i b
  row_there q sound i b hb h ne =
      LinearMoves.there n s laws (coefficient_over q i) (others i q.opened) (NumberLists.each-without i (λ j. j < n) q.opened sound.opened_inside) (NumberLists.distinct-without i q.opened sound.opened_distinct) b hb
      (NumberLists.has-without i q.opened b h ne)

  -- a variable that is not open has coefficient 0
  pub row_absent : (q : Squares n V) → IsSound n s q → (i b : ℕ) → b < n → (Has (others i q.opened) b → ⊥) → row_of q i b ≡ s.ops.zero
  row_absent q sound i b hb out =
      LinearMoves.absent n s laws (coefficient_over q i) (others i q.opened) (NumberLists.each-without i (λ j. j < n) q.opened sound.opened_inside) b hb out

  -- so has x(i) itself
  pub row_own : (q : Squares n V) → IsSound n s q → (i : ℕ) → i < n → row_of q i i ≡ s.ops.zero
  row_own q sound i hi = row_absent q sound i i hi (λ h. (NumberLists.without-has i q.opened i h).1 refl)

  -- the second partial of a square, by its coefficient
  pub own_partial : (q : Squares n V) (i : ℕ) → i < n → partial n s q.form i i ≡ double n s q i
  own_partial q i hi =
      PairExponents.second_is n s laws q.form i i hi hi ∙ ap (λ b. multiple s.ops (suc (cond b 1 0)) (entry n s q i i)) (eq-eqb i i refl) ∙ sym (whole-mul s laws 2 (entry n s q i i))

  -- and of a product
  pub other_partial : (q : Squares n V) (i j : ℕ) → i < n → j < n → i ≢ j → partial n s q.form i j ≡ entry n s q i j
  other_partial q i j hi hj ne =
      PairExponents.second_is n s laws q.form i j hi hj ∙ ap (λ b. multiple s.ops (suc (cond b 1 0)) (entry n s q i j)) (ne_eqb i j ne) ∙ Sums.zero_add s.ops laws.ring (entry n s q i j)

  -- after the square of x(i) is completed there is no product with x(i)
  pub completed : HasInverses s → (q : Squares n V) → IsSound n s q → (i j : ℕ) → i < n → j < n → Has q.opened i → partial n s q.form i i ≢ s.ops.zero → j ≢ i → partial n s (carry n s 2 (completing n s i q) q.form) i j ≡ s.ops.zero
  completed inverts q sound i j hi hj here unit ne =
      after_shear i hi (row_of q i) (completing n s i q) (completing_is q sound i hi) q.form sound.low i j hi hj
      ∙ ap (λ z. s.ops.add (s.ops.add S (s.ops.mul D (row_of q i j))) (s.ops.mul (s.ops.add S (s.ops.mul D (row_of q i j))) z)) (row_own q sound i hi)
      ∙ ap (s.ops.add (s.ops.add S (s.ops.mul D (row_of q i j)))) (Sums.mul_zero s.ops laws.ring (s.ops.add S (s.ops.mul D (row_of q i j))))
      ∙ laws.ring.add_zero (s.ops.add S (s.ops.mul D (row_of q i j)))
      ∙ cases (sound.covers j hj)
    where
      S : V
      S = partial n s q.form i j

      D : V
      D = partial n s q.form i i

      cases : Has q.opened j ⊎ Has q.closed j → s.ops.add S (s.ops.mul D (row_of q i j)) ≡ s.ops.zero
      cases (inl h) =
          ap (λ z. s.ops.add S (s.ops.mul D z)) (row_there q sound i j hj h ne)
          ∙ ap₂ (λ y z. s.ops.add S (s.ops.mul D (s.ops.neg (s.ops.mul y (s.inverse z))))) (sym (other_partial q i j hi hj (λ e. ne (sym e)))) (sym (own_partial q i hi))
          ∙ ap (s.ops.add S) (Sums.mul_neg s.ops laws.ring D (s.ops.mul S (s.inverse D)) ∙ ap s.ops.neg (Sums.mul_left_comm s.ops laws.ring D S (s.inverse D) ∙ ap (s.ops.mul S) (inverts.mul_inverse D unit) ∙ laws.ring.mul_one S))
          ∙ laws.ring.add_neg S
      cases (inr h) =
          ap₂ (λ y z. s.ops.add y (s.ops.mul D z)) (PairExponents.second_symmetric n s laws q.form i j hi hj ∙ sound.products j i h hi ne)
          (row_absent q sound i j hj (λ k. sound.apart j (NumberLists.without-has i q.opened j k).0 h))
          ∙ ap (s.ops.add s.ops.zero) (Sums.mul_zero s.ops laws.ring D) ∙ laws.ring.add_zero s.ops.zero

  -- and its square stays
  pub square_stays : (q : Squares n V) → IsSound n s q → (i : ℕ) → i < n → partial n s (carry n s 2 (completing n s i q) q.form) i i ≡ partial n s q.form i i
  square_stays q sound i hi =
      after_shear i hi (row_of q i) (completing n s i q) (completing_is q sound i hi) q.form sound.low i i hi hi
      ∙ ap (λ z. s.ops.add (s.ops.add D (s.ops.mul D z)) (s.ops.mul (s.ops.add D (s.ops.mul D z)) z)) (row_own q sound i hi)
      ∙ ap₂ s.ops.add (ap (s.ops.add D) (Sums.mul_zero s.ops laws.ring D) ∙ laws.ring.add_zero D) (Sums.mul_zero s.ops laws.ring (s.ops.add D (s.ops.mul D s.ops.zero)))
      ∙ laws.ring.add_zero D
    where
      D : V
      D = partial n s q.form i i

  -- closing one more variable keeps all this
  pub close_sound : HasInverses s → (q : Squares n V) → IsSound n s q → (i : ℕ) → Has q.opened i → partial n s q.form i i ≢ s.ops.zero → IsSound n s (close n s i q)
  close_sound inverts q sound i here unit = record {
    opened_inside = NumberLists.each-without i (λ j. j < n) q.opened sound.opened_inside;
    closed_inside = each-append (λ j. j < n) q.closed (i ∷ []) sound.closed_inside (hi, tt);
    opened_distinct = NumberLists.distinct-without i q.opened sound.opened_distinct;
    closed_distinct = NumberLists.distinct-append q.closed (i ∷ []) sound.closed_distinct (tt, tt) (NumberLists.each-from (λ x. Each (λ y. x ≢ y) (i ∷ [])) q.closed (λ x h. ((λ e. sound.apart i here (subst (Has q.closed) e h)), tt)));
    apart = λ j h g. let w = NumberLists.without-has i q.opened j h in elim (NumberLists.has-append q.closed (i ∷ []) j g) [ inl k ↦ sound.apart j w.0 k | inr k ↦ elim k [ inl e ↦ w.1 (sym e) | inr z ↦ absurd z ] ];
    covers = λ j hj. covering j (sound.covers j hj) (eqb j i) refl;
    count = let a = NumberLists.length-without i q.opened sound.opened_distinct here in let b = length-append q.closed (i ∷ []) in let c = sound.count in omega arith;
    low = carried_low (λ a b. s.ops.add (unit_at s.ops a b) (cond (eqb a i) (row_of q i b) s.ops.zero)) (completing n s i q) (completing_is q sound i hi) q.form sound.low;
    products = λ a j h hj ne. elim (NumberLists.has-append q.closed (i ∷ []) a h) [
      | inl k ↦ kept a j k hj ∙ sound.products a j k hj ne
      | inr k ↦ elim k [ inl e ↦ subst (λ z. partial n s (carry n s 2 (completing n s i q) q.form) z j ≡ s.ops.zero) e (completed inverts q sound i j hi hj here unit (λ z. ne (sym e ∙ sym z))) | inr z ↦ absurd z ]
    ];
    squares = λ a h z. elim (NumberLists.has-append q.closed (i ∷ []) a h) [
      | inl k ↦ sound.squares a k (sym (kept a a k (NumberLists.each-has (λ j. j < n) q.closed a sound.closed_inside k)) ∙ z)
      | inr k ↦ elim k [ inl e ↦ unit (sym (square_stays q sound i hi) ∙ subst (λ y. partial n s (carry n s 2 (completing n s i q) q.form) y y ≡ s.ops.zero) (sym e) z) | inr y ↦ absurd y ]
    ];
  }
    where
      hi : i < n
      hi = NumberLists.each-has (λ j. j < n) q.opened i sound.opened_inside here

      other : (a : ℕ) → Has q.closed a → a ≢ i
      other a h e = sound.apart i here (subst (Has q.closed) e h)

      kept : (a j : ℕ) → Has q.closed a → j < n → partial n s (carry n s 2 (completing n s i q) q.form) a j ≡ partial n s q.form a j
      kept a j h hj =
          let ha = NumberLists.each-has (λ j. j < n) q.closed a sound.closed_inside h in
          unchanged i hi (row_of q i) (completing n s i q) (completing_is q sound i hi) q.form sound.low a j ha hj
          (row_absent q sound i a ha (λ k. sound.apart a (NumberLists.without-has i q.opened a k).0 h)) (sound.products a i h hi (other a h))

      covering : (j : ℕ) → Has q.opened j ⊎ Has q.closed j → (b : Bool) → eqb j i ≡ b → Has (others i q.opened) j ⊎ Has (q.closed ++ i ∷ []) j
      covering j (inr k) b e = inr (NumberLists.has-left q.closed (i ∷ []) j k)
      covering j (inl k) true e = inr (NumberLists.has-right q.closed (i ∷ []) j (inl (sym (eqb-true j i e))))
      covering j (inl k) false e = inl (NumberLists.has-without i q.opened j k (λ z. (let bad : false ≡ true = sym e ∙ eq-eqb j i z in cc bad)))

  -- ---- mixing two variables

  -- mixing is the identity but for one row
  pub mixing_is : (i j : ℕ) → i < n → j < n → IsLinear n s (λ a b. s.ops.add (unit_at s.ops a b) (cond (eqb a j) (unit_at s.ops i b) s.ops.zero)) (mixing n s (i, j))
  mixing_is i j hi hj = LinearMoves.one_more n s laws j hj (variable_of n s i) (ExpLaws.degree-variable (exps n) (exps_are n) i hi, tt) (unit_at s.ops i) (λ b h. LinearMoves.variable_at n s laws i b hi h)

  -- the identity matrix is 0 elsewhere
  unit_other : (i b : ℕ) → i ≢ b → unit_at s.ops i b ≡ s.ops.zero
  unit_other i b ne = ap (λ t. cond t s.ops.one s.ops.zero) (ne_eqb i b ne)

  -- mixing two open variables keeps all this
  pub mixed_sound : (q : Squares n V) → IsSound n s q → (i j : ℕ) → Has q.opened i → Has q.opened j → IsSound n s (moved n s (mixing n s (i, j)) q)
  mixed_sound q sound i j here there = record {
    opened_inside = sound.opened_inside;
    closed_inside = sound.closed_inside;
    opened_distinct = sound.opened_distinct;
    closed_distinct = sound.closed_distinct;
    apart = sound.apart;
    covers = sound.covers;
    count = sound.count;
    low = carried_low (λ a b. s.ops.add (unit_at s.ops a b) (cond (eqb a j) (unit_at s.ops i b) s.ops.zero)) (mixing n s (i, j)) (mixing_is i j hi hj) q.form sound.low;
    products = λ a b h hb ne. kept a b h hb ∙ sound.products a b h hb ne;
    squares = λ a h z. sound.squares a h (sym (kept a a h (NumberLists.each-has (λ j. j < n) q.closed a sound.closed_inside h)) ∙ z);
  }
    where
      hi : i < n
      hi = NumberLists.each-has (λ j. j < n) q.opened i sound.opened_inside here

      hj : j < n
      hj = NumberLists.each-has (λ j. j < n) q.opened j sound.opened_inside there

      kept : (a b : ℕ) → Has q.closed a → b < n → partial n s (carry n s 2 (mixing n s (i, j)) q.form) a b ≡ partial n s q.form a b
      kept a b h hb =
          unchanged j hj (unit_at s.ops i) (mixing n s (i, j)) (mixing_is i j hi hj) q.form sound.low a b (NumberLists.each-has (λ j. j < n) q.closed a sound.closed_inside h) hb
          (unit_other i a (λ e. sound.apart a (subst (Has q.opened) e here) h)) (sound.products a j h hj (λ e. sound.apart j there (subst (Has q.closed) e h)))

  -- x(i) has a square after it was mixed in, where neither variable has one and their product stands there
  pub mixed_square : (q : Squares n V) → IsSound n s q → (i j : ℕ) → Has q.opened i → Has q.opened j → i ≢ j → partial n s q.form i i ≡ s.ops.zero → partial n s q.form j j ≡ s.ops.zero → partial n s q.form i j ≢ s.ops.zero
      → partial n s (carry n s 2 (mixing n s (i, j)) q.form) i i ≢ s.ops.zero
  mixed_square q sound i j here there ne none_i none_j product z =
      product (zero_from_double s laws B (whole-mul s laws 2 B ∙ ap (λ y. s.ops.add y B) (Sums.zero_add s.ops laws.ring B) ∙ sym value ∙ z))
    where
      hi : i < n
      hi = NumberLists.each-has (λ j. j < n) q.opened i sound.opened_inside here

      hj : j < n
      hj = NumberLists.each-has (λ j. j < n) q.opened j sound.opened_inside there

      B : V
      B = partial n s q.form i j

      one : unit_at s.ops i i ≡ s.ops.one
      one = ap (λ t. cond t s.ops.one s.ops.zero) (eq-eqb i i refl)

      value : partial n s (carry n s 2 (mixing n s (i, j)) q.form) i i ≡ s.ops.add B B
      value =
          after_shear j hj (unit_at s.ops i) (mixing n s (i, j)) (mixing_is i j hi hj) q.form sound.low i i hi hi
          ∙ ap₂ s.ops.add (ap₂ s.ops.add none_i (ap (s.ops.mul B) one ∙ laws.ring.mul_one B) ∙ Sums.zero_add s.ops laws.ring B)
          (ap₂ s.ops.mul (ap₂ s.ops.add (PairExponents.second_symmetric n s laws q.form j i hj hi) (ap (λ y. s.ops.mul y (unit_at s.ops i i)) none_j ∙ Sums.zero_mul s.ops laws.ring (unit_at s.ops i i)) ∙ laws.ring.add_zero B) one ∙ laws.ring.mul_one B)
