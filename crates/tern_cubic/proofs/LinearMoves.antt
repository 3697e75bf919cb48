-- Linear moves of three variables by their matrices: their composites, their inverses, and matrices that have none.
use Rattle.std.proofs.Common.{◌≡◌, ℕ, zero, suc, ◌<◌, ◌≤◌, Bool, true, false, cond, not, List, [], ◌∷◌, map, filter, get_or, refl, sym, ap, ◌∙◌, arith}
use Rattle.ring_theory.specs.Ring.{RingOps, IsCommRing}
use Rattle.ring_theory.specs.Scalars.{Scalars, ScalarLaws}
use Rattle.ring_theory.proofs.RingReify.{by_ring, reify}
use Rattle.ring_theory.proofs.ValueSet.{values_are_set}
use Rattle.poly_law.specs.Exps.{variable, degree, same}
use Rattle.poly_law.specs.ExpList.{ExpList, exps}
use Rattle.poly_law.specs.Poly.{coefficient, cut}
use Rattle.poly_law.specs.Polynomials.{Polynomial, SameIn, substitute}
use Rattle.poly_law.specs.Sorted.{IsRising, HasNoZero}
use Rattle.poly_law.proofs.ExpLists.{exps_are}
use Rattle.poly_law.proofs.Change
use Rattle.poly_law.proofs.Subst
use Rattle.poly_law.proofs.SubstOrder
use Rattle.mono_exp.specs.Exponents.{monomials_of, monomials_below}
use Rattle.mono_exp.proofs.Lists.{Each}
use Rattle.jet_law.specs.Canonical.{monomial_in, jet}
use Rattle.germ_law.proofs.Canonical
use Rattle.coord_change.specs.Linear.{linear_form}
use Rattle.coord_change.specs.Moves.{put, linear_part}
use Rattle.coord_change.specs.Carries.{carry, compose}
use Rattle.ternary_law.specs.Matrices.{Matrix, places, entry, matrix_product, form_of_row, linear_move}

-- x + y + z, as the sum of a list
abbrev pub three : {V : Type 0} → RingOps V → V → V → V → V
three r x y z = r.add x (r.add y (r.add z r.zero))

module _ {V : Type 0} (r : RingOps V) (laws : IsCommRing r) where
  -- multiples of three sums of three
  pub parted : (x y z a b c d e f g h i : V)
      → three r (r.mul x (three r a b c)) (r.mul y (three r d e f)) (r.mul z (three r g h i))
      ≡ three r (three r (r.mul x a) (r.mul y d) (r.mul z g)) (three r (r.mul x b) (r.mul y e) (r.mul z h)) (three r (r.mul x c) (r.mul y f) (r.mul z i))
  parted x y z a b c d e f g h i =
      by_ring laws (x ∷ y ∷ z ∷ a ∷ b ∷ c ∷ d ∷ e ∷ f ∷ g ∷ h ∷ i ∷ []) (search reify depth 40 fits 20000) tt

  nothing : (x y z : V) → three r (r.mul x r.zero) (r.mul y r.zero) (r.mul z r.zero) ≡ r.zero
  nothing x y z = by_ring laws (x ∷ y ∷ z ∷ []) (search reify depth 40) tt

  -- a sum of multiples, where it counts
  chosen : (d : Bool) (x y z a b c : V)
      → three r (r.mul x (cond d a r.zero)) (r.mul y (cond d b r.zero)) (r.mul z (cond d c r.zero)) ≡ cond d (three r (r.mul x a) (r.mul y b) (r.mul z c)) r.zero
  chosen true x y z a b c = refl
  chosen false x y z a b c = nothing x y z

-- what holds of each element holds of those that are kept
each_kept : {X : Type 0} (P : X → Type 0) (p : X → Bool) (xs : List X) → Each P xs → Each P (filter p xs)
each_kept P p [] h = tt
each_kept P p (x ∷ xs) h = step (p x) (each_kept P p xs h.1)
  where
    step : (b : Bool) → Each P (filter p xs) → Each P (cond b (x ∷ filter p xs) (filter p xs))
    step true k = (h.0, k)
    step false k = k

module _ {V : Type 0} (s : Scalars V) (laws : ScalarLaws s) where
  -- the terms of a row
  abbrev raw : List V → Polynomial 3 V
  raw row = map (λ j. (variable (exps 3) j, get_or row j s.ops.zero)) places

  -- a form has the terms of its row
  form_same : (row : List V) → SameIn 3 s.ops (form_of_row 3 s row) (raw row)
  unfolding form_of_row
  form_same row = Canonical.jet_is_cut 3 s laws 1 (raw row)

  -- its degree is at most 1
  form_low : (row : List V) → Each (λ t. degree (exps 3) t.0 ≤ 16) (form_of_row 3 s row)
  unfolding form_of_row jet monomials_below monomials_of
  form_low row =
      let all : Polynomial 3 V = map (λ e. (monomial_in 3 e, coefficient (exps 3) s.ops (cut (exps 3) s.ops 1 (raw row)) (monomial_in 3 e))) (monomials_below 3 2) in
      let low : Each (λ (t : ExpList 3 × V). degree (exps 3) t.0 ≤ 16) all = (omega arith, (omega arith, (omega arith, (omega arith, tt)))) in
      each_kept (λ (t : ExpList 3 × V). degree (exps 3) t.0 ≤ 16) (λ (t : ExpList 3 × V). not (s.is_zero t.1)) all low

  rising : (row : List V) → IsRising (Canonical.stands_before 3) (form_of_row 3 s row)
  unfolding form_of_row
  rising row = Canonical.jet_rising 3 s laws 1 (raw row)

  no_zero : (row : List V) → HasNoZero s.ops.zero (form_of_row 3 s row)
  unfolding form_of_row
  no_zero row = Canonical.jet_has_no_zero 3 s laws 1 (raw row)

  -- row i of a matrix
  abbrev pub row_of : Matrix V → ℕ → List V
  row_of m i = get_or m i []

  put_linear : (b : Matrix V) (j : ℕ) → j < 3 → put 3 s (linear_move 3 s b) j ≡ form_of_row 3 s (row_of b j)
  unfolding linear_move
  put_linear b zero h = refl
  put_linear b (suc zero) h = refl
  put_linear b (suc (suc zero)) h = refl
  put_linear b (suc (suc (suc j))) h = absurd (omega arith)

  module _ (b : Matrix V) where
    abbrev parts : ℕ → Polynomial 3 V
    parts = put 3 s (linear_move 3 s b)

    -- what stands for a variable
    image : (j : ℕ) → j < 3 → (e : ExpList 3) → coefficient (exps 3) s.ops (parts j) e ≡ coefficient (exps 3) s.ops (raw (row_of b j)) e
    image j h e = ap (λ p. coefficient (exps 3) s.ops p e) (put_linear b j h) ∙ form_same (row_of b j) e

    -- a row after the matrix: its products with the columns
    abbrev row_after : List V → List V
    row_after a = map (λ k. three s.ops (s.ops.mul (get_or a 0 s.ops.zero) (entry s b 0 k)) (s.ops.mul (get_or a 1 s.ops.zero) (entry s b 1 k)) (s.ops.mul (get_or a 2 s.ops.zero) (entry s b 2 k))) places

    substituted : (a : List V) → SameIn 3 s.ops (raw (row_after a)) (substitute 3 3 s.ops parts (form_of_row 3 s a))
    substituted a e =
        let x = get_or a 0 s.ops.zero in
        let y = get_or a 1 s.ops.zero in
        let z = get_or a 2 s.ops.zero in
        let d0 = same (exps 3) (variable (exps 3) 0) e in
        let d1 = same (exps 3) (variable (exps 3) 1) e in
        let d2 = same (exps 3) (variable (exps 3) 2) e in
        let set = values_are_set s laws in
        let of = λ (j : ℕ) (h : j < 3). Change.image_variable (exps 3) (exps_are 3) s.ops laws.ring set parts j h e ∙ image j h e in
        sym (λ i. three s.ops
        (chosen s.ops laws.ring d0 x y z (entry s b 0 0) (entry s b 1 0) (entry s b 2 0) i)
        (chosen s.ops laws.ring d1 x y z (entry s b 0 1) (entry s b 1 1) (entry s b 2 1) i)
        (chosen s.ops laws.ring d2 x y z (entry s b 0 2) (entry s b 1 2) (entry s b 2 2) i))
        ∙ sym (parted s.ops laws.ring x y z (cond d0 (entry s b 0 0) s.ops.zero) (cond d1 (entry s b 0 1) s.ops.zero) (cond d2 (entry s b 0 2) s.ops.zero)
        (cond d0 (entry s b 1 0) s.ops.zero) (cond d1 (entry s b 1 1) s.ops.zero) (cond d2 (entry s b 1 2) s.ops.zero)
        (cond d0 (entry s b 2 0) s.ops.zero) (cond d1 (entry s b 2 1) s.ops.zero) (cond d2 (entry s b 2 2) s.ops.zero))
        ∙ sym (λ i. three s.ops (s.ops.mul x (of 0 (omega arith) i)) (s.ops.mul y (of 1 (omega arith) i)) (s.ops.mul z (of 2 (omega arith) i)))
        ∙ sym (SubstOrder.coefficient-subst (exps 3) (exps_are 3) (exps 3) (exps_are 3) s.ops laws.ring set parts (raw a) e)
        ∙ sym (Subst.subst_same (exps 3) (exps_are 3) (exps 3) (exps_are 3) s.ops laws.ring set parts (form_of_row 3 s a) (raw a) (form_same a) e)

    -- the form of a row with the linear move substituted
    carried_row : (a : List V) → carry 3 s 16 (linear_move 3 s b) (form_of_row 3 s a) ≡ form_of_row 3 s (row_after a)
    unfolding carry
    carried_row a =
        sym (Canonical.one_jet 3 s laws 16 (form_of_row 3 s (row_after a)) (substitute 3 3 s.ops parts (form_of_row 3 s a))
        (rising (row_after a)) (no_zero (row_after a)) (form_low (row_after a)) (λ e h. form_same (row_after a) e ∙ substituted a e))

  -- the composite of linear moves is that of the product of their matrices
  pub compose_linear : (a b : Matrix V) → compose 3 s 16 (linear_move 3 s a) (linear_move 3 s b) ≡ linear_move 3 s (matrix_product s a b)
  unfolding compose linear_move matrix_product
  compose_linear a b = λ i. carried_row b (row_of a 0) i ∷ carried_row b (row_of a 1) i ∷ carried_row b (row_of a 2) i ∷ []

  -- ---- the coefficients of linear moves

  sole0 : (x : V) → three s.ops x s.ops.zero s.ops.zero ≡ x
  sole0 x = by_ring laws.ring (x ∷ []) (search reify depth 20) tt

  sole1 : (x : V) → three s.ops s.ops.zero x s.ops.zero ≡ x
  sole1 x = by_ring laws.ring (x ∷ []) (search reify depth 20) tt

  sole2 : (x : V) → three s.ops s.ops.zero s.ops.zero x ≡ x
  sole2 x = by_ring laws.ring (x ∷ []) (search reify depth 20) tt

  raw_at : (row : List V) (j : ℕ) → j < 3 → coefficient (exps 3) s.ops (raw row) (variable (exps 3) j) ≡ get_or row j s.ops.zero
  raw_at row zero h = sole0 (get_or row 0 s.ops.zero)
  raw_at row (suc zero) h = sole1 (get_or row 1 s.ops.zero)
  raw_at row (suc (suc zero)) h = sole2 (get_or row 2 s.ops.zero)
  raw_at row (suc (suc (suc j))) h = absurd (omega arith)

  -- the linear part of a linear move has the entries of its matrix
  pub linear_part_is : (m : Matrix V) (i j : ℕ) → i < 3 → j < 3 → linear_part 3 s (linear_move 3 s m) i j ≡ entry s m i j
  linear_part_is m i j h g =
      ap (λ p. coefficient (exps 3) s.ops p (variable (exps 3) j)) (put_linear m i h) ∙ form_same (row_of m i) (variable (exps 3) j) ∙ raw_at (row_of m i) j g

  -- a linear form by its coefficients
  form_terms : (w : ℕ → V) → linear_form 3 s.ops w ≡ map (λ j. (variable (exps 3) j, w j)) places
  form_terms w = λ t. (variable (exps 3) 0, laws.ring.mul_one (w 0) t) ∷ (variable (exps 3) 1, laws.ring.mul_one (w 1) t) ∷ (variable (exps 3) 2, laws.ring.mul_one (w 2) t) ∷ []

  row_terms : (w : ℕ → V) (row : List V) → ((j : ℕ) → j < 3 → w j ≡ get_or row j s.ops.zero) → map (λ j. (variable (exps 3) j, w j)) places ≡ raw row
  row_terms w row e =
      λ t. (variable (exps 3) 0, e 0 (omega arith) t) ∷ (variable (exps 3) 1, e 1 (omega arith) t) ∷ (variable (exps 3) 2, e 2 (omega arith) t) ∷ []

  -- the linear form with the entries of a row is the form of the row
  pub is_form : (w : ℕ → V) (row : List V) → ((j : ℕ) → j < 3 → w j ≡ get_or row j s.ops.zero) → SameIn 3 s.ops (linear_form 3 s.ops w) (form_of_row 3 s row)
  is_form w row e b = ap (λ p. coefficient (exps 3) s.ops p b) (form_terms w ∙ row_terms w row e) ∙ sym (form_same row b)

  -- a form is its own jet
  pub form_jet : (row : List V) → form_of_row 3 s row ≡ jet 3 s 16 (form_of_row 3 s row)
  form_jet row = Canonical.one_jet 3 s laws 16 (form_of_row 3 s row) (form_of_row 3 s row) (rising row) (no_zero row) (form_low row) (λ e h. refl)

  -- a linear move by its rows
  pub linear_rows : (m : Matrix V) → linear_move 3 s m ≡ map (λ i. form_of_row 3 s (row_of m i)) places
  unfolding linear_move
  linear_rows m = refl
