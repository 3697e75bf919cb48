-- The rows of a matrix, alone and each with a column of its own: their reduction is that of the definition.
use mathlib.Core.Path.{fun_ext}
use Rattle.std.proofs.Common.{◌≡◌, ◌≢◌, ℕ, zero, suc, ◌+◌, ◌-◌, ◌<◌, ◌≤◌, inl, inr, cond, ltb, lt-ltb, le-ltb, eq-eqb, ne_eqb, List, [], ◌∷◌, ◌++◌, length, map, get_or, ap, ap₂, sym, ◌∙◌, refl, subst, arith}
use Rattle.std.proofs.Math.Decide.{dec_le}
use Rattle.std.specs.List.{range_with_len}
use Rattle.ring_theory.specs.Scalars.{Scalars, ScalarLaws, HasInverses, Meaning}
use Rattle.poly_law.specs.Sums.{sum_to, unit_at}
use Rattle.poly_law.proofs.Sums
use Rattle.poly_law.proofs.Matrix
use Rattle.lin_row.specs.Lines.{EachOf, entry}
use Rattle.lin_row.specs.Plain.{Stage, Reached, plus_multiple, ReductionIsHigh, with_units}
use Rattle.coord_change.specs.Inverses.{image_at, extended_row, HasNoKernel, InverseIsHigh, AreMatrixRows, AreExtendedRows}
use Rattle.coord_change.proofs.Dimension
use Rattle.coord_change.proofs.Dimension.{same_or}
use Rattle.coord_change.proofs.Reductions
use Rattle.coord_change.proofs.Reductions.{in_columns}

-- the columns of rows with columns of their own from u on, of which the first b are given ones: the column n + i for u + i, and 2n, where nothing stands, for others
abbrev pub column_of : ℕ → ℕ → ℕ → ℕ → ℕ
column_of n u b d = cond (ltb d b) d (cond (ltb d u) (n + n) (n + (d - u)))

column_of-low : (n u b d : ℕ) → d < b → column_of n u b d ≡ d
column_of-low n u b d h = ap (λ t. cond t d (cond (ltb d u) (n + n) (n + (d - u)))) (lt-ltb d b h)

column_of-middle : (n u b d : ℕ) → b ≤ d → d < u → column_of n u b d ≡ n + n
column_of-middle n u b d h g = ap (λ t. cond t d (cond (ltb d u) (n + n) (n + (d - u)))) (le-ltb d b h) ∙ ap (λ t. cond t (n + n) (n + (d - u))) (lt-ltb d u g)

column_of-high : (n u b d : ℕ) → b ≤ d → u ≤ d → column_of n u b d ≡ n + (d - u)
column_of-high n u b d h g = ap (λ t. cond t d (cond (ltb d u) (n + n) (n + (d - u)))) (le-ltb d b h) ∙ ap (λ t. cond t (n + n) (n + (d - u))) (le-ltb d u g)

each_range : {X : Type 0} (P : X → Type 0) (f : ℕ → X) (k n : ℕ) → ((i : ℕ) → i < k + n → P (f i)) → EachOf P (map f (range_with_len k n))
each_range P f k zero h = tt
each_range P f k (suc n) h = (h k (omega arith), each_range P f (k + 1) n (λ i g. h i (omega arith)))

module _ {V : Type 0} (s : Scalars V) (laws : ScalarLaws s) where
  open s.ops use {add, mul, neg}

  pub unit_other : (c d : ℕ) → (c ≡ d → ⊥) → unit_at s.ops c d ≡ s.ops.zero
  unit_other c d ne = ap (λ b. cond b s.ops.one s.ops.zero) (ne_eqb c d ne)

  pub unit_self : (c d : ℕ) → c ≡ d → unit_at s.ops c d ≡ s.ops.one
  unit_self c d e = ap (λ b. cond b s.ops.one s.ops.zero) (eq-eqb c d e)

  -- two units whose places agree at once
  unit_moved : (c d c' d' : ℕ) → (c ≡ d → c' ≡ d') → (c' ≡ d' → c ≡ d) → unit_at s.ops c d ≡ unit_at s.ops c' d'
  unit_moved c d c' d' there back = elim (same_or c d) [
    | inl e ↦ unit_self c d e ∙ sym (unit_self c' d' (there e))
    | inr ne ↦ unit_other c d ne ∙ sym (unit_other c' d' (λ e. ne (back e)))
  ]

  module _ (n : ℕ) (w : ℕ → ℕ → V) where
    extended_row-low : (i d : ℕ) → d < n → extended_row s.ops n w i d ≡ w i d
    extended_row-low i d h = ap (λ b. cond b (w i d) (unit_at s.ops (n + i) d)) (lt-ltb d n h)

    extended_row-high : (i d : ℕ) → n ≤ d → extended_row s.ops n w i d ≡ unit_at s.ops (n + i) d
    extended_row-high i d h = ap (λ b. cond b (w i d) (unit_at s.ops (n + i) d)) (le-ltb d n h)

    -- a row is the combination of the matrix's rows with its entries in their own columns, and nothing stands behind these
    record IsTracked (x : ℕ → V) : Type 0 where
      sum : (d : ℕ) → d < n → x d ≡ sum_to s.ops n (λ i. mul (x (n + i)) (w i d))
      behind : (d : ℕ) → n + n ≤ d → x d ≡ s.ops.zero

    tracked_times : (x : ℕ → V) (a : V) → IsTracked x → IsTracked (λ d. mul a (x d))
    tracked_times x a t = record {
      sum = λ d h.
          ap (mul a) (t.sum d h) ∙ sym (Sums.sum_to-mul s.ops laws.ring n a (λ i. mul (x (n + i)) (w i d)))
          ∙ Sums.sum_to-cong s.ops n (λ i. mul a (mul (x (n + i)) (w i d))) (λ i. mul (mul a (x (n + i))) (w i d)) (λ i g. sym (laws.ring.mul_assoc a (x (n + i)) (w i d)));
      behind = λ d h. ap (mul a) (t.behind d h) ∙ Sums.mul_zero s.ops laws.ring a;
    }

    tracked_plus : (x y : ℕ → V) (a : V) → IsTracked x → IsTracked y → IsTracked (plus_multiple s x a y)
    tracked_plus x y a t q = record {
      sum = λ d h.
          ap₂ add (t.sum d h) ((tracked_times y a q).sum d h)
          ∙ sym (Sums.sum_to-add s.ops laws.ring n (λ i. mul (x (n + i)) (w i d)) (λ i. mul (mul a (y (n + i))) (w i d)))
          ∙ Sums.sum_to-cong s.ops n (λ i. add (mul (x (n + i)) (w i d)) (mul (mul a (y (n + i))) (w i d))) (λ i. mul (add (x (n + i)) (mul a (y (n + i)))) (w i d))
          (λ i g. sym (laws.ring.distrib (x (n + i)) (mul a (y (n + i))) (w i d)));
      behind = λ d h. ap₂ add (t.behind d h) ((tracked_times y a q).behind d h) ∙ laws.ring.add_zero s.ops.zero;
    }

    tracked_row : (i : ℕ) → i < n → IsTracked (extended_row s.ops n w i)
    tracked_row i h = record {
      sum = λ d g.
          extended_row-low i d g ∙ sym (Matrix.unit_product s.ops laws.ring n w i d h g)
          ∙ Sums.sum_to-cong s.ops n (λ j. mul (unit_at s.ops i j) (w j d)) (λ j. mul (extended_row s.ops n w i (n + j)) (w j d))
          (λ j z. ap (λ y. mul y (w j d)) (unit_moved i j (n + i) (n + j) (λ e. omega arith) (λ e. omega arith) ∙ sym (extended_row-high i (n + j) (omega arith))));
      behind = λ d g. extended_row-high i d (omega arith) ∙ unit_other (n + i) d (λ e. omega arith);
    }

    abbrev pub extended_rows : List (ℕ → V)
    extended_rows = map (extended_row s.ops n w) (range_with_len 0 n)

    module _ (inverts : HasInverses s) (u b : ℕ) (few : n ≤ b) (most : b ≤ n + n) (injective : n < b → HasNoKernel s.ops n w) where
      low : (g : Stage V) → Reached s n extended_rows g → (before after : List (ℕ → V)) (p : ℕ → V) → g.rest ≡ before ++ (p ∷ after) → ((d : ℕ) → d < n → p d ≡ s.ops.zero)
          → (c : ℕ) → n ≤ c → c < u → p (column_of n u b c) ≢ s.ops.zero → ⊥
      low g reached before after p e none c h k ne = elim (dec_le b c) [
        | yes y ↦ ne (ap p (column_of-middle n u b c y k) ∙ tracked.behind (n + n) (omega arith))
        | no y ↦
            let inside : c - n < n = omega arith in
            let place : n + (c - n) ≡ column_of n u b c = (let z : n + (c - n) ≡ c = omega arith in z) ∙ sym (column_of-low n u b c (omega arith)) in
            Dimension.no_combination s laws inverts n w (injective (omega arith)) (λ i. p (n + i)) (λ d z. sym (tracked.sum d z) ∙ none d z) (c - n) inside (λ z. ne (ap p (sym place) ∙ z))
      ]
        where
          tracked : IsTracked p
          tracked = (Reductions.each_parts s IsTracked before p after
              (subst (EachOf IsTracked) e (Reductions.rest_each s n IsTracked tracked_times tracked_plus extended_rows (each_range IsTracked (extended_row s.ops n w) 0 n (λ i z. tracked_row i (omega arith))) g reached))).0

      pub high_by_columns : ReductionIsHigh s u (map (in_columns (column_of n u b)) extended_rows) → InverseIsHigh s n w
      high_by_columns h = Reductions.reduction_back s n u (column_of n u b) (λ d h. column_of-low n u b d (omega arith)) extended_rows low h

-- ---- rows by their entries
module _ {E V : Type 0} (m : Meaning E V) (laws : ScalarLaws m.scalars) where
  open m.scalars.ops use {add, mul, neg}

  -- rows with their unit columns are other rows with their columns moved
  units_moved : (u : ℕ) (column : ℕ → ℕ) (f : ℕ → ℕ → V) (k : ℕ) (rows : List (List (ℕ × E)))
      → ((i : ℕ) → i < length rows → (d : ℕ) → add (entry m (get_or rows i []) d) (unit_at m.scalars.ops (u + (k + i)) d) ≡ f (k + i) (column d))
      → with_units m u k rows ≡ map (in_columns column) (map f (range_with_len k (length rows)))
  units_moved u column f k [] h = refl
  units_moved u column f k (row ∷ rows) h =
      ap₂ (λ (y : ℕ → V) ys. y ∷ ys) (fun_ext λ d. subst (λ z. add (entry m row d) (unit_at m.scalars.ops (u + z) d) ≡ f z (column d)) (let z : k + 0 ≡ k = omega arith in z) (h 0 (omega arith) d))
      (units_moved u column f (suc k) rows (λ i g d. subst (λ z. add (entry m (get_or rows i []) d) (unit_at m.scalars.ops (u + z) d) ≡ f z (column d)) (let z : k + suc i ≡ suc k + i = omega arith in z) (h (suc i) (omega arith) d))
      ∙ ap (λ z. map (in_columns column) (map f (range_with_len z (length rows)))) (let z : suc k ≡ k + 1 = omega arith in z))

  module _ (n : ℕ) (w : ℕ → ℕ → V) where
    image-unit : (i d : ℕ) → d < n → image_at m.scalars.ops n w (unit_at m.scalars.ops d) i ≡ w i d
    image-unit i d h =
        Sums.sum_to-cong m.scalars.ops n (λ j. mul (w i j) (unit_at m.scalars.ops d j)) (λ j. mul (w i j) (unit_at m.scalars.ops j d)) (λ j g. ap (mul (w i j)) (Sums.unit_at-swap m.scalars.ops d j))
        ∙ Sums.sum_to-unit m.scalars.ops laws.ring n d (w i) h

    image-none : (i d : ℕ) → n ≤ d → image_at m.scalars.ops n w (unit_at m.scalars.ops d) i ≡ m.scalars.ops.zero
    image-none i d h = Sums.sum_to-nothing m.scalars.ops laws.ring n (λ j. mul (w i j) (unit_at m.scalars.ops d j))
        (λ j g. ap (mul (w i j)) (unit_other m.scalars laws d j (λ e. omega arith)) ∙ Sums.mul_zero m.scalars.ops laws.ring (w i j))

    -- a number and the unit of row i, or nothing and it
    only_first : (u i d : ℕ) (x y : V) → d < u → x ≡ y → add x (unit_at m.scalars.ops (u + i) d) ≡ y
    only_first u i d x y h e = ap₂ add e (unit_other m.scalars laws (u + i) d (λ q. omega arith)) ∙ laws.ring.add_zero y

    only_unit : (u i d : ℕ) (x : V) → u ≤ d → n + n ≤ u → x ≡ m.scalars.ops.zero → add x (unit_at m.scalars.ops (u + i) d) ≡ extended_row m.scalars.ops n w i (n + (d - u))
    only_unit u i d x h most e =
        ap (λ z. add z (unit_at m.scalars.ops (u + i) d)) e ∙ Sums.zero_add m.scalars.ops laws.ring (unit_at m.scalars.ops (u + i) d)
        ∙ unit_moved m.scalars laws (u + i) d (n + i) (n + (d - u)) (λ q. omega arith) (λ q. omega arith)
        ∙ sym (extended_row-high m.scalars laws n w i (n + (d - u)) (omega arith))

    nothing_behind : (i : ℕ) → i < n → extended_row m.scalars.ops n w i (n + n) ≡ m.scalars.ops.zero
    nothing_behind i h = extended_row-high m.scalars laws n w i (n + n) (omega arith) ∙ unit_other m.scalars laws (n + i) (n + n) (λ e. omega arith)

    module _ (inverts : HasInverses m.scalars) (u : ℕ) (most : n + n ≤ u) (rows : List (List (ℕ × E))) where
      -- the height of the reduction of the matrix's rows
      pub high_of_rows : AreMatrixRows m n w rows → ReductionIsHigh m.scalars u (with_units m u 0 rows) → InverseIsHigh m.scalars n w
      high_of_rows are h = high_by_columns m.scalars laws n w inverts u n (omega arith) (omega arith) (λ z. absurd (omega arith))
          (subst (ReductionIsHigh m.scalars u) (units_moved u (column_of n u n) (extended_row m.scalars.ops n w) 0 rows entries
          ∙ ap (λ z. map (in_columns (column_of n u n)) (map (extended_row m.scalars.ops n w) (range_with_len 0 z))) are.count) h)
        where
          entries : (i : ℕ) → i < length rows → (d : ℕ) → add (entry m (get_or rows i []) d) (unit_at m.scalars.ops (u + (0 + i)) d) ≡ extended_row m.scalars.ops n w (0 + i) (column_of n u n d)
          entries i g d =
              let inside : i < n = let e = are.count in omega arith in
              let zero_plus : 0 + i ≡ i = omega arith in
              subst (λ z. add (entry m (get_or rows i []) d) (unit_at m.scalars.ops (u + z) d) ≡ extended_row m.scalars.ops n w z (column_of n u n d)) (sym zero_plus)
              (elim (dec_le n d) [
                | yes y ↦ elim (dec_le u d) [
                  | yes z ↦ only_unit u i d (entry m (get_or rows i []) d) z most (are.form i inside (unit_at m.scalars.ops d) ∙ image-none i d y) ∙ ap (extended_row m.scalars.ops n w i) (sym (column_of-high n u n d y z))
                  | no z ↦ only_first u i d (entry m (get_or rows i []) d) m.scalars.ops.zero (omega arith) (are.form i inside (unit_at m.scalars.ops d) ∙ image-none i d y)
                      ∙ sym (ap (extended_row m.scalars.ops n w i) (column_of-middle n u n d y (omega arith)) ∙ nothing_behind i inside)
                ]
                | no y ↦ only_first u i d (entry m (get_or rows i []) d) (w i d) (omega arith) (are.form i inside (unit_at m.scalars.ops d) ∙ image-unit i d (omega arith))
                    ∙ sym (ap (extended_row m.scalars.ops n w i) (column_of-low n u n d (omega arith)) ∙ extended_row-low m.scalars laws n w i d (omega arith))
              ])

      -- the height of the reduction of these with a given column more in each row
      pub high_of_extended_rows : AreExtendedRows m n w rows → HasNoKernel m.scalars.ops n w → ReductionIsHigh m.scalars u (with_units m u 0 rows) → InverseIsHigh m.scalars n w
      high_of_extended_rows are injective h = high_by_columns m.scalars laws n w inverts u (n + n) (omega arith) (omega arith) (λ z. injective)
          (subst (ReductionIsHigh m.scalars u) (units_moved u (column_of n u (n + n)) (extended_row m.scalars.ops n w) 0 rows entries
          ∙ ap (λ z. map (in_columns (column_of n u (n + n))) (map (extended_row m.scalars.ops n w) (range_with_len 0 z))) are.count) h)
        where
          entry_is : (i d : ℕ) → i < n → entry m (get_or rows i []) d ≡ extended_row m.scalars.ops n w i d
          entry_is i d g = are.form i g (unit_at m.scalars.ops d) ∙ elim (dec_le n d) [
            | yes y ↦ ap (λ z. add z (unit_at m.scalars.ops d (n + i))) (image-none i d y) ∙ Sums.zero_add m.scalars.ops laws.ring (unit_at m.scalars.ops d (n + i)) ∙ Sums.unit_at-swap m.scalars.ops d (n + i)
                ∙ sym (extended_row-high m.scalars laws n w i d y)
            | no y ↦ ap₂ add (image-unit i d (omega arith)) (unit_other m.scalars laws d (n + i) (λ e. omega arith)) ∙ laws.ring.add_zero (w i d) ∙ sym (extended_row-low m.scalars laws n w i d (omega arith))
          ]

          none_behind : (i d : ℕ) → i < n → n + n ≤ d → extended_row m.scalars.ops n w i d ≡ m.scalars.ops.zero
          none_behind i d g y = extended_row-high m.scalars laws n w i d (omega arith) ∙ unit_other m.scalars laws (n + i) d (λ e. omega arith)

          entries : (i : ℕ) → i < length rows → (d : ℕ) → add (entry m (get_or rows i []) d) (unit_at m.scalars.ops (u + (0 + i)) d) ≡ extended_row m.scalars.ops n w (0 + i) (column_of n u (n + n) d)
          entries i g d =
              let inside : i < n = let e = are.count in omega arith in
              let zero_plus : 0 + i ≡ i = omega arith in
              subst (λ z. add (entry m (get_or rows i []) d) (unit_at m.scalars.ops (u + z) d) ≡ extended_row m.scalars.ops n w z (column_of n u (n + n) d)) (sym zero_plus)
              (elim (dec_le (n + n) d) [
                | yes y ↦ elim (dec_le u d) [
                  | yes z ↦ only_unit u i d (entry m (get_or rows i []) d) z most (entry_is i d inside ∙ none_behind i d inside y) ∙ ap (extended_row m.scalars.ops n w i) (sym (column_of-high n u (n + n) d y z))
                  | no z ↦ only_first u i d (entry m (get_or rows i []) d) m.scalars.ops.zero (omega arith) (entry_is i d inside ∙ none_behind i d inside y)
                      ∙ sym (ap (extended_row m.scalars.ops n w i) (column_of-middle n u (n + n) d y (omega arith)) ∙ nothing_behind i inside)
                ]
                | no y ↦ only_first u i d (entry m (get_or rows i []) d) (extended_row m.scalars.ops n w i d) (omega arith) (entry_is i d inside) ∙ sym (ap (extended_row m.scalars.ops n w i) (column_of-low n u (n + n) d (omega arith)))
              ])
