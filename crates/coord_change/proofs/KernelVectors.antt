-- What a basis of a kernel says of a matrix: of its rows alone, whether it takes a vector other than 0 to 0; of its rows each with a column of its own,
-- its inverse.
use Rattle.std.proofs.Common.{◌≡◌, ◌≢◌, ℕ, zero, suc, ◌+◌, ◌-◌, ◌<◌, ◌≤◌, ◌⊎◌, inl, inr, cond, ltb, lt-ltb, le-ltb, List, [], ◌∷◌, length, map, get_or, All, ap, ap₂, sym, ◌∙◌, refl, subst, arith}
use Rattle.std.proofs.Math.Decide.{dec_le}
use Rattle.std.proofs.Math.ListN.{get_or-map}
use Rattle.std.proofs.lemmas.List.{length-map}
use Rattle.ring_theory.specs.Scalars.{Meaning, ScalarLaws, HasInverses}
use Rattle.poly_law.specs.Sums.{sum_to, unit_at}
use Rattle.ring_theory.proofs.RingSolver.{neg_neg}
use Rattle.poly_law.proofs.Sums
use Rattle.poly_law.proofs.Matrix
use Rattle.lin_row.specs.Lines.{EachOf, AllAfter, AllBelow, IsRising, IsLine, dot, entry}
use Rattle.lin_row.specs.Rows.{AreRows, rows_of}
use Rattle.lin_row.specs.declared.row.Row.{Row}
use Rattle.lin_row.specs.System.{RowsVanish, IsAbsent}
use Rattle.lin_row.specs.Forms.{IsKernelVector, IsKernelBasis, kernel_sum}
use Rattle.coord_change.specs.Inverses.{image_at, HasNoKernel, IsInKernel, AreMatrixRows, AreExtendedRows, IsInverseMatrix}
use Rattle.coord_change.proofs.Dimension
use Rattle.coord_change.proofs.Dimension.{same_or, AlmostKernel}
use Rattle.coord_change.proofs.MatrixRows.{unit_other, unit_self}

-- ---- lists of numbered things
module _ {X : Type 0} where
  each_at : (P : X → Type 0) (xs : List X) (i : ℕ) (d : X) → i < length xs → EachOf P xs → P (get_or xs i d)
  each_at P [] i d h all = absurd (omega arith)
  each_at P (x ∷ xs) zero d h all = all.0
  each_at P (x ∷ xs) (suc i) d h all = each_at P xs i d (omega arith) all.1

  below_at : (e : ℕ) (xs : List (ℕ × X)) (i : ℕ) (d : ℕ × X) → i < length xs → AllBelow e xs → (get_or xs i d).0 < e
  below_at e [] i d h all = absurd (omega arith)
  below_at e (x ∷ xs) zero d h all = all.0
  below_at e (x ∷ xs) (suc i) d h all = below_at e xs i d (omega arith) all.1

  after_absent : (c d : ℕ) (xs : List (ℕ × X)) → d ≤ c → AllAfter c xs → IsAbsent d xs
  after_absent c d [] h all = tt
  after_absent c d (x ∷ xs) h all = ((λ e. let less : c < x.0 = all.0 in omega arith), after_absent c d xs h all.1)

  numbers_first : (x : ℕ × X) (xs : List (ℕ × X)) (c e : ℕ) → AllAfter x.0 xs → c ≤ x.0 → x.0 < e → (IsAbsent c (x ∷ xs) → ⊥) → x.0 ≡ c
  numbers_first x xs c e after from below all = elim (same_or x.0 c) [
    | inl q ↦ q
    | inr ne ↦ absurd (all (ne, after_absent x.0 c xs from after))
  ]

  after_from : (c : ℕ) (xs : List (ℕ × X)) → AllAfter c xs → EachOf (λ y. c + 1 ≤ y.0) xs
  after_from c [] k = tt
  after_from c (y ∷ ys) k = ((let l : c < y.0 = k.0 in omega arith), after_from c ys k.1)

  record AreNumbers (xs : List (ℕ × X)) (c e : ℕ) : Type 0 where
    count : length xs ≡ e - c
    number : (i : ℕ) (d : ℕ × X) → i < length xs → (get_or xs i d).0 ≡ c + i

  numbers_more : (x : ℕ × X) (xs : List (ℕ × X)) (c e : ℕ) → x.0 ≡ c → x.0 < e → AreNumbers xs (c + 1) e → AreNumbers (x ∷ xs) c e
  numbers_more x xs c e first below rest = record { count = (let k = rest.count in omega arith); number = at }
    where
      at : (i : ℕ) (d : ℕ × X) → i < suc (length xs) → (get_or (x ∷ xs) i d).0 ≡ c + i
      at zero d g = first ∙ (let z : c ≡ c + 0 = omega arith in z)
      at (suc i) d g = rest.number i d (omega arith) ∙ (let z : (c + 1) + i ≡ c + suc i = omega arith in z)

  -- numbers that rise from c or later on, below e, and leave out none of these
  numbers_are : (xs : List (ℕ × X)) (c e : ℕ) → c ≤ e → IsRising xs → EachOf (λ x. c ≤ x.0) xs → AllBelow e xs → ((d : ℕ) → c ≤ d → d < e → IsAbsent d xs → ⊥) → AreNumbers xs c e
  numbers_are [] c e h rising from below all = elim (dec_le e c) [
    | yes k ↦ record { count = omega arith; number = λ i d g. absurd (omega arith) }
    | no k ↦ absurd (all c (omega arith) (omega arith) tt)
  ]
  numbers_are (x ∷ xs) c e h rising from below all =
      let f : c ≤ x.0 = from.0 in
      let b : x.0 < e = below.0 in
      let first : x.0 ≡ c = numbers_first x xs c e rising.0 f b (all c (omega arith) (omega arith)) in
      numbers_more x xs c e first b
      (numbers_are xs (c + 1) e (omega arith) rising.1 (subst (λ z. EachOf (λ y. z + 1 ≤ y.0) xs) first (after_from x.0 xs rising.0)) below.1
      (λ d k g absent. all d (omega arith) g ((λ q. omega arith), absent)))

module _ {E V : Type 0} (m : Meaning E V) where
  vanish_by_index : (rows : List (List (ℕ × E))) (x : ℕ → V) → ((i : ℕ) → i < length rows → dot m (get_or rows i []) x ≡ m.scalars.ops.zero) → RowsVanish m rows x
  vanish_by_index [] x h = tt
  vanish_by_index (row ∷ rows) x h = (h 0 (omega arith), vanish_by_index rows x (λ i g. h (suc i) (omega arith)))

  vanish_at : (rows : List (List (ℕ × E))) (x : ℕ → V) (i : ℕ) → i < length rows → RowsVanish m rows x → dot m (get_or rows i []) x ≡ m.scalars.ops.zero
  vanish_at [] x i h v = absurd (omega arith)
  vanish_at (row ∷ rows) x zero h v = v.0
  vanish_at (row ∷ rows) x (suc i) h v = vanish_at rows x i (omega arith) v.1

module _ {E V : Type 0} (m : Meaning E V) (laws : ScalarLaws m.scalars) (n : ℕ) (w : ℕ → ℕ → V) where
  open m.scalars.ops use {add, mul, neg}

  -- ---- the rows alone
  module _ (rows : List (List (ℕ × E))) (are : AreMatrixRows m n w rows) where
    -- with no vector in the basis there is none but 0
    pub no_kernel : IsKernelBasis m rows n [] → HasNoKernel m.scalars.ops n w
    no_kernel basis x zeros d h = basis.spans x (vanish_by_index m rows x (λ i g. let e = are.count in are.form i (omega arith) x ∙ zeros i (omega arith))) d h ∙ nothing basis.basis basis.vectors_are
      where
        nothing : (bs : List (ℕ × List (ℕ × E))) → map (λ b. b.1) bs ≡ [] → kernel_sum m bs x d ≡ m.scalars.ops.zero
        nothing [] e = refl
        nothing (b ∷ bs) e = cc

    -- a vector that is not 0
    pub record IsNotZero (v : List (ℕ × E)) : Type 0 where
      pub kernel : (i : ℕ) → i < n → image_at m.scalars.ops n w (entry m v) i ≡ m.scalars.ops.zero
      pub place : ℕ
      pub inside : place < n
      pub other : entry m v place ≢ m.scalars.ops.zero

    -- a vector of the basis is one that the matrix takes to 0
    pub first_vector : (v : List (ℕ × E)) (vs : List (List (ℕ × E))) → IsKernelBasis m rows n (v ∷ vs) → IsNotZero v
    first_vector v vs basis = of basis.basis basis.vectors_are basis.below basis.each
      where
        of : (bs : List (ℕ × List (ℕ × E))) → map (λ b. b.1) bs ≡ v ∷ vs → AllBelow n bs → EachOf (λ b. IsKernelVector m rows basis.basis b.0 b.1) bs → IsNotZero v
        of [] e below each = cc
        of (b ∷ bs) e below each =
            let same : b.1 ≡ v = cc in
            subst IsNotZero same (record {
              kernel = λ i h. let q = are.count in sym (are.form i h (entry m b.1)) ∙ vanish_at m rows (entry m b.1) i (omega arith) each.0.rows;
              place = b.0;
              inside = below.0;
              other = λ z. laws.nontrivial (sym each.0.one ∙ z);
            })

  -- ---- an inverse on one side is one on the other, where no vector but 0 is taken to 0
  pub inverse_of_right : (a : ℕ → ℕ → V) → HasNoKernel m.scalars.ops n w → ((i k : ℕ) → i < n → k < n → sum_to m.scalars.ops n (λ j. mul (w i j) (a j k)) ≡ unit_at m.scalars.ops i k) → IsInverseMatrix m.scalars.ops n w a
  inverse_of_right a injective right = record { left = left; right = right }
    where
      twice : (i k : ℕ) → i < n → k < n → image_at m.scalars.ops n w (λ d. sum_to m.scalars.ops n (λ j. mul (a d j) (w j k))) i ≡ w i k
      twice i k h g =
          sym (Matrix.product_assoc m.scalars.ops laws.ring n w a w i k h g)
          ∙ Matrix.product_agree m.scalars.ops laws.ring n (Matrix.product m.scalars.ops laws.ring n w a) (unit_at m.scalars.ops) w w right (λ i k h g. refl) i k h g
          ∙ Matrix.unit_product m.scalars.ops laws.ring n w i k h g

      difference : (k : ℕ) → k < n → (i : ℕ) → i < n → image_at m.scalars.ops n w (λ d. add (sum_to m.scalars.ops n (λ j. mul (a d j) (w j k))) (neg (unit_at m.scalars.ops d k))) i ≡ m.scalars.ops.zero
      difference k g i h =
          Sums.sum_to-cong m.scalars.ops n (λ d. mul (w i d) (add (sum_to m.scalars.ops n (λ j. mul (a d j) (w j k))) (neg (unit_at m.scalars.ops d k))))
          (λ d. add (mul (w i d) (sum_to m.scalars.ops n (λ j. mul (a d j) (w j k)))) (neg (mul (w i d) (unit_at m.scalars.ops d k))))
          (λ d y. Sums.distrib_left m.scalars.ops laws.ring (w i d) (sum_to m.scalars.ops n (λ j. mul (a d j) (w j k))) (neg (unit_at m.scalars.ops d k))
          ∙ ap (add (mul (w i d) (sum_to m.scalars.ops n (λ j. mul (a d j) (w j k))))) (Sums.mul_neg m.scalars.ops laws.ring (w i d) (unit_at m.scalars.ops d k)))
          ∙ Sums.sum_to-add m.scalars.ops laws.ring n (λ d. mul (w i d) (sum_to m.scalars.ops n (λ j. mul (a d j) (w j k)))) (λ d. neg (mul (w i d) (unit_at m.scalars.ops d k)))
          ∙ ap₂ add (twice i k h g) (Sums.sum_to-neg m.scalars.ops laws.ring n (λ d. mul (w i d) (unit_at m.scalars.ops d k)) ∙ ap neg (Sums.sum_to-unit m.scalars.ops laws.ring n k (w i) g))
          ∙ laws.ring.add_neg (w i k)

      left : (i k : ℕ) → i < n → k < n → sum_to m.scalars.ops n (λ j. mul (a i j) (w j k)) ≡ unit_at m.scalars.ops i k
      left i k h g = Sums.equal_from_sub m.scalars.ops laws.ring (sum_to m.scalars.ops n (λ j. mul (a i j) (w j k))) (unit_at m.scalars.ops i k)
          (injective (λ d. add (sum_to m.scalars.ops n (λ j. mul (a d j) (w j k))) (neg (unit_at m.scalars.ops d k))) (difference k g) i h)

  -- ---- the rows each with a column of its own
  module _ (inverts : HasInverses m.scalars) (rows vs : List (List (ℕ × E))) (are : AreExtendedRows m n w rows) (injective : HasNoKernel m.scalars.ops n w) (basis : IsKernelBasis m rows (n + n) vs) where
    abbrev bs : List (ℕ × List (ℕ × E))
    bs = basis.basis

    -- the matrix takes the front of a vector on which all rows vanish to the negative of its end
    image_is : (x : ℕ → V) → RowsVanish m rows x → (i : ℕ) → i < n → image_at m.scalars.ops n w x i ≡ neg (x (n + i))
    image_is x v i h = Sums.neg_unique m.scalars.ops laws.ring (x (n + i)) (image_at m.scalars.ops n w x i)
        (laws.ring.add_comm (x (n + i)) (image_at m.scalars.ops n w x i) ∙ sym (are.form i h x) ∙ vanish_at m rows x i (let e = are.count in omega arith) v)

    late : (b : ℕ × List (ℕ × E)) → IsKernelVector m rows bs b.0 b.1 → n ≤ b.0
    late b v = elim (dec_le n b.0) [
      | yes h ↦ h
      | no h ↦ absurd (laws.nontrivial (sym v.one ∙ injective (entry m b.1)
          (λ i g. image_is (entry m b.1) v.rows i g ∙ ap neg (v.last (n + i) (omega arith)) ∙ Sums.neg_zero m.scalars.ops laws.ring) b.0 (omega arith)))
    ]

    all_late : (xs : List (ℕ × List (ℕ × E))) → EachOf (λ b. IsKernelVector m rows bs b.0 b.1) xs → EachOf (λ b. n ≤ b.0) xs
    all_late [] h = tt
    all_late (x ∷ xs) h = (late x h.0, all_late xs h.1)

    -- values whose front x is taken to 0 by each row but row k
    module _ (k : ℕ) (inside : k < n) (x : ℕ → V) (solves : (i : ℕ) → i < n → (i ≡ k → ⊥) → image_at m.scalars.ops n w x i ≡ m.scalars.ops.zero) where
      abbrev y : ℕ → V
      y d = cond (ltb d n) (x d) (neg (image_at m.scalars.ops n w x (d - n)))

      y-low : (d : ℕ) → d < n → y d ≡ x d
      y-low d h = ap (λ b. cond b (x d) (neg (image_at m.scalars.ops n w x (d - n)))) (lt-ltb d n h)

      y-high : (d : ℕ) → n ≤ d → y d ≡ neg (image_at m.scalars.ops n w x (d - n))
      y-high d h = ap (λ b. cond b (x d) (neg (image_at m.scalars.ops n w x (d - n)))) (le-ltb d n h)

      vanishes : RowsVanish m rows y
      vanishes = vanish_by_index m rows y λ i h.
          let e = are.count in
          are.form i (omega arith) y
          ∙ ap₂ add (Sums.sum_to-cong m.scalars.ops n (λ d. mul (w i d) (y d)) (λ d. mul (w i d) (x d)) (λ d g. ap (mul (w i d)) (y-low d g)))
          (y-high (n + i) (omega arith) ∙ ap (λ z. neg (image_at m.scalars.ops n w x z)) (let z : (n + i) - n ≡ i = omega arith in z))
          ∙ laws.ring.add_neg (image_at m.scalars.ops n w x i)

      nothing : (d : ℕ) (xs : List (ℕ × List (ℕ × E))) → EachOf (λ b. n ≤ b.0) xs → AllBelow (n + n) xs → IsAbsent (n + k) xs → kernel_sum m xs y d ≡ m.scalars.ops.zero
      nothing d [] from below absent = refl
      nothing d (b ∷ xs) from below absent =
          let f : n ≤ b.0 = from.0 in
          let g : b.0 < n + n = below.0 in
          let ne : b.0 ≡ n + k → ⊥ = absent.0 in
          ap₂ add
          (ap (λ z. mul z (entry m b.1 d)) (y-high b.0 f ∙ ap neg (solves (b.0 - n) (omega arith) (λ e. ne (omega arith))) ∙ Sums.neg_zero m.scalars.ops laws.ring) ∙ Sums.zero_mul m.scalars.ops laws.ring (entry m b.1 d))
          (nothing d xs from.1 below.1 absent.1)
          ∙ laws.ring.add_zero m.scalars.ops.zero

      front_zero : IsAbsent (n + k) bs → (d : ℕ) → d < n → x d ≡ m.scalars.ops.zero
      front_zero absent d h = sym (y-low d h) ∙ basis.spans y vanishes d (omega arith) ∙ nothing d bs (all_late bs basis.each) basis.below absent

    stands : (k : ℕ) → k < n → IsAbsent (n + k) bs → ⊥
    stands k h absent = contradiction (Dimension.almost_kernel m.scalars laws inverts n k h w)
      where
        contradiction : AlmostKernel m.scalars laws n k w → ⊥
        contradiction v = v.other (front_zero k h v.x v.solves absent v.place v.inside)

    numbers : AreNumbers bs n (n + n)
    numbers = numbers_are bs n (n + n) (omega arith) basis.rising (all_late bs basis.each) basis.below
        (λ d h g absent. stands (d - n) (omega arith) (subst (λ z. IsAbsent z bs) (let z : d ≡ n + (d - n) = omega arith in z) absent))

    -- there is a vector for each column
    pub vectors_count : length vs ≡ n
    vectors_count = ap length (sym basis.vectors_are) ∙ length-map bs (λ b. b.1) ∙ (let e = numbers.count in let z : length bs ≡ n = omega arith in z)

    abbrev at_place : ℕ → ℕ × List (ℕ × E)
    at_place j = get_or bs j (0, [])

    vector-at : (j : ℕ) → get_or vs j [] ≡ (at_place j).1
    vector-at j = ap (λ zs. get_or zs j []) (sym basis.vectors_are) ∙ get_or-map (λ (b : ℕ × List (ℕ × E)). b.1) bs j (0, [])

    column : (i k : ℕ) → i < n → k < n → image_at m.scalars.ops n w (entry m (get_or vs k [])) i ≡ neg (unit_at m.scalars.ops i k)
    column i k h g =
        ap (λ z. image_at m.scalars.ops n w (entry m z) i) (vector-at k)
        ∙ image_is (entry m (at_place k).1) here.rows i h
        ∙ ap neg (end (same_or i k))
      where
        size : length bs ≡ n
        size = let e = numbers.count in omega arith

        here : IsKernelVector m rows bs (at_place k).0 (at_place k).1
        here = each_at (λ b. IsKernelVector m rows bs b.0 b.1) bs k (0, []) (let e = size in omega arith) basis.each

        own : (j : ℕ) → j < n → (at_place j).0 ≡ n + j
        own j y = numbers.number j (0, []) (let e = size in omega arith)

        end : (i ≡ k) ⊎ (i ≢ k) → entry m (at_place k).1 (n + i) ≡ unit_at m.scalars.ops i k
        end (inl e) = ap (λ z. entry m (at_place k).1 (n + z)) e ∙ ap (entry m (at_place k).1) (sym (own k g)) ∙ here.one ∙ sym (unit_self m.scalars laws i k e)
        end (inr ne) =
            ap (entry m (at_place k).1) (sym (own i h))
            ∙ each_at (λ b. b.0 ≢ (at_place k).0 → entry m (at_place k).1 b.0 ≡ m.scalars.ops.zero) bs i (0, []) (let e = size in omega arith) here.others
            (λ q. let e₁ = own i h in let e₂ = own k g in ne (omega arith))
            ∙ sym (unit_other m.scalars laws i k ne)

    -- the negatives of the vectors' fronts are the columns of the inverse
    pub inverse_of_vectors : (a : ℕ → ℕ → V) → ((d k : ℕ) → d < n → k < n → a d k ≡ neg (entry m (get_or vs k []) d)) → IsInverseMatrix m.scalars.ops n w a
    inverse_of_vectors a is = inverse_of_right a injective λ i k h g.
        Sums.sum_to-cong m.scalars.ops n (λ j. mul (w i j) (a j k)) (λ j. neg (mul (w i j) (entry m (get_or vs k []) j))) (λ j y. ap (mul (w i j)) (is j k y g) ∙ Sums.mul_neg m.scalars.ops laws.ring (w i j) (entry m (get_or vs k []) j))
        ∙ Sums.sum_to-neg m.scalars.ops laws.ring n (λ j. mul (w i j) (entry m (get_or vs k []) j))
        ∙ ap neg (column i k h g) ∙ neg_neg m.scalars.ops laws.ring (unit_at m.scalars.ops i k)

-- the vectors of a basis have valid entries that are not zero, in rising columns
pub basis_rows : {E V : Type 0} (m : Meaning E V) (given : List (List (ℕ × E))) (n : ℕ) (rows : List (Row E)) → IsKernelBasis m given n (rows_of rows) → AreRows m rows
basis_rows {E} m given n rows basis = go basis.basis rows basis.vectors_are basis.each
  where
    go : (bs : List (ℕ × List (ℕ × E))) (rs : List (Row E)) → map (λ b. b.1) bs ≡ rows_of rs → EachOf (λ b. IsKernelVector m given basis.basis b.0 b.1) bs → AreRows m rs
    go [] [] e each = tt
    go [] (r ∷ rs) e each = cc
    go (b ∷ bs) [] e each = tt
    go (b ∷ bs) (r ∷ rs) e each = (subst (IsLine m) (let q : b.1 ≡ r.entries = cc in q) each.0.line, go bs rs (cc) each.1)

-- the answers, by the rows of code
module _ {E V : Type 0} (m : Meaning E V) (laws : ScalarLaws m.scalars) (n : ℕ) (w : ℕ → ℕ → V) (rows : List (List (ℕ × E))) (are : AreMatrixRows m n w rows) where
  pub regular_of : (vectors : List (Row E)) → length vectors ≡ 0 → IsKernelBasis m rows n (rows_of vectors) → HasNoKernel m.scalars.ops n w
  regular_of [] e basis = no_kernel m laws n w rows are basis
  regular_of (v ∷ vs) e basis = absurd (omega arith)

  pub kernel_of : (vectors : List (Row E)) (v : Row E) → 0 < length vectors → v ≡ get_or vectors 0 v → IsKernelBasis m rows n (rows_of vectors) → (items : List E) → length items ≡ n → All m.is_elem items
      → ((d : ℕ) → d < n → get_or (map m.value items) d m.scalars.ops.zero ≡ entry m v.entries d) → IsInKernel m n w items
  kernel_of [] v h e basis items count elems values = absurd (omega arith)
  kernel_of (x ∷ xs) v h e basis items count elems values = found (let q : v ≡ x = e in q) (first_vector m laws n w rows are x.entries (rows_of xs) basis)
    where
      found : v ≡ x → IsNotZero m laws n w rows are x.entries → IsInKernel m n w items
      found same q =
          let at : (d : ℕ) → d < n → get_or (map m.value items) d m.scalars.ops.zero ≡ entry m x.entries d = λ d k. values d k ∙ ap (λ (r : Row E). entry m r.entries d) same in
          record {
            count = count;
            elems = elems;
            kernel = λ i k. Sums.sum_to-cong m.scalars.ops n (λ d. m.scalars.ops.mul (w i d) (get_or (map m.value items) d m.scalars.ops.zero)) (λ d. m.scalars.ops.mul (w i d) (entry m x.entries d)) (λ d y. ap (m.scalars.ops.mul (w i d)) (at d y))
                ∙ q.kernel i k;
            place = q.place;
            inside = q.inside;
            other = λ z. q.other (sym (at q.place q.inside) ∙ z);
          }
