-- Matrices of the program, entry after entry, for the moves of the Hessian.
use Rattle.std.proofs.Common.{◌≡◌, ◌≢◌, ℕ, ◌+◌, ◌*◌, ◌/◌, ◌%◌, ◌<◌, inl, Bool, true, false, ◌&&◌, cond, eqb, eqb-true, eq-eqb, ne_eqb, List, [], ◌∷◌, ◌++◌, map, length, get_or, set, take, mul_comm, All, ap, ap₂, sym, ◌∙◌, refl, subst, arith}
use Rattle.std.proofs.lemmas.Nat.{div-mul-add, mod-mul-add}
use Rattle.std.proofs.lemmas.List.Elements.{All-set}
use Rattle.std.proofs.lemmas.List.{map-set, get_or-set_same, get_or-set_other, take_more, length-map, length-set}
use Rattle.ring_theory.specs.Scalars.{Scalars, ScalarLaws, Meaning}
use Rattle.poly_law.specs.Sums.{unit_at}
use Rattle.poly_law.specs.Exps.{variable}
use Rattle.poly_law.specs.ExpList.{exps}
use Rattle.poly_law.specs.Poly.{coefficient, scale, term}
use Rattle.poly_law.specs.Polynomials.{poly_in}
use Rattle.poly_law.proofs.Sums
use Rattle.mono_exp.proofs.Lists.{Each}
use Rattle.coord_change.specs.Changes.{entry_of}
use Rattle.coord_change.specs.Inverses.{HasNoKernel}
use Rattle.coord_change.specs.Moves.{Move}
use Rattle.coord_change.proofs.InverseLemmas
use Rattle.coord_change.proofs.Matrices
use Rattle.move_law.specs.Moves.{linear, over}
use Rattle.move_law.specs.Hessian.{Squares, others, entry, double, completing, mixing, permuting}
use Rattle.hessian_rank.specs.Sound.{Has, Distinct, IsLinear, IsSound}
use Rattle.hessian_rank.specs.Stages.{IsMatrixOf}
use Rattle.hessian_rank.proofs.NumberLists
use Rattle.hessian_rank.proofs.MatrixSums
use Rattle.hessian_rank.proofs.LinearMoves
use Rattle.hessian_rank.proofs.SquareSteps

-- places of a square matrix differ where rows or columns do
pub same_place : (n a b i j : ℕ) → b < n → j < n → n * a + b ≡ n * i + j → (a ≡ i) × (b ≡ j)
same_place n a b i j hb hj e = (
  sym (ap (λ z. (z + b) / n) (mul_comm n a) ∙ div-mul-add a n b hb) ∙ ap (λ z. z / n) e ∙ (ap (λ z. (z + j) / n) (mul_comm n i) ∙ div-mul-add i n j hj),
  sym (ap (λ z. (z + b) % n) (mul_comm n a) ∙ mod-mul-add a n b hb) ∙ ap (λ z. z % n) e ∙ (ap (λ z. (z + j) % n) (mul_comm n i) ∙ mod-mul-add i n j hj),
)

-- the entries, row after row, are those of the identity but for row i, which has beside these the coefficients of completing the square of x(i) for the
-- variables of a list
pub record IsRowTo {E V : Type 0} (m : Meaning E V) (n : ℕ) (q : Squares n V) (i : ℕ) (js : List ℕ) (entries : List E) : Type 0 where
  pub elems : All m.is_elem entries
  pub count : length entries ≡ n * n
  pub same : (a b : ℕ) → a < n → b < n → entry_of m n entries a b
      ≡ m.scalars.ops.add (unit_at m.scalars.ops a b) (cond (eqb a i) (coefficient (exps n) m.scalars.ops (linear n m.scalars (map (λ j. (m.scalars.ops.neg (over m.scalars (entry n m.scalars q i j) (double n m.scalars q i)), j)) js)) (variable (exps n) b)) m.scalars.ops.zero)

module _ {E V : Type 0} (m : Meaning E V) (laws : ScalarLaws m.scalars) (n : ℕ) where
  abbrev s : Scalars V
  s = m.scalars

  -- the entries are those of w
  pub record HasEntries (w : ℕ → ℕ → V) (entries : List E) : Type 0 where
    pub elems : All m.is_elem entries
    pub count : length entries ≡ n * n
    pub same : (a b : ℕ) → a < n → b < n → entry_of m n entries a b ≡ w a b

  -- w but for the entry v in row i and column j
  abbrev pub changed : (ℕ → ℕ → V) → ℕ → ℕ → V → ℕ → ℕ → V
  changed w i j v a b = cond (eqb a i && eqb b j) v (w a b)

  -- the entries, one of them set
  pub set_entry : (w : ℕ → ℕ → V) (entries : List E) (i j : ℕ) (x : E) → i < n → j < n → m.is_elem x → HasEntries w entries → HasEntries (changed w i j (m.value x)) (set entries (n * i + j) x)
  set_entry w entries i j x hi hj valid h = record {
    elems = All-set m.is_elem entries (n * i + j) x valid h.elems;
    count = length-set entries (n * i + j) x ∙ h.count;
    same = λ a b ha hb. ap (λ z. get_or z (n * a + b) s.ops.zero) (map-set m.value entries (n * i + j) x) ∙ step a b ha hb (eqb a i) (eqb b j) refl refl;
  }
    where
      inside : n * i + j < length (map m.value entries)
      inside = let l = length-map entries m.value in let c = h.count in let p = Matrices.place_inside n i j hi hj in omega arith

      elsewhere : (a b : ℕ) → a < n → b < n → ((a ≡ i) × (b ≡ j) → ⊥) → get_or (set (map m.value entries) (n * i + j) (m.value x)) (n * a + b) s.ops.zero ≡ w a b
      elsewhere a b ha hb ne = get_or-set_other (map m.value entries) (n * i + j) (n * a + b) (m.value x) s.ops.zero (λ e. ne (same_place n a b i j hb hj e)) ∙ h.same a b ha hb

      differ : (a b : ℕ) → eqb a b ≡ false → a ≢ b
      differ a b e q = let bad : false ≡ true = sym e ∙ eq-eqb a b q in cc bad

      step : (a b : ℕ) → a < n → b < n → (t u : Bool) → eqb a i ≡ t → eqb b j ≡ u → get_or (set (map m.value entries) (n * i + j) (m.value x)) (n * a + b) s.ops.zero ≡ cond (t && u) (m.value x) (w a b)
      step a b ha hb true true e q = ap (λ z. get_or (set (map m.value entries) (n * i + j) (m.value x)) z s.ops.zero) (ap₂ (λ y z. n * y + z) (eqb-true a i e) (eqb-true b j q)) ∙ get_or-set_same (map m.value entries) (n * i + j) (m.value x) s.ops.zero inside
      step a b ha hb true false e q = elsewhere a b ha hb (λ z. differ b j q z.1)
      step a b ha hb false true e q = elsewhere a b ha hb (λ z. differ a i e z.0)
      step a b ha hb false false e q = elsewhere a b ha hb (λ z. differ a i e z.0)

  -- the same entries
  pub entries_same : (w w' : ℕ → ℕ → V) (entries : List E) → ((a b : ℕ) → a < n → b < n → w a b ≡ w' a b) → HasEntries w entries → HasEntries w' entries
  entries_same w w' entries e h = record { elems = h.elems; count = h.count; same = λ a b ha hb. h.same a b ha hb ∙ e a b ha hb }

  -- the matrix of a move, by its entries
  pub matrix_of : (w : ℕ → ℕ → V) (move : Move n V) (entries : List E) → IsLinear n s w move → HasNoKernel s.ops n w → HasEntries w entries → IsMatrixOf m n move entries
  matrix_of w move entries is regular h = record {
    matrix = record {
      elems = h.elems;
      count = h.count;
      regular = λ x zeros d g. regular x (λ i k. sym (InverseLemmas.same_image s.ops laws.ring n (entry_of m n entries) w h.same x i k) ∙ zeros i k) d g;
    };
    linear = record {
      long = is.long;
      forms = λ a ha b. is.forms a ha b
          ∙ ap (λ z. coefficient (exps n) s.ops z b)
          (Sums.sum_to-cong (poly_in n s.ops) n (λ j. scale (exps n) s.ops (w a j) (term (exps n) s.ops (variable (exps n) j))) (λ j. scale (exps n) s.ops (entry_of m n entries a j) (term (exps n) s.ops (variable (exps n) j)))
          (λ j hj. ap (λ v. scale (exps n) s.ops v (term (exps n) s.ops (variable (exps n) j))) (sym (h.same a j ha hj))));
    };
  }

  -- ---- completing a square

  module _ (q : Squares n V) (i : ℕ) where
    -- the coefficients of the first k of the other open variables, beside the identity
    abbrev pub row_to : List ℕ → ℕ → ℕ → V
    row_to js a b = s.ops.add (unit_at s.ops a b) (cond (eqb a i) (coefficient (exps n) s.ops (linear n s (map (λ j. (SquareSteps.coefficient_over n s laws q i j, j)) js)) (variable (exps n) b)) s.ops.zero)

    -- at first it is the identity
    pub row_start : (a b : ℕ) → unit_at s.ops a b ≡ row_to [] a b
    row_start a b = sym (laws.ring.add_zero (unit_at s.ops a b)) ∙ ap (s.ops.add (unit_at s.ops a b)) (step (eqb a i))
      where
        step : (t : Bool) → s.ops.zero ≡ cond t s.ops.zero s.ops.zero
        step true = refl
        step false = refl

    -- one coefficient more
    pub row_more : (js : List ℕ) (k j : ℕ) → Each (λ j. j < n) js → Distinct js → Each (λ y. i ≢ y) js → i < n → k < length js → j ≡ get_or js k j
        → (a b : ℕ) → a < n → b < n → changed (row_to (take k js)) i j (SquareSteps.coefficient_over n s laws q i j) a b ≡ row_to (take (k + 1) js) a b
    row_more js k j inside distinct apart hi h at a b ha hb = step (eqb a i) (eqb b j) refl refl
      where
        g : ℕ → V
        g = SquareSteps.coefficient_over n s laws q i

        front : take (k + 1) js ≡ take k js ++ j ∷ []
        front = take_more js k j h ∙ ap (λ z. take k js ++ z ∷ []) (sym at)

        hj : j < n
        hj = NumberLists.each-has (λ j. j < n) js j inside (NumberLists.place-here js k j h at)

        fresh : eqb i j ≡ false
        fresh = ne_eqb i j (NumberLists.each-has (λ y. i ≢ y) js j apart (NumberLists.place-here js k j h at))

        front_inside : Each (λ j. j < n) (take (k + 1) js)
        front_inside = NumberLists.each-take (λ j. j < n) (k + 1) js inside

        row : List ℕ → V
        row ks = coefficient (exps n) s.ops (linear n s (map (λ j. (g j, j)) ks)) (variable (exps n) b)

        -- where b is j
        own : b ≡ j → g j ≡ row (take (k + 1) js)
        own e = sym (LinearMoves.there n s laws g (take (k + 1) js) front_inside (NumberLists.distinct-take (k + 1) js distinct) b hb
            (subst (λ z. Has z b) (sym front) (NumberLists.has-right (take k js) (j ∷ []) b (inl (sym e)))) ∙ ap g e)

        -- where it is not
        other : eqb b j ≡ false → row (take k js) ≡ row (take (k + 1) js)
        other e = sym (ap row front ∙ LinearMoves.append_other n s laws g (take k js) j b hj hb (λ z. let bad : false ≡ true = sym e ∙ eq-eqb b j z in cc bad))

        step : (t u : Bool) → eqb a i ≡ t → eqb b j ≡ u → cond (t && u) (g j) (s.ops.add (unit_at s.ops a b) (cond t (row (take k js)) s.ops.zero)) ≡ s.ops.add (unit_at s.ops a b) (cond t (row (take (k + 1) js)) s.ops.zero)
        step true true e f =
            own (eqb-true b j f) ∙ sym (Sums.zero_add s.ops laws.ring (row (take (k + 1) js)))
            ∙ ap (λ z. s.ops.add z (row (take (k + 1) js))) (sym (ap₂ (unit_at s.ops) (eqb-true a i e) (eqb-true b j f) ∙ ap (λ t. cond t s.ops.one s.ops.zero) fresh))
        step true false e f = ap (s.ops.add (unit_at s.ops a b)) (other f)
        step false true e f = refl
        step false false e f = refl

    -- the identity has none of them
    pub row_begins : (entries : List E) → HasEntries (unit_at s.ops) entries → IsRowTo m n q i [] entries
    row_begins entries h = record { elems = h.elems; count = h.count; same = λ a b ha hb. h.same a b ha hb ∙ row_start a b }

    -- one of them is set
    pub row_set : (js : List ℕ) (k j : ℕ) (x : E) (entries : List E) → Each (λ j. j < n) js → Distinct js → Each (λ y. i ≢ y) js → i < n → k < length js → j ≡ get_or js k j → m.is_elem x
        → m.value x ≡ SquareSteps.coefficient_over n s laws q i j → IsRowTo m n q i (take k js) entries → IsRowTo m n q i (take (k + 1) js) (set entries (n * i + j) x)
    row_set js k j x entries inside distinct apart hi h at valid is old =
        let hj : j < n = NumberLists.each-has (λ j. j < n) js j inside (NumberLists.place-here js k j h at) in
        let next = set_entry (row_to (take k js)) entries i j x hi hj valid (record { elems = old.elems; count = old.count; same = old.same }) in
        record {
          elems = next.elems;
          count = next.count;
          same = λ a b ha hb. next.same a b ha hb ∙ ap (λ v. changed (row_to (take k js)) i j v a b) is ∙ row_more js k j inside distinct apart hi h at a b ha hb;
        }

    -- all of them: the matrix of the move
    pub completing_matrix_is : (sound : IsSound n s q) → i < n → (entries : List E) → HasEntries (row_to (others i q.opened)) entries → IsMatrixOf m n (completing n s i q) entries
    completing_matrix_is sound hi entries h =
        matrix_of (row_to (others i q.opened)) (completing n s i q) entries (SquareSteps.completing_is n s laws q sound i hi)
        (MatrixSums.shear_is_regular s.ops laws.ring n i hi (SquareSteps.row_of n s laws q i) (row_to (others i q.opened)) (λ a b ha hb. refl) (SquareSteps.row_own n s laws q sound i hi)) h

  -- ---- mixing two variables

  -- 1 in row j and column i beside the identity
  pub mixing_matrix_is : (i j : ℕ) → i < n → j < n → i ≢ j → (one : E) → m.value one ≡ s.ops.one → (entries : List E) → HasEntries (changed (unit_at s.ops) j i (m.value one)) entries → IsMatrixOf m n (mixing n s (i, j)) entries
  mixing_matrix_is i j hi hj ne one is entries h =
      matrix_of w (mixing n s (i, j)) entries (SquareSteps.mixing_is n s laws i j hi hj)
      (MatrixSums.shear_is_regular s.ops laws.ring n j hj (unit_at s.ops i) w (λ a b ha hb. refl) (ap (λ t. cond t s.ops.one s.ops.zero) (ne_eqb i j ne)))
      (entries_same (changed (unit_at s.ops) j i (m.value one)) w entries (λ a b ha hb. step a b (eqb a j) (eqb b i) refl refl) h)
    where
      w : ℕ → ℕ → V
      w a b = s.ops.add (unit_at s.ops a b) (cond (eqb a j) (unit_at s.ops i b) s.ops.zero)

      step : (a b : ℕ) (t u : Bool) → eqb a j ≡ t → eqb b i ≡ u → cond (t && u) (m.value one) (unit_at s.ops a b) ≡ s.ops.add (unit_at s.ops a b) (cond t (unit_at s.ops i b) s.ops.zero)
      step a b true true e f =
          is ∙ sym (Sums.zero_add s.ops laws.ring s.ops.one)
          ∙ ap₂ s.ops.add (sym (ap₂ (unit_at s.ops) (eqb-true a j e) (eqb-true b i f) ∙ ap (λ t. cond t s.ops.one s.ops.zero) (ne_eqb j i (λ z. ne (sym z)))))
          (sym (ap (unit_at s.ops i) (eqb-true b i f) ∙ ap (λ t. cond t s.ops.one s.ops.zero) (eq-eqb i i refl)))
      step a b true false e f =
          sym (laws.ring.add_zero (unit_at s.ops a b)) ∙ ap (s.ops.add (unit_at s.ops a b)) (sym (ap (λ t. cond t s.ops.one s.ops.zero) (Sums.eqb_swap i b ∙ f)))
      step a b false true e f = sym (laws.ring.add_zero (unit_at s.ops a b))
      step a b false false e f = sym (laws.ring.add_zero (unit_at s.ops a b))

  -- it is set in the identity
  pub mixed_matrix : (p : ℕ × ℕ) → p.0 < n → p.1 < n → p.0 ≢ p.1 → (one : E) → m.is_elem one → m.value one ≡ s.ops.one → (items : List E) → HasEntries (unit_at s.ops) items → IsMatrixOf m n (mixing n s p) (set items (n * p.1 + p.0) one)
  mixed_matrix p hi hj ne one valid is items h =
      mixing_matrix_is p.0 p.1 hi hj ne one is (set items (n * p.1 + p.0) one) (set_entry (unit_at s.ops) items p.1 p.0 one hj hi valid h)

  -- ---- a permutation

  -- 1 where the number of the row stands at the place of the column
  pub permuting_matrix_is : (order : List ℕ) → length order ≡ n → Each (λ i. i < n) order → Distinct order → ((i : ℕ) → i < n → Has order i) → (entries : List E)
      → HasEntries (λ a b. unit_at s.ops a (get_or order b 0)) entries → IsMatrixOf m n (permuting n s order) entries
  permuting_matrix_is order long inside distinct onto entries h =
      matrix_of (λ a b. unit_at s.ops a (place b)) (permuting n s order) entries (LinearMoves.places n s laws place differ (λ a ha. at a (NumberLists.has-place order a (onto a ha))))
      (MatrixSums.placing_is_regular s.ops laws.ring n place here differ (λ a b. unit_at s.ops a (place b)) (λ a b ha hb. refl)) h
    where
      place : ℕ → ℕ
      place k = get_or order k 0

      here : (b : ℕ) → b < n → place b < n
      here b hb = NumberLists.each-has (λ i. i < n) order (place b) inside (NumberLists.place-has order b (let l = long in omega arith))

      differ : (b d : ℕ) → b < n → d < n → place b ≡ place d → b ≡ d
      differ b d hb hd e = NumberLists.different order distinct b d (let l = long in omega arith) (let l = long in omega arith) e

      at : (a : ℕ) → (k : ℕ) × (k < length order) × (get_or order k 0 ≡ a) → (k : ℕ) × (k < n) × (place k ≡ a)
      at a w = (w.0, (let g = w.1 in let l = long in omega arith), w.2)
