-- Matrices that are inverse to each other, by their products.
use Rattle.std.proofs.Common.{◌≡◌, ℕ, zero, suc, ◌+◌, ◌*◌, ◌/◌, ◌%◌, ◌<◌, ◌≤◌, ◌^◌, inl, inr, Bool, IsTrue, ◌↔◌, List, [], ◌∷◌, ◌++◌, map, length, get_or, refl, sym, ap, ap₂, subst, subst₂, ◌∙◌, arith}
use Rattle.std.proofs.lemmas.List.{map-append}
use Rattle.ring_theory.specs.Ring.{RingOps}
use Rattle.ring_theory.specs.Scalars.{Scalars, Meaning}
use Rattle.poly_law.specs.Sums.{sum_to, unit_at}
use Rattle.poly_law.proofs.Sums
use Rattle.mono_exp.specs.Exponents.{numbers_below}
use Rattle.jet_subst.proofs.PowerLemmas.{any_default, before_or_last}
use Rattle.jet_subst.proofs.Tables.{at-map}
use Rattle.coord_change.specs.Changes.{entry_of, IsMatrixHigh}
use Rattle.coord_change.specs.Inverses.{IsInverseMatrix}
use Rattle.coord_change.proofs.Matrices

-- two matrices with n rows have the same entries
abbrev pub AreSame : {V : Type 0} → ℕ → (ℕ → ℕ → V) → (ℕ → ℕ → V) → Type 0
AreSame n a b = (i j : ℕ) → i < n → j < n → a i j ≡ b i j

map_below : {V : Type 0} (n : ℕ) (f g : ℕ → V) → ((t : ℕ) → t < n → f t ≡ g t) → map f (numbers_below n) ≡ map g (numbers_below n)
map_below zero f g h = refl
map_below (suc n) f g h =
    map-append f (numbers_below n) (n ∷ [])
    ∙ ap₂ (λ y z. y ++ z ∷ []) (map_below n f g (λ t l. h t (omega arith))) (h n (omega arith))
    ∙ sym (map-append g (numbers_below n) (n ∷ []))

-- the height of a product depends on the entries alone
pub matrix_high_of : {V : Type 0} (s : Scalars V) (n : ℕ) (b b' a a' : ℕ → ℕ → V) → AreSame n b b' → AreSame n a a' → IsMatrixHigh s n b a → IsMatrixHigh s n b' a'
matrix_high_of s n b b' a a' eb ea h = record {
  row = h.row;
  column = h.column;
  row_inside = h.row_inside;
  column_inside = h.column_inside;
  entry = record {
    high = elim h.entry.high [
      | inl p ↦ inl (p.0, p.1, subst₂ (λ y z. 2 ^ 120 ≤ s.product_height y z) (eb h.row p.0 h.row_inside p.1) (ea p.0 h.column p.1 h.column_inside) p.2)
      | inr q ↦ inr (subst (λ z. 2 ^ 120 ≤ s.sum_height z)
          (map_below n (λ t. s.ops.mul (b h.row t) (a t h.column)) (λ t. s.ops.mul (b' h.row t) (a' t h.column))
          (λ t l. ap₂ s.ops.mul (eb h.row t h.row_inside l) (ea t h.column l h.column_inside))) q)
    ];
  };
}

-- w0 has the entries of w, unit those of the identity, left and right those of a*w0 and w0*a
module _ {V : Type 0} (r : RingOps V) (n : ℕ) (w w0 a left right unit : ℕ → ℕ → V) (ew : AreSame n w0 w) (eu : AreSame n unit (unit_at r))
    (el : AreSame n left (λ i j. sum_to r n (λ t. r.mul (a i t) (w0 t j)))) (er : AreSame n right (λ i j. sum_to r n (λ t. r.mul (w0 i t) (a t j)))) where
  left_is : (i j : ℕ) → i < n → j < n → left i j ≡ sum_to r n (λ t. r.mul (a i t) (w t j))
  left_is i j h g = el i j h g ∙ Sums.sum_to-cong r n (λ t. r.mul (a i t) (w0 t j)) (λ t. r.mul (a i t) (w t j)) (λ t l. ap (r.mul (a i t)) (ew t j l g))

  right_is : (i j : ℕ) → i < n → j < n → right i j ≡ sum_to r n (λ t. r.mul (w i t) (a t j))
  right_is i j h g = er i j h g ∙ Sums.sum_to-cong r n (λ t. r.mul (w0 i t) (a t j)) (λ t. r.mul (w i t) (a t j)) (λ t l. ap (λ z. r.mul z (a t j)) (ew i t h l))

  -- both products are the identity: a is the inverse of w
  pub inverse_of : AreSame n left unit → AreSame n right unit → IsInverseMatrix r n w a
  inverse_of pl pr = record {
    left = λ i k h g. sym (left_is i k h g) ∙ pl i k h g ∙ eu i k h g;
    right = λ i k h g. sym (right_is i k h g) ∙ pr i k h g ∙ eu i k h g;
  }

  -- and only then
  pub left_of : IsInverseMatrix r n w a → AreSame n left unit
  left_of q i j h g = left_is i j h g ∙ q.left i j h g ∙ sym (eu i j h g)

  pub right_of : IsInverseMatrix r n w a → AreSame n right unit
  right_of q i j h g = right_is i j h g ∙ q.right i j h g ∙ sym (eu i j h g)

-- matrices that stand row after row, by their places
module _ {E V : Type 0} (m : Meaning E V) (n : ℕ) (a b : List E) (la : length a ≡ n * n) (lb : length b ≡ n * n) where
  -- one place more with the same entries
  pub place_more : (place : ℕ) (x y : E) → place < n * n → x ≡ get_or a place x → y ≡ get_or b place y → m.value x ≡ m.value y
      → ((k : ℕ) (d e : E) → k < place → m.value (get_or a k d) ≡ m.value (get_or b k e)) → (k : ℕ) (d e : E) → k < place + 1 → m.value (get_or a k d) ≡ m.value (get_or b k e)
  place_more place x y h ex ey same old k d e l = elim (before_or_last k place l) [
    | inl less ↦ old k d e less
    | inr q ↦
        ap (λ z. m.value (get_or a z d)) q ∙ ap m.value (any_default a place d x (omega arith) ∙ sym ex) ∙ same
        ∙ sym (ap (λ z. m.value (get_or b z e)) q ∙ ap m.value (any_default b place e y (omega arith) ∙ sym ey))
  ]

  -- the same entries at all places
  pub same_of_places : ((k : ℕ) (d e : E) → k < n * n → m.value (get_or a k d) ≡ m.value (get_or b k e)) → AreSame n (entry_of m n a) (entry_of m n b)
  same_of_places h i j hi hj =
      let inside = Matrices.place_inside n i j hi hj in
      let x : (x : E) × (x ≡ get_or a (n * i + j) x) = Matrices.element a (n * i + j) (omega arith) in
      let y : (y : E) × (y ≡ get_or b (n * i + j) y) = Matrices.element b (n * i + j) (omega arith) in
      Matrices.entry_read m n a i j x.0 (omega arith) x.1
      ∙ ap m.value x.1 ∙ h (n * i + j) x.0 y.0 inside ∙ sym (ap m.value y.1)
      ∙ sym (Matrices.entry_read m n b i j y.0 (omega arith) y.1)

  -- and only then
  pub places_of_same : 0 < n → AreSame n (entry_of m n a) (entry_of m n b) → (k : ℕ) (x y : E) → k < n * n → x ≡ get_or a k x → y ≡ get_or b k y → m.value x ≡ m.value y
  places_of_same given same k x y h ex ey =
      let place : n * (k / n) + k % n ≡ k = omega arith in
      sym (ap (λ z. get_or (map m.value a) z m.scalars.ops.zero) place ∙ at-map m.value a k x (omega arith) ex m.scalars.ops.zero)
      ∙ same (k / n) (k % n) (Matrices.row_inside n k given h) (Matrices.column_inside n k given)
      ∙ ap (λ z. get_or (map m.value b) z m.scalars.ops.zero) place ∙ at-map m.value b k y (omega arith) ey m.scalars.ops.zero

-- a test of equal entries, of lists that are others
pub test_of : {E V : Type 0} (m : Meaning E V) (n : ℕ) (b : Bool) (xs ys cs ds : List E) → xs ≡ cs → ys ≡ ds → (IsTrue b ↔ AreSame n (entry_of m n xs) (entry_of m n ys)) → IsTrue b ↔ AreSame n (entry_of m n cs) (entry_of m n ds)
test_of m n b xs ys cs ds ex ey h =
    subst (λ zs. IsTrue b ↔ AreSame n (entry_of m n zs) (entry_of m n ds)) ex (subst (λ zs. IsTrue b ↔ AreSame n (entry_of m n xs) (entry_of m n zs)) ey h)
