-- Matrices of three rows as functions of two places: which have an inverse.
use Rattle.std.proofs.Common.{◌≡◌, ◌≢◌, ℕ, zero, suc, ◌<◌, [], ◌∷◌, map, get_or, refl, sym, ap, ◌∙◌, arith}
use Rattle.ring_theory.specs.Ring.{RingOps, IsCommRing}
use Rattle.ring_theory.specs.Scalars.{Scalars, ScalarLaws, HasInverses}
use Rattle.ring_theory.proofs.RingReify.{by_ring, reify}
use Rattle.poly_law.specs.Sums.{sum_to, unit_at}
use Rattle.poly_law.proofs.Sums
use Rattle.poly_law.proofs.Matrix
use Rattle.coord_change.specs.Inverses.{image_at}
use Rattle.coord_change.proofs.Dimension
use Rattle.ternary_law.specs.Matrices.{Matrix, places, entry, matrix_of, matrix_product, unit_matrix, AreInverse}
use Rattle.tern_cubic.specs.Moving.{IsSingular}
use Rattle.tern_cubic.proofs.LinearMoves.{three}

-- what a list made from the three places has at a place
pub at_place : {X : Type 0} (f : ℕ → X) (i : ℕ) (d : X) → i < 3 → get_or (map f places) i d ≡ f i
at_place f zero d h = refl
at_place f (suc zero) d h = refl
at_place f (suc (suc zero)) d h = refl
at_place f (suc (suc (suc i))) d h = absurd (omega arith)

-- lists made from the three places
places_same : {X : Type 0} (f g : ℕ → X) → ((i : ℕ) → i < 3 → f i ≡ g i) → map f places ≡ map g places
places_same f g e = λ t. e 0 (omega arith) t ∷ e 1 (omega arith) t ∷ e 2 (omega arith) t ∷ []

summed : {V : Type 0} (r : RingOps V) (laws : IsCommRing r) (x y z : V) → three r x y z ≡ r.add (r.add (r.add r.zero x) y) z
summed r laws x y z = by_ring laws (x ∷ y ∷ z ∷ []) (search reify depth 20) tt

module _ {V : Type 0} (s : Scalars V) (laws : ScalarLaws s) where
  -- the products of functions of two places
  abbrev product : (ℕ → ℕ → V) → (ℕ → ℕ → V) → ℕ → ℕ → V
  product a b i k = sum_to s.ops 3 (λ j. s.ops.mul (a i j) (b j k))

  abbrev Agree : (ℕ → ℕ → V) → (ℕ → ℕ → V) → Type 0
  Agree a b = (i k : ℕ) → i < 3 → k < 3 → a i k ≡ b i k

  -- the entries of a matrix that is made from them
  pub entry_is : (w : ℕ → ℕ → V) (i k : ℕ) → i < 3 → k < 3 → entry s (matrix_of s w) i k ≡ w i k
  entry_is w i k h g = ap (λ row. get_or row k s.ops.zero) (at_place (λ i. map (w i) places) i [] h) ∙ at_place (w i) k s.ops.zero g

  pub matrix_same : (v w : ℕ → ℕ → V) → Agree v w → matrix_of s v ≡ matrix_of s w
  matrix_same v w e = places_same _ _ (λ i h. places_same _ _ (λ k g. e i k h g))

  abbrev cells : (a b : Matrix V) → ℕ → ℕ → V
  cells a b i k = three s.ops (s.ops.mul (entry s a i 0) (entry s b 0 k)) (s.ops.mul (entry s a i 1) (entry s b 1 k)) (s.ops.mul (entry s a i 2) (entry s b 2 k))

  cells_are : (a b : Matrix V) (i k : ℕ) → cells a b i k ≡ product (entry s a) (entry s b) i k
  cells_are a b i k = summed s.ops laws.ring (s.ops.mul (entry s a i 0) (entry s b 0 k)) (s.ops.mul (entry s a i 1) (entry s b 1 k)) (s.ops.mul (entry s a i 2) (entry s b 2 k))

  -- the entries of a product
  product_at : (a b : Matrix V) → Agree (entry s (matrix_product s a b)) (product (entry s a) (entry s b))
  unfolding matrix_product
  product_at a b i k h g = entry_is (cells a b) i k h g ∙ cells_are a b i k

  unit_is : unit_matrix s ≡ matrix_of s (unit_at s.ops)
  unit_is = refl

  unit_entry : Agree (entry s (unit_matrix s)) (unit_at s.ops)
  unit_entry i k h g = entry_is (unit_at s.ops) i k h g

  product_is : (a b : Matrix V) → matrix_product s a b ≡ matrix_of s (product (entry s a) (entry s b))
  unfolding matrix_product
  product_is a b = matrix_same (cells a b) (product (entry s a) (entry s b)) (λ i k h g. cells_are a b i k)

  -- a product that is the identity matrix
  pub agrees : (a b : Matrix V) → matrix_product s a b ≡ unit_matrix s → Agree (product (entry s a) (entry s b)) (unit_at s.ops)
  agrees a b e i k h g = sym (product_at a b i k h g) ∙ ap (λ m. entry s m i k) e ∙ unit_entry i k h g

  pub are_unit : (a b : Matrix V) → Agree (product (entry s a) (entry s b)) (unit_at s.ops) → matrix_product s a b ≡ unit_matrix s
  are_unit a b e = product_is a b ∙ matrix_same _ _ e

  -- ---- singular matrices

  module _ (inverts : HasInverses s) (a x : ℕ → ℕ → V) (right : Agree (product a x) (unit_at s.ops)) where
    -- columns as rows
    abbrev turned : (ℕ → ℕ → V) → ℕ → ℕ → V
    turned w i k = w k i

    left : Agree (product (turned x) (turned a)) (unit_at s.ops)
    left i k h g =
        Sums.sum_to-cong s.ops 3 (λ j. s.ops.mul (x j i) (a k j)) (λ j. s.ops.mul (a k j) (x j i)) (λ j y. laws.ring.mul_comm (x j i) (a k j))
        ∙ right k i g h ∙ Sums.unit_at-swap s.ops k i

    injective : Dimension.IsInjective s laws 3 (turned a)
    injective u none d h =
        let m = Matrix.product_agree s.ops laws.ring 3 in
        sym (Matrix.unit_product s.ops laws.ring 3 (λ i k. u i) d 0 h (omega arith))
        ∙ sym (m (product (turned x) (turned a)) (unit_at s.ops) (λ i k. u i) (λ i k. u i) left (λ i k h g. refl) d 0 h (omega arith))
        ∙ Matrix.product_assoc s.ops laws.ring 3 (turned x) (turned a) (λ i k. u i) d 0 h (omega arith)
        ∙ Sums.sum_to-nothing s.ops laws.ring 3 (λ j. s.ops.mul (turned x d j) (product (turned a) (λ i k. u i) j 0)) (λ j y. ap (s.ops.mul (turned x d j)) (none j y) ∙ Sums.mul_zero s.ops laws.ring (turned x d j))

    -- a matrix with a right inverse takes no vector but 0 to 0
    no_vector : (v : ℕ → V) (k : ℕ) → k < 3 → v k ≢ s.ops.zero → ((i : ℕ) → i < 3 → image_at s.ops 3 a v i ≡ s.ops.zero) → ⊥
    no_vector v k h other none =
        Dimension.no_combination s laws inverts 3 (turned a) injective v
        (λ d y. Sums.sum_to-cong s.ops 3 (λ i. s.ops.mul (v i) (a d i)) (λ i. s.ops.mul (a d i) (v i)) (λ i z. laws.ring.mul_comm (v i) (a d i)) ∙ none d y)
        k h other

  pub singular : HasInverses s → (a : Matrix V) (v : ℕ → V) (k : ℕ) → k < 3 → v k ≢ s.ops.zero → ((i : ℕ) → i < 3 → image_at s.ops 3 (entry s a) v i ≡ s.ops.zero) → IsSingular s a
  singular inverts a v k h other none x e = no_vector inverts (entry s a) (entry s x) (agrees a x e) v k h other none

  assoc : (a b d : ℕ → ℕ → V) → Agree (product (product a b) d) (product a (product b d))
  assoc = Matrix.product_assoc s.ops laws.ring 3

  agree_left : (a b d : ℕ → ℕ → V) → Agree a b → Agree (product a d) (product b d)
  agree_left a b d e = Matrix.product_agree s.ops laws.ring 3 a b d d e (λ i k h g. refl)

  agree_right : (d a b : ℕ → ℕ → V) → Agree a b → Agree (product d a) (product d b)
  agree_right d a b e = Matrix.product_agree s.ops laws.ring 3 d d a b (λ i k h g. refl) e

  -- a product with a singular second factor is singular, where the first has an inverse
  pub singular_after : (m i a : Matrix V) → AreInverse s m i → IsSingular s a → IsSingular s (matrix_product s m a)
  singular_after m i a inverse none x e =
      let am = entry s m in
      let aa = entry s a in
      let ax = entry s x in
      let ai = entry s i in
      let u = unit_at s.ops in
      -- m (a x) = 1
      let whole : Agree (product am (product aa ax)) u =
      λ j k h g. sym (assoc am aa ax j k h g) ∙ sym (agree_left (entry s (matrix_product s m a)) (product am aa) ax (product_at m a) j k h g) ∙ agrees (matrix_product s m a) x e j k h g in
      -- so a x = i
      let inner : Agree (product aa ax) ai = Matrix.inverse_is s.ops laws.ring 3 ai am (product aa ax) (agrees i m inverse.left) whole in
      none (matrix_product s x m) (are_unit a (matrix_product s x m) (λ j k h g.
      agree_right aa (entry s (matrix_product s x m)) (product ax am) (product_at x m) j k h g
      ∙ sym (assoc aa ax am j k h g) ∙ agree_left (product aa ax) ai am inner j k h g ∙ agrees i m inverse.left j k h g))

  -- a product with a singular first factor is singular
  pub singular_before : (a b : Matrix V) → IsSingular s a → IsSingular s (matrix_product s a b)
  singular_before a b none x e =
      none (matrix_product s b x) (are_unit a (matrix_product s b x) (λ i k h g.
      agree_right (entry s a) (entry s (matrix_product s b x)) (product (entry s b) (entry s x)) (product_at b x) i k h g
      ∙ sym (assoc (entry s a) (entry s b) (entry s x) i k h g)
      ∙ sym (agree_left (entry s (matrix_product s a b)) (product (entry s a) (entry s b)) (entry s x) (product_at a b) i k h g)
      ∙ agrees (matrix_product s a b) x e i k h g))
