-- The axis rule and the plane rule do not depend on the factor of their vector: any vector that spans a kernel serves.
use Rattle.std.proofs.Common.{◌≡◌, ◌≢◌, ℕ, zero, suc, ◌<◌, Bool, true, false, not, ◌==◌, if◌then◌else◌, List, [], ◌∷◌, get_or, refl, sym, ◌∙◌, ap, arith}
use Rattle.ring_theory.specs.Height.{rational_scalars, is_zero_rational}
use Rattle.ring_theory.specs.Rational.{Rational, rational_mul, rational_inv, rational_ops}
use Rattle.ring_theory.specs.Ring.{RingOps, IsCommRing}
use Rattle.ring_theory.specs.Scalars.{Scalars}
use Rattle.ring_theory.proofs.RationalLaws.{rational_laws, rational_field, zero_test}
use Rattle.ring_theory.proofs.RingReify.{by_ring, reify}
use Rattle.ring_theory.proofs.RingSolver.{zero_mul}
use Rattle.move_law.specs.Moves.{over}
use Rattle.ternary_law.specs.Matrices.{Matrix, matrix_of}
use Rattle.poly_law.specs.Polynomials.{Polynomial}
use Rattle.ternary_law.specs.Linear.{SpansKernel}
use Rattle.ternary_law.specs.Cubics.{SpansCommonLines}
use Rattle.ternary_law.proofs.Ranks.{kernel_multiple}
use Rattle.ternary_law.specs.Steps.{axis_matrix, plane_matrix, last_place, first_place, partner, other_places}

abbrev q : Scalars Rational
q = rational_scalars

abbrev o : Rational
o = rational_ops.zero

crossed : {V : Type 0} (r : RingOps V) (laws : IsCommRing r) (c a b i j : V) → r.mul (r.mul (r.mul c a) i) (r.mul b j) ≡ r.mul (r.mul (r.mul c b) i) (r.mul a j)
crossed r laws c a b i j = by_ring laws (c ∷ a ∷ b ∷ i ∷ j ∷ []) (search reify depth 20) tt

regrouped : {V : Type 0} (r : RingOps V) (laws : IsCommRing r) (c b i : V) → r.mul (r.mul c b) i ≡ r.mul b (r.mul c i)
regrouped r laws c b i = by_ring laws (c ∷ b ∷ i ∷ []) (search reify depth 20) tt

-- a product of numbers that are not 0 is not 0
pub product_other : (c b : Rational) → c ≢ o → b ≢ o → rational_mul c b ≢ o
product_other c b p s e =
    s (
    sym (rational_laws.mul_one b) ∙ ap (rational_mul b) (sym (rational_field.mul_inv c p)) ∙ sym (regrouped rational_ops rational_laws c b (rational_inv c))
    ∙ ap (λ u. rational_mul u (rational_inv c)) e ∙ zero_mul rational_ops rational_laws (rational_inv c))

-- (c a) / (c b) = a / b
pub quotient_same : (c a b : Rational) → c ≢ o → b ≢ o → over q (rational_mul c a) (rational_mul c b) ≡ over q a b
quotient_same c a b p s =
    let i = rational_inv (rational_mul c b) in
    let j = rational_inv b in
    sym (rational_laws.mul_one (rational_mul (rational_mul c a) i))
    ∙ ap (rational_mul (rational_mul (rational_mul c a) i)) (sym (rational_field.mul_inv b s))
    ∙ crossed rational_ops rational_laws c a b i j
    ∙ ap (λ u. rational_mul u (rational_mul a j)) (rational_field.mul_inv (rational_mul c b) (product_other c b p s))
    ∙ rational_laws.mul_comm (rational_ops.one) (rational_mul a j) ∙ rational_laws.mul_one (rational_mul a j)

pub is_other : (a : Rational) → is_zero_rational a ≡ false → a ≢ o
is_other a e z = let h : is_zero_rational a ≡ true = (zero_test a).1 z in cc

pub is_none : (a : Rational) → is_zero_rational a ≡ true → a ≡ o
is_none a e = (zero_test a).0 e

-- a factor that is not 0 does not change whether a number is 0
zero_same : (c a : Rational) → c ≢ o → is_zero_rational (rational_mul c a) ≡ is_zero_rational a
zero_same c a p = go (is_zero_rational a) (is_zero_rational (rational_mul c a)) refl refl
  where
    go : (x y : Bool) → is_zero_rational a ≡ x → is_zero_rational (rational_mul c a) ≡ y → is_zero_rational (rational_mul c a) ≡ is_zero_rational a
    go true true e f = f ∙ sym e
    go false false e f = f ∙ sym e
    go true false e f = absurd (is_other (rational_mul c a) f (ap (rational_mul c) (is_none a e) ∙ rational_laws.mul_comm c o ∙ zero_mul rational_ops rational_laws c))
    go false true e f = absurd (product_other c a p (is_other a e) (is_none (rational_mul c a) f))

module _ (c : Rational) (other : c ≢ o) (v w : ℕ → Rational) (multiple : (d : ℕ) → d < 3 → w d ≡ rational_mul c (v d)) where
  zero_at : (d : ℕ) → d < 3 → is_zero_rational (w d) ≡ is_zero_rational (v d)
  zero_at d h = ap is_zero_rational (multiple d h) ∙ zero_same c (v d) other

  pub last_same : last_place q w ≡ last_place q v
  last_same = λ i. if not (zero_at 2 (omega arith) i) then 2 else (if not (zero_at 1 (omega arith) i) then 1 else 0)

  first_same : first_place q w ≡ first_place q v
  first_same = λ i. if not (zero_at 0 (omega arith) i) then 0 else (if not (zero_at 1 (omega arith) i) then 1 else 2)

  -- the quotients by the coefficient at a place where v is not 0
  quotient_at : (i j k : ℕ) → i < 3 → j < 3 → k ≡ j → v j ≢ o → over q (w i) (w k) ≡ over q (v i) (v j)
  quotient_at i j k hi hj e s =
      ap (λ k. over q (w i) (w k)) e
      ∙ (λ t. over q (multiple i hi t) (multiple j hj t))
      ∙ quotient_same c (v i) (v j) other s

  abbrev axis_by : ℕ → ℕ → Rational → Rational → Rational → Matrix Rational
  axis_by p j x y z = matrix_of q (λ i k. if k == p then get_or (x ∷ y ∷ z ∷ []) i o else (if i == partner p j k then q.ops.one else q.ops.zero))

  pub axis_same : (p : ℕ) → last_place q v < 3 → v (last_place q v) ≢ o → axis_matrix q p w ≡ axis_matrix q p v
  unfolding axis_matrix
  axis_same p inside s =
      let j = last_place q v in
      let x = quotient_at 0 j (last_place q w) (omega arith) inside last_same s in
      let y = quotient_at 1 j (last_place q w) (omega arith) inside last_same s in
      let z = quotient_at 2 j (last_place q w) (omega arith) inside last_same s in
      λ t. axis_by p (last_same t) (x t) (y t) (z t)

  -- ---- the plane rule

  chosen_inside : (b : Bool) (x y : ℕ) → x < 3 → y < 3 → (if b then x else y) < 3
  chosen_inside true x y h k = h
  chosen_inside false x y h k = k

  partner_inside : (p i k : ℕ) → i < 3 → partner p i k < 3
  partner_inside p zero k h = chosen_inside (k == get_or (other_places p) 0 3) 1 2 (omega arith) (omega arith)
  partner_inside p (suc zero) k h = chosen_inside (k == get_or (other_places p) 0 3) 0 2 (omega arith) (omega arith)
  partner_inside p (suc (suc zero)) k h = chosen_inside (k == get_or (other_places p) 0 3) 0 1 (omega arith) (omega arith)
  partner_inside p (suc (suc (suc i))) k h = absurd (omega arith)

  abbrev plane_by : ℕ → ℕ → (ℕ → Rational) → Matrix Rational
  plane_by p i g =
      matrix_of q (λ o k.
      if o == i then (if k == p then q.ops.one else q.ops.neg (g k))
      else (if k == p then q.ops.zero else (if o == partner p i k then q.ops.one else q.ops.zero)))

  pub plane_same : (p : ℕ) → first_place q v < 3 → v (first_place q v) ≢ o → plane_matrix q p w ≡ plane_matrix q p v
  unfolding plane_matrix
  plane_same p inside s =
      let i = first_place q v in
      let g : (k : ℕ) → over q (w (partner p (first_place q w) k)) (w (first_place q w)) ≡ over q (v (partner p i k)) (v i)
      = λ k. ap (λ j. over q (w (partner p j k)) (w j)) first_same ∙ quotient_at (partner p i k) i i (partner_inside p i k inside) inside refl s in
      λ t. plane_by p (first_same t) (λ k. g k t)

-- ---- vectors that span one kernel

module _ (v : ℕ → Rational) (place : ℕ) (inside : place < 3) (some : v place ≢ o) where
  none_left : v 0 ≡ o → v 1 ≡ o → v 2 ≡ o → ⊥
  none_left a b c = go place inside some
    where
      go : (k : ℕ) → k < 3 → v k ≢ o → ⊥
      go zero h s = s a
      go (suc zero) h s = s b
      go (suc (suc zero)) h s = s c
      go (suc (suc (suc k))) h s = absurd (omega arith)

  pub at_last : (x y : Bool) → is_zero_rational (v 2) ≡ x → is_zero_rational (v 1) ≡ y → v (if not x then 2 else (if not y then 1 else 0)) ≢ o
  at_last false y e f = is_other (v 2) e
  at_last true false e f = is_other (v 1) f
  at_last true true e f = λ z. none_left z (is_none (v 1) f) (is_none (v 2) e)

  pub last_inside : (x y : Bool) → (if not x then 2 else (if not y then 1 else 0)) < 3
  last_inside false y = omega arith
  last_inside true false = omega arith
  last_inside true true = omega arith

  at_first : (x y : Bool) → is_zero_rational (v 0) ≡ x → is_zero_rational (v 1) ≡ y → v (if not x then 0 else (if not y then 1 else 2)) ≢ o
  at_first false y e f = is_other (v 0) e
  at_first true false e f = is_other (v 1) f
  at_first true true e f = λ z. none_left (is_none (v 0) e) (is_none (v 1) f) z

  first_inside : (x y : Bool) → (if not x then 0 else (if not y then 1 else 2)) < 3
  first_inside false y = omega arith
  first_inside true false = omega arith
  first_inside true true = omega arith

-- the axis rule for any vector that spans a kernel of rows with three columns is the same
pub axis_of_kernel : (rows : List (ℕ → Rational)) (p : ℕ) (v w : ℕ → Rational) → SpansKernel rational_ops 3 rows v → SpansKernel rational_ops 3 rows w
    → axis_matrix q p w ≡ axis_matrix q p v
axis_of_kernel rows p v w a b =
    let k : (c : Rational) × (c ≢ o) × ((d : ℕ) → d < 3 → w d ≡ rational_mul c (v d)) = kernel_multiple rational_ops 3 rows rational_laws v w a b in
    axis_same k.0 k.1 v w k.2 p
    (last_inside v a.place a.inside a.other (is_zero_rational (v 2)) (is_zero_rational (v 1)))
    (at_last v a.place a.inside a.other (is_zero_rational (v 2)) (is_zero_rational (v 1)) refl refl)

-- and so is the plane rule for any line that spans the common lines
pub plane_of_lines : (f : Polynomial 3 Rational) (p : ℕ) (k l : ℕ → Rational) → SpansCommonLines q f k → SpansCommonLines q f l → plane_matrix q p l ≡ plane_matrix q p k
plane_of_lines f p k l a b =
    let m : (c : Rational) × ((i : ℕ) → i < 3 → l i ≡ rational_mul c (k i)) = a.spans l b.is_common in
    plane_same m.0 (λ e. b.other (m.1 b.place b.inside ∙ ap (λ c. rational_mul c (k b.place)) e ∙ zero_mul rational_ops rational_laws (k b.place))) k l m.1 p
    (first_inside k a.place a.inside a.other (is_zero_rational (k 0)) (is_zero_rational (k 1)))
    (at_first k a.place a.inside a.other (is_zero_rational (k 0)) (is_zero_rational (k 1)) refl refl)
