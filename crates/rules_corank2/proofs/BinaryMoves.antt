-- The linear moves of binary forms: their matrices, and two of them one after the other.
use Rattle.std.proofs.Common.{◌≡◌, ◌≢◌, ℕ, zero, suc, ◌<◌, ◌≤◌, List, [], ◌∷◌, map, All, ap, ap₂, sym, ◌∙◌, refl, subst, arith}
use Rattle.std.specs.Prelude.{Result, Ok, Err, IfOk}
use Rattle.ring_law.specs.declared.fraction.Fault.{Fault}
use Rattle.ring_theory.specs.Scalars.{Scalars, ScalarLaws, HasInverses, Meaning}
use Rattle.ring_theory.proofs.RingReify.{by_ring, reify}
use Rattle.ring_theory.proofs.RingSolver.{linear_combination}
use Rattle.poly_law.specs.Polynomials.{SameIn, HaveNoConstant}
use Rattle.poly_law.proofs.Sums
use Rattle.jet_law.specs.Canonical.{jet}
use Rattle.coord_change.specs.declared.change.Change.{Change}
use Rattle.jet_subst.specs.Parts.{part_of}
use Rattle.coord_change.specs.Changes.{IsChange, IsCompositionHigh, entry_of}
use Rattle.coord_change.specs.Linear.{linear_form}
use Rattle.coord_change.specs.Moves.{Move, move_from, put, variable_of}
use Rattle.coord_change.specs.Carries.{carry, compose, composite}
use Rattle.coord_change.specs.CarryHeights.{IsComposeHigh}
use Rattle.coord_change.specs.MoveJets.{IsMoveExactly}
use Rattle.coord_change.proofs.CompositeLemmas
use Rattle.hessian_rank.specs.Sound.{IsLinear}
use Rattle.kill_table.specs.Moves.{IsMoveTo}
use Rattle.move_law.specs.Moves.{linear}
use Rattle.move_law.specs.Patterns.{two}
use Rattle.move_law.specs.Shapes.{vertical, slope}
use Rattle.move_law.specs.Binary.{line_to_x, less_x, less_y, root_to_y, roots_to_axes}
use Rattle.rules_corank2.specs.Planes.{plane_of, IsRegularPlane, HasMatrix}
use Rattle.rules_corank2.proofs.PlaneMatrices
use Rattle.rules_corank2.proofs.FinishHeights.{carry-truncated}
use Rattle.rules_corank2.proofs.FinishHeights
use Rattle.rules_corank2.proofs.FinishMoves.{low_move}
use Rattle.rules_corank2.proofs.PlaneMatrices.{linear_both, linear_x, linear_y, form_two, form_two_back, form_x, form_y}

-- ---- the matrices

module _ {V : Type 0} (n : ℕ) (s : Scalars V) (l : ScalarLaws s) (two_variables : 2 ≤ n) where
  pub linear_vertical : IsLinear n s (plane_of s s.ops.zero s.ops.one s.ops.one s.ops.zero) (line_to_x n s vertical)
  linear_vertical = linear_both n s l two_variables s.ops.zero s.ops.one s.ops.one s.ops.zero (variable_of n s 1) (variable_of n s 0) (form_y n s l two_variables) (form_x n s l two_variables)

  pub linear_slope : (v : V) → IsLinear n s (plane_of s s.ops.one (s.ops.neg v) s.ops.zero s.ops.one) (line_to_x n s (slope v))
  linear_slope v = linear_x n s l two_variables s.ops.one (s.ops.neg v) (linear n s ((s.ops.one, 0) ∷ (s.ops.neg v, 1) ∷ [])) (form_two n s l two_variables s.ops.one (s.ops.neg v))

  pub linear_less_x : (v : V) → IsLinear n s (plane_of s s.ops.one s.ops.zero (s.ops.neg v) s.ops.one) (less_x n s v)
  linear_less_x v = linear_y n s l two_variables (s.ops.neg v) s.ops.one (linear n s ((s.ops.one, 1) ∷ (s.ops.neg v, 0) ∷ [])) (form_two_back n s l two_variables (s.ops.neg v) s.ops.one)

  pub linear_less_y : (v : V) → IsLinear n s (plane_of s s.ops.one (s.ops.neg v) s.ops.zero s.ops.one) (less_y n s v)
  linear_less_y v = linear_x n s l two_variables s.ops.one (s.ops.neg v) (linear n s ((s.ops.one, 0) ∷ (s.ops.neg v, 1) ∷ [])) (form_two n s l two_variables s.ops.one (s.ops.neg v))

  pub linear_root : (v : V) → IsLinear n s (plane_of s v s.ops.one s.ops.one s.ops.zero) (root_to_y n s v)
  linear_root v =
      linear_both n s l two_variables v s.ops.one s.ops.one s.ops.zero (linear n s ((s.ops.one, 1) ∷ (v, 0) ∷ [])) (variable_of n s 0)
      (form_two_back n s l two_variables v s.ops.one) (form_x n s l two_variables)

  pub linear_roots : (u v : V) → IsLinear n s (plane_of s v (s.ops.neg u) s.ops.one (s.ops.neg s.ops.one)) (roots_to_axes n s u v)
  linear_roots u v =
      linear_both n s l two_variables v (s.ops.neg u) s.ops.one (s.ops.neg s.ops.one) (linear n s ((v, 0) ∷ (s.ops.neg u, 1) ∷ [])) (linear n s ((s.ops.one, 0) ∷ (s.ops.neg s.ops.one, 1) ∷ []))
      (form_two n s l two_variables v (s.ops.neg u)) (form_two n s l two_variables s.ops.one (s.ops.neg s.ops.one))

module _ {V : Type 0} (s : Scalars V) (l : ScalarLaws s) where
  pub regular_vertical : IsRegularPlane s s.ops.zero s.ops.one s.ops.one s.ops.zero
  regular_vertical p q h k = (
    linear_combination s.ops l.ring s.ops.one k (by_ring l.ring (p ∷ q ∷ []) (search reify depth 60 fits 20000) tt),
    linear_combination s.ops l.ring s.ops.one h (by_ring l.ring (p ∷ q ∷ []) (search reify depth 60 fits 20000) tt),
  )

  pub regular_upper : (v : V) → IsRegularPlane s s.ops.one v s.ops.zero s.ops.one
  regular_upper v p q h k = (
    linear_combination s.ops l.ring s.ops.one h (linear_combination s.ops l.ring (s.ops.neg v) k (by_ring l.ring (p ∷ q ∷ v ∷ []) (search reify depth 60 fits 20000) tt)),
    linear_combination s.ops l.ring s.ops.one k (by_ring l.ring (p ∷ q ∷ []) (search reify depth 60 fits 20000) tt),
  )

  pub regular_lower : (v : V) → IsRegularPlane s s.ops.one s.ops.zero v s.ops.one
  regular_lower v p q h k = (
    linear_combination s.ops l.ring s.ops.one h (by_ring l.ring (p ∷ q ∷ []) (search reify depth 60 fits 20000) tt),
    linear_combination s.ops l.ring s.ops.one k (linear_combination s.ops l.ring (s.ops.neg v) h (by_ring l.ring (p ∷ q ∷ v ∷ []) (search reify depth 60 fits 20000) tt)),
  )

  pub regular_root : (v : V) → IsRegularPlane s v s.ops.one s.ops.one s.ops.zero
  regular_root v p q h k = (
    linear_combination s.ops l.ring s.ops.one k (by_ring l.ring (p ∷ q ∷ []) (search reify depth 60 fits 20000) tt),
    linear_combination s.ops l.ring s.ops.one h (linear_combination s.ops l.ring (s.ops.neg v) k (by_ring l.ring (p ∷ q ∷ v ∷ []) (search reify depth 60 fits 20000) tt)),
  )

  pub regular_roots : HasInverses s → (u v : V) → u ≢ v → IsRegularPlane s v (s.ops.neg u) s.ops.one (s.ops.neg s.ops.one)
  regular_roots inverts u v ne p q h k = (first, linear_combination s.ops l.ring (s.ops.neg s.ops.one) k (linear_combination s.ops l.ring s.ops.one first (by_ring l.ring (p ∷ q ∷ []) (search reify depth 60 fits 20000) tt)))
    where
      w : V
      w = s.ops.add v (s.ops.neg u)

      unit : s.ops.mul w (s.inverse w) ≡ s.ops.one
      unit = inverts.mul_inverse w (λ e. ne (sym (Sums.equal_from_sub s.ops l.ring v u e)))

      multiple : s.ops.mul (s.ops.add v (s.ops.neg u)) p ≡ s.ops.zero
      multiple = linear_combination s.ops l.ring s.ops.one h (linear_combination s.ops l.ring (s.ops.neg u) k (by_ring l.ring (p ∷ q ∷ u ∷ v ∷ []) (search reify depth 60 fits 20000) tt))

      exchanged : (y z : V) → s.ops.mul p (s.ops.mul y z) ≡ s.ops.mul z (s.ops.mul y p)
      exchanged y z = by_ring l.ring (p ∷ y ∷ z ∷ []) (search reify depth 60 fits 20000) tt

      first : p ≡ s.ops.zero
      first = sym (l.ring.mul_one p) ∙ ap (s.ops.mul p) (sym unit) ∙ exchanged w (s.inverse w) ∙ ap (s.ops.mul (s.inverse w)) multiple ∙ Sums.mul_zero s.ops l.ring (s.inverse w)

-- the change of a matrix, cut, makes each move of the matrix
pub by_change : {E V : Type 0} (m : Meaning E V) (l : ScalarLaws m.scalars) (n : ℕ) (w : ℕ → ℕ → V) (entries : List E) → HasMatrix m n w entries → (change : Change E) → IsChange m change → change.n ≡ n
    → ((i : ℕ) → i < n → SameIn n m.scalars.ops (part_of n m.value change.parts i) (linear_form n m.scalars.ops (entry_of m n entries i)))
    → (r : Result (Change E) Fault) → IfOk r (IsMoveExactly m change.n 16 (map (jet change.n m.scalars 16) (move_from m change.n change)))
    → IfOk r (λ c. (move : Move n V) → IsLinear n m.scalars w move → IsMoveTo m n 16 move c)
by_change m l n w entries has change is en parts (Ok c) h = λ move linear. PlaneMatrices.change_made m l n w entries has move linear change c is en parts h
by_change m l n w entries has change is en parts (Err e) h = tt

-- ---- a change of a matrix

module _ {V : Type 0} (s : Scalars V) {a b c d x y z w : V} (ea : a ≡ x) (eb : b ≡ y) (ec : c ≡ z) (ed : d ≡ w) where
  pub same_plane : plane_of s x y z w ≡ plane_of s a b c d
  same_plane = sym (λ i. plane_of s (ea i) (eb i) (ec i) (ed i))

  pub same_regular : IsRegularPlane s x y z w → IsRegularPlane s a b c d
  same_regular h = subst (λ u. u) (sym (λ i. IsRegularPlane s (ea i) (eb i) (ec i) (ed i))) h

pub change_ok : {E V : Type 0} (m : Meaning E V) (n : ℕ) (w : ℕ → ℕ → V) (move : Move n V) → IsLinear n m.scalars w move → (r : Result (Change E) Fault) → IfOk r (λ c. (move : Move n V) → IsLinear n m.scalars w move → IsMoveTo m n 16 move c) → IfOk r (IsMoveTo m n 16 move)
change_ok m n w move is (Ok c) f = f move is
change_ok m n w move is (Err e) f = tt

-- ---- one move and then another one

module _ {V : Type 0} (n : ℕ) (s : Scalars V) (l : ScalarLaws s) (k : ℕ) where
  map-same : {X Y : Type 0} (f g : X → Y) → ((x : X) → f x ≡ g x) → (xs : List X) → map f xs ≡ map g xs
  map-same f g e [] = refl
  map-same f g e (x ∷ xs) = ap₂ (λ y ys. y ∷ ys) (e x) (map-same f g e xs)

  compose-truncated : (first next : Move n V) → compose n s k first (map (jet n s k) next) ≡ compose n s k first next
  unfolding compose
  compose-truncated first next = map-same (carry n s k (map (jet n s k) next)) (carry n s k next) (carry-truncated n s l k next) first

  made-compose : (u v : Move n V) → HaveNoConstant n s.ops n (put n s u) → HaveNoConstant n s.ops n (put n s v) → map (jet n s k) (compose n s k u v) ≡ compose n s k (map (jet n s k) u) v
  unfolding composite
  made-compose u v lu lv = CompositeLemmas.composite_of_all n s l k 1 (u ∷ v ∷ []) (omega arith) (omega arith) lows
    where
      lows : All (λ mv. HaveNoConstant n s.ops n (put n s mv)) (u ∷ v ∷ [])
      lows zero d h = lu
      lows (suc zero) d h = lv
      lows (suc (suc i)) d h = absurd (omega arith)

module _ {E V : Type 0} (m : Meaning E V) (l : ScalarLaws m.scalars) (n : ℕ) (first next : Change E) (u v : Move n V) (tu : IsMoveTo m n 16 u first) (tv : IsMoveTo m n 16 v next) where
  pub composed_to : (c : Change E) → IsChange m c → c.n ≡ n → c.order ≡ 16 → move_from m n c ≡ compose n m.scalars 16 (move_from m n first) (move_from m n next) → IsMoveTo m n 16 (compose n m.scalars 16 u v) c
  composed_to c is en eo e = record {
    change = is;
    variables = en;
    order = eo;
    parts =
        e ∙ ap₂ (compose n m.scalars 16) tu.parts tv.parts
        ∙ compose-truncated n m.scalars l 16 (map (jet n m.scalars 16) u) v
        ∙ sym (made-compose n m.scalars l 16 u v (low_move m l n 16 u first tu) (low_move m l n 16 v next tv));
  }

  pub composed_high : IsCompositionHigh m 16 first next → IsComposeHigh n m.scalars 16 u v
  composed_high high =
      FinishHeights.compose_high n m.scalars l 16 (omega arith) u v (low_move m l n 16 v next tv)
      (subst (λ z. IsComposeHigh n m.scalars 16 z (map (jet n m.scalars 16) v)) tu.parts
      (subst (λ z. IsComposeHigh n m.scalars 16 (move_from m n first) z) tv.parts
      (CompositeLemmas.composition_high m n 16 first next tu.change tv.change tu.variables tv.variables high)))

module _ {E V : Type 0} (m : Meaning E V) (l : ScalarLaws m.scalars) (n : ℕ) (first next : Change E) where
  pub both_ok : (r : Result (Change E) Fault) → IfOk r (IsChange m) → IfOk r (λ c. c.n ≡ n) → IfOk r (λ c. c.order ≡ 16)
      → IfOk r (λ c. move_from m n c ≡ compose n m.scalars 16 (move_from m n first) (move_from m n next))
      → IfOk r (λ c. (u v : Move n V) → IsMoveTo m n 16 u first → IsMoveTo m n 16 v next → IsMoveTo m n 16 (compose n m.scalars 16 u v) c)
  both_ok (Ok c) is en eo e = λ u v tu tv. composed_to m l n first next u v tu tv c is en eo e
  both_ok (Err x) is en eo e = tt
