-- Inverse matrices and changes of coordinates.
use mathlib.Core.Path.{fun_ext}
use Rattle.std.proofs.Common.{◌≡◌, ℕ, zero, suc, ◌+◌, ◌<◌, ◌≤◌, Bool, true, false, cond, ltb, ltb-true, List, ◌∷◌, length, map, get_or, All, Result, Ok, Err, ap, ap₂, sym, ◌∙◌, refl, subst, arith}
use Rattle.std.specs.List.{range_with_len}
use Rattle.std.specs.Result.{IsErrAnd}
use Rattle.ring_theory.specs.Ring.{RingOps, IsCommRing}
use Rattle.ring_theory.specs.Scalars.{Scalars, Meaning}
use Rattle.ring_law.specs.declared.fraction.Fault.{Fault}
use Rattle.ring_law.specs.declared.fraction.Fault.TheVariants as fault
use Rattle.ring_law.specs.Refusals.{OnFault, FaultBy}
use Rattle.poly_law.specs.Sums.{sum_to, unit_at}
use Rattle.poly_law.specs.Exps.{variable}
use Rattle.poly_law.specs.ExpList.{exps}
use Rattle.poly_law.specs.Polynomials.{SameIn, HaveNoConstant}
use Rattle.poly_law.proofs.Sums
use Rattle.poly_law.proofs.Matrix
use Rattle.poly_law.proofs.Linear
use Rattle.poly_law.proofs.ExpLists.{exps_are}
use Rattle.lin_row.specs.Plain.{ReductionIsHigh}
use Rattle.jet_poly.specs.JetTerms.{JetTerms}
use Rattle.jet_subst.specs.Parts.{IsPart, part_of}
use Rattle.coord_change.specs.Changes.{IsChange, entry_of}
use Rattle.coord_change.specs.Errors.{error_of, OnRangeError}
use Rattle.coord_change.specs.Inverses.{image_at, IsInverseMatrix, IsInKernel, HasNoKernel, extended_row, InverseIsHigh}
use Rattle.coord_change.specs.Inversions.{IsInverseOf}
use Rattle.coord_change.specs.Linear.{linear_form, linear_part_of}
use Rattle.coord_change.specs.declared.error.ChangeError.{ChangeError}

module _ {V : Type 0} (r : RingOps V) (c : IsCommRing r) (n : ℕ) where
  -- a matrix with an inverse takes no vector but 0 to 0
  pub no_kernel : (w a : ℕ → ℕ → V) → IsInverseMatrix r n w a → HasNoKernel r n w
  no_kernel w a q x zeros d h =
      sym (Sums.sum_to-unit r c n d x h)
      ∙ Sums.sum_to-cong r n (λ k. r.mul (x k) (unit_at r k d)) (λ k. sum_to r n (λ j. r.mul (r.mul (a d j) (w j k)) (x k)))
      (λ k g. ap (r.mul (x k)) (Sums.unit_at-swap r k d) ∙ c.mul_comm (x k) (unit_at r d k) ∙ ap (λ z. r.mul z (x k)) (sym (q.left d k h g)) ∙ sym (Sums.sum_to-mul_right r c n (λ j. r.mul (a d j) (w j k)) (x k)))
      ∙ Sums.sum_to-sum_to r c n n (λ k j. r.mul (r.mul (a d j) (w j k)) (x k))
      ∙ Sums.sum_to-nothing r c n (λ j. sum_to r n (λ k. r.mul (r.mul (a d j) (w j k)) (x k)))
      (λ j g. Sums.sum_to-cong r n (λ k. r.mul (r.mul (a d j) (w j k)) (x k)) (λ k. r.mul (a d j) (r.mul (w j k) (x k))) (λ k y. c.mul_assoc (a d j) (w j k) (x k))
      ∙ Sums.sum_to-mul r c n (a d j) (λ k. r.mul (w j k) (x k)) ∙ ap (r.mul (a d j)) (zeros j g) ∙ Sums.mul_zero r c (a d j))

  -- matrices with the same entries
  module _ (w w' : ℕ → ℕ → V) (agree : (i j : ℕ) → i < n → j < n → w i j ≡ w' i j) where
    pub inverse_of_same : (a : ℕ → ℕ → V) → IsInverseMatrix r n w a → IsInverseMatrix r n w' a
    inverse_of_same a q = record {
      left = λ i k h g. sym (Matrix.product_agree r c n a a w w' (λ i k h g. refl) agree i k h g) ∙ q.left i k h g;
      right = λ i k h g. sym (Matrix.product_agree r c n w w' a a agree (λ i k h g. refl) i k h g) ∙ q.right i k h g;
    }

    pub same_image : (x : ℕ → V) (i : ℕ) → i < n → image_at r n w x i ≡ image_at r n w' x i
    same_image x i h = Sums.sum_to-cong r n (λ d. r.mul (w i d) (x d)) (λ d. r.mul (w' i d) (x d)) (λ d g. ap (λ z. r.mul z (x d)) (agree i d h g))

    same_row : (i : ℕ) → i < n → extended_row r n w i ≡ extended_row r n w' i
    same_row i h = fun_ext λ d. step d (ltb d n) refl
      where
        step : (d : ℕ) (b : Bool) → ltb d n ≡ b → cond b (w i d) (unit_at r (n + i) d) ≡ cond b (w' i d) (unit_at r (n + i) d)
        step d true e = agree i d h (ltb-true d n e)
        step d false e = refl

    same_rows : (k l : ℕ) → k + l ≤ n → map (extended_row r n w) (range_with_len k l) ≡ map (extended_row r n w') (range_with_len k l)
    same_rows k zero h = refl
    same_rows k (suc l) h = ap₂ (λ (y : ℕ → V) ys. y ∷ ys) (same_row k (omega arith)) (same_rows (k + 1) l (omega arith))

pub high_of_same : {V : Type 0} (s : Scalars V) (c : IsCommRing s.ops) (n : ℕ) (w w' : ℕ → ℕ → V) → ((i j : ℕ) → i < n → j < n → w i j ≡ w' i j) → InverseIsHigh s n w → InverseIsHigh s n w'
high_of_same s c n w w' agree h = subst (ReductionIsHigh s n) (same_rows s.ops c n w w' agree 0 n (omega arith)) h

module _ {E V : Type 0} (m : Meaning E V) (c : IsCommRing m.scalars.ops) (n : ℕ) where
  pub kernel_of_same : (w w' : ℕ → ℕ → V) → ((i j : ℕ) → i < n → j < n → w i j ≡ w' i j) → (v : List E) → IsInKernel m n w v → IsInKernel m n w' v
  kernel_of_same w w' agree v q = record {
    count = q.count;
    elems = q.elems;
    kernel = λ i h. sym (same_image m.scalars.ops c n w w' agree (λ d. get_or (map m.value v) d m.scalars.ops.zero) i h) ∙ q.kernel i h;
    place = q.place;
    inside = q.inside;
    other = q.other;
  }

  -- the change of coordinates with given parts and the inverse of their linear part
  pub change_of : (order : ℕ) (parts : List (JetTerms E)) (a : List E) → 0 < n → n ≤ 8 → order ≤ 17 → length parts ≡ n → All (IsPart m n) parts → All (λ p. p.order ≡ order) parts
      → HaveNoConstant n m.scalars.ops n (part_of n m.value parts) → IsInverseOf m n (linear_part_of m n parts) a → IsChange m (record { n = n; order = order; parts = parts; inverse = a })
  change_of order parts a given few low count jets orders none q = record {
    given = given;
    at_most_8_variables = few;
    order_at_most_17 = low;
    count = count;
    parts = jets;
    orders = orders;
    elems = q.elems;
    entries = q.count;
    invertible = record { no_constant = none; left = q.inverse.left; right = q.inverse.right };
  }

  -- parts that are linear forms
  module _ (w : ℕ → ℕ → V) (parts : List (JetTerms E)) (is : (i : ℕ) → i < n → SameIn n m.scalars.ops (part_of n m.value parts i) (linear_form n m.scalars.ops (w i))) where
    pub linear_none : HaveNoConstant n m.scalars.ops n (part_of n m.value parts)
    linear_none i h b g = is i h b ∙ Linear.starts_linear (exps n) (exps_are n) m.scalars.ops c (w i) b g

    pub linear_part_is : (i j : ℕ) → i < n → j < n → w i j ≡ linear_part_of m n parts i j
    linear_part_is i j h g = sym (is i h (variable (exps n) j) ∙ Linear.coefficient-linear (exps n) (exps_are n) m.scalars.ops c (w i) j g)

pub inverse_with : {E V : Type 0} (m : Meaning E V) (c : IsCommRing m.scalars.ops) (n : ℕ) (w w' : ℕ → ℕ → V) → ((i j : ℕ) → i < n → j < n → w i j ≡ w' i j) → (a : List E) → IsInverseOf m n w a → IsInverseOf m n w' a
inverse_with m c n w w' agree a q = record { elems = q.elems; count = q.count; inverse = inverse_of_same m.scalars.ops c n w w' agree (entry_of m n a) q.inverse }

-- a fault, handed on as an error
module _ {E U P Q : Type 0} (f : P → Q) where
  handed_on : (e : Fault) (y : ChangeError E) → y ≡ error_of e → FaultBy P e → OnRangeError {T = U} (Err y) Q
  handed_on (fault.Range e) y h o = record { only = rw h (o.0, f o.1) }
  handed_on fault.NoMemory y h o = record { only = rw h tt }

  pub range_handed_on : {T : Type 0} {e : Fault} (r : Result U (ChangeError E)) → IsErrAnd r (λ y. y ≡ error_of e) → OnFault {T = T} (Err e) P → OnRangeError r Q
  range_handed_on (Ok x) h o = absurd h
  range_handed_on {e} (Err y) h o = handed_on e y h o.only
