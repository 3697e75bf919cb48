-- The inverse of a change, up to a degree: by steps, and on both sides; changes one after the other.
use mathlib.Core.Path.{fun_ext}
use mathlib.Core.Quot.{mk}
use Rattle.std.proofs.Common.{◌≡◌, ℕ, zero, suc, ◌+◌, ◌<◌, ◌≤◌, ◌++◌, ap, sym, ◌∙◌, refl, ap₂, arith}
use Rattle.ring_theory.specs.Ring.{RingOps, IsCommRing}
use Rattle.poly_law.specs.Sums.{sum_to, unit_at}
use Rattle.poly_law.specs.Exps.{Exps, IsExps, none, variable, degree}
use Rattle.poly_law.specs.Poly.{Terms, coefficient, scale, poly_ops, Same, SameTo, StartsAt, monomial_of, subst_in, IsInvertible}
use Rattle.poly_law.proofs.Sums
use Rattle.poly_law.proofs.ExpLaws
use Rattle.poly_law.proofs.Pair
use Rattle.poly_law.proofs.Pair.{pair, at_only}
use Rattle.poly_law.proofs.PolyRing.{poly_ring, poly_is_ring}
use Rattle.poly_law.proofs.Hom
use Rattle.poly_law.proofs.Order
use Rattle.poly_law.proofs.Subst
use Rattle.poly_law.proofs.SubstOrder
use Rattle.poly_law.proofs.Near
use Rattle.poly_law.proofs.Linear
use Rattle.poly_law.proofs.Compose
use Rattle.poly_law.proofs.Change
use Rattle.poly_law.proofs.Change.{Ord}
use Rattle.poly_law.proofs.Matrix

module _ {E V : Type 0} (x : Exps E) (l : IsExps x) (r : RingOps V) (c : IsCommRing r) (s : IsSet V) where
  abbrev pub variables : ℕ → Terms E V
  variables = Change.variables x l r c s

  -- the linear part of a change, as a matrix
  abbrev pub linear_of : (ℕ → Terms E V) → ℕ → ℕ → V
  linear_of parts i k = coefficient x r (parts i) (variable x k)

  NoConstant : (ℕ → Terms E V) → Type 0
  NoConstant parts = (i : ℕ) → i < x.count → StartsAt x r 1 (parts i)

  abbrev Agree : (ℕ → ℕ → V) → (ℕ → ℕ → V) → Type 0
  Agree = Matrix.Agree r c x.count

  -- the linear part of a substitution is the product of the matrices
  linear_subst : (parts : ℕ → Terms E V) → ((i : ℕ) → i < x.count → StartsAt x r 1 (parts i)) → (f : Terms E V) → StartsAt x r 1 f → (k : ℕ) → k < x.count
      → coefficient x r (subst_in x x r parts f) (variable x k) ≡ sum_to r x.count (λ j. r.mul (coefficient x r f (variable x j)) (linear_of parts j k))
  linear_subst parts none f t k h =
      SubstOrder.subst_same_to x l x l r c s parts none 1 f (Linear.linear x l r c (λ j. coefficient x r f (variable x j))) (Linear.linear_part x l r c f t) (variable x k) (let e = ExpLaws.degree-variable x l k h in omega arith)
      ∙ SubstOrder.coefficient-subst x l x l r c s parts (Linear.linear x l r c (λ j. coefficient x r f (variable x j))) (variable x k)
      ∙ Linear.pair-linear x l r c (λ j. coefficient x r f (variable x j)) (λ a. coefficient x r (monomial_of x x r parts a) (variable x k))
      ∙ Sums.sum_to-cong r x.count (λ j. r.mul (coefficient x r f (variable x j)) (coefficient x r (monomial_of x x r parts (variable x j)) (variable x k))) (λ j. r.mul (coefficient x r f (variable x j)) (linear_of parts j k))
      (λ j g. ap (r.mul (coefficient x r f (variable x j))) (Change.image_variable x l r c s parts j g (variable x k)))

  -- one change after the other
  pub compose_invertible : (first next : ℕ → Terms E V) (m m' : ℕ → ℕ → V) → IsInvertible x r first m → IsInvertible x r next m'
      → IsInvertible x r (λ i. subst_in x x r next (first i)) (λ i k. sum_to r x.count (λ j. r.mul (m' i j) (m j k)))
  compose_invertible first next m m' q q' = record {
    no_constant = λ i h. SubstOrder.starts_subst x l x l r c s next q'.no_constant 1 (first i) (q.no_constant i h);
    left = λ i k h g.
        Matrix.product_agree r c x.count (Matrix.product r c x.count m' m) (Matrix.product r c x.count m' m) matrix (Matrix.product r c x.count (linear_of first) (linear_of next)) (λ i k h g. refl) is i k h g
        ∙ Matrix.product_inverse r c x.count m (linear_of first) m' (linear_of next) q.left q'.left i k h g;
    right = λ i k h g.
        Matrix.product_agree r c x.count matrix (Matrix.product r c x.count (linear_of first) (linear_of next)) (Matrix.product r c x.count m' m) (Matrix.product r c x.count m' m) is (λ i k h g. refl) i k h g
        ∙ Matrix.product_inverse r c x.count (linear_of next) m' (linear_of first) m q'.right q.right i k h g;
  }
    where
      matrix : ℕ → ℕ → V
      matrix = linear_of (λ i. subst_in x x r next (first i))

      is : Agree matrix (Matrix.product r c x.count (linear_of first) (linear_of next))
      is i k h g = linear_subst next q'.no_constant (first i) (q.no_constant i h) k g

  module _ (parts : ℕ → Terms E V) (matrix : ℕ → ℕ → V) (q : IsInvertible x r parts matrix) where
    -- psi is an inverse up to degree k: the parts at psi are the variables
    abbrev pub IsRight : ℕ → (ℕ → Terms E V) → Type 0
    IsRight k psi = (i : ℕ) → i < x.count → SameTo x r k (subst_in x x r psi (parts i)) (variables i)

    -- an inverse of the change has its matrix and linear part changed round
    pub inverse_invertible : (k : ℕ) → 1 ≤ k → (psi : ℕ → Terms E V) → ((i : ℕ) → i < x.count → StartsAt x r 1 (psi i)) → IsRight k psi → IsInvertible x r psi (linear_of parts)
    inverse_invertible k one psi none right = record {
      no_constant = none;
      left = λ i k h g. of_psi i k h g;
      right = λ i k h g. Matrix.product_agree r c x.count (linear_of psi) matrix (linear_of parts) (linear_of parts) (Matrix.inverse_is r c x.count matrix (linear_of parts) (linear_of psi) q.left of_psi) (λ i k h g. refl) i k h g ∙ q.left i k h g;
    }
      where
        of_psi : Agree (Matrix.product r c x.count (linear_of parts) (linear_of psi)) (unit_at r)
        of_psi i k' h g =
            sym (linear_subst psi none (parts i) (q.no_constant i h) k' g)
            ∙ right i h (variable x k') (let e = ExpLaws.degree-variable x l k' g in omega arith)
            ∙ Change.coefficient-variables x l r c s i k' h g

    -- what a change takes to order m has order m
    into : (m : ℕ) (f : Terms E V) → StartsAt x r m (subst_in x x r parts f) → StartsAt x r m f
    into zero f t = Change.starts_none x l r c s f
    into (suc m) f t =
        let lower = into m f (λ a h. t a (omega arith)) in
        let near = Change.back_near x l r c s parts matrix q m f lower in
        λ a h. sym (near a (omega arith)) ∙ Change.back_starts_at x l r c s parts matrix q (suc m) (subst_in x x r parts f) t a h

  -- an inverse on one side is one on the other
  pub both_sides : (parts : ℕ → Terms E V) (matrix : ℕ → ℕ → V) (q : IsInvertible x r parts matrix) (k : ℕ) → 1 ≤ k → (psi : ℕ → Terms E V) → ((i : ℕ) → i < x.count → StartsAt x r 1 (psi i))
      → ((i : ℕ) → i < x.count → SameTo x r k (subst_in x x r psi (parts i)) (variables i))
      → (i : ℕ) → i < x.count → SameTo x r k (subst_in x x r parts (psi i)) (variables i)
  both_sides parts matrix q k one psi none right i h =
      Order.same_to_from_difference x l r c k there (variables i)
      (into psi (linear_of parts) (inverse_invertible parts matrix q k one psi none right) (suc k) (there ++ (poly_ops x r).neg (variables i)) λ a g.
      Subst.same_from_path x l r c s (subst_in x x r psi (there ++ (poly_ops x r).neg (variables i))) (subst_in x x r psi there ++ (poly_ops x r).neg (subst_in x x r psi (variables i)))
      (Hom.of_sub (poly_ring x l r c) (poly_ring x l r c) (poly_is_ring x l r c) (poly_is_ring x l r c) (Subst.at_parts x l x l r c s psi) (Subst.at_parts_is x l x l r c s psi) (mk there) (mk (variables i))) a
      ∙ Order.difference_starts x l r c k (subst_in x x r psi there) (subst_in x x r psi (variables i)) (λ b z. back_again b z ∙ sym (of_variable b)) a g)
    where
      there : Terms E V
      there = subst_in x x r parts (psi i)

      of_variable : Same x r (subst_in x x r psi (variables i)) (psi i)
      of_variable b = SubstOrder.coefficient-subst x l x l r c s psi (variables i) b ∙ Near.pair-term x l r c s (variable x i) (λ a. coefficient x r (monomial_of x x r psi a) b) ∙ Change.image_variable x l r c s psi i h b

      back_again : SameTo x r k (subst_in x x r psi there) (psi i)
      back_again b z =
          Compose.subst_twice x l x l x l r c s parts psi (psi i) b
          ∙ SubstOrder.parts_same_to x l x l r c s k (λ j. subst_in x x r psi (parts j)) variables right (psi i) b z
          ∙ Near.subst_variables x l r c s (psi i) b

  -- one more degree: take away the matrix times what is wrong
  module _ (parts : ℕ → Terms E V) (matrix : ℕ → ℕ → V) (q : IsInvertible x r parts matrix) (j : ℕ) (psi : ℕ → Terms E V) (none : (i : ℕ) → i < x.count → StartsAt x r 1 (psi i))
      (right : (i : ℕ) → i < x.count → SameTo x r (1 + j) (subst_in x x r psi (parts i)) (variables i)) where
    abbrev wrong : ℕ → Terms E V
    wrong u = subst_in x x r psi (parts u) ++ (poly_ops x r).neg (variables u)

    abbrev pub better : ℕ → Terms E V
    better i = psi i ++ (poly_ops x r).neg (sum_to (poly_ops x r) x.count (λ u. scale x r (matrix i u) (wrong u)))

    coefficient-scale : (a : V) (f : Terms E V) (m : E) → coefficient x r (scale x r a f) m ≡ r.mul a (coefficient x r f m)
    coefficient-scale a f m = Pair.coefficient_is x r c (scale x r a f) m ∙ Pair.pair-scale x r c a f (at_only x r m) ∙ ap (r.mul a) (sym (Pair.coefficient_is x r c f m))

    coefficient-better : (i : ℕ) (m : E) → coefficient x r (better i) m ≡ r.add (coefficient x r (psi i) m) (r.neg (sum_to r x.count (λ u. r.mul (matrix i u) (coefficient x r (wrong u) m))))
    coefficient-better i m =
        Order.coefficient-append x l r c (psi i) ((poly_ops x r).neg (sum_to (poly_ops x r) x.count (λ u. scale x r (matrix i u) (wrong u)))) m
        ∙ ap (r.add (coefficient x r (psi i) m)) (Order.coefficient-neg x l r c (sum_to (poly_ops x r) x.count (λ u. scale x r (matrix i u) (wrong u))) m
        ∙ ap r.neg (Linear.coefficient-sum_to x l r c x.count (λ u. scale x r (matrix i u) (wrong u)) m ∙ ap (sum_to r x.count) (fun_ext λ u. coefficient-scale (matrix i u) (wrong u) m)))

    better_same : (i : ℕ) → i < x.count → SameTo x r (1 + j) (better i) (psi i)
    better_same i h m g =
        coefficient-better i m
        ∙ ap (λ z. r.add (coefficient x r (psi i) m) (r.neg z))
        (Sums.sum_to-nothing r c x.count (λ u. r.mul (matrix i u) (coefficient x r (wrong u) m)) (λ u z.
        ap (r.mul (matrix i u)) (Order.difference_starts x l r c (1 + j) (subst_in x x r psi (parts u)) (variables u) (right u z) m (omega arith)) ∙ Sums.mul_zero r c (matrix i u)))
        ∙ ap (r.add (coefficient x r (psi i) m)) (Sums.neg_zero r c) ∙ c.add_zero (coefficient x r (psi i) m)

    module _ (next : ℕ → Terms E V) (next_is : (i : ℕ) → i < x.count → SameTo x r (2 + j) (next i) (better i)) where
      next_same : (i : ℕ) → i < x.count → SameTo x r (1 + j) (next i) (psi i)
      next_same i h m g = next_is i h m (omega arith) ∙ better_same i h m g

      pub next_none : (i : ℕ) → i < x.count → StartsAt x r 1 (next i)
      next_none i h m g = next_same i h m (omega arith) ∙ none i h m g

      pub next_right : (i : ℕ) → i < x.count → SameTo x r (2 + j) (subst_in x x r next (parts i)) (variables i)
      next_right i h m g =
          SubstOrder.coefficient-subst x l x l r c s next (parts i) m
          ∙ ap (pair r (parts i)) (fun_ext λ a. sym (Sums.add_sub r c (old a) (new a)))
          ∙ Pair.pair-add r c (parts i) old change
          ∙ ap₂ r.add (sym (SubstOrder.coefficient-subst x l x l r c s psi (parts i) m)) (changes ∙ ap r.neg wrong_is)
          ∙ last (coefficient x r (subst_in x x r psi (parts i)) m) (coefficient x r (variables i) m)
        where
          old : E → V
          old a = coefficient x r (monomial_of x x r psi a) m

          new : E → V
          new a = coefficient x r (monomial_of x x r next a) m

          change : E → V
          change a = r.add (new a) (r.neg (old a))

          entry : ℕ → V
          entry t = coefficient x r (parts i) (variable x t)

          error : ℕ → V
          error u = coefficient x r (wrong u) m

          wrong_is : error i ≡ r.add (coefficient x r (subst_in x x r psi (parts i)) m) (r.neg (coefficient x r (variables i) m))
          wrong_is = Order.coefficient-append x l r c (subst_in x x r psi (parts i)) ((poly_ops x r).neg (variables i)) m ∙ ap (r.add (coefficient x r (subst_in x x r psi (parts i)) m)) (Order.coefficient-neg x l r c (variables i) m)

          last : (a b : V) → r.add a (r.neg (r.add a (r.neg b))) ≡ b
          last a b =
              ap (r.add a) (Sums.neg_add r c a (r.neg b)) ∙ sym (c.add_assoc a (r.neg a) (r.neg (r.neg b))) ∙ ap (λ z. r.add z (r.neg (r.neg b))) (c.add_neg a)
              ∙ Sums.zero_add r c (r.neg (r.neg b)) ∙ sym (Sums.neg_unique r c (r.neg b) b (c.add_comm (r.neg b) b ∙ c.add_neg b))

          past : (a : E) → 1 < degree x a → change a ≡ r.zero
          past a z =
              ap (λ w. r.add w (r.neg (old a))) (SubstOrder.monomial_near_by x l r c j x.count next psi (x.at a) next_none none next_same m (omega arith))
              ∙ c.add_neg (old a)

          at_variable : (t : ℕ) → t < x.count → change (variable x t) ≡ r.neg (sum_to r x.count (λ u. r.mul (matrix t u) (error u)))
          at_variable t z =
              ap₂ (λ v w. r.add v (r.neg w)) (Change.image_variable x l r c s next t z m ∙ next_is t z m g ∙ coefficient-better t m) (Change.image_variable x l r c s psi t z m)
              ∙ c.add_comm (r.add (coefficient x r (psi t) m) (r.neg (sum_to r x.count (λ u. r.mul (matrix t u) (error u))))) (r.neg (coefficient x r (psi t) m))
              ∙ sym (c.add_assoc (r.neg (coefficient x r (psi t) m)) (coefficient x r (psi t) m) (r.neg (sum_to r x.count (λ u. r.mul (matrix t u) (error u)))))
              ∙ ap (λ z. r.add z (r.neg (sum_to r x.count (λ u. r.mul (matrix t u) (error u))))) (c.add_comm (r.neg (coefficient x r (psi t) m)) (coefficient x r (psi t) m) ∙ c.add_neg (coefficient x r (psi t) m))
              ∙ Sums.zero_add r c (r.neg (sum_to r x.count (λ u. r.mul (matrix t u) (error u))))

          changes : pair r (parts i) change ≡ r.neg (error i)
          changes =
              Order.pair_low x l r c 1 (parts i) (Linear.linear x l r c entry) (Linear.linear_part x l r c (parts i) (q.no_constant i h)) change past
              ∙ Linear.pair-linear x l r c entry change
              ∙ Sums.sum_to-cong r x.count (λ t. r.mul (entry t) (change (variable x t))) (λ t. r.neg (r.mul (entry t) (sum_to r x.count (λ u. r.mul (matrix t u) (error u)))))
              (λ t z. ap (r.mul (entry t)) (at_variable t z) ∙ Sums.mul_neg r c (entry t) (sum_to r x.count (λ u. r.mul (matrix t u) (error u))))
              ∙ Sums.sum_to-neg r c x.count (λ t. r.mul (entry t) (sum_to r x.count (λ u. r.mul (matrix t u) (error u))))
              ∙ ap r.neg
              (ap (sum_to r x.count) (fun_ext λ t. sym (Sums.sum_to-mul r c x.count (entry t) (λ u. r.mul (matrix t u) (error u))) ∙ ap (sum_to r x.count) (fun_ext λ u. sym (c.mul_assoc (entry t) (matrix t u) (error u))))
              ∙ Sums.sum_to-sum_to r c x.count x.count (λ t u. r.mul (r.mul (entry t) (matrix t u)) (error u))
              ∙ ap (sum_to r x.count) (fun_ext λ u. Sums.sum_to-mul_right r c x.count (λ t. r.mul (entry t) (matrix t u)) (error u))
              ∙ Sums.sum_to-cong r x.count (λ u. r.mul (sum_to r x.count (λ t. r.mul (entry t) (matrix t u))) (error u)) (λ u. r.mul (error u) (unit_at r u i))
              (λ u z. ap (λ w. r.mul w (error u)) (q.right i u h z ∙ Sums.unit_at-swap r i u) ∙ c.mul_comm (unit_at r u i) (error u))
              ∙ Sums.sum_to-unit r c x.count i error h)

  -- an inverse up to each degree
  pub record Inverse (parts : ℕ → Terms E V) (j : ℕ) : Type 0 where
    pub psi : ℕ → Terms E V
    pub none : (i : ℕ) → i < x.count → StartsAt x r 1 (psi i)
    pub right : (i : ℕ) → i < x.count → SameTo x r (1 + j) (subst_in x x r psi (parts i)) (variables i)

  pub find_inverse : (parts : ℕ → Terms E V) (matrix : ℕ → ℕ → V) (q : IsInvertible x r parts matrix) (j : ℕ) → Inverse parts j
  find_inverse parts matrix q zero = record {
    psi = Change.back x l r c s parts matrix q;
    none = Change.back_starts x l r c s parts matrix q;
    right = Change.back_and_there x l r c s parts matrix q;
  }
  find_inverse parts matrix q (suc j) = step (find_inverse parts matrix q j)
    where
      step : Inverse parts j → Inverse parts (suc j)
      step w = record {
        psi = better parts matrix q j w.psi w.none w.right;
        none = next_none parts matrix q j w.psi w.none w.right (better parts matrix q j w.psi w.none w.right) (λ i h m g. refl);
        right = λ i h m g. next_right parts matrix q j w.psi w.none w.right (better parts matrix q j w.psi w.none w.right) (λ i h m g. refl) i h m (omega arith);
      }
