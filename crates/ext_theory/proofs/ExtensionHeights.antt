-- The numbers of an extension have the laws of heights, from those of the base: the heights of a product and an inverse count the last operation of each component.
use Rattle.std.proofs.Common.{◌≡◌, ℕ, ◌≤◌, List, [], ◌∷◌, map, max, refl, sym, ap, subst, arith}
use Rattle.std.proofs.Math.Nat.{le-max_right, le_trans, max-le}
use Rattle.ring_theory.specs.Scalars.{Scalars, ScalarLaws, HeightLaws, InverseHeightLaws, sum_of}
use Rattle.ring_theory.proofs.HeightLaws.{le_most}
use Rattle.ext_theory.specs.Extension.{Quadratic, Cubic, quadratic_ops, cubic_ops, sub_mul}
use Rattle.ext_theory.specs.ExtensionScalars.{sub_mul_height, quadratic_height, quadratic_inverse_height, quadratic_scalars, cubic_height, cubic_inverse_height, cubic_scalars}
use Rattle.ext_theory.specs.Tower.{square_modulus, lifted_modulus, square_scalars, tower_scalars}
use Rattle.ext_theory.proofs.TowerFields.{square_scalar_laws}

-- the greater of two numbers rises with both
greatest_le : {a b c d : ℕ} → a ≤ c → b ≤ d → max a b ≤ max c d
greatest_le h k = omega arith

module _ {V : Type 0} (s : Scalars V) where
  -- sums are taken by components, in degree 2
  quadratic_sum-c0 : (m : Quadratic V) (xs : List (Quadratic V)) → (sum_of (quadratic_ops s.ops m) xs).c0 ≡ sum_of s.ops (map (λ (a : Quadratic V). a.c0) xs)
  quadratic_sum-c0 m [] = refl
  quadratic_sum-c0 m (x ∷ xs) = ap (s.ops.add x.c0) (quadratic_sum-c0 m xs)

  quadratic_sum-c1 : (m : Quadratic V) (xs : List (Quadratic V)) → (sum_of (quadratic_ops s.ops m) xs).c1 ≡ sum_of s.ops (map (λ (a : Quadratic V). a.c1) xs)
  quadratic_sum-c1 m [] = refl
  quadratic_sum-c1 m (x ∷ xs) = ap (s.ops.add x.c1) (quadratic_sum-c1 m xs)

  -- and in degree 3
  cubic_sum-c0 : (m : Cubic V) (xs : List (Cubic V)) → (sum_of (cubic_ops s.ops m) xs).c0 ≡ sum_of s.ops (map (λ (a : Cubic V). a.c0) xs)
  cubic_sum-c0 m [] = refl
  cubic_sum-c0 m (x ∷ xs) = ap (s.ops.add x.c0) (cubic_sum-c0 m xs)

  cubic_sum-c1 : (m : Cubic V) (xs : List (Cubic V)) → (sum_of (cubic_ops s.ops m) xs).c1 ≡ sum_of s.ops (map (λ (a : Cubic V). a.c1) xs)
  cubic_sum-c1 m [] = refl
  cubic_sum-c1 m (x ∷ xs) = ap (s.ops.add x.c1) (cubic_sum-c1 m xs)

  cubic_sum-c2 : (m : Cubic V) (xs : List (Cubic V)) → (sum_of (cubic_ops s.ops m) xs).c2 ≡ sum_of s.ops (map (λ (a : Cubic V). a.c2) xs)
  cubic_sum-c2 m [] = refl
  cubic_sum-c2 m (x ∷ xs) = ap (s.ops.add x.c2) (cubic_sum-c2 m xs)

  module _ (heights : HeightLaws s) where
    -- a sum that is that of a list is at most as high as the list's
    sum_at_most : (v : V) (xs : List V) → v ≡ sum_of s.ops xs → s.height v ≤ s.sum_height xs
    sum_at_most v xs e = subst (λ w. s.height w ≤ s.sum_height xs) (sym e) (heights.sum xs)

    -- an inverse is at most as high as the product with the inverse of the norm, component by component
    pub quadratic_inverse_heights : (m : Quadratic V) → InverseHeightLaws (quadratic_scalars s m)
    unfolding quadratic_scalars quadratic_inverse_height
    quadratic_inverse_heights m = record {
      inverse = λ a n. max-le (le_most 4 _ (heights.product _ _)) (le_most 5 _ (heights.product _ _));
    }

    pub cubic_inverse_heights : (m : Cubic V) → InverseHeightLaws (cubic_scalars s m)
    unfolding cubic_scalars cubic_inverse_height
    cubic_inverse_heights m = record {
      inverse = λ a n. max-le (le_most 5 _ (heights.product _ _)) (max-le (le_most 6 _ (heights.product _ _)) (le_most 7 _ (heights.product _ _)));
    }

    module _ (laws : ScalarLaws s) where
      -- so is x - c m
      sub_mul-height : (x c m : V) → s.height (sub_mul s.ops x c m) ≤ sub_mul_height s x c m
      sub_mul-height x c m =
          let y = s.ops.neg (s.ops.mul c m) in
          le_trans (sum_at_most (s.ops.add x y) (x ∷ y ∷ []) (ap (s.ops.add x) (sym (laws.ring.add_zero y)))) (le-max_right _ _)

      -- products and sums of pairs
      pub quadratic_heights : (m : Quadratic V) → HeightLaws (quadratic_scalars s m)
      unfolding quadratic_scalars quadratic_height
      quadratic_heights m = record {
        product = λ a b. max-le (le_most 3 _ (sub_mul-height _ _ _)) (le_most 4 _ (sub_mul-height _ _ _));
        sum = λ xs. greatest_le (sum_at_most _ _ (quadratic_sum-c0 m xs)) (sum_at_most _ _ (quadratic_sum-c1 m xs));
      }

      -- and of triples
      pub cubic_heights : (m : Cubic V) → HeightLaws (cubic_scalars s m)
      unfolding cubic_scalars cubic_height
      cubic_heights m = record {
        product = λ a b. max-le (le_most 8 _ (sub_mul-height _ _ _)) (max-le (le_most 9 _ (sub_mul-height _ _ _)) (le_most 10 _ (sub_mul-height _ _ _)));
        sum = λ xs. greatest_le (sum_at_most _ _ (cubic_sum-c0 m xs)) (greatest_le (sum_at_most _ _ (cubic_sum-c1 m xs)) (sum_at_most _ _ (cubic_sum-c2 m xs)));
      }

module _ {V : Type 0} (s : Scalars V) (heights : HeightLaws s) (laws : ScalarLaws s) where
  -- of the tower, by pairs over the base and triples over these
  square_heights : (d : V) → HeightLaws (square_scalars s d)
  square_heights d = quadratic_heights s heights laws (square_modulus s.ops d)

  pub tower_heights : (m : Cubic V) (d : V) → HeightLaws (tower_scalars s m d)
  tower_heights m d = cubic_heights (square_scalars s d) (square_heights d) (square_scalar_laws s laws d) (lifted_modulus s.ops m)

  pub tower_inverse_heights : (m : Cubic V) (d : V) → InverseHeightLaws (tower_scalars s m d)
  tower_inverse_heights m d = cubic_inverse_heights (square_scalars s d) (square_heights d) (lifted_modulus s.ops m)
