-- When a sum of two or three numbers is refused.
use Rattle.std.proofs.Common.{◌≡◌, ◌≤◌, ◌^◌, List, [], ◌∷◌, ◌++◌, refl, sym, ap, ◌∙◌}
use Rattle.ring_theory.specs.Ring.{IsCommRing}
use Rattle.ring_theory.specs.Scalars.{Scalars, SumIsHigh, TwoParts, none, first, second, neither, sum_of}

module _ {V : Type 0} (s : Scalars V) (laws : IsCommRing s.ops) where
  -- the sum of one number
  pub sum_of_one : (x : V) → sum_of s.ops (x ∷ []) ≡ x
  sum_of_one x = laws.add_zero x

  -- the sum of two
  pub sum_of_two : (x y : V) → sum_of s.ops (x ∷ y ∷ []) ≡ s.ops.add x y
  sum_of_two x y = ap (s.ops.add x) (laws.add_zero y)

  pub two_high : (x y : V) → SumIsHigh s x y → 2 ^ 120 ≤ s.sum_height (x ∷ y ∷ [])
  two_high x y high = high (x ∷ y ∷ []) (x ∷ []) (y ∷ []) (first (second none)) (sum_of_one x) (sum_of_one y)

  -- the first two of three
  pub three_high_first : (x y z : V) → SumIsHigh s x y → 2 ^ 120 ≤ s.sum_height (x ∷ y ∷ z ∷ [])
  three_high_first x y z high = high (x ∷ y ∷ z ∷ []) (x ∷ []) (y ∷ []) (first (second (neither none))) (sum_of_one x) (sum_of_one y)

  -- and the third
  pub three_high : (x y z : V) → SumIsHigh s (s.ops.add x y) z → 2 ^ 120 ≤ s.sum_height (x ∷ y ∷ z ∷ [])
  three_high x y z high = high (x ∷ y ∷ z ∷ []) (x ∷ y ∷ []) (z ∷ []) (first (first (second none))) (sum_of_two x y) (sum_of_one z)

  pub sum_of-append : (xs ys : List V) → sum_of s.ops (xs ++ ys) ≡ s.ops.add (sum_of s.ops xs) (sum_of s.ops ys)
  sum_of-append [] ys = sym (laws.add_comm _ _ ∙ laws.add_zero _)
  sum_of-append (x ∷ xs) ys = ap (s.ops.add x) (sum_of-append xs ys) ∙ sym (laws.add_assoc x (sum_of s.ops xs) (sum_of s.ops ys))

  -- one number more
  pub sum_of-push : (xs : List V) (x : V) → sum_of s.ops (xs ++ x ∷ []) ≡ s.ops.add (sum_of s.ops xs) x
  sum_of-push xs x = sum_of-append xs (x ∷ []) ∙ ap (s.ops.add (sum_of s.ops xs)) (sum_of_one x)

  -- the numbers so far, and the next
  pub next_high : (xs : List V) (x : V) (rest : List V) → SumIsHigh s (sum_of s.ops xs) x → 2 ^ 120 ≤ s.sum_height (xs ++ x ∷ rest)
  next_high xs x rest high = high (xs ++ x ∷ rest) xs (x ∷ []) (before xs) refl (sum_of_one x)
    where
      none_of : (ys : List V) → TwoParts ys [] []
      none_of [] = none
      none_of (y ∷ ys) = neither (none_of ys)

      before : (ys : List V) → TwoParts (ys ++ x ∷ rest) ys (x ∷ [])
      before [] = second (none_of rest)
      before (y ∷ ys) = first (before ys)
