-- What a ring means: the unlimited numbers that its elements stand for.
use Rattle.std.specs.Prelude.{◌≡◌, ◌≢◌, ℕ, ◌≤◌, ◌^◌, Bool, IsTrue, ◌↔◌, List, [], ◌∷◌}
use Rattle.ring_theory.specs.Ring.{RingOps, IsCommRing}
use Rattle.ring_theory.specs.Rational.{Rational, rational_ops}

-- numbers with their operations, the rational ones among them, and their heights
pub record Scalars (V : Type 0) : Type 0 where
  pub ops : RingOps V
  pub rational : Rational → V
  pub is_zero : V → Bool
  -- where there is one
  pub inverse : V → V
  pub height : V → ℕ
  pub product_height : V → V → ℕ
  pub sum_height : List V → ℕ
  pub inverse_height : V → ℕ

-- f respects sums, products and one
pub record IsRingMap {A B : Type 0} (a : RingOps A) (b : RingOps B) (f : A → B) : Type 0 where
  pub one : f a.one ≡ b.one
  pub add : (x y : A) → f (a.add x y) ≡ b.add (f x) (f y)
  pub mul : (x y : A) → f (a.mul x y) ≡ b.mul (f x) (f y)

pub record ScalarLaws {V : Type 0} (s : Scalars V) : Type 0 where
  pub ring : IsCommRing s.ops
  pub nontrivial : s.ops.one ≢ s.ops.zero
  pub embeds : IsRingMap rational_ops s.ops s.rational
  pub zero_test : (v : V) → IsTrue (s.is_zero v) ↔ (v ≡ s.ops.zero)

-- the sum of a list
abbrev pub sum_of : {V : Type 0} → RingOps V → List V → V
sum_of r [] = r.zero
sum_of r (x ∷ xs) = r.add x (sum_of r xs)

-- a number that is a product or a sum is at most as high as the product or the sum
pub record HeightLaws {V : Type 0} (s : Scalars V) : Type 0 where
  pub product : (x y : V) → s.height (s.ops.mul x y) ≤ s.product_height x y
  pub sum : (xs : List V) → s.height (sum_of s.ops xs) ≤ s.sum_height xs

-- ys and zs are parts of xs that have no place in common
pub data TwoParts {V : Type 0} : List V → List V → List V → Type 0 where
  none : TwoParts [] [] []
  first : {x : V} {xs ys zs : List V} → TwoParts xs ys zs → TwoParts (x ∷ xs) (x ∷ ys) zs
  second : {x : V} {xs ys zs : List V} → TwoParts xs ys zs → TwoParts (x ∷ xs) ys (x ∷ zs)
  neither : {x : V} {xs ys zs : List V} → TwoParts xs ys zs → TwoParts (x ∷ xs) ys zs

-- a sum of x and y may be refused: wherever these are the sums of two parts of a list, the list's sum is high
abbrev pub SumIsHigh : {V : Type 0} → Scalars V → V → V → Type 0
SumIsHigh {V} s x y = (xs ys zs : List V) → TwoParts xs ys zs → sum_of s.ops ys ≡ x → sum_of s.ops zs ≡ y → 2 ^ 120 ≤ s.sum_height xs

-- which elements are valid, and the number that each stands for
pub record Meaning (E V : Type 0) : Type 1 where
  pub scalars : Scalars V
  pub is_elem : E → Type 0
  pub value : E → V

pub record MeaningLaws {E V : Type 0} (m : Meaning E V) : Type 0 where
  pub numbers : ScalarLaws m.scalars
  -- equal values are equal elements
  pub equal : (x y : E) → m.is_elem x → m.is_elem y → m.value x ≡ m.value y → x ≡ y

-- every number but zero has its inverse
pub record HasInverses {V : Type 0} (s : Scalars V) : Type 0 where
  pub mul_inverse : (v : V) → v ≢ s.ops.zero → s.ops.mul v (s.inverse v) ≡ s.ops.one

-- the inverse of a number other than zero is at most as high as the inverting
pub record InverseHeightLaws {V : Type 0} (s : Scalars V) : Type 0 where
  pub inverse : (v : V) → v ≢ s.ops.zero → s.height (s.inverse v) ≤ s.inverse_height v
