-- Sums of products of polynomials f(i) and h(i), and when one of their numbers is high.
use Rattle.std.specs.Prelude.{◌≡◌, ℕ, ◌^◌, ◌<◌, ◌≤◌, ◌⊎◌, true, leb, List, map, filter}
use Rattle.ring_theory.specs.Ring.{RingOps}
use Rattle.ring_theory.specs.Scalars.{Scalars}
use Rattle.poly_law.specs.Sums.{sum_to}
use Rattle.poly_law.specs.Exps.{plus, degree}
use Rattle.poly_law.specs.ExpList.{ExpList, exps}
use Rattle.poly_law.specs.Polynomials.{Polynomial, poly_in, times_in, cut_in, derivative_in}
use Rattle.jet_law.specs.Heights.{IsHigh, products_heights, sums_heights}

-- f(0)*h(0) + .. + f(n - 1)*h(n - 1) in n variables
abbrev pub sum_of_products : {V : Type 0} (n : ℕ) → RingOps V → (ℕ → Polynomial n V) → (ℕ → Polynomial n V) → Polynomial n V
sum_of_products n r f h = sum_to (poly_in n r) n (λ i. times_in n r (f i) (h i))

-- the product of two terms, of degree at most k, is high
pub record IsPairHigh {V : Type 0} (n : ℕ) (s : Scalars V) (k : ℕ) (u t : ExpList n × V) : Type 0 where
  pub low : leb (degree (exps n) (plus (exps n) u.0 t.0)) k ≡ true
  pub high : 2 ^ 120 ≤ s.product_height u.1 t.1

-- the heights of the products of the term u and the terms of h, of degree at most k
abbrev pub multiple_heights : {V : Type 0} (n : ℕ) → Scalars V → ℕ → ExpList n × V → Polynomial n V → List ℕ
multiple_heights n s k u h = map (λ t. s.product_height u.1 t.1) (filter (λ t. leb (degree (exps n) (plus (exps n) u.0 t.0)) k) h)

-- the product of a term of some f(i) and a term of h(i), of degree at most k, is high
pub record IsProductHigh {V : Type 0} (n : ℕ) (s : Scalars V) (k : ℕ) (f h : ℕ → Polynomial n V) : Type 0 where
  pub variable : ℕ
  pub within : variable < n
  pub high : IsHigh (products_heights (exps n) s k (f variable) (h variable))

-- such a product is high, or the sum of all products at some monomial of degree at most k
abbrev pub AreProductsHigh : {V : Type 0} (n : ℕ) → Scalars V → ℕ → (f h : ℕ → Polynomial n V) → Type 0
AreProductsHigh n s k f h = IsProductHigh n s k f h ⊎ IsHigh (sums_heights (exps n) s (cut_in n s.ops k (sum_of_products n s.ops f h)))

-- the same of the combination of the partials of g with multipliers f(i)
abbrev pub IsCombinationHigh : {V : Type 0} (n : ℕ) → Scalars V → ℕ → (ℕ → Polynomial n V) → Polynomial n V → Type 0
IsCombinationHigh n s k f g = AreProductsHigh n s k f (λ i. derivative_in n s.ops i g)
