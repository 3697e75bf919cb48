-- Heights of operations on polynomials: the list of the heights of all numbers that the definition of an operation forms.
-- x stands for the variables, s for the numbers with their heights, k for the degree of truncation.
use Rattle.std.specs.Prelude.{ℕ, ◌^◌, ◌≤◌, pos, List, ◌∷◌, ◌++◌, map, filter, flat_map, leb}
use Rattle.ring_theory.specs.Rational.{rational}
use Rattle.ring_theory.specs.Scalars.{Scalars}
use Rattle.ring_theory.specs.Height.{most}
use Rattle.poly_law.specs.Exps.{Exps, plus, same, degree}
use Rattle.poly_law.specs.Poly.{Terms, cut, times}

-- some of these numbers is at least 2^120
abbrev pub IsHigh : List ℕ → Type 0
IsHigh hs = 2 ^ 120 ≤ most hs

module _ {E V : Type 0} (x : Exps E) (s : Scalars V) where
  -- the coefficients that a list of terms has at a monomial
  abbrev pub summands_at : Terms E V → E → List V
  summands_at f m = map (λ t. t.1) (filter (λ t. same x t.0 m) f)

  -- the heights of the coefficients of f, each the sum of its summands: at each monomial of f
  abbrev pub sums_heights : Terms E V → List ℕ
  sums_heights f = map (λ t. s.sum_height (summands_at f t.0)) f

  -- the heights of the coefficients as they stand
  abbrev pub coefficient_heights : Terms E V → List ℕ
  coefficient_heights f = map (λ t. s.height t.1) f

  -- the heights of the sum f + g up to degree k: of the coefficients, and of their sums at each monomial
  unfoldable pub sum_heights : ℕ → Terms E V → Terms E V → List ℕ
  sum_heights k f g = coefficient_heights f ++ coefficient_heights g ++ sums_heights (cut x s.ops k (f ++ g))

  -- the heights of the products of a coefficient of f and one of g whose monomial has degree at most k
  abbrev pub products_heights : ℕ → Terms E V → Terms E V → List ℕ
  products_heights k f g = flat_map (λ t. map (λ u. s.product_height t.1 u.1) (filter (λ u. leb (degree x (plus x t.0 u.0)) k) g)) f

  -- the heights of the product f*g cut at k: of the coefficients, of their products, and of the sums of these at each monomial
  unfoldable pub product_heights : ℕ → Terms E V → Terms E V → List ℕ
  product_heights k f g = coefficient_heights f ++ coefficient_heights g ++ products_heights k f g ++ sums_heights (cut x s.ops k (times x s.ops f g))

  -- the heights of a*f: of a, and of its product with each coefficient
  unfoldable pub scale_heights : V → Terms E V → List ℕ
  scale_heights a f = s.height a ∷ map (λ t. s.product_height a t.1) f

  -- the heights of the partial derivative of f in variable i: of the product of each exponent and coefficient
  unfoldable pub derivative_heights : ℕ → Terms E V → List ℕ
  derivative_heights i f = map (λ t. s.product_height (s.rational (rational (pos (x.at t.0 i)) 1)) t.1) f
