-- Which substitutions are high: the numbers that the definition of f(φ), cut at k, forms.
use Rattle.std.specs.Prelude.{◌≡◌, ◌≢◌, ℕ, ◌≤◌, ◌^◌, ◌⊎◌, List, map, flat_map, All, Contains}
use Rattle.ring_theory.specs.Scalars.{Scalars}
use Rattle.poly_law.specs.Exps.{Exps, plus}
use Rattle.poly_law.specs.Poly.{Terms, Same, coefficient, cut, scale, monomial_of}
use Rattle.jet_law.specs.Heights.{IsHigh, product_heights, sums_heights}
use Rattle.jet_subst.specs.Powers.{IsReduced, IsTruncation}

-- one term of f, v*x^a, with the product φ^a of powers
pub record Summand (E F V : Type 0) : Type 0 where
  pub exponent : E
  pub factor : V
  pub power : Terms F V

-- the product of c with a coefficient of p is high
pub record IsMultipleHigh {F V : Type 0} (s : Scalars V) (c : V) (p : Terms F V) : Type 0 where
  pub term : F × V
  pub among : Contains p term
  pub high : 2 ^ 120 ≤ s.product_height c term.1

module _ {E F V : Type 0} (x : Exps E) (y : Exps F) (s : Scalars V) (k : ℕ) (parts : ℕ → Terms F V) where
  -- the powers φ^b for the divisors b of x^a are high: some divisor is a product of two monomials b and b' such that the product of φ^b and φ^b', both
  -- cut at k, is high
  pub record ArePowersOfHigh (exponent : E) : Type 0 where
    pub first : E
    pub second : E
    pub rest : E
    pub divides : plus x (plus x first second) rest ≡ exponent
    pub left : Terms F V
    pub right : Terms F V
    pub left_is : IsTruncation y s.ops k (monomial_of x y s.ops parts first) left
    pub right_is : IsTruncation y s.ops k (monomial_of x y s.ops parts second) right
    pub high : IsHigh (product_heights y s k left right)

  module _ (f : Terms E V) where
    -- the powers for a monomial of f are high
    pub record ArePowersInHigh : Type 0 where
      pub exponent : E
      pub stands : coefficient x s.ops f exponent ≢ s.ops.zero
      pub high : ArePowersOfHigh exponent

    -- the product of a coefficient of f, at x^a, with a coefficient of φ^a cut at k is high
    pub record IsMultipleInHigh : Type 0 where
      pub exponent : E
      pub stands : coefficient x s.ops f exponent ≢ s.ops.zero
      pub power : Terms F V
      pub power_is : IsTruncation y s.ops k (monomial_of x y s.ops parts exponent) power
      pub high : IsMultipleHigh s (coefficient x s.ops f exponent) power

    -- the summands are the terms of f, as a reduced list, with the products of powers cut at k
    pub record AreSummands (summands : List (Summand E F V)) : Type 0 where
      pub reduced : IsReduced x s.ops (map (λ u. (u.exponent, u.factor)) summands)
      pub equal : Same x s.ops (map (λ u. (u.exponent, u.factor)) summands) f
      pub powers : All (λ u. IsTruncation y s.ops k (monomial_of x y s.ops parts u.exponent) u.power) summands

    -- some sum, over the terms v*x^a of f, of v times the coefficient of φ^a is high
    pub record IsSumInHigh : Type 0 where
      pub summands : List (Summand E F V)
      pub are : AreSummands summands
      pub high : IsHigh (sums_heights y s (cut y s.ops k (flat_map (λ u. scale y s.ops u.factor u.power) summands)))

    -- f(φ) cut at k is high
    abbrev pub IsSubstHigh : Type 0
    IsSubstHigh = ArePowersInHigh ⊎ (IsMultipleInHigh ⊎ IsSumInHigh)
