-- The families of normal forms: the numbers of a name, corank, monomials of the sum, Milnor number, and the kind of what must be a unit.
-- Source: V. I. Arnold, S. M. Gusein-Zade, A. N. Varchenko, Singularities of Differentiable Maps, volume 1, chapter 15.
use Rattle.std.specs.Prelude.{ℕ, ◌+◌, ◌-◌, Bool, true, false, ◌&&◌, ◌||◌, List, [], ◌∷◌, nat_le, ◌==◌, if◌then◌else◌}
use Rattle.normal_forms.specs.declared.family.Family.{Family}
use Rattle.normal_forms.specs.declared.family.Family.TheVariants as families
use Rattle.normal_forms.specs.declared.kind.Kind.{Kind}
use Rattle.normal_forms.specs.declared.kind.Kind.TheVariants as kinds

-- the numbers of a family's name are such as the list of families has
abbrev pub is_family : Family → Bool
is_family (families.A m) = nat_le 1 m
is_family (families.D m) = nat_le 4 m
is_family (families.T p q r) =
    ((p == 2) && ((q == 3) && nat_le 7 r))
    || (((p == 2) && ((q == 4) && nat_le 5 r))
    || (((p == 2) && (nat_le 5 q && nat_le q r))
    || (nat_le 3 p && (nat_le p q && (nat_le q r && nat_le 4 r)))))
is_family families.E6 = true
is_family families.E7 = true
is_family families.E8 = true
is_family families.P8 = true
is_family families.X9 = true
is_family families.J10 = true
is_family families.E12 = true
is_family families.E13 = true
is_family families.E14 = true
is_family families.Z11 = true
is_family families.Z12 = true
is_family families.Z13 = true
is_family families.W12 = true
is_family families.W13 = true
is_family families.Q10 = true
is_family families.Q11 = true
is_family families.Q12 = true
is_family families.S11 = true
is_family families.S12 = true
is_family families.U12 = true

-- how many variables the sum of a family has
abbrev pub corank_of : Family → ℕ
corank_of (families.A m) = if m == 1 then 0 else 1
corank_of families.P8 = 3
corank_of (families.T p q r) = if p == 2 then 2 else 3
corank_of families.Q10 = 3
corank_of families.Q11 = 3
corank_of families.Q12 = 3
corank_of families.S11 = 3
corank_of families.S12 = 3
corank_of families.U12 = 3
corank_of (families.D m) = 2
corank_of families.E6 = 2
corank_of families.E7 = 2
corank_of families.E8 = 2
corank_of families.X9 = 2
corank_of families.J10 = 2
corank_of families.E12 = 2
corank_of families.E13 = 2
corank_of families.E14 = 2
corank_of families.Z11 = 2
corank_of families.Z12 = 2
corank_of families.Z13 = 2
corank_of families.W12 = 2
corank_of families.W13 = 2

-- ---- the sum of a family: its monomials in order, by their exponents

-- x^i y^k
abbrev two : ℕ → ℕ → List ℕ
two i k = i ∷ k ∷ []

-- x^i y^k z^l
abbrev three : ℕ → ℕ → ℕ → List ℕ
three i k l = i ∷ k ∷ l ∷ []

-- the sum of T(p,q,r)
abbrev hyperbolic_sum : ℕ → ℕ → ℕ → List (List ℕ)
hyperbolic_sum p q r =
    if p == 2 then (
    if q == 3 then two 3 0 ∷ two 2 2 ∷ two 0 r ∷ [] else (
    if q == 4 then two 4 0 ∷ two 2 2 ∷ two 0 r ∷ [] else
    two 2 2 ∷ two q 0 ∷ two 0 r ∷ []))
    else three 1 1 1 ∷ three p 0 0 ∷ three 0 q 0 ∷ three 0 0 r ∷ []

-- the monomials of the sum of a family; of an exceptional family the last one is the modulus monomial
abbrev pub sum_of : Family → List (List ℕ)
sum_of (families.A m) = if m == 1 then [] else ((m + 1) ∷ []) ∷ []
sum_of (families.D m) = two 2 1 ∷ two 0 (m - 1) ∷ []
sum_of families.E6 = two 3 0 ∷ two 0 4 ∷ []
sum_of families.E7 = two 3 0 ∷ two 1 3 ∷ []
sum_of families.E8 = two 3 0 ∷ two 0 5 ∷ []
sum_of families.P8 =
    three 3 0 0 ∷ three 2 1 0 ∷ three 2 0 1 ∷ three 1 2 0 ∷ three 1 1 1 ∷ three 1 0 2 ∷ three 0 3 0 ∷ three 0 2 1 ∷ three 0 1 2 ∷ three 0 0 3 ∷ []
sum_of families.X9 = two 4 0 ∷ two 3 1 ∷ two 2 2 ∷ two 1 3 ∷ two 0 4 ∷ []
sum_of families.J10 = two 3 0 ∷ two 1 4 ∷ two 0 6 ∷ []
sum_of (families.T p q r) = hyperbolic_sum p q r
sum_of families.E12 = two 3 0 ∷ two 0 7 ∷ two 1 5 ∷ []
sum_of families.E13 = two 3 0 ∷ two 1 5 ∷ two 0 8 ∷ []
sum_of families.E14 = two 3 0 ∷ two 0 8 ∷ two 1 6 ∷ []
sum_of families.Z11 = two 3 1 ∷ two 0 5 ∷ two 1 4 ∷ []
sum_of families.Z12 = two 3 1 ∷ two 1 4 ∷ two 2 3 ∷ []
sum_of families.Z13 = two 3 1 ∷ two 0 6 ∷ two 1 5 ∷ []
sum_of families.W12 = two 4 0 ∷ two 0 5 ∷ two 2 3 ∷ []
sum_of families.W13 = two 4 0 ∷ two 1 4 ∷ two 0 6 ∷ []
sum_of families.Q10 = three 3 0 0 ∷ three 0 1 2 ∷ three 0 4 0 ∷ three 1 3 0 ∷ []
sum_of families.Q11 = three 3 0 0 ∷ three 0 1 2 ∷ three 1 3 0 ∷ three 0 5 0 ∷ []
sum_of families.Q12 = three 3 0 0 ∷ three 0 1 2 ∷ three 0 5 0 ∷ three 1 4 0 ∷ []
sum_of families.S11 = three 0 2 1 ∷ three 1 0 2 ∷ three 4 0 0 ∷ three 3 0 1 ∷ []
sum_of families.S12 = three 0 2 1 ∷ three 1 0 2 ∷ three 3 1 0 ∷ three 5 0 0 ∷ []
sum_of families.U12 = three 3 0 0 ∷ three 0 3 0 ∷ three 0 0 4 ∷ three 1 1 2 ∷ []

-- the Milnor number of a family
abbrev pub milnor_number_of : Family → ℕ
milnor_number_of (families.A m) = m
milnor_number_of (families.D m) = m
milnor_number_of families.E6 = 6
milnor_number_of families.E7 = 7
milnor_number_of families.E8 = 8
milnor_number_of families.P8 = 8
milnor_number_of families.X9 = 9
milnor_number_of families.J10 = 10
milnor_number_of (families.T p q r) = p + q + r - 1
milnor_number_of families.E12 = 12
milnor_number_of families.E13 = 13
milnor_number_of families.E14 = 14
milnor_number_of families.Z11 = 11
milnor_number_of families.Z12 = 12
milnor_number_of families.Z13 = 13
milnor_number_of families.W12 = 12
milnor_number_of families.W13 = 13
milnor_number_of families.Q10 = 10
milnor_number_of families.Q11 = 11
milnor_number_of families.Q12 = 12
milnor_number_of families.S11 = 11
milnor_number_of families.S12 = 12
milnor_number_of families.U12 = 12

-- the family has numbers in its name that its sum depends on
abbrev pub has_numbers : Family → Bool
has_numbers (families.A m) = true
has_numbers (families.D m) = true
has_numbers (families.T p q r) = true
has_numbers families.E6 = false
has_numbers families.E7 = false
has_numbers families.E8 = false
has_numbers families.P8 = false
has_numbers families.X9 = false
has_numbers families.J10 = false
has_numbers families.E12 = false
has_numbers families.E13 = false
has_numbers families.E14 = false
has_numbers families.Z11 = false
has_numbers families.Z12 = false
has_numbers families.Z13 = false
has_numbers families.W12 = false
has_numbers families.W13 = false
has_numbers families.Q10 = false
has_numbers families.Q11 = false
has_numbers families.Q12 = false
has_numbers families.S11 = false
has_numbers families.S12 = false
has_numbers families.U12 = false

-- how the unit values and the modulus come from the coefficients: simple families, the T series, P8, X9, J10, the exceptional families
abbrev pub kind_of : Family → Kind
kind_of (families.A m) = kinds.Simple
kind_of (families.D m) = kinds.Simple
kind_of families.E6 = kinds.Simple
kind_of families.E7 = kinds.Simple
kind_of families.E8 = kinds.Simple
kind_of families.P8 = kinds.CubicForm
kind_of families.X9 = kinds.QuarticForm
kind_of families.J10 = kinds.Triple
kind_of (families.T p q r) = kinds.Hyperbolic
kind_of families.E12 = kinds.Exceptional
kind_of families.E13 = kinds.Exceptional
kind_of families.E14 = kinds.Exceptional
kind_of families.Z11 = kinds.Exceptional
kind_of families.Z12 = kinds.Exceptional
kind_of families.Z13 = kinds.Exceptional
kind_of families.W12 = kinds.Exceptional
kind_of families.W13 = kinds.Exceptional
kind_of families.Q10 = kinds.Exceptional
kind_of families.Q11 = kinds.Exceptional
kind_of families.Q12 = kinds.Exceptional
kind_of families.S11 = kinds.Exceptional
kind_of families.S12 = kinds.Exceptional
kind_of families.U12 = kinds.Exceptional
