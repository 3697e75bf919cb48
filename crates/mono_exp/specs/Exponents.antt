-- Monomials by the lists of their exponents: order, degree, product, and the list of all of one degree.
use Rattle.std.specs.Prelude.{◌≡◌, ℕ, zero, suc, ◌+◌, ◌-◌, ◌*◌, ◌<◌, ◌≤◌, Bool, false, ◌&&◌, ◌||◌, List, [], ◌∷◌, ◌++◌, map, flat_map, filter, length, get_or, nat_lt, ◌==◌, sum}
use Rattle.std.specs.List.{range_with_len}

-- the exponent of the first is greater at the first place where the two differ
abbrev pub is_greater_first : List ℕ → List ℕ → Bool
is_greater_first [] b = false
is_greater_first (x ∷ a) [] = false
is_greater_first (x ∷ a) (y ∷ b) = nat_lt y x || ((x == y) && is_greater_first a b)

-- the monomial order, on exponents e₁, .., eₙ: the lower degree e₁ + .. + eₙ first, and within a degree
-- the greater exponent at the first place that differs
abbrev pub is_before : List ℕ → List ℕ → Bool
is_before a b = nat_lt (sum a) (sum b) || ((sum a == sum b) && is_greater_first a b)

-- the exponents of the first n variables, of a list that has 0 past its end
abbrev pub exponents : ℕ → List ℕ → List ℕ
exponents n e = map (λ i. get_or e i 0) (range_with_len 0 n)

-- no variable past the first n occurs
abbrev pub IsIn : ℕ → List ℕ → Type 0
IsIn n e = (i : ℕ) → n ≤ i → get_or e i 0 ≡ 0

-- the sum of the products wᵢ * eᵢ
abbrev pub weighted_degree_of : List ℕ → List ℕ → ℕ
weighted_degree_of [] e = 0
weighted_degree_of (w ∷ ws) [] = 0
weighted_degree_of (w ∷ ws) (i ∷ e) = w * i + weighted_degree_of ws e

-- c is the product of a and b: each exponent is the sum of theirs
abbrev pub IsProduct : List ℕ → List ℕ → List ℕ → Type 0
IsProduct c a b = (i : ℕ) → get_or c i 0 ≡ get_or a i 0 + get_or b i 0

-- b divides a: no exponent of b is above that of a
abbrev pub Divides : List ℕ → List ℕ → Type 0
Divides b a = (i : ℕ) → get_or b i 0 ≤ get_or a i 0

-- the exponents of the product of a and b are at most 255
abbrev pub HasProduct : List ℕ → List ℕ → Type 0
HasProduct a b = (i : ℕ) → get_or a i 0 + get_or b i 0 < 256

-- the numbers 0, .., n - 1
abbrev pub numbers_below : ℕ → List ℕ
numbers_below zero = []
numbers_below (suc n) = numbers_below n ++ n ∷ []

-- all monomials in n variables of degree d, in the monomial order: the first exponent falls from d to 0,
-- while the degree j of the rest rises
unfoldable pub monomials_of : ℕ → ℕ → List (List ℕ)
monomials_of zero zero = [] ∷ []
monomials_of zero (suc d) = []
monomials_of (suc n) d = flat_map (λ j. map (λ m. (d - j) ∷ m) (monomials_of n j)) (numbers_below (suc d))

-- all monomials in n variables of degree below d, in the monomial order: the lower degree first
unfoldable pub monomials_below : ℕ → ℕ → List (List ℕ)
monomials_below n d = flat_map (monomials_of n) (numbers_below d)

-- the number of monomials in n variables before the one with these exponents
unfoldable pub rank_of : ℕ → List ℕ → ℕ
rank_of n a = length (filter (λ m. is_before m a) (monomials_below n (suc (sum a))))
