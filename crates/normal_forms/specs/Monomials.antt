-- Monomials by the lists of their exponents, and those of a jet with square variables.
use Rattle.std.specs.Prelude.{ℕ, ◌+◌, ◌-◌, Bool, ◌&&◌, ◌||◌, List, [], ◌∷◌, ◌++◌, map, filter, take, drop, replicate, sum, ◌==◌}
use Rattle.std.specs.List.{list_all, list_any}
use Rattle.std.specs.Str.{bytes_eq}
use Rattle.mono_exp.specs.declared.exponent.Exp.{Exp}
pub use Rattle.mono_exp.specs.Exponents.{numbers_below}

-- the exponents with zeros up to eight places
abbrev pub in_eight : List ℕ → Exp
in_eight e = record { e = take 8 (e ++ replicate 8 0) }

-- m is one of the monomials
abbrev pub is_one_of : List Exp → Exp → Bool
is_one_of monomials m = list_any (λ s. bytes_eq m.e s.e) monomials

-- the monomials of some terms
abbrev pub monomials_in : {E : Type 0} → List (Exp × E) → List Exp
monomials_in terms = map (λ t. t.0) terms

-- ---- the square variables are the last ones, after the first c, which are the residual ones

-- the monomial has no square variable
abbrev pub is_residual : ℕ → Exp → Bool
is_residual c m = list_all (λ e. e == 0) (drop c m.e)

-- the monomial is the square of a square variable
abbrev pub is_square : ℕ → Exp → Bool
is_square c m = (sum m.e == 2) && list_any (λ e. e == 2) (drop c m.e)

-- the square of variable i
abbrev pub square_of : ℕ → Exp
square_of i = in_eight (replicate i 0 ++ 2 ∷ [])

-- the square variables of n, by number
abbrev pub square_variables : ℕ → ℕ → List ℕ
square_variables n c = map (λ i. c + i) (numbers_below (n - c))

-- split with corank c: each monomial with a square variable is the square of one, and the squares are all there;
-- this speaks of terms with coefficients other than 0
unfoldable pub is_split : {E : Type 0} → ℕ → ℕ → List (Exp × E) → Bool
is_split n c terms =
    list_all (λ m. is_residual c m || is_square c m) (monomials_in terms)
    && list_all (λ i. is_one_of (monomials_in terms) (square_of i)) (square_variables n c)

-- the terms without square variables
unfoldable pub residual_terms : {E : Type 0} → ℕ → List (Exp × E) → List (Exp × E)
residual_terms c terms = filter (λ t. is_residual c t.0) terms
