-- Laws of the monomial order and of the list of all monomials.
use Rattle.std.specs.Prelude.{◌≡◌, ℕ, ◌<◌, ◌↔◌, true, List, length, sum, Contains, AllPairs}
use Rattle.mono_exp.specs.Exponents.{is_before, monomials_of, rank_of}

-- each monomial in n variables of degree d is in the list
abbrev pub MonomialsAreWhole : Type 0
MonomialsAreWhole = (n d : ℕ) (m : List ℕ) → length m ≡ n → sum m ≡ d → Contains (monomials_of n d) m

-- the list is in the monomial order, each monomial before those that follow it
abbrev pub MonomialsRise : Type 0
MonomialsRise = (n d : ℕ) → AllPairs (λ a b. is_before a b ≡ true) (monomials_of n d)

-- a monomial is before another exactly where its number is lower
abbrev pub RanksRise : Type 0
RanksRise = (n : ℕ) (a b : List ℕ) → length a ≡ n → length b ≡ n → (is_before a b ≡ true) ↔ (rank_of n a < rank_of n b)

-- monomials with one number are equal
abbrev pub RanksDiffer : Type 0
RanksDiffer = (n : ℕ) (a b : List ℕ) → length a ≡ n → length b ≡ n → rank_of n a ≡ rank_of n b → a ≡ b
