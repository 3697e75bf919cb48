-- The factors of a monomial that are still to be read.
use Rattle.std.specs.Prelude.{◌≡◌, ◌≢◌, ℕ, ◌<◌, Option, Some, None, List, [], ◌∷◌}
use Rattle.std.specs.Borrow.{Bor}

-- the factors with a star before each; the star before the first is not in the bytes
abbrev pub starred : Option (Bor (List ℕ)) → List ℕ
starred None = []
starred (Some text) = 42 ∷ text.now

-- no factor, or one of the variable u with another digit at the front
abbrev pub IsLater : ℕ → List ℕ → Type 0
IsLater digit [] = Unit {0}
IsLater digit (star ∷ []) = ⊥
IsLater digit (star ∷ letter ∷ []) = ⊥
IsLater digit (star ∷ letter ∷ d ∷ bytes) = (star ≡ 42) × (letter ≡ 117) × (d ≢ digit)

-- an exponent that is written
abbrev pub IsExponent : ℕ → Type 0
IsExponent e = (e ≢ 0) × (e < 256)
