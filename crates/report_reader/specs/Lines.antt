-- Lines, and numbers in a line.
use Rattle.std.specs.Prelude.{◌≡◌, ℕ, ◌<◌, ◌≤◌, ◌^◌, List, ◌∷◌, ◌++◌, decimal}
use Rattle.std.specs.List.{AllByRecursion}
use Rattle.mono_exp.specs.declared.exponent.Exp.{Exp}
use Rattle.poly_text.specs.declared.what.What.{What}
use Rattle.poly_text.specs.Polynomials.{monomial_text}
use Rattle.cert_text.specs.Names.{what_text}
use Rattle.row_reader.specs.Values.{IsResidual}

-- no newline
abbrev pub IsClean : List ℕ → Type 0
IsClean bytes = AllByRecursion (λ b. b ≡ 10 → ⊥) bytes

-- a number from the one to the other
abbrev pub IsWithin : ℕ → ℕ → ℕ → Type 0
IsWithin least most n = (least ≤ n) × (n ≤ most)

-- a column below 2^32, and what stands there
abbrev pub IsPlace : ℕ × What → Type 0
IsPlace v = v.0 < 2 ^ 32

-- the two with a space between them
abbrev pub place_text : ℕ × What → List ℕ
place_text v = decimal v.0 ++ 32 ∷ what_text v.1

-- a residual monomial, and a number of values
abbrev pub IsCounted : ℕ → Exp × ℕ → Type 0
IsCounted corank v = IsResidual corank v.0 × (v.1 < 2 ^ 64)

abbrev pub counted_monomial_text : Exp × ℕ → List ℕ
counted_monomial_text v = monomial_text v.0 ++ 32 ∷ decimal v.1
