-- Monomials that differ, each from the others.
use Rattle.std.specs.Prelude.{ℕ, Bool, true, ◌&&◌, not, List, [], ◌∷◌, map}
use Rattle.std.specs.List.{list_any}
use Rattle.std.specs.Str.{bytes_eq}
use Rattle.mono_exp.specs.declared.exponent.Exp.{Exp}

-- no list of exponents is equal to one after it
abbrev pub are_distinct : List (List ℕ) → Bool
are_distinct [] = true
are_distinct (e ∷ es) = not (list_any (bytes_eq e) es) && are_distinct es

-- the exponents of the monomials of some terms
abbrev pub exponents_in : {E : Type 0} → List (Exp × E) → List (List ℕ)
exponents_in terms = map (λ t. t.0.e) terms
