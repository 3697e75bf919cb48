-- A jet as contracts see it: its number of variables, its order and its terms.
use Rattle.std.specs.Prelude.{◌≡◌, ℕ, true, List, [], ◌∷◌}
use Rattle.mono_exp.specs.declared.exponent.Exp.{Exp}
use Rattle.mono_exp.specs.Exponents.{is_before}

-- a polynomial in n variables up to degree `order`, by its terms
pub record JetTerms (E : Type 0) : Type 0 where
  pub n : ℕ
  pub order : ℕ
  pub terms : List (Exp × E)

-- each of the terms stands after the monomial m
abbrev pub AllAfter : {E : Type 0} → Exp → List (Exp × E) → Type 0
AllAfter m [] = Unit {0}
AllAfter m (t ∷ ts) = (is_before m.e t.0.e ≡ true) × AllAfter m ts

-- the terms stand in the monomial order, each monomial at most once
abbrev pub IsRising : {E : Type 0} → List (Exp × E) → Type 0
IsRising [] = Unit {0}
IsRising (t ∷ ts) = AllAfter t.0 ts × IsRising ts
