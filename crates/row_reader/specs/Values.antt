-- What is valid in the small lines of a report: elements and monomials.
use Rattle.std.specs.Prelude.{◌≡◌, ℕ, IsTrue, List, length}
use Rattle.std.specs.List.{list_all}
use Rattle.ring_law.specs.declared.fraction.Frac.{Frac}
use Rattle.ext_algebra.specs.declared.algebra.Algebra.{Algebra}
use Rattle.ext_algebra.specs.declared.algebra.Ext.{Ext}
use Rattle.ext_algebra.specs.Algebra.{is_element}
use Rattle.mono_exp.specs.declared.exponent.Exp.{Exp}
use Rattle.cert_text.specs.WellFormed.{is_low_monomial, is_unit_pair, is_functional_value}

-- a value and its inverse, both elements of the algebra
abbrev pub IsUnitPair : Algebra → Ext Frac × Ext Frac → Type 0
IsUnitPair a u = IsTrue (is_unit_pair a u)

-- so many elements of the algebra
pub record AreElements (a : Algebra) (count : ℕ) (es : List (Ext Frac)) : Type 0 where
  pub count_is : length es ≡ count
  pub elements : IsTrue (list_all (is_element a) es)

-- a monomial in the first `corank` variables of degree at most 17
abbrev pub IsResidual : ℕ → Exp → Type 0
IsResidual corank m = IsTrue (is_low_monomial corank m)

-- monomials in the first `corank` variables of degree at most 17
abbrev pub AreResidual : ℕ → List Exp → Type 0
AreResidual corank ms = IsTrue (list_all (is_low_monomial corank) ms)

-- a monomial with the value of a functional there, which is not 0
abbrev pub IsFunctionalValue : Algebra → ℕ → Exp × Ext Frac → Type 0
IsFunctionalValue a corank v = IsTrue (is_functional_value a corank v)
