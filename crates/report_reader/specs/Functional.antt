-- The functional of a limit report: the line of its monomial and of the number of values, and the values, a line each.
use Rattle.std.specs.Prelude.{ℕ, zero, suc, ◌+◌, ◌≤◌, List, [], ◌∷◌, ◌++◌, length, decimal}
use Rattle.std.specs.List.{AllByRecursion, flat_map}
use Rattle.ring_law.specs.declared.fraction.Frac.{Frac}
use Rattle.ext_algebra.specs.declared.algebra.Algebra.{Algebra}
use Rattle.ext_algebra.specs.declared.algebra.Ext.{Ext}
use Rattle.mono_exp.specs.declared.exponent.Exp.{Exp}
use Rattle.mono_exp.specs.Exponents.{exponents, monomials_below, rank_of}
use Rattle.jet_poly.specs.JetTerms.{IsRising}
use Rattle.poly_text.specs.Polynomials.{monomial_text}
use Rattle.cert_text.specs.declared.word.Word.TheVariants as words
use Rattle.cert_text.specs.Text.{functional_text, word_line}
use Rattle.cert_text.specs.WellFormed.{list_limit}
use Rattle.row_reader.specs.Values.{IsFunctionalValue, IsResidual}
use Rattle.report_reader.specs.Lines.{counted_monomial_text}

-- a monomial with the value there
abbrev pub Term : Type 0
Term = Exp × Ext Frac

-- a residual monomial, and at most as many values as a list may have, that are not 0, at rising residual monomials
pub record IsFunctional (a : Algebra) (corank : ℕ) (f : Exp × List Term) : Type 0 where
  pub at : IsResidual corank f.0
  pub few : length f.1 ≤ list_limit
  pub rising : IsRising f.1
  pub values : AllByRecursion (IsFunctionalValue a corank) f.1

-- `functional u1 2`, and the values
abbrev pub functional_lines : Exp × List Term → List ℕ
functional_lines f = word_line words.Functional (monomial_text f.0 ++ 32 ∷ decimal (length f.1)) ++ flat_map functional_text f.1

-- how many residual monomials stand before this one, and how many there are
abbrev pub number_of : ℕ → Exp → ℕ
number_of corank m = rank_of corank (exponents corank m.e)

abbrev pub number_limit : ℕ → ℕ
number_limit corank = length (monomials_below corank 18)

-- a residual monomial and a number of values that there can be
pub record IsHead (corank : ℕ) (head : Exp × ℕ) : Type 0 where
  pub monomial : IsResidual corank head.0
  pub few : head.1 ≤ list_limit
  pub room : head.1 ≤ number_limit corank

abbrev pub head_line : Exp × ℕ → List ℕ
head_line head = word_line words.Functional (counted_monomial_text head)

-- a value at a monomial with at least this number, with room for as many values from it on
pub record IsLater (a : Algebra) (corank low left : ℕ) (v : Term) : Type 0 where
  pub value : IsFunctionalValue a corank v
  pub later : low ≤ number_of corank v.0
  pub room : number_of corank v.0 + left ≤ number_limit corank

-- so many values at rising monomials, the first with at least this number
abbrev pub AreFrom : Algebra → ℕ → ℕ → ℕ → List Term → Type 0
AreFrom a corank low zero [] = Unit {0}
AreFrom a corank low zero (v ∷ vs) = ⊥
AreFrom a corank low (suc k) [] = ⊥
AreFrom a corank low (suc k) (v ∷ vs) = IsFunctionalValue a corank v × (low ≤ number_of corank v.0) × AreFrom a corank (suc (number_of corank v.0)) k vs
