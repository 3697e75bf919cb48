-- Jets as the code reads them, their residual parts, and what the tests of these answer.
use Rattle.std.specs.Prelude.{◌≡◌, ℕ, List, length}
use Rattle.std.specs.List.{All}
use Rattle.ring_law.specs.declared.fraction.Frac.{Frac}
use Rattle.ext_algebra.specs.declared.algebra.Algebra.{Algebra}
use Rattle.ext_algebra.specs.declared.algebra.Ext.{Ext}
use Rattle.ext_algebra.specs.Algebra.{algebra_meaning}
use Rattle.mono_exp.specs.declared.exponent.Exp.{Exp}
use Rattle.jet_poly.specs.JetTerms.{JetTerms, IsRising}
use Rattle.normal_forms.specs.Monomials.{residual_terms}
use Rattle.determinacy.specs.Tests as tests_of
use Rattle.determinacy.specs.declared.row.MatherRow.{MatherRow}
use Rattle.determinacy.specs.declared.row.MatherTest.{MatherTest}

-- the terms of the jet stand in the monomial order, with eight exponents each
pub record IsListed {E : Type 0} (f : JetTerms E) : Type 0 where
  pub rising : IsRising f.terms
  pub long : All (λ t. length t.0.e ≡ 8) f.terms

-- the terms of f without square variables, as a jet in the first c variables
abbrev pub residual_jet : {E : Type 0} → ℕ → JetTerms E → JetTerms E
residual_jet c f = record { n = c; order = f.order; terms = residual_terms c f.terms }

-- the test of the residual part of f, at the order of f, has this answer
pub record IsTestedBy (a : Algebra) (c : ℕ) (f : JetTerms (Ext Frac)) (answer : MatherTest (Ext Frac)) : Type 0 where
  pub listed : IsListed f
  pub answers : tests_of.IsAnswer (algebra_meaning a) (residual_jet c f) f.order answer

-- rows for the residual part of f, at the order of f
abbrev pub AreRowsFor : Algebra → ℕ → JetTerms (Ext Frac) → List (MatherRow (Ext Frac)) → Type 0
AreRowsFor a c f rows = tests_of.AreRows (algebra_meaning a) (residual_jet c f) f.order rows

-- a functional that excludes them
abbrev pub IsFailureFor : Algebra → ℕ → JetTerms (Ext Frac) → List (Exp × Ext Frac) → Exp → Type 0
IsFailureFor a c f functional at = tests_of.IsFailure (algebra_meaning a) (residual_jet c f) f.order functional at
