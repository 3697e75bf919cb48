-- The first lead that divides a monomial, with the quotient.
use Rattle.std.specs.Prelude.{◌≡◌, ℕ, Some, List, [], ◌∷◌, get_or, Contains}
use Rattle.mono_exp.specs.declared.exponent.Exp.{Exp}
use Rattle.mono_exp.specs.Exponents.{IsProduct}
use Rattle.jet_law.specs.Terms.{exp_of}
use Rattle.kill_law.specs.declared.lead.Lead.{Lead}
use Rattle.kill_law.specs.Kill.{first_lead}

-- p is the first lead that divides the monomial a, with the quotient
pub record IsFirstLead (n : ℕ) (leads : List Lead) (a : Exp) (p : Lead × Exp) : Type 0 where
  pub first : first_lead n leads (exp_of n a) ≡ Some p.0
  pub among : Contains leads p.0
  pub quotient : IsProduct a.e p.1.e p.0.monomial

-- the exponents of the first three variables
abbrev pub as_three : List ℕ → List ℕ
as_three e = get_or e 0 0 ∷ get_or e 1 0 ∷ get_or e 2 0 ∷ []
