-- Terms that stand in the monomial order.
use Rattle.std.specs.Prelude.{ℕ, ◌≤◌, List, All, sum}
use Rattle.ring_theory.specs.Scalars.{Meaning}
use Rattle.mono_exp.specs.declared.exponent.Exp.{Exp}
use Rattle.mono_exp.specs.Exponents.{IsIn}
use Rattle.jet_poly.specs.JetTerms.{IsRising}

-- the terms stand in the monomial order, in n variables, of degree at most the order, and their coefficients are valid
pub record AreOrdered {E V : Type 0} (m : Meaning E V) (n order : ℕ) (terms : List (Exp × E)) : Type 0 where
  pub elems : All (λ t. m.is_elem t.1) terms
  pub variables : All (λ t. IsIn n t.0.e) terms
  pub degrees : All (λ t. sum t.0.e ≤ order) terms
  pub rising : IsRising terms
