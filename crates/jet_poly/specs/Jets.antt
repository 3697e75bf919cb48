-- Jets over a ring.
use Rattle.std.specs.Prelude.{◌≢◌, ℕ, ◌≤◌, ◌==◌, pos, All, filter, sum}
use Rattle.ring_theory.specs.Rational.{rational}
use Rattle.ring_theory.specs.Scalars.{Scalars, Meaning}
use Rattle.poly_law.specs.Exps.{degree}
use Rattle.poly_law.specs.ExpList.{exps}
use Rattle.mono_exp.specs.Exponents.{IsIn}
use Rattle.jet_law.specs.Terms.{poly_of}
use Rattle.jet_poly.specs.JetTerms.{JetTerms}
use Rattle.poly_law.specs.Polynomials.{Polynomial}

-- the terms are those of a polynomial in the first n variables, of degree at most the order, with valid coefficients that are not zero
pub record IsJet {E V : Type 0} (m : Meaning E V) (f : JetTerms E) : Type 0 where
  pub variables : All (λ t. IsIn f.n t.0.e) f.terms
  pub degrees : All (λ t. sum t.0.e ≤ f.order) f.terms
  pub elems : All (λ t. m.is_elem t.1) f.terms
  pub units : All (λ t. m.value t.1 ≢ m.scalars.ops.zero) f.terms

-- the polynomial of a jet
abbrev pub polynomial_of : {E V : Type 0} → Meaning E V → (f : JetTerms E) → Polynomial f.n V
polynomial_of m f = poly_of f.n m.value f.terms

-- the homogeneous component of degree d: the terms of degree d
abbrev pub component : {V : Type 0} (n : ℕ) → ℕ → Polynomial n V → Polynomial n V
component n d f = filter (λ t. degree (exps n) t.0 == d) f

-- a whole number among the numbers of a ring
abbrev pub whole : {V : Type 0} → Scalars V → ℕ → V
whole s k = s.rational (rational (pos k) 1)
