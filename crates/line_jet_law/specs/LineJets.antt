-- The jet of a line over the fractions of the code.
use Rattle.std.specs.Prelude.{◌≡◌, ℕ, Bool, ◌&&◌, min, if◌then◌else◌, nat_le, nat_lt, ◌==◌, List, sum, get_or, filter}
use Rattle.std.specs.List.{list_any}
use Rattle.ring_theory.specs.Rational.{Rational}
use Rattle.mono_exp.specs.declared.exponent.Exp.{Exp}
use Rattle.ring_law.specs.declared.fraction.Frac.{Frac}
use Rattle.ring_law.specs.Fraction.{frac_value, rational_meaning, Represents}
use Rattle.poly_law.specs.Polynomials.{Polynomial}
use Rattle.jet_law.specs.Terms.{poly_of}
use Rattle.jet_poly.specs.JetTerms.{JetTerms, IsRising}
use Rattle.jet_poly.specs.Jets.{IsJet}

-- the order up to which a line in n variables is read: the limit, and at most 12 from five variables on
abbrev pub order_limit : ℕ → ℕ → ℕ
order_limit limit n = if nat_le n 4 then limit else min limit 12

-- f is a jet of order k in n variables over the rational numbers, with its terms in the monomial order
pub record IsRationalJet (n k : ℕ) (f : JetTerms Frac) : Type 0 where
  pub is_jet : IsJet rational_meaning f
  pub rising : IsRising f.terms
  pub n_is : f.n ≡ n
  pub order_is : f.order ≡ k

-- the polynomial of a jet over the rational numbers, in n variables
abbrev pub rational_polynomial : (n : ℕ) → JetTerms Frac → Polynomial n Rational
rational_polynomial n f = poly_of n frac_value f.terms

-- u is the term t with the change of its coefficient
pub record IsTermBy (change : Rational → Rational) (t u : Exp × Frac) : Type 0 where
  pub monomial : u.0 ≡ t.0
  pub coefficient : Represents u.1 (change (frac_value t.1))

-- the monomial is variable i alone: its degree is 1, and so is its exponent at i
abbrev pub is_linear_at : ℕ → Exp → Bool
is_linear_at i m = (sum m.e == 1) && (get_or m.e i 0 == 1)

-- some term of a jet is in variable i alone
abbrev pub has_linear : ℕ → List (Exp × Frac) → Bool
has_linear i terms = list_any (λ t. is_linear_at i t.0) terms

-- the monomial is not 1
abbrev pub is_positive : Exp → Bool
is_positive m = nat_lt 0 (sum m.e)

-- the terms but the constant one
abbrev pub positive_terms : List (Exp × Frac) → List (Exp × Frac)
positive_terms terms = filter (λ t. is_positive t.0) terms
