-- The terms of a polynomial that are not constant.
use Rattle.std.specs.Prelude.{◌≡◌, ℕ, ◌<◌, Bool, true, false, IsTrue, List, [], ◌∷◌, length, if◌then◌else◌}
use Rattle.std.specs.List.{flat_map, list_all}
use Rattle.ring_law.specs.declared.fraction.Frac.{Frac}
use Rattle.ext_algebra.specs.declared.algebra.Algebra.{Algebra}
use Rattle.ext_algebra.specs.declared.algebra.Ext.{Ext}
use Rattle.mono_exp.specs.declared.exponent.Exp.{Exp}
use Rattle.mono_exp.specs.Exponents.{is_before}
use Rattle.poly_text.specs.Numbers.{Piece, components, scaled_text, signed_text, without_zeros}
use Rattle.poly_text.specs.Polynomials.{is_one, new_names, term_in}
use Rattle.jet_poly.specs.JetTerms.{IsRising}
use Rattle.cert_text.specs.WellFormed.{is_term_of, is_zero_element}
use Rattle.cert_law.specs.Fields.{IsMonomial}
use Rattle.text_reader.specs.Pieces.{AreFractions, is_unit_of}

-- one component is not 0
abbrev pub IsSingle : Ext Frac → Type 0
IsSingle e = (p : Piece) × (without_zeros (components e) ≡ p ∷ [])

-- more than one component is not 0
abbrev pub IsLong : Ext Frac → Type 0
IsLong e = 1 < length (without_zeros (components e))

-- one component is not 0, and it is not 1 or -1 alone
pub record IsWritten (e : Ext Frac) : Type 0 where
  pub piece : Piece
  pub only : without_zeros (components e) ≡ piece ∷ []
  pub longer : piece.1 ≡ [] → is_unit_of piece.0 ≡ false

-- the coefficient of a term with its sign before it, and the factors
abbrev pub before_factors : Ext Frac → List ℕ → List ℕ
before_factors e factors = signed_text (scaled_text e (42 ∷ factors))

-- a term that is not constant
abbrev pub term_text : Exp × Ext Frac → List ℕ
term_text t = term_in new_names t

-- a monomial other than 1 with a coefficient of valid fractions that is not 0
pub record IsHigherTerm (t : Exp × Ext Frac) : Type 0 where
  pub fractions : AreFractions t.1
  pub nonzero : is_zero_element t.1 ≡ false
  pub monomial : IsMonomial t.0
  pub higher : is_one t.0 ≡ false

-- its coefficient has one component
pub record IsSimpleTerm (t : Exp × Ext Frac) : Type 0 where
  pub fractions : AreFractions t.1
  pub single : IsSingle t.1
  pub monomial : IsMonomial t.0
  pub higher : is_one t.0 ≡ false

-- its coefficient has more than one component
pub record IsLongTerm (t : Exp × Ext Frac) : Type 0 where
  pub fractions : AreFractions t.1
  pub long : IsLong t.1
  pub monomial : IsMonomial t.0
  pub higher : is_one t.0 ≡ false

-- the variable u at the front
abbrev pub IsVariable : List ℕ → Type 0
IsVariable [] = ⊥
IsVariable (b ∷ bs) = b ≡ 117

-- the monomial 1
abbrev pub one_monomial : Exp
one_monomial = record { e = 0 ∷ 0 ∷ 0 ∷ 0 ∷ 0 ∷ 0 ∷ 0 ∷ 0 ∷ [] }

-- the constant term e, and no term for 0
abbrev pub constant_terms : Ext Frac → List (Exp × Ext Frac)
constant_terms e = if is_zero_element e then [] else (one_monomial, e) ∷ []

-- terms of a jet of this order in n variables over the algebra
pub record AreTermsOf (n order : ℕ) (a : Algebra) (ts : List (Exp × Ext Frac)) : Type 0 where
  pub rising : IsRising ts
  pub valid : IsTrue (list_all (is_term_of n order a) ts)

-- terms one after the other
abbrev pub terms_text : List (Exp × Ext Frac) → List ℕ
terms_text ts = flat_map (term_in new_names) ts

-- the monomial stands after the last of these terms
abbrev pub is_after_last : List (Exp × Ext Frac) → Exp → Bool
is_after_last [] m = true
is_after_last (t ∷ []) m = is_before t.0.e m.e
is_after_last (t ∷ u ∷ ts) m = is_after_last (u ∷ ts) m
