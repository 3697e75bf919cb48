-- The fields of a report's lines, and where each ends.
use Rattle.std.specs.Prelude.{◌≡◌, ℕ, suc, false, ◌<◌, ◌≤◌, ◌^◌, ℤ, pos, negsuc, List, [], ◌∷◌, length, ◌⊎◌}
use Rattle.poly_text.specs.Polynomials.{is_one}
use Rattle.std.specs.List.{AllByRecursion, flat_map}
use Rattle.poly_text.specs.Numbers.{Piece, components, numbers, piece_text, without_plus, without_zeros}
use Rattle.ring_law.specs.declared.fraction.Frac.{Frac}
use Rattle.ext_algebra.specs.declared.algebra.Ext.{Ext}
use Rattle.mono_exp.specs.declared.exponent.Exp.{Exp}
use Rattle.jet_poly.specs.JetTerms.{JetTerms}
use Rattle.determinacy.specs.declared.row.MatherRow.{MatherRow}
use Rattle.milnor_alg.specs.declared.quotient.TableRow.{TableRow}

-- the fraction 0
abbrev pub zero_fraction : Frac
zero_fraction = record { num = pos 0; den = pos 1 }

-- an element of an algebra over the rational numbers
abbrev pub Element : Type 0
Element = Ext Frac

-- a monomial with its coefficient
abbrev pub Term : Type 0
Term = Exp × Element

-- a unit with its inverse
abbrev pub UnitPair : Type 0
UnitPair = Element × Element

-- the absolute value
abbrev pub size : ℤ → ℕ
size (pos n) = n
size (negsuc n) = suc n

-- at most 64 digits
pub record IsSmall (q : Frac) : Type 0 where
  pub num : size q.num < 10 ^ 64
  pub den : size q.den < 10 ^ 64

-- neither a digit nor a slash
abbrev pub EndsFraction : ℕ → Type 0
EndsFraction b = ((48 ≤ b) × (b ≤ 57) → ⊥) × (b ≡ 47 → ⊥)

-- what may stand in a body, and what ends it: a sign, a parenthesis, a blank or a newline
abbrev pub IsInside : ℕ → Type 0
IsInside b = (46 ≤ b) ⊎ (b ≡ 42)

abbrev pub EndsPiece : ℕ → Type 0
EndsPiece b = (b < 46) × (b ≡ 42 → ⊥)

-- empty, or a star and a letter at the front
abbrev pub IsBody : List ℕ → Type 0
IsBody [] = Unit {0}
IsBody (star ∷ []) = ⊥
IsBody (star ∷ c ∷ body) = (star ≡ 42) × (97 ≤ c) × AllByRecursion IsInside body

-- what ends a sum: a parenthesis, a blank or a newline, and no sign
abbrev pub EndsSum : ℕ → Type 0
EndsSum b = b ≤ 41

-- a number other than 0, and its body
pub record IsPiece (p : Piece) : Type 0 where
  pub small : IsSmall p.0
  pub nonzero : p.0.num ≡ pos 0 → ⊥
  pub body : IsBody p.1

-- the sum of pieces
abbrev pub sum_text : List Piece → List ℕ
sum_text ps = without_plus (flat_map piece_text ps)

-- a fraction of at most 64 digits, with one form of 0
pub record IsComponent (q : Frac) : Type 0 where
  pub small : IsSmall q
  pub zero_form : q.num ≡ pos 0 → q.den ≡ pos 1

-- an element with such numbers
abbrev pub IsSmallElement : Element → Type 0
IsSmallElement e = AllByRecursion IsComponent (numbers e)

-- a line of units
pub record IsUnitLine (u : UnitPair) : Type 0 where
  pub value : IsSmallElement u.0
  pub inverse : IsSmallElement u.1

-- eight exponents
pub record IsMonomial (m : Exp) : Type 0 where
  pub eight : length m.e ≡ 8
  pub fit : AllByRecursion (λ e. e < 256) m.e

-- what ends a monomial: no digit, no caret, no star
abbrev pub EndsMonomial : ℕ → Type 0
EndsMonomial b = ((48 ≤ b) × (b ≤ 57) → ⊥) × (b ≡ 94 → ⊥) × (b ≡ 42 → ⊥)

-- a term: its coefficient is not 0
pub record IsTerm (t : Term) : Type 0 where
  pub coefficient : IsSmallElement t.1
  pub some : without_zeros (components t.1) ≡ [] → ⊥
  pub monomial : IsMonomial t.0

-- a term that is not constant
pub record IsHigher (t : Term) : Type 0 where
  pub term : IsTerm t
  pub higher : is_one t.0 ≡ false

-- only the first term may be constant
abbrev pub IsPolynomial : List Term → Type 0
IsPolynomial [] = Unit {0}
IsPolynomial (t ∷ ts) = IsTerm t × AllByRecursion IsHigher ts

-- a jet in n variables up to the order k
pub record IsReadableJet (n k : ℕ) (f : JetTerms Element) : Type 0 where
  pub variables : f.n ≡ n
  pub order : f.order ≡ k
  pub polynomial : IsPolynomial f.terms

-- so many jets in n variables up to the order k
pub record AreJets (count n k : ℕ) (fs : List (JetTerms Element)) : Type 0 where
  pub long : length fs ≡ count
  pub each : AllByRecursion (IsReadableJet n k) fs

-- a row of Mather's condition, with c multipliers
pub record IsRow (c k : ℕ) (row : MatherRow Element) : Type 0 where
  pub monomial : IsMonomial row.monomial
  pub multipliers : AreJets c c k row.multipliers

-- a row of the table, with so many values and c multipliers
pub record IsTableLine (size c k : ℕ) (row : TableRow Element) : Type 0 where
  pub monomial : IsMonomial row.monomial
  pub long : length row.values ≡ size
  pub values : AllByRecursion IsSmallElement row.values
  pub multipliers : AreJets c c k row.multipliers

-- a value of a functional
pub record IsValue (v : Term) : Type 0 where
  pub monomial : IsMonomial v.0
  pub value : IsSmallElement v.1
