-- Changes over the rational numbers, over the algebra of the rational numbers.
use Rattle.std.specs.Prelude.{◌≡◌, ℕ, List, map}
use Rattle.std.specs.List.{All}
use Rattle.ring_theory.specs.Rational.{Rational}
use Rattle.ring_law.specs.declared.fraction.Frac.{Frac}
use Rattle.ring_law.specs.Fraction.{frac_value, rational_meaning}
use Rattle.ext_algebra.specs.declared.algebra.Algebra.TheVariants as algebras
use Rattle.ext_algebra.specs.declared.algebra.Ext.{Ext}
use Rattle.ext_algebra.specs.Algebra.{value_in, algebra_meaning, IsElement}
use Rattle.jet_law.specs.Terms.{poly_of}
use Rattle.jet_poly.specs.JetTerms.{JetTerms}
use Rattle.jet_subst.specs.Parts.{IsPart}
use Rattle.coord_change.specs.declared.change.Change.{Change}
use Rattle.coord_change.specs.Moves.{Move}
use Rattle.coord_change.specs.MoveJets.{IsMoveExactly}

-- jets over the algebra, in the variables and of the order of the change, with the polynomials of these parts
pub record AreLiftedParts (c : Change Frac) (given : List (JetTerms Frac)) (made : List (JetTerms (Ext Frac))) : Type 0 where
  pub jets : All (IsPart (algebra_meaning algebras.Rational) c.n) made
  pub orders : All (λ p. p.order ≡ c.order) made
  pub polynomials : map (λ h. poly_of c.n (value_in algebras.Rational) h.terms) made ≡ map (λ p. poly_of c.n frac_value p.terms) given

-- elements of the algebra with these values
pub record AreLiftedEntries (given : List Frac) (made : List (Ext Frac)) : Type 0 where
  pub elems : All (IsElement algebras.Rational) made
  pub values : map (value_in algebras.Rational) made ≡ map frac_value given

-- whatever move the change over the rational numbers is, the lifted one is that move over the algebra
abbrev pub IsLiftedChange : Change Frac → Change (Ext Frac) → Type 0
IsLiftedChange c lifted = (n k : ℕ) (move : Move n Rational) → IsMoveExactly rational_meaning n k move c → IsMoveExactly (algebra_meaning algebras.Rational) n k move lifted
