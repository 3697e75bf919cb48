-- What a report carries of a chain.
use Rattle.std.specs.Prelude.{◌≡◌, ℕ, ◌<◌, ◌≤◌, false, IsTrue, get_or, List}
use Rattle.std.specs.List.{All}
use Rattle.ring_law.specs.declared.fraction.Frac.{Frac}
use Rattle.ext_algebra.specs.declared.algebra.Algebra.{Algebra}
use Rattle.ext_algebra.specs.declared.algebra.Ext.{Ext}
use Rattle.ext_algebra.specs.Algebra.{Value, scalars, ops, algebra_meaning}
use Rattle.poly_law.specs.Exps.{degree}
use Rattle.poly_law.specs.ExpList.{ExpList, exps}
use Rattle.poly_law.specs.Polynomials.{Polynomial, coefficient_in}
use Rattle.coord_change.specs.declared.change.Change.{Change}
use Rattle.coord_change.specs.Moves.{Move}
use Rattle.coord_change.specs.Carries.{composite}
use Rattle.jet_poly.specs.JetTerms.{JetTerms}
use Rattle.normal_forms.specs.declared.pattern.Pattern.{Pattern}
use Rattle.normal_forms.specs.Patterns.{has_corank, order_of, admits}
use Rattle.poly_text.specs.declared.name.Name.{Name}
use Rattle.cert_text.specs.declared.report.Carried as carried_type
use Rattle.coord_change.specs.Chains.{ChainParts, carried_in}
use Rattle.coord_change.specs.MoveJets.{IsMoveExactly}
use Rattle.determinator.specs.Jets.{IsListed}

-- a germ in new variables with these names, by a change and a jet
abbrev pub with_parts : List Name → Algebra → ℕ → ℕ → Change (Ext Frac) → JetTerms (Ext Frac) → carried_type.Carried
with_parts names a o c change jet = record { names = names; algebra = a; order = o; corank = c; change = change; jet = jet }

-- it is the jet of the chain of order o with the composite of these moves
pub record IsCarriedFrom (names : List Name) (n c : ℕ) (a : Algebra) (o : ℕ) (moves : List (Move n (Value a))) (chain : ChainParts (Ext Frac)) (r : carried_type.Carried) : Type 0 where
  pub change : Change (Ext Frac)
  pub change_is : IsMoveExactly (algebra_meaning a) n o (composite n (scalars a) o moves) change
  pub parts_listed : All IsListed change.parts
  pub jet_listed : IsListed (carried_in chain)
  pub is : r ≡ with_parts names a o c change (carried_in chain)

-- f, known up to degree o, is past the list by this pattern: the pattern is one of this corank and order, and no other monomial in the first c variables than
-- those that it admits has a term of degree at most o
pub record IsPastList (n c o : ℕ) (a : Algebra) (pattern : Pattern) (f : Polynomial n (Value a)) : Type 0 where
  pub corank : IsTrue (has_corank pattern c)
  pub order : o ≡ order_of pattern
  pub admitted : (m : ExpList n) → ((i : ℕ) → c ≤ i → i < n → (exps n).at m i ≡ 0) → degree (exps n) m ≤ o
      → admits pattern (get_or m.entries 0 0) (get_or m.entries 1 0) (get_or m.entries 2 0) ≡ false → coefficient_in n (ops a) f m ≡ (ops a).zero
