-- Jets and changes of the program whose polynomials are given ones.
use Rattle.std.specs.Prelude.{◌≡◌, ℕ}
use Rattle.ring_theory.specs.Scalars.{Meaning}
use Rattle.poly_law.specs.Polynomials.{Polynomial}
use Rattle.jet_law.specs.Terms.{poly_of}
use Rattle.jet_poly.specs.JetTerms.{JetTerms}
use Rattle.jet_poly.specs.Jets.{IsJet}
use Rattle.coord_change.specs.declared.change.Change.{Change}
use Rattle.coord_change.specs.Changes.{IsChange}
use Rattle.coord_change.specs.Moves.{Move, move_from}

module _ {E V : Type 0} (m : Meaning E V) (n : ℕ) where
  -- f is a jet of order k in n variables, and its polynomial is p
  pub record IsJetFor (k : ℕ) (p : Polynomial n V) (f : JetTerms E) : Type 0 where
    pub jet : IsJet m f
    pub variables : f.n ≡ n
    pub order : f.order ≡ k
    pub polynomial : poly_of n m.value f.terms ≡ p

  -- the change is one in n variables of order k, with the inverse of its linear part, and its parts are the polynomials of the move
  pub record IsMoveExactly (k : ℕ) (move : Move n V) (c : Change E) : Type 0 where
    pub change : IsChange m c
    pub variables : c.n ≡ n
    pub order : c.order ≡ k
    pub parts : move_from m n c ≡ move
