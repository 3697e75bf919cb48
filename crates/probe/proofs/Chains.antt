-- The chains of a line: at the beginning, with one move more, and at the next order.
use Rattle.std.proofs.Common.{◌≡◌, ℕ, suc, ◌≤◌, List, ◌∷◌, [], ◌++◌, map, refl, sym, ◌∙◌, arith}
use Rattle.ring_theory.specs.Scalars.{ScalarLaws, Meaning}
use Rattle.ring_law.specs.declared.fraction.Frac.{Frac}
use Rattle.ext_algebra.specs.declared.algebra.Algebra.{Algebra}
use Rattle.ext_algebra.specs.declared.algebra.Algebra.TheVariants as algebras
use Rattle.ext_algebra.specs.declared.algebra.Ext.{Ext}
use Rattle.ext_algebra.specs.Algebra.{algebra_meaning}
use Rattle.poly_law.specs.Polynomials.{Polynomial, StartsAtIn}
use Rattle.jet_law.specs.Canonical.{jet}
use Rattle.jet_poly.specs.JetTerms.{JetTerms, IsRising}
use Rattle.jet_poly.specs.Jets.{IsJet, polynomial_of}
use Rattle.coord_change.specs.declared.change.Change.{Change}
use Rattle.coord_change.specs.Changes.{IsChange}
use Rattle.coord_change.specs.Moves.{Move, move_from}
use Rattle.coord_change.specs.MoveJets.{IsJetFor, IsMoveExactly}
use Rattle.coord_change.specs.Chains.{ChainParts, IsChain}
use Rattle.coord_change.proofs.Canonicals.{is_jet_for}
use Rattle.move_law.specs.Algebras.{lifted, lifted_move}
use Rattle.chain_lift.specs.Lifted.{IsLiftedChain}
use Rattle.probe.specs.Chained.{IsChained}

module _ {E V : Type 0} (m : Meaning E V) where
  -- a jet is the one of its polynomial, up to its order
  own_jet : ScalarLaws m.scalars → (f : JetTerms E) → IsJet m f → IsRising f.terms → IsJetFor m f.n f.order (jet f.n m.scalars f.order (polynomial_of m f)) f
  own_jet l f j rises = is_jet_for m f.n l f.order f (polynomial_of m f) j refl refl rises (λ a d. refl)

  -- a chain over a jet that has no terms of degree below 2
  pub begun : ScalarLaws m.scalars → (f : JetTerms E) → IsJet m f → IsRising f.terms → StartsAtIn f.n m.scalars.ops 2 (polynomial_of m f) → (c : ChainParts E)
      → ((n last : ℕ) (g : Polynomial n V) → StartsAtIn n m.scalars.ops 2 g → IsJetFor m n last (jet n m.scalars last g) f → IsChain m n last g 2 [] c)
      → (n order : ℕ) → f.n ≡ n → f.order ≡ order → IsChained m n order c
  begun l f j rises low c made n order same_n same_order =
      let q = made f.n f.order (polynomial_of m f) low (own_jet l f j rises) in
      record {
        stands = record { n = f.n; last = f.order; germ = polynomial_of m f; o = 2; moves = []; is = q };
        variables = q.germ_is.variables ∙ same_n;
        last = q.germ_is.order ∙ same_order;
      }

  module _ (n order : ℕ) (old new : ChainParts E) (h : IsChained m n order old) where
    same_variables : h.stands.n ≡ n
    same_variables = sym h.stands.is.germ_is.variables ∙ h.variables

    pub same_last : h.stands.last ≡ order
    same_last = sym h.stands.is.germ_is.order ∙ h.last

    -- another chain over the germ
    next : (o : ℕ) (moves : List (Move h.stands.n V)) → IsChain m h.stands.n h.stands.last h.stands.germ o moves new → IsChained m n order new
    next o moves q = record {
      stands = record { n = h.stands.n; last = h.stands.last; germ = h.stands.germ; o = o; moves = moves; is = q };
      variables = q.germ_is.variables ∙ same_variables;
      last = q.germ_is.order ∙ same_last;
    }

    -- at the next order
    pub grown : ((n last o : ℕ) (g : Polynomial n V) (moves : List (Move n V)) → IsChain m n last g o moves old → IsChain m n last g (suc o) moves new) → IsChained m n order new
    grown made = let s = h.stands in next (suc s.o) s.moves (made s.n s.last s.o s.germ s.moves s.is)

    -- with one move more
    pub pushed : (c : Change E) → IsChange m c → c.n ≡ n → c.order ≡ order
        → ((n last o k : ℕ) (g : Polynomial n V) (moves : List (Move n V)) (move : Move n V) → IsChain m n last g o moves old → last ≤ k → IsMoveExactly m n k move c → IsChain m n last g o (moves ++ move ∷ []) new)
        → IsChained m n order new
    pushed c change variables last made =
        let s = h.stands in
        let low : s.last ≤ c.order = let e = same_last in omega arith in
        next s.o (s.moves ++ move_from m s.n c ∷ [])
        (made s.n s.last s.o c.order s.germ s.moves (move_from m s.n c) s.is low (record { change = change; variables = variables ∙ sym same_variables; order = refl; parts = refl }))

-- the chain over an algebra by the germ and the moves of one over the rational numbers
pub lifted_chain : (a : Algebra) (n order : ℕ) (c made : ChainParts (Ext Frac)) → IsChained (algebra_meaning algebras.Rational) n order c → IsLiftedChain a c made → IsChained (algebra_meaning a) n order made
lifted_chain a n order c made h is_lifted =
    let s = h.stands in
    let q = is_lifted s.n s.last s.o s.germ s.moves s.is in
    record {
      stands = record { n = s.n; last = s.last; germ = lifted a s.germ; o = s.o; moves = map (lifted_move a) s.moves; is = q };
      variables = q.germ_is.variables ∙ sym s.is.germ_is.variables ∙ h.variables;
      last = q.germ_is.order ∙ sym s.is.germ_is.order ∙ h.last;
    }
