-- The chain over an algebra, step by step.
use Rattle.std.proofs.Common.{◌≡◌, ℕ, ◌<◌, ◌≤◌, List, [], map, sym, subst, ◌∙◌, arith}
use Rattle.ring_theory.specs.Rational.{Rational}
use Rattle.ring_law.specs.declared.fraction.Frac.{Frac}
use Rattle.ext_algebra.specs.declared.algebra.Algebra.{Algebra}
use Rattle.ext_algebra.specs.declared.algebra.Algebra.TheVariants as algebras
use Rattle.ext_algebra.specs.declared.algebra.Ext.{Ext}
use Rattle.ext_algebra.specs.Algebra.{Value, scalars, algebra_meaning}
use Rattle.poly_law.specs.Polynomials.{Polynomial, StartsAtIn}
use Rattle.jet_law.specs.Canonical.{jet}
use Rattle.jet_poly.specs.JetTerms.{JetTerms}
use Rattle.coord_change.specs.declared.change.Change.{Change}
use Rattle.coord_change.specs.Moves.{Move}
use Rattle.coord_change.specs.MoveJets.{IsJetFor}
use Rattle.coord_change.specs.Chains.{ChainParts, AreMoves, IsChain}
use Rattle.move_law.specs.Algebras.{lifted, lifted_move}
use Rattle.chain_lift.proofs.LiftedElements.{starts_at-lifted}
use Rattle.chain_lift.proofs.LiftedMoves.{germ-lifted, moves-lifted}

module _ (a : Algebra) (n last o : ℕ) (germ : Polynomial n Rational) (moves : List (Move n Rational)) (c : ChainParts (Ext Frac)) (q : IsChain (algebra_meaning algebras.Rational) n last germ o moves c) where
  -- the jet of the germ
  pub germ_here : (f : JetTerms (Ext Frac)) → f ≡ c.germ → IsJetFor (algebra_meaning a) n last (jet n (scalars a) last (lifted a germ)) f
  unfolding scalars
  germ_here f e = subst (IsJetFor (algebra_meaning a) n last (jet n (scalars a) last (lifted a germ))) (sym e) (germ-lifted a n last germ c.germ q.germ_is)

  -- it has no terms of degree below 2
  pub low_here : StartsAtIn n (scalars a).ops 2 (lifted a germ)
  unfolding scalars
  low_here = starts_at-lifted n a 2 germ q.low

  -- the lifted moves are those of the changes
  pub moves_here : (cs : List (Change (Ext Frac))) → cs ≡ c.moves → AreMoves (algebra_meaning a) n last (map (lifted_move a) moves) cs
  moves_here cs e = subst (AreMoves (algebra_meaning a) n last (map (lifted_move a) moves)) (sym e) (moves-lifted a n last moves c.moves q.moves_are)
