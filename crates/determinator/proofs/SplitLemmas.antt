-- The beginning of an order.
use Rattle.std.proofs.Common.{◌≡◌, ◌≢◌, ℕ, suc, inl, List, [], ◌∷◌, ◌++◌, sym, ◌∙◌, subst, arith}
use Rattle.std.specs.List.{AllByRecursion}
use Rattle.std.proofs.lemmas.List.{length-append}
use Rattle.ring_theory.specs.Rational.{Rational}
use Rattle.ring_theory.specs.Scalars.{Meaning}
use Rattle.ext_algebra.specs.declared.algebra.Algebra.{Algebra}
use Rattle.ext_algebra.specs.declared.algebra.Ext.{Ext}
use Rattle.ext_algebra.specs.Algebra.{Value, scalars, algebra_meaning, IsFieldAlgebra}
use Rattle.ext_algebra.specs.AlgebraLaws.{algebra_scalar_laws}
use Rattle.ring_law.specs.declared.fraction.Frac.{Frac}
use Rattle.poly_law.specs.Polynomials.{Polynomial, SameToIn}
use Rattle.jet_law.specs.Terms.{poly_of}
use Rattle.jet_law.specs.Canonical.{jet}
use Rattle.jet_poly.specs.JetTerms.{JetTerms}
use Rattle.coord_change.specs.declared.change.Change.{Change}
use Rattle.coord_change.specs.Moves.{Move}
use Rattle.coord_change.specs.CarryHeights.{IsCarryHigh, IsCarryAllHigh}
use Rattle.cert_text.specs.declared.report.Phase.TheVariants as phases
use Rattle.move_law.specs.Work as work
use Rattle.move_law.specs.Work.{Work, IsWorkHigh, carrying_work}
use Rattle.move_law.specs.Algebras.{lifted}
use Rattle.move_law.specs.Split.{split_move, split_work, squares_in}
use Rattle.coord_change.specs.MoveJets.{IsJetFor, IsMoveExactly}
use Rattle.coord_change.specs.Chains.{ChainParts, carried_in, IsChain, IsStanding}
use Rattle.split_lemma.specs.Splits.{AnyHigh}
use Rattle.plan_law.specs.Pieces.{HasHigh}
use Rattle.plan_law.specs.Run.{brought, splitting, split_at, split_pieces}
use Rattle.determinator.specs.Places.{IsPlace, IsPlaced}
use Rattle.split_lemma.specs.SplitForms.{IsSplitUpTo, HasSquares}
use Rattle.determinator.proofs.Pieces.{among_left, among_right, high_over, carrying_high}
use Rattle.determinator.proofs.Chained
use Rattle.determinator.proofs.Chained.{carry_all_append}
use Rattle.determinator.proofs.Laws

-- what holds of a jet, holds of its polynomial
pub at_jet : {E V : Type 0} (m : Meaning E V) (n k : ℕ) (p : Polynomial n V) (f : JetTerms E) → IsJetFor m n k p f → (P : (z : ℕ) → ℕ → Polynomial z V → Type 0)
    → P f.n f.order (poly_of f.n m.value f.terms) → P n k p
at_jet m n k p f h P q =
    subst (λ w. P n k w) h.polynomial (subst (λ j. P n j (poly_of n m.value f.terms)) h.order (subst (λ z. P z f.order (poly_of z m.value f.terms)) h.variables q))

-- a chain at some place stands over the algebra
pub standing_of : (c : ℕ) (a : Algebra) (chain : ChainParts (Ext Frac)) → IsPlaced c a chain → IsStanding (algebra_meaning a) chain
standing_of c a chain h = record { n = h.n; last = h.last; germ = lifted a h.germ; o = h.o; moves = h.moves; is = h.is.chain_is }

-- a move of the split lemma is a move of the chain
pub chain_move : {E V : Type 0} (m : Meaning E V) (n k : ℕ) (move : Move n V) (c : Change E) → IsMoveExactly m n k move c → IsMoveExactly m n k move c
chain_move m n k move c h = record { change = h.change; variables = h.variables; order = h.order; parts = h.parts }

module _ (n c last : ℕ) (germ : Polynomial n Rational) (a : Algebra) (o : ℕ) (moves : List (Move n (Value a))) where
  abbrev Highs : List (Work n (Value a)) → Type 0
  Highs = AnyHigh n (scalars a)

  abbrev pub reached : Polynomial n (Value a)
  reached = brought n c germ a (suc o) moves

  abbrev pub move : Move n (Value a)
  move = splitting n c germ a (suc o) reached

  abbrev growing : List (Work n (Value a))
  growing = carrying_work n (scalars a) (suc o) moves (jet n (scalars a) (suc o) (lifted a germ))

  abbrev parting : List (Work n (Value a))
  parting = split_work n (scalars a) c (suc o) (squares_in n (scalars a) c reached) reached

  abbrev pushing : List (Work n (Value a))
  pushing = work.carried (suc o) move reached ∷ []

  pub high_growing : IsCarryAllHigh n (scalars a) (suc o) moves (jet n (scalars a) (suc o) (lifted a germ)) → HasHigh phases.Split (split_pieces n c germ a (suc o) moves)
  high_growing h =
      high_over phases.Split a (growing ++ parting ++ pushing)
      (among_left (IsWorkHigh n (scalars a)) (growing ++ parting) pushing
      (among_left (IsWorkHigh n (scalars a)) growing parting (carrying_high n (scalars a) (suc o) moves (jet n (scalars a) (suc o) (lifted a germ)) h)))

  high_parting : Highs parting → HasHigh phases.Split (split_pieces n c germ a (suc o) moves)
  high_parting h =
      high_over phases.Split a (growing ++ parting ++ pushing)
      (among_left (IsWorkHigh n (scalars a)) (growing ++ parting) pushing (among_right (IsWorkHigh n (scalars a)) growing parting h))

  pub high_pushing : IsCarryHigh n (scalars a) (suc o) move reached → HasHigh phases.Split (split_pieces n c germ a (suc o) moves)
  high_pushing h =
      high_over phases.Split a (growing ++ parting ++ pushing)
      (among_right (IsWorkHigh n (scalars a)) (growing ++ parting) pushing (inl h))

  -- the jet of a chain that has grown
  pub grown_jet : (chain : ChainParts (Ext Frac)) → IsChain (algebra_meaning a) n last (lifted a germ) (suc o) moves chain → (f : JetTerms (Ext Frac)) → f ≡ carried_in chain → IsJetFor (algebra_meaning a) n (suc o) reached f
  grown_jet chain h f e = subst (IsJetFor (algebra_meaning a) n (suc o) reached) (sym e) (Chained.carried_is (algebra_meaning a) n last (lifted a germ) (suc o) moves chain h)

  -- where the jet was split up to order o, so is that of the next order, before its split move
  module _ (old : ChainParts (Ext Frac)) (place : IsPlace n c last germ a o moves old) where
    agrees : SameToIn n (scalars a).ops o reached (brought n c germ a o moves)
    agrees = Chained.next_agrees (algebra_meaning a) n last (lifted a germ) o moves old place.chain_is (algebra_scalar_laws a)

    -- the coefficients of the squares are the same
    pub units : HasSquares n (scalars a) c reached
    units =
        subst (AllByRecursion (λ v. v ≢ (scalars a).ops.zero))
        (sym (Laws.squares_agree a n c reached (brought n c germ a o moves) (λ m d. agrees m (let two = place.chain_is.order_at_least_2 in omega arith)))) place.squares

    split_so_far : IsSplitUpTo n (scalars a) c o reached
    split_so_far m w le lt some apart d = agrees m d ∙ place.split m w le lt some apart d

    pub placed_next : IsFieldAlgebra a → (new : ChainParts (Ext Frac)) → IsChain (algebra_meaning a) n last (lifted a germ) (suc o) (moves ++ move ∷ []) new
        → IsPlace n c last germ a (suc o) (split_at n c germ a (suc o) moves).moves new
    placed_next field new next =
        let two = place.chain_is.order_at_least_2 in
        let low = Chained.carried_low (algebra_meaning a) n last (lifted a germ) o moves old place.chain_is (algebra_scalar_laws a) (suc o) (omega arith) in
        let here = sym (carry_all_append n (scalars a) (suc o) moves move (jet n (scalars a) (suc o) (lifted a germ))) in
        record {
          corank = place.corank;
          some = (let l = length-append moves (move ∷ []) in omega arith);
          chain_is = next;
          squares = subst (HasSquares n (scalars a) c) here
              (subst (AllByRecursion (λ v. v ≢ (scalars a).ops.zero)) (sym (Laws.split_keeps a field n c o place.corank two reached low).squares) units);
          split = subst (IsSplitUpTo n (scalars a) c (suc o)) here (Laws.split_splits a field n c o two reached low split_so_far units);
        }

  -- the split move of the code is that of the plan
  pub split_is : (f : JetTerms (Ext Frac)) (qs : List (Value a)) (change : Change (Ext Frac)) → IsJetFor (algebra_meaning a) n (suc o) reached f
      → qs ≡ squares_in f.n (scalars a) c (poly_of f.n (algebra_meaning a).value f.terms)
      → IsMoveExactly (algebra_meaning a) f.n 16 (split_move f.n (scalars a) c f.order qs (poly_of f.n (algebra_meaning a).value f.terms)) change → IsMoveExactly (algebra_meaning a) n 16 move change
  split_is f qs change h e q =
      chain_move (algebra_meaning a) n 16 move change
      (at_jet (algebra_meaning a) n (suc o) reached f h (λ z k w. IsMoveExactly (algebra_meaning a) z 16 (split_move z (scalars a) c k (squares_in z (scalars a) c w) w) change)
      (subst (λ (vs : List (Value a)). IsMoveExactly (algebra_meaning a) f.n 16 (split_move f.n (scalars a) c f.order vs (poly_of f.n (algebra_meaning a).value f.terms)) change) e q))

  pub split_high : (f : JetTerms (Ext Frac)) (qs : List (Value a)) → IsJetFor (algebra_meaning a) n (suc o) reached f
      → qs ≡ squares_in f.n (scalars a) c (poly_of f.n (algebra_meaning a).value f.terms)
      → AnyHigh f.n (scalars a) (split_work f.n (scalars a) c f.order qs (poly_of f.n (algebra_meaning a).value f.terms)) → HasHigh phases.Split (split_pieces n c germ a (suc o) moves)
  split_high f qs h e q =
      high_parting
      (at_jet (algebra_meaning a) n (suc o) reached f h (λ z k w. AnyHigh z (scalars a) (split_work z (scalars a) c k (squares_in z (scalars a) c w) w))
      (subst (λ (vs : List (Value a)). AnyHigh f.n (scalars a) (split_work f.n (scalars a) c f.order vs (poly_of f.n (algebra_meaning a).value f.terms))) e q))
