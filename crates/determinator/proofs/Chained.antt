-- What a chain carries: its moves have no constant terms, and its last jet is what all moves make of the germ.
use Rattle.std.proofs.Common.{◌≡◌, ℕ, zero, suc, ◌<◌, ◌≤◌, List, [], ◌∷◌, ◌++◌, length, take_all, get_or, map, refl, sym, ap, subst, ◌∙◌, arith}
use Rattle.std.specs.List.{AllByRecursion}
use Rattle.ring_theory.specs.Scalars.{Scalars, ScalarLaws, Meaning}
use Rattle.ring_theory.proofs.ValueSet.{values_are_set}
use Rattle.poly_law.specs.ExpList.{exps}
use Rattle.poly_law.specs.Polynomials.{Polynomial, SameToIn, StartsAtIn, HaveNoConstant}
use Rattle.poly_law.proofs.ExpLists.{exps_are}
use Rattle.poly_law.proofs.SubstOrder
use Rattle.jet_law.specs.Canonical.{jet}
use Rattle.jet_law.specs.Terms.{poly_of}
use Rattle.jet_poly.specs.JetTerms.{JetTerms}
use Rattle.jet_subst.specs.Parts.{jet_at, part_of}
use Rattle.germ_law.proofs.Canonical
use Rattle.coord_change.specs.declared.change.Change.{Change}
use Rattle.coord_change.specs.Moves.{Move, put}
use Rattle.coord_change.specs.Carries.{carry, carry_all}
use Rattle.carry_law.proofs.CarryLemmas
use Rattle.coord_change.specs.Chains.{ChainParts, carried_in, AreMoves, IsChain}
use Rattle.coord_change.specs.MoveJets.{IsJetFor, IsMoveExactly}

pub carry_all_append : {V : Type 0} (n : ℕ) (s : Scalars V) (k : ℕ) (ms : List (Move n V)) (m : Move n V) (f : Polynomial n V)
    → carry_all n s k (ms ++ m ∷ []) f ≡ carry n s k m (carry_all n s k ms f)
carry_all_append n s k [] m f = refl
carry_all_append n s k (m' ∷ ms) m f = carry_all_append n s k ms m (carry n s k m' f)

module _ {E V : Type 0} (m : Meaning E V) where
  -- part i of a change is what its move puts for variable i
  pub part_is_put : (n : ℕ) (parts : List (JetTerms E)) (i : ℕ) → get_or (map (λ p. poly_of n m.value p.terms) parts) i [] ≡ part_of n m.value parts i
  part_is_put n [] i = refl
  part_is_put n (p ∷ ps) zero = refl
  part_is_put n (p ∷ ps) (suc i) = part_is_put n ps i

  -- no move has a constant term
  pub move_low : (n k : ℕ) (move : Move n V) (c : Change E) → IsMoveExactly m n k move c → HaveNoConstant n m.scalars.ops n (put n m.scalars move)
  move_low n k move c h i inside =
      let here : StartsAtIn n m.scalars.ops 1 (part_of n m.value c.parts i) =
      subst (λ z. StartsAtIn z m.scalars.ops 1 (part_of z m.value c.parts i)) h.variables (h.change.invertible.no_constant i (subst (λ z. i < z) (sym h.variables) inside)) in
      subst (StartsAtIn n m.scalars.ops 1) (sym (part_is_put n c.parts i) ∙ ap (λ z. get_or z i []) h.parts) here

  pub moves_low : (n last : ℕ) (moves : List (Move n V)) (cs : List (Change E)) → AreMoves m n last moves cs
      → AllByRecursion (λ move. HaveNoConstant n m.scalars.ops n (put n m.scalars move)) moves
  moves_low n last [] [] h = tt
  moves_low n last [] (c ∷ cs) h = absurd h
  moves_low n last (move ∷ moves) [] h = absurd h
  moves_low n last (move ∷ moves) (c ∷ cs) h = (move_low n h.0.order move c h.0.exactly, moves_low n last moves cs h.1)

  moves_count : (n last : ℕ) (moves : List (Move n V)) (cs : List (Change E)) → AreMoves m n last moves cs → length cs ≡ length moves
  moves_count n last [] [] h = refl
  moves_count n last [] (c ∷ cs) h = absurd h
  moves_count n last (move ∷ moves) [] h = absurd h
  moves_count n last (move ∷ moves) (c ∷ cs) h = ap suc (moves_count n last moves cs h.1)

  module _ (n last : ℕ) (germ : Polynomial n V) (o : ℕ) (moves : List (Move n V)) (c : ChainParts E) (h : IsChain m n last germ o moves c) where
    -- the last jet
    pub carried_is : IsJetFor m n o (carry_all n m.scalars o moves (jet n m.scalars o germ)) (carried_in c)
    carried_is =
        subst (λ i. IsJetFor m n o (carry_all n m.scalars o moves (jet n m.scalars o germ)) (jet_at c.jets i)) (sym (moves_count n last moves c.moves h.moves_are))
        (subst (λ ms. IsJetFor m n o (carry_all n m.scalars o ms (jet n m.scalars o germ)) (jet_at c.jets (length moves))) (take_all (length moves) moves (omega arith)) (h.jets_are (length moves) (omega arith)))

    pub low_moves : AllByRecursion (λ move. HaveNoConstant n m.scalars.ops n (put n m.scalars move)) moves
    low_moves = moves_low n last moves c.moves h.moves_are

    -- it has no terms of degree below 2, at each order
    pub carried_low : ScalarLaws m.scalars → (k : ℕ) → 1 ≤ k → StartsAtIn n m.scalars.ops 2 (carry_all n m.scalars k moves (jet n m.scalars k germ))
    carried_low l k le = all_low moves low_moves (jet n m.scalars k germ) (λ a d. Canonical.jet_same_to n m.scalars l k germ a (omega arith) ∙ h.low a d)
      where
        one_low : (mv : Move n V) → HaveNoConstant n m.scalars.ops n (put n m.scalars mv) → (f : Polynomial n V) → StartsAtIn n m.scalars.ops 2 f → StartsAtIn n m.scalars.ops 2 (carry n m.scalars k mv f)
        one_low mv low f q a d =
            CarryLemmas.carry_same_to n m.scalars l k mv f a (omega arith)
            ∙ SubstOrder.starts_subst (exps n) (exps_are n) (exps n) (exps_are n) m.scalars.ops l.ring (values_are_set m.scalars l) (put n m.scalars mv) low 2 f q a d

        all_low : (ms : List (Move n V)) → AllByRecursion (λ mv. HaveNoConstant n m.scalars.ops n (put n m.scalars mv)) ms → (f : Polynomial n V) → StartsAtIn n m.scalars.ops 2 f
            → StartsAtIn n m.scalars.ops 2 (carry_all n m.scalars k ms f)
        all_low [] low f q = q
        all_low (mv ∷ ms) low f q = all_low ms low.1 (carry n m.scalars k mv f) (one_low mv low.0 f q)

    -- the jet of the next order agrees with it, up to its order
    pub next_agrees : ScalarLaws m.scalars → SameToIn n m.scalars.ops o (carry_all n m.scalars (suc o) moves (jet n m.scalars (suc o) germ)) (carry_all n m.scalars o moves (jet n m.scalars o germ))
    next_agrees l =
        CarryLemmas.carry_all_same n m.scalars l o (suc o) (omega arith) moves low_moves (jet n m.scalars (suc o) germ) (jet n m.scalars o germ) (CarryLemmas.jets_same n m.scalars l o (suc o) (omega arith) germ)
