-- The moves of changes, one after the other, and a chain that takes them.
use Rattle.std.proofs.Common.{◌≡◌, ℕ, zero, suc, ◌+◌, ◌<◌, ◌≤◌, List, [], ◌∷◌, ◌++◌, length, get_or, take, take_all, refl, sym, ap, subst, ◌∙◌, arith}
use Rattle.std.proofs.lemmas.List.{take_more}
use Rattle.ring_theory.specs.Scalars.{Meaning}
use Rattle.poly_law.specs.Polynomials.{Polynomial}
use Rattle.jet_law.specs.Canonical.{jet}
use Rattle.jet_subst.proofs.PowerLemmas.{any_default}
use Rattle.coord_change.specs.declared.change.Change.{Change}
use Rattle.coord_change.specs.Moves.{Move}
use Rattle.coord_change.specs.Carries.{carry_all}
use Rattle.coord_change.specs.CarryHeights.{IsCarryHigh, IsCarryAllHigh}
use Rattle.coord_change.specs.Chains.{ChainParts, IsMoveFrom, AreMoves, IsChain}
use Rattle.coord_change.proofs.ChainLemmas.{high_at, moves_count}

module _ {E V : Type 0} (m : Meaning E V) (n last : ℕ) where
  -- the change of number i is that of the move of number i
  pub move_at : (i : ℕ) (moves : List (Move n V)) (cs : List (Change E)) (c : Change E) → AreMoves m n last moves cs → i < length cs → c ≡ get_or cs i c → IsMoveFrom m n last (get_or moves i []) c
  move_at i [] [] c h inside e = absurd (omega arith)
  move_at i [] (d ∷ cs) c h inside e = absurd h
  move_at i (move ∷ moves) [] c h inside e = absurd h
  move_at zero (move ∷ moves) (d ∷ cs) c h inside e = subst (IsMoveFrom m n last move) (sym e) h.0
  move_at (suc i) (move ∷ moves) (d ∷ cs) c h inside e = move_at i moves cs c h.1 (omega arith) e

  module _ (g : Polynomial n V) (o i : ℕ) (moves : List (Move n V)) (cs : List (Change E)) (h : AreMoves m n last moves cs) (inside : i < length cs) where
    below : i < length moves
    below = let e = moves_count m n last moves cs h in omega arith

    -- with the next move
    pub taken : (c : ChainParts E) → IsChain m n last g o (take i moves ++ get_or moves i [] ∷ []) c → IsChain m n last g o (take (i + 1) moves) c
    taken c q = subst (λ ms. IsChain m n last g o ms c) (sym (take_more moves i [] below)) q

    -- a substitution on the way is high
    pub high_before : IsCarryHigh n m.scalars o (get_or moves i []) (carry_all n m.scalars o (take i moves) (jet n m.scalars o g)) → IsCarryAllHigh n m.scalars o moves (jet n m.scalars o g)
    high_before high = high_at n m.scalars o i moves (get_or moves i []) below (any_default moves i [] (get_or moves i []) below) (jet n m.scalars o g) high

  -- all moves
  pub all_taken : (g : Polynomial n V) (o i : ℕ) (moves : List (Move n V)) (cs : List (Change E)) (c : ChainParts E) → AreMoves m n last moves cs → length cs ≤ i → IsChain m n last g o (take i moves) c → IsChain m n last g o moves c
  all_taken g o i moves cs c h over q = subst (λ ms. IsChain m n last g o ms c) (take_all i moves (let e = moves_count m n last moves cs h in omega arith)) q
