-- Carrying a germ by moves up to two orders.
use Rattle.std.specs.Prelude.{ℕ, ◌≤◌, List, length, All}
use Rattle.ring_theory.specs.Scalars.{Scalars, Meaning}
use Rattle.poly_law.specs.Polynomials.{Polynomial, SameToIn, HaveNoConstant}
use Rattle.jet_law.specs.Terms.{poly_of}
use Rattle.jet_law.specs.Canonical.{jet}
use Rattle.jet_subst.specs.Parts.{jet_at}
use Rattle.coord_change.specs.Moves.{Move, put}
use Rattle.coord_change.specs.Carries.{carry_all}
use Rattle.coord_change.specs.Chains.{ChainParts, IsChain}

-- moves without constant terms, substituted one after the other in f, make the same of it up to degree o where each step is cut at k ≥ o and where each is cut at o
abbrev pub OrdersAgree : {V : Type 0} → Scalars V → Type 0
OrdersAgree {V} s = (n o k : ℕ) → o ≤ k → (moves : List (Move n V)) → All (λ move. HaveNoConstant n s.ops n (put n s move)) moves → (f : Polynomial n V)
    → SameToIn n s.ops o (carry_all n s k moves (jet n s k f)) (carry_all n s o moves (jet n s o f))

-- of two chains over one germ by the same moves, up to degrees o ≤ k, the carried jets of one number agree up to degree o
abbrev pub ChainsAgree : {E V : Type 0} → Meaning E V → Type 0
ChainsAgree {E} {V} m = (n last o k : ℕ) → o ≤ k → (germ : Polynomial n V) (moves : List (Move n V)) (low high : ChainParts E) → IsChain m n last germ o moves low → IsChain m n last germ k moves high
    → (i : ℕ) → i ≤ length moves → SameToIn n m.scalars.ops o (poly_of n m.value (jet_at high.jets i).terms) (poly_of n m.value (jet_at low.jets i).terms)
