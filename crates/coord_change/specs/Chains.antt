-- Chains: a germ that is carried by a growing list of moves, up to a growing order.
use Rattle.std.specs.Prelude.{◌≡◌, ℕ, ◌+◌, ◌<◌, ◌≤◌, List, [], ◌∷◌, length, take}
use Rattle.ring_theory.specs.Scalars.{Meaning}
use Rattle.poly_law.specs.Polynomials.{Polynomial, StartsAtIn}
use Rattle.jet_law.specs.Canonical.{jet}
use Rattle.jet_poly.specs.JetTerms.{JetTerms}
use Rattle.jet_subst.specs.Parts.{jet_at}
use Rattle.coord_change.specs.declared.change.Change.{Change}
use Rattle.coord_change.specs.Moves.{Move}
use Rattle.coord_change.specs.Carries.{carry_all}
use Rattle.coord_change.specs.MoveJets.{IsJetFor, IsMoveExactly}

-- a chain as contracts see it: the germ, the order, the moves as changes of the program, and the carried jets, of which number i belongs to the first i moves
pub record ChainParts (E : Type 0) : Type 0 where
  pub germ : JetTerms E
  pub order : ℕ
  pub moves : List (Change E)
  pub jets : List (JetTerms E)

-- the jet that all moves make of the germ
abbrev pub carried_in : {E : Type 0} → ChainParts E → JetTerms E
carried_in c = jet_at c.jets (length c.moves)

module _ {E V : Type 0} (m : Meaning E V) (n last : ℕ) where
  -- the parts of the change are the polynomials of the move, up to an order that is at least `last`
  pub record IsMoveFrom (move : Move n V) (c : Change E) : Type 0 where
    pub order : ℕ
    pub at_least : last ≤ order
    pub exactly : IsMoveExactly m n order move c

  -- the changes are those of the moves, one for each, in order
  abbrev pub AreMoves : List (Move n V) → List (Change E) → Type 0
  AreMoves [] [] = Unit {0}
  AreMoves [] (c ∷ cs) = ⊥
  AreMoves (move ∷ moves) [] = ⊥
  AreMoves (move ∷ moves) (c ∷ cs) = IsMoveFrom move c × AreMoves moves cs

  -- the chain carries the germ, known up to degree `last`, by these moves up to degree o: the jet of number i is the germ with the first i moves
  -- substituted one after the other, each step cut at o
  pub record IsChain (germ : Polynomial n V) (o : ℕ) (moves : List (Move n V)) (c : ChainParts E) : Type 0 where
    pub given : 0 < n
    pub at_most_8_variables : n ≤ 8
    pub last_at_most_16 : last ≤ 16
    pub order_at_least_2 : 2 ≤ o
    pub order_at_most_last : o ≤ last
    pub germ_is : IsJetFor m n last (jet n m.scalars last germ) c.germ
    pub low : StartsAtIn n m.scalars.ops 2 germ
    pub order_is : c.order ≡ o
    pub moves_are : AreMoves moves c.moves
    pub count : length c.jets ≡ length moves + 1
    pub jets_are : (i : ℕ) → i ≤ length moves → IsJetFor m n o (carry_all n m.scalars o (take i moves) (jet n m.scalars o germ)) (jet_at c.jets i)

-- the jets are those that the first moves make of f, one after the other, each step cut at k: that of number i belongs to the first i moves
pub record AreCarried {E V : Type 0} (m : Meaning E V) (n k : ℕ) (moves : List (Move n V)) (f : Polynomial n V) (jets : List (JetTerms E)) : Type 0 where
  pub count : length jets ≡ length moves + 1
  pub each : (i : ℕ) → i ≤ length moves → IsJetFor m n k (carry_all n m.scalars k (take i moves) f) (jet_at jets i)

-- the chain carries some germ by some moves, so it stands over the ring of m
pub record IsStanding {E V : Type 0} (m : Meaning E V) (c : ChainParts E) : Type 0 where
  pub n : ℕ
  pub last : ℕ
  pub germ : Polynomial n V
  pub o : ℕ
  pub moves : List (Move n V)
  pub is : IsChain m n last germ o moves c
