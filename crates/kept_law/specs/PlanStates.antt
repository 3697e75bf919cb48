-- The states of the plan at one order and at the next, as a chain has them: the moves, and the jets that they make of the germ one after the other.
use Rattle.std.specs.Prelude.{◌≡◌, ℕ, suc, List, [], ◌∷◌, length, map, take}
use Rattle.ring_theory.specs.Rational.{Rational}
use Rattle.ring_theory.specs.Scalars.{Scalars}
use Rattle.ext_algebra.specs.declared.algebra.Algebra.{Algebra}
use Rattle.ext_algebra.specs.Algebra.{Value, scalars}
use Rattle.poly_law.specs.Polynomials.{Polynomial}
use Rattle.jet_law.specs.Canonical.{jet}
use Rattle.kill_law.specs.declared.part.Part.{Part}
use Rattle.coord_change.specs.Moves.{Move}
use Rattle.coord_change.specs.Carries.{carry}
use Rattle.move_law.specs.Algebras.{rationals, lifted, lifted_move}
use Rattle.plan_law.specs.Run.{State, searching, reduced, tests, algebra_of, moves_of, brought, Opens}
use Rattle.kept_law.specs.KeptParts.{HaveNoConstants}

-- the jets that moves make of f one after the other, from f itself to what all of them make of it, each step cut at k
abbrev pub carried_jets : {V : Type 0} → (n : ℕ) → Scalars V → ℕ → List (Move n V) → Polynomial n V → List (Polynomial n V)
carried_jets n s k [] f = f ∷ []
carried_jets n s k (m ∷ ms) f = f ∷ carried_jets n s k ms (carry n s k m f)

module _ (n c : ℕ) (germ : Polynomial n Rational) where
  -- the jets of a state at order o: those that its moves make of the germ over its algebra
  abbrev pub jets_at : (a : Algebra) → ℕ → List (Move n (Value a)) → List (Polynomial n (Value a))
  jets_at a o moves = carried_jets n (scalars a) o moves (jet n (scalars a) o (lifted a germ))

  -- the moves at order o + 1 begin with those at order o, and the jets at order o + 1, each cut at degree o, begin with those at order o
  pub record Begin (a : Algebra) (o : ℕ) (moves next : List (Move n (Value a))) : Type 0 where
    pub same_moves : take (length moves) next ≡ moves
    pub same_jets : take (suc (length moves)) (map (jet n (scalars a) o) (jets_at a (suc o) next)) ≡ jets_at a o moves

  -- the state at order o + 1, cut at degree o, begins with the state at order o; where a part has been found over an algebra, with the lifted moves, which make the lifted jets
  pub data BeginsWith (o : ℕ) : State n → State n → Type 0 where
    no_part : {moves next : List (Move n Rational)} → Begin rationals o moves next → BeginsWith o (searching moves) (searching next)
    part_found : {moves : List (Move n Rational)} {a : Algebra} {p : Part} {next : List (Move n (Value a))}
        → map (lifted a) (jets_at rationals o moves) ≡ jets_at a o (map (lifted_move a) moves)
        → Begin a o (map (lifted_move a) moves) next → BeginsWith o (searching moves) (reduced a p next)
    part_kept : {a : Algebra} {p : Part} {moves next : List (Move n (Value a))} → Begin a o moves next → BeginsWith o (reduced a p moves) (reduced a p next)

  -- and the jet of which order o + 1 tests Mather's condition is the last of its jets
  pub record IsNextState (o : ℕ) (st next : State n) (f : Polynomial n (Value (algebra_of next))) : Type 0 where
    pub begins : BeginsWith o st next
    pub last : f ≡ brought n c germ (algebra_of next) (suc o) (moves_of next)

-- where order o + 1 of the plan comes from a state at order o, whose moves have no constant terms, to a state, this one is such a next state
abbrev pub CutPlan : Type 0
CutPlan = (n c : ℕ) (germ : Polynomial n Rational) (o : ℕ) (st next : State n) (f : Polynomial n (Value (algebra_of next)))
    → HaveNoConstants n (scalars (algebra_of st)) (moves_of st) → Opens n c germ (suc o) st (tests next f) → IsNextState n c germ o st next f
