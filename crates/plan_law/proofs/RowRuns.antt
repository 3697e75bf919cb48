-- What a row says: where Mather's condition fails at each order before the last one and holds there, its outcome is that of the plan.
use Rattle.std.proofs.Common.{◌≡◌, ℕ, suc, ◌<◌, List, [], ◌∷◌, refl, sym, subst}
use Rattle.ring_theory.specs.Rational.{Rational}
use Rattle.poly_law.specs.Polynomials.{Polynomial}
use Rattle.move_law.specs.Algebras.{rationals}
use Rattle.move_law.specs.Binary.{Roots}
use Rattle.plan_law.specs.Outcomes.{Outcome}
use Rattle.plan_law.specs.Pieces.{Piece}
use Rattle.plan_law.specs.Run.{State, searching, reduced, algebra_of, Step, ends, tests, split_at, IsDetermined, Begins, looking, extending, Runs, ended_before, determined, goes_on}
use Rattle.plan_law.specs.Plan.{corank_of_germ, started, HasOutcome}
use Rattle.plan_law.proofs.RowWords.{linear_move, next, steps_from, end_of, order_after, outcome_after}

module _ (n : ℕ) (germ : Polynomial n Rational) (last : ℕ) where
  abbrev c : ℕ
  c = corank_of_germ n germ

  -- while no part is known, the linear move of an order finds what these roots give
  abbrev IsFound : ℕ → Roots → State n → Type 0
  IsFound o roots (searching moves) = let f = (split_at n c germ rationals o moves).jet in Begins n c germ o f (linear_move n germ o roots f)
  IsFound o roots (reduced a p moves) = Unit {0}

  -- from a step of order o on, Mather's condition fails at as many orders as there are roots, and then holds
  abbrev pub IsEvidence : ℕ → List Roots → Step n → Type 0
  IsEvidence o roots (ends outcome pieces) = Unit {0}
  IsEvidence o [] (tests st f) = IsDetermined n c germ (algebra_of st) o f
  IsEvidence o (r ∷ rs) (tests st f) =
      (o < last) × (IsDetermined n c germ (algebra_of st) o f → ⊥) × IsFound (suc o) r st × IsEvidence (suc o) rs (next n germ (suc o) r (tests st f))

  -- an end stays
  ended : (o k : ℕ) (rs : List Roots) (outcome : Outcome n) (pieces : List (Piece n)) → end_of c germ k (steps_from n germ o rs (ends outcome pieces)) ≡ outcome
  ended o k [] outcome pieces = refl
  ended o k (r ∷ rs) outcome pieces = ended (suc o) k rs outcome pieces

  runs : (o : ℕ) (rs : List Roots) (step : Step n) → IsEvidence o rs step → Runs n c germ last o step (end_of c germ (order_after o rs) (steps_from n germ o rs step))
  runs o rs (ends outcome pieces) h = subst (Runs n c germ last o (ends outcome pieces)) (sym (ended o (order_after o rs) rs outcome pieces)) ended_before
  runs o [] (tests st f) h = determined h
  runs o (r ∷ rs) (tests (searching moves) f) h = goes_on h.0 h.1 (looking h.2) (runs (suc o) rs _ h.3)
  runs o (r ∷ rs) (tests (reduced a p moves) f) h = goes_on h.0 h.1 extending (runs (suc o) rs _ h.3)

  -- with such evidence the outcome of a row is that of the plan
  pub row_is_outcome : (rs : List Roots) → IsEvidence 2 rs (started n germ) → HasOutcome n germ last (outcome_after n rs germ)
  row_is_outcome rs h = runs 2 rs (started n germ) h
