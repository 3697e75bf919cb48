-- How far the run of the plan has come, as the code has it.
use Rattle.std.specs.Prelude.{ℕ, suc, ◌<◌, ◌≤◌, List}
use Rattle.ring_theory.specs.Rational.{Rational}
use Rattle.ext_algebra.specs.declared.algebra.Algebra.TheVariants as algebras
use Rattle.ext_algebra.specs.declared.algebra.Ext.{Ext}
use Rattle.ext_algebra.specs.Algebra.{Value}
use Rattle.ring_law.specs.declared.fraction.Frac.{Frac}
use Rattle.poly_law.specs.Polynomials.{Polynomial}
use Rattle.poly_text.specs.declared.name.Name.{Name}
use Rattle.cert_text.specs.declared.report.Answer.{Answer}
use Rattle.cert_text.specs.declared.report.Phase.{Phase}
use Rattle.coord_change.specs.Moves.{Move}
use Rattle.coord_change.specs.Chains.{ChainParts}
use Rattle.plan_law.specs.Outcomes.{Outcome}
use Rattle.plan_law.specs.Pieces.{Piece, HasHigh}
use Rattle.plan_law.specs.Run as run
use Rattle.plan_law.specs.Run.{Runs, IsHighFrom, IsDetermined, Opens, IsLinearHigh, opening_pieces, split_at, brought, ends, tests, searching}
use Rattle.determinator.specs.Places.{IsPlace}
use Rattle.determinator.specs.Reports.{AreNames, IsReport}
use Rattle.determinator.specs.declared.step.Step.{Step}
use Rattle.determinator.specs.declared.step.Step.TheVariants as steps

module _ (names : List Name) (n c last : ℕ) (germ : Polynomial n Rational) where
  -- the code has the step of order o: the run ends with the outcome that the answer reports, or it comes to the test with this chain, in corank 0 or 1
  pub data IsStep (o : ℕ) : run.Step n → Step → Type 0 where
    ended : {outcome : Outcome n} {pieces : List (Piece n)} {answer : Answer} → IsReport names n last germ answer outcome → IsStep o (ends outcome pieces) (steps.Ends answer)
    in_search : {moves : List (Move n Rational)} {chain : ChainParts (Ext Frac)} → c ≤ 1 → IsPlace n c last germ algebras.Rational o moves chain
        → IsStep o (tests (searching moves) (brought n c germ algebras.Rational o moves)) (steps.Searching chain)

  -- order o begins from the state by a step that the code has
  pub record IsOpened (o : ℕ) (st : run.State n) (next : Step) : Type 0 where
    pub step : run.Step n
    pub opens : Opens n c germ o st step
    pub is : IsStep o step next

  -- from the test of order o the run ends with the outcome that the answer reports, or it goes on with the next order
  pub data IsTurned (o : ℕ) (st : run.State n) (f : Polynomial n (Value (run.algebra_of st))) : Step → Type 0 where
    stops : {outcome : Outcome n} {answer : Answer} → Runs n c germ last o (tests st f) outcome → IsReport names n last germ answer outcome → IsTurned o st f (steps.Ends answer)
    goes : {next : Step} → o < last → (IsDetermined n c germ (run.algebra_of st) o f → ⊥) → IsOpened (suc o) st next → IsTurned o st f next

module _ (n c last : ℕ) (germ : Polynomial n Rational) where
  -- something that order o begins with is high
  pub data IsOpeningHigh (p : Phase) (o : ℕ) : run.State n → Type 0 where
    in_pieces : {st : run.State n} → HasHigh p (opening_pieces n c germ o st) → IsOpeningHigh p o st
    in_linear : {moves : List (Move n Rational)} → IsLinearHigh n c germ p o (split_at n c germ algebras.Rational o moves) → IsOpeningHigh p o (searching moves)
    in_step : {st : run.State n} {step : run.Step n} → Opens n c germ o st step → IsHighFrom n c germ last p o step → IsOpeningHigh p o st

module _ (n c last : ℕ) (germ : Polynomial n Rational) (start : run.Step n) where
  -- the outcome of the run from the start
  abbrev pub HasEnd : Outcome n → Type 0
  HasEnd outcome = Runs n c germ last 2 start outcome

  abbrev pub IsHigh : Phase → Type 0
  IsHigh p = IsHighFrom n c germ last p 2 start

  -- what the run does from this state on, it does from the start on
  pub record IsReached (o : ℕ) (st : run.State n) (f : Polynomial n (Value (run.algebra_of st))) : Type 0 where
    pub runs : (outcome : Outcome n) → Runs n c germ last o (tests st f) outcome → HasEnd outcome
    pub high : (p : Phase) → IsHighFrom n c germ last p o (tests st f) → IsHigh p

module _ (names : List Name) (n c last : ℕ) (germ : Polynomial n Rational) (start : run.Step n) where
  -- the answer reports the outcome
  pub record IsOver (answer : Answer) : Type 0 where
    pub outcome : Outcome n
    pub runs : HasEnd n c last germ start outcome
    pub report : IsReport names n last germ answer outcome

  -- the run is over, or it has reached the test of order o, in corank 0 or 1
  pub data IsAhead (o : ℕ) : Step → Type 0 where
    over : {answer : Answer} → IsOver answer → IsAhead o (steps.Ends answer)
    at_searching : {moves : List (Move n Rational)} {chain : ChainParts (Ext Frac)} → c ≤ 1 → IsPlace n c last germ algebras.Rational o moves chain
        → IsReached n c last germ start o (searching moves) (brought n c germ algebras.Rational o moves) → IsAhead o (steps.Searching chain)

-- the run has come so far, for some germ in the variables of the names
pub record IsRunning (names : List Name) (c last o : ℕ) (step : Step) : Type 0 where
  pub n : ℕ
  pub names_are : AreNames n names
  pub germ : Polynomial n Rational
  pub start : run.Step n
  pub ahead : IsAhead names n c last germ start o step

module _ (names : List Name) (c last o : ℕ) (step : Step) where
  -- whatever run has come to this step of order o, has come to the next one of order k
  abbrev pub IsAheadBy : ℕ → Step → Type 0
  IsAheadBy k next = (n : ℕ) (germ : Polynomial n Rational) (start : run.Step n) → AreNames n names → IsAhead names n c last germ start o step → IsAhead names n c last germ start k next

  -- whatever run has come to this step of order o, ends with the answer
  abbrev pub IsOverBy : Answer → Type 0
  IsOverBy answer = (n : ℕ) (germ : Polynomial n Rational) (start : run.Step n) → AreNames n names → IsAhead names n c last germ start o step → IsOver names n c last germ start answer

  -- something of whatever run has come to this step of order o is high in this phase
  abbrev pub IsHighBy : Phase → Type 0
  IsHighBy p = (n : ℕ) (germ : Polynomial n Rational) (start : run.Step n) → AreNames n names → IsAhead names n c last germ start o step → IsHigh n c last germ start p
