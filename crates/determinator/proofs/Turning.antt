-- From the test of one order to that of the next.
use Rattle.std.proofs.Common.{◌≡◌, ℕ, zero, suc, ◌<◌, ◌≤◌, false, inl, List, refl, sym, subst, arith}
use Rattle.ring_theory.specs.Rational.{Rational}
use Rattle.ext_algebra.specs.declared.algebra.Algebra.TheVariants as algebras
use Rattle.ext_algebra.specs.declared.algebra.Ext.{Ext}
use Rattle.ext_algebra.specs.Algebra.{Value, scalars}
use Rattle.ring_law.specs.declared.fraction.Frac.{Frac}
use Rattle.poly_law.specs.Polynomials.{Polynomial}
use Rattle.jet_law.specs.Canonical.{jet}
use Rattle.determinacy.specs.Tests.{IsTestHigh}
use Rattle.poly_text.specs.declared.name.Name.{Name}
use Rattle.cert_text.specs.declared.report.Answer.{Answer}
use Rattle.cert_text.specs.declared.report.Phase.{Phase}
use Rattle.cert_text.specs.declared.report.Phase.TheVariants as phases
use Rattle.coord_change.specs.Moves.{Move}
use Rattle.move_law.specs.Moves.{residual}
use Rattle.move_law.specs.Algebras.{lifted}
use Rattle.coord_change.specs.Chains.{ChainParts}
use Rattle.plan_law.specs.Outcomes.{Outcome}
use Rattle.plan_law.specs.Pieces.{HasHigh}
use Rattle.plan_law.specs.Run as run
use Rattle.plan_law.specs.Run.{State, algebra_of, Runs, ended_before, determined, undecided, goes_on, IsHighFrom, in_opening, in_linear_move, in_test, in_finish, in_stop, later, IsDetermined, looking, no_move, asking_pieces, split_at, split_pieces, tests, searching, brought, finished, stopped, finishing_pieces, stopping_pieces}
use Rattle.determinator.specs.Places.{IsPlace}
use Rattle.determinator.specs.Reports.{IsReport}
use Rattle.determinator.specs.Turns.{IsStep, ended, in_search, IsOpened, IsOpeningHigh, in_pieces, in_linear, in_step, IsTurned, stops, goes, IsReached, IsAhead, over, at_searching}
use Rattle.determinator.specs.declared.step.Step.{Step}
use Rattle.determinator.specs.declared.step.Step.TheVariants as steps
use Rattle.determinator.proofs.Pieces.{among_left}
use Rattle.determinator.proofs.Chained.{carry_all_append}

-- in corank 0 and 1 there is no linear move
pub no_linear_move : (c o : ℕ) → c ≤ 1 → run.has_linear_move c o ≡ false
no_linear_move zero o h = refl
no_linear_move (suc zero) o h = refl
no_linear_move (suc (suc c)) o h = absurd (omega arith)

module _ (n c last : ℕ) (germ : Polynomial n Rational) where
  abbrev Goes : ℕ → run.Step n → Outcome n → Type 0
  Goes = Runs n c germ last

  abbrev High : Phase → ℕ → run.Step n → Type 0
  High = IsHighFrom n c germ last

  abbrev Determined : ℕ → (st : State n) → Polynomial n (Value (algebra_of st)) → Type 0
  Determined o st f = IsDetermined n c germ (algebra_of st) o f

  -- ---- high

  pub high_in_test : (o : ℕ) (st : State n) (f : Polynomial n (Value (algebra_of st))) → IsTestHigh c (scalars (algebra_of st)) o (residual n (scalars (algebra_of st)) c o f)
      → High phases.Mather o (tests st f)
  high_in_test o st f h = in_test (inl (refl, h))

  pub high_in_finish : (p : Phase) (o : ℕ) (st : State n) (f : Polynomial n (Value (algebra_of st))) → Determined o st f
      → HasHigh p (finishing_pieces n c germ o st f) → High p o (tests st f)
  high_in_finish p o st f d h = in_finish d h

  pub high_in_stop : (p : Phase) (o : ℕ) (st : State n) (f : Polynomial n (Value (algebra_of st))) → o ≡ last → (Determined o st f → ⊥)
      → HasHigh p (stopping_pieces n c germ o st) → High p o (tests st f)
  high_in_stop p o st f e fails h =
      subst (λ k. High p k (tests st f)) (sym e)
      (in_stop (subst (λ k. Determined k st f → ⊥) e fails) (subst (λ k. HasHigh p (stopping_pieces n c germ k st)) e h))

  pub high_in_opening : (p : Phase) (o : ℕ) (st : State n) (f : Polynomial n (Value (algebra_of st))) → o < last → (Determined o st f → ⊥)
      → IsOpeningHigh n c last germ p (suc o) st → High p o (tests st f)
  high_in_opening p o st f lt fails (in_pieces h) = in_opening lt fails h
  high_in_opening p o _ f lt fails (in_linear h) = in_linear_move lt fails h
  high_in_opening p o st f lt fails (in_step opens h) = later lt fails opens h

  pub opening_split : (p : Phase) (o : ℕ) (moves : List (Move n Rational)) → HasHigh p (split_pieces n c germ algebras.Rational o moves) → IsOpeningHigh n c last germ p o (searching moves)
  opening_split p o moves h = in_pieces (among_left _ (split_pieces n c germ algebras.Rational o moves) (asking_pieces n c germ o (split_at n c germ algebras.Rational o moves).jet) h)

  module _ (names : List Name) where
    -- the finish follows where the condition holds
    pub finishes : (o : ℕ) (st : State n) (f : Polynomial n (Value (algebra_of st))) (answer : Answer) → Determined o st f
        → IsReport names n last germ answer (finished n c germ o st f) → IsTurned names n c last germ o st f (steps.Ends answer)
    finishes o st f answer d r = stops (determined d) r

    -- the limit follows where it fails at the last order
    pub reaches_limit : (o : ℕ) (st : State n) (f : Polynomial n (Value (algebra_of st))) (answer : Answer) → o ≡ last → (Determined o st f → ⊥)
        → IsReport names n last germ answer (stopped n c germ o st f) → IsTurned names n c last germ o st f (steps.Ends answer)
    reaches_limit o st f answer e fails r = stops (subst (λ k. Goes k (tests st f) (stopped n c germ k st f)) (sym e) (undecided (subst (λ k. Determined k st f → ⊥) e fails))) r

    -- ---- how an order begins

    pub opens_without_move : (o : ℕ) (moves : List (Move n Rational)) (chain : ChainParts (Ext Frac)) → c ≤ 1
        → IsPlace n c last germ algebras.Rational o (split_at n c germ algebras.Rational o moves).moves chain → IsOpened names n c last germ o (searching moves) (steps.Searching chain)
    opens_without_move o moves chain few place = record {
      step = _;
      opens = looking (no_move (no_linear_move c o few));
      is = subst (λ f. IsStep names n c last germ o (tests (searching (split_at n c germ algebras.Rational o moves).moves) f) (steps.Searching chain))
          (carry_all_append n (scalars algebras.Rational) o moves (run.splitting n c germ algebras.Rational o (brought n c germ algebras.Rational o moves)) (jet n (scalars algebras.Rational) o (lifted algebras.Rational germ)))
          (in_search few place);
    }

    -- ---- the state of the code after a turn

    module _ (start : run.Step n) where
      by_step : (o : ℕ) (step : run.Step n) (next : Step) → ((outcome : Outcome n) → Goes o step outcome → Goes 2 start outcome)
          → ((p : Phase) → High p o step → High p 2 start) → IsStep names n c last germ o step next → IsAhead names n c last germ start o next
      by_step o _ _ runs high (ended {outcome = outcome} e) = over (record { outcome = outcome; runs = runs outcome ended_before; report = e })
      by_step o _ _ runs high (in_search few place) = at_searching few place (record { runs = runs; high = high })

      pub first_ahead : (next : Step) → IsStep names n c last germ 2 start next → IsAhead names n c last germ start 2 next
      first_ahead next h = by_step 2 start next (λ outcome r. r) (λ p h. h) h

      pub turned_ahead : (o : ℕ) (st : State n) (f : Polynomial n (Value (algebra_of st))) (next : Step) → IsReached n c last germ start o st f
          → IsTurned names n c last germ o st f next → IsAhead names n c last germ start (suc o) next
      turned_ahead o st f _ r (stops {outcome = outcome} runs reports) = over (record { outcome = outcome; runs = r.runs outcome runs; report = reports })
      turned_ahead o st f next r (goes lt fails opened) =
          by_step (suc o) opened.step next (λ outcome q. r.runs outcome (goes_on lt fails opened.opens q)) (λ p q. r.high p (later lt fails opened.opens q)) opened.is

-- what is reported at the last order
pub limited_at : (n c : ℕ) (germ : Polynomial n Rational) (o : ℕ) (moves : List (Move n Rational)) (names : List Name) (last : ℕ) → o ≡ last → (chain : ChainParts (Ext Frac)) (answer : Answer)
    → (IsPlace n c o germ algebras.Rational o moves chain → IsReport names n o germ answer (stopped n c germ o (searching moves) (brought n c germ algebras.Rational o moves)))
    → IsPlace n c last germ algebras.Rational o moves chain → IsReport names n last germ answer (stopped n c germ o (searching moves) (brought n c germ algebras.Rational o moves))
limited_at n c germ o moves names last e chain answer report place =
    subst (λ k. IsReport names n k germ answer (stopped n c germ o (searching moves) (brought n c germ algebras.Rational o moves))) e (report (subst (λ k. IsPlace n c k germ algebras.Rational o moves chain) (sym e) place))
