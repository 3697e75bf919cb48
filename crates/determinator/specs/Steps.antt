-- What the steps of the run answer, and what of them is high, for each germ and each list of moves by which the chain has come to its order.
use Rattle.std.specs.Prelude.{ℕ, suc, ◌≤◌, List}
use Rattle.ring_theory.specs.Rational.{Rational}
use Rattle.ring_law.specs.declared.fraction.Frac.{Frac}
use Rattle.ext_algebra.specs.declared.algebra.Algebra.{Algebra}
use Rattle.ext_algebra.specs.declared.algebra.Algebra.TheVariants as algebras
use Rattle.ext_algebra.specs.declared.algebra.Ext.{Ext}
use Rattle.ext_algebra.specs.Algebra.{Value, scalars}
use Rattle.poly_law.specs.Polynomials.{Polynomial}
use Rattle.poly_text.specs.declared.name.Name.{Name}
use Rattle.cert_text.specs.declared.report.Answer.{Answer}
use Rattle.cert_text.specs.declared.report.Carried.{Carried}
use Rattle.cert_text.specs.declared.report.Phase.{Phase}
use Rattle.cert_text.specs.declared.report.Phase.TheVariants as phases
use Rattle.coord_change.specs.Moves.{Move}
use Rattle.coord_change.specs.Chains.{ChainParts}
use Rattle.determinacy.specs.Tests.{IsTestHigh}
use Rattle.normal_forms.specs.declared.pattern.Pattern.{Pattern}
use Rattle.move_law.specs.Moves.{residual}
use Rattle.plan_law.specs.Outcomes as outcomes
use Rattle.plan_law.specs.Pieces.{HasHigh}
use Rattle.plan_law.specs.Run.{IsHighFrom, brought, carried_by, composing_pieces, finished, finishing_pieces, searching, split_at, split_pieces, tests}
use Rattle.determinator.specs.Carried.{IsCarriedFrom, IsPastList}
use Rattle.determinator.specs.Places.{IsPlace}
use Rattle.determinator.specs.Reports.{AreNames, IsReport}
use Rattle.determinator.specs.Turns.{IsOpened, IsOpeningHigh, IsTurned}
use Rattle.determinator.specs.declared.step.Step.{Step}

module _ (c : ℕ) (a : Algebra) (chain : ChainParts (Ext Frac)) where
  -- composing the moves of the chain is high
  abbrev pub IsComposingHigh : Type 0
  IsComposingHigh = (n last o : ℕ) (germ : Polynomial n Rational) (moves : List (Move n (Value a))) → IsPlace n c last germ a o moves chain
      → HasHigh phases.Finish (composing_pieces a o moves)

  -- bringing the chain to the next order, or the split move there, is high
  abbrev pub IsSplittingHigh : Type 0
  IsSplittingHigh = (n last o : ℕ) (germ : Polynomial n Rational) (moves : List (Move n (Value a))) → IsPlace n c last germ a o moves chain
      → HasHigh phases.Split (split_pieces n c germ a (suc o) moves)

  -- Mather's test of the residual part is high
  abbrev pub IsTestingHigh : Type 0
  IsTestingHigh = (n last o : ℕ) (germ : Polynomial n Rational) (moves : List (Move n (Value a))) → IsPlace n c last germ a o moves chain
      → IsTestHigh c (scalars a) o (residual n (scalars a) c o (brought n c germ a o moves))

  -- the next chain stands at the next order, by the moves of this one and the split move
  abbrev pub IsSplitNext : ChainParts (Ext Frac) → Type 0
  IsSplitNext next = (n last o : ℕ) (germ : Polynomial n Rational) (moves : List (Move n (Value a))) → IsPlace n c last germ a o moves chain
      → IsPlace n c last germ a (suc o) (split_at n c germ a (suc o) moves).moves next

  -- the jet of the chain with the composite of its moves
  abbrev pub IsCarried : List Name → Carried → Type 0
  IsCarried names r = (n last o : ℕ) (germ : Polynomial n Rational) (moves : List (Move n (Value a))) → IsPlace n c last germ a o moves chain
      → IsCarriedFrom names n c a o moves chain r

  -- where the chain stands at the last order, the answer reports the outcome `limit` of the plan, and is true of the germ
  abbrev pub IsLimit : List Name → Answer → Type 0
  IsLimit names r = (n o : ℕ) (germ : Polynomial n Rational) (moves : List (Move n (Value a))) → AreNames n names → 3 ≤ o → IsPlace n c o germ a o moves chain
      → IsReport names n o germ r (outcomes.limit (carried_by n c germ a o moves (brought n c germ a o moves)))

  -- where the jet of the chain is past the list by the pattern, the answer reports the outcome `outside` of the plan with the pattern, and is true of the germ
  abbrev pub IsOutside : Pattern → List Name → Answer → Type 0
  IsOutside pattern names r = (n last o : ℕ) (germ : Polynomial n Rational) (moves : List (Move n (Value a))) → AreNames n names
      → IsPlace n c last germ a o moves chain → IsPastList n c o a pattern (brought n c germ a o moves)
      → IsReport names n last germ r (outcomes.outside pattern (carried_by n c germ a o moves (brought n c germ a o moves)))

module _ (c : ℕ) (chain : ChainParts (Ext Frac)) where
  -- the answer reports the outcome of the plan's finish before a part is known, and is true of the germ
  abbrev pub IsFinishedSearch : List Name → Answer → Type 0
  IsFinishedSearch names r = (n last o : ℕ) (germ : Polynomial n Rational) (moves : List (Move n Rational)) → AreNames n names → IsPlace n c last germ algebras.Rational o moves chain
      → IsReport names n last germ r (finished n c germ o (searching moves) (brought n c germ algebras.Rational o moves))

  -- something that this finish forms is high in this phase
  abbrev pub IsFinishingSearchHigh : Phase → Type 0
  IsFinishingSearchHigh p = (n last o : ℕ) (germ : Polynomial n Rational) (moves : List (Move n Rational)) → IsPlace n c last germ algebras.Rational o moves chain
      → HasHigh p (finishing_pieces n c germ o (searching moves) (brought n c germ algebras.Rational o moves))

  -- the next order begins by this step
  abbrev pub IsOpenedNext : Step → Type 0
  IsOpenedNext next = (names : List Name) (n last o : ℕ) (germ : Polynomial n Rational) (moves : List (Move n Rational)) → IsPlace n c last germ algebras.Rational o moves chain
      → IsOpened names n c last germ (suc o) (searching moves) next

  -- something that the next order begins with is high in this phase
  abbrev pub IsOpeningNextHigh : Phase → Type 0
  IsOpeningNextHigh p = (n last o : ℕ) (germ : Polynomial n Rational) (moves : List (Move n Rational)) → IsPlace n c last germ algebras.Rational o moves chain
      → IsOpeningHigh n c last germ p (suc o) (searching moves)

  -- from the test of the order of the chain the run ends, or goes on with the next order, by this step
  abbrev pub IsTurnedSearch : List Name → Step → Type 0
  IsTurnedSearch names next = (n last o : ℕ) (germ : Polynomial n Rational) (moves : List (Move n Rational)) → AreNames n names → IsPlace n c last germ algebras.Rational o moves chain
      → IsTurned names n c last germ o (searching moves) (brought n c germ algebras.Rational o moves) next

  -- something on the way from that test is high in this phase
  abbrev pub IsTurningSearchHigh : Phase → Type 0
  IsTurningSearchHigh p = (n last o : ℕ) (germ : Polynomial n Rational) (moves : List (Move n Rational)) → IsPlace n c last germ algebras.Rational o moves chain
      → IsHighFrom n c germ last p o (tests (searching moves) (brought n c germ algebras.Rational o moves))
