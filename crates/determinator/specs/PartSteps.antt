-- What the steps of the run answer where a base part is known, and what of them is high, for each germ and each list of moves by which the chain has come to
-- its order.
use Rattle.std.specs.Prelude.{ℕ, suc, List}
use Rattle.ring_theory.specs.Rational.{Rational}
use Rattle.ring_law.specs.declared.fraction.Frac.{Frac}
use Rattle.ext_algebra.specs.declared.algebra.Algebra.{Algebra}
use Rattle.ext_algebra.specs.declared.algebra.Ext.{Ext}
use Rattle.ext_algebra.specs.Algebra.{Value}
use Rattle.poly_law.specs.Polynomials.{Polynomial}
use Rattle.poly_text.specs.declared.name.Name.{Name}
use Rattle.cert_text.specs.declared.report.Answer.{Answer}
use Rattle.cert_text.specs.declared.report.Phase.{Phase}
use Rattle.cert_text.specs.declared.report.Phase.TheVariants as phases
use Rattle.kill_law.specs.declared.part.Part.{Part}
use Rattle.coord_change.specs.Moves.{Move}
use Rattle.coord_change.specs.Chains.{ChainParts}
use Rattle.plan_law.specs.Outcomes.{Outcome}
use Rattle.plan_law.specs.Pieces.{Piece, HasHigh}
use Rattle.plan_law.specs.Run as run
use Rattle.plan_law.specs.Run.{IsHighFrom, brought, brought_at, ends, extended, kill_at, kill_pieces, reduced, tested, tests}
use Rattle.determinator.specs.PartPlaces.{IsKillPlace, IsReducedPlace}
use Rattle.determinator.specs.Reports.{AreNames, IsReport}
use Rattle.determinator.specs.Turns.{IsOpeningHigh}
use Rattle.determinator.specs.declared.extending.Extension.{Extension}
use Rattle.determinator.specs.declared.extending.Extension.TheVariants as extensions

module _ (a : Algebra) (p : Part) (chain : ChainParts (Ext Frac)) where
  -- the next chain stands at the same order, by the moves of this one and the base kill of the order
  abbrev pub IsKilledNext : ChainParts (Ext Frac) → Type 0
  IsKilledNext next = (n c last o : ℕ) (germ : Polynomial n Rational) (moves : List (Move n (Value a))) → IsKillPlace n c last germ a p o moves chain
      → IsReducedPlace n c last germ a p (suc o) (kill_at n c germ a (suc o) p (brought_at n c germ a (suc o) moves)).moves next

  -- the base kill of the order, or carrying by it, is high
  abbrev pub IsKillingHigh : Type 0
  IsKillingHigh = (n c last o : ℕ) (germ : Polynomial n Rational) (moves : List (Move n (Value a))) → IsKillPlace n c last germ a p o moves chain
      → HasHigh phases.Kill (kill_pieces n c germ a (suc o) p (brought n c germ a (suc o) moves))

module _ (names : List Name) (n c last : ℕ) (germ : Polynomial n Rational) (a : Algebra) (p : Part) where
  -- the step of order o as the code has it: the run ends past the list with the outcome that the answer reports, or it comes to the test with this chain
  pub data IsExtension (o : ℕ) : run.Step n → Extension → Type 0 where
    past_list : {outcome : Outcome n} {pieces : List (Piece n)} {answer : Answer} → IsReport names n last germ answer outcome
        → IsExtension o (ends outcome pieces) (extensions.Outside answer)
    reaches : {moves : List (Move n (Value a))} {chain : ChainParts (Ext Frac)} → IsReducedPlace n c last germ a p o moves chain
        → IsExtension o (tests (reduced a p moves) (brought n c germ a o moves)) (extensions.Reduced chain)

module _ (c : ℕ) (a : Algebra) (p : Part) (chain : ChainParts (Ext Frac)) where
  -- the step that follows the test of the part at the order of the chain
  abbrev pub IsTestedPart : List Name → Extension → Type 0
  IsTestedPart names r = (n last o : ℕ) (germ : Polynomial n Rational) (moves : List (Move n (Value a))) → AreNames n names
      → IsReducedPlace n c last germ a p o moves chain
      → IsExtension names n c last germ a p o (tested n c germ a o p (brought_at n c germ a o moves)) r

  -- composing the change that is printed where the test decides a pattern is high
  abbrev pub IsPatternHigh : Type 0
  IsPatternHigh = (n last o : ℕ) (germ : Polynomial n Rational) (moves : List (Move n (Value a))) → IsReducedPlace n c last germ a p o moves chain
      → IsHighFrom n c germ last phases.Finish o (tested n c germ a o p (brought_at n c germ a o moves))

  -- the step of the next order
  abbrev pub IsExtendedNext : List Name → Extension → Type 0
  IsExtendedNext names r = (n last o : ℕ) (germ : Polynomial n Rational) (moves : List (Move n (Value a))) → AreNames n names
      → IsReducedPlace n c last germ a p o moves chain
      → IsExtension names n c last germ a p (suc o) (extended n c germ a (suc o) p moves) r

  -- something that the next order begins with is high in this phase
  abbrev pub IsExtendingHigh : Phase → Type 0
  IsExtendingHigh q = (n last o : ℕ) (germ : Polynomial n Rational) (moves : List (Move n (Value a))) → IsReducedPlace n c last germ a p o moves chain
      → IsOpeningHigh n c last germ q (suc o) (reduced a p moves)
