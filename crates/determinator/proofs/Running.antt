-- What the state of the code says of the run.
use Rattle.std.proofs.Common.{◌≡◌, ℕ, suc, ◌≤◌, List, arith, sym, subst}
use Rattle.ring_theory.specs.Rational.{Rational}
use Rattle.ext_algebra.specs.declared.algebra.Algebra.TheVariants as algebras
use Rattle.ext_algebra.specs.declared.algebra.Ext.{Ext}
use Rattle.ring_law.specs.declared.fraction.Frac.{Frac}
use Rattle.poly_law.specs.Polynomials.{Polynomial}
use Rattle.poly_text.specs.declared.name.Name.{Name}
use Rattle.cert_text.specs.declared.report.Answer.{Answer}
use Rattle.cert_text.specs.declared.report.Phase.{Phase}
use Rattle.coord_change.specs.Moves.{Move}
use Rattle.coord_change.specs.Chains.{ChainParts}
use Rattle.plan_law.specs.Run as run
use Rattle.plan_law.specs.Run.{IsHighFrom, tests, searching, brought}
use Rattle.determinator.specs.Places.{IsPlace, IsPlaced}
use Rattle.determinator.specs.Reports.{AreNames}
use Rattle.determinator.specs.Turns.{IsTurned, IsOver, IsReached, IsHigh, IsAhead, over, at_searching, IsRunning}
use Rattle.determinator.specs.declared.step.Step.{Step}
use Rattle.determinator.specs.declared.step.Step.TheVariants as steps
use Rattle.determinator.proofs.Turning.{turned_ahead}

module _ (names : List Name) (n c last : ℕ) (germ : Polynomial n Rational) (start : run.Step n) where
  -- what the state says, read off it
  pub record Searching (o : ℕ) (chain : ChainParts (Ext Frac)) : Type 0 where
    pub few : c ≤ 1
    pub moves : List (Move n Rational)
    pub place : IsPlace n c last germ algebras.Rational o moves chain
    pub reached : IsReached n c last germ start o (searching moves) (brought n c germ algebras.Rational o moves)

  abbrev Said : ℕ → Step → Type 0
  Said o (steps.Ends answer) = IsOver names n c last germ start answer
  Said o (steps.Searching chain) = Searching o chain

  said : (o : ℕ) (step : Step) → IsAhead names n c last germ start o step → Said o step
  said o _ (over h) = h
  said o _ (at_searching {moves = moves} few place reached) = record { few = few; moves = moves; place = place; reached = reached }

  pub over_of : (o : ℕ) (answer : Answer) → IsAhead names n c last germ start o (steps.Ends answer) → IsOver names n c last germ start answer
  over_of o answer h = said o (steps.Ends answer) h

  pub searching_of : (o : ℕ) (chain : ChainParts (Ext Frac)) → IsAhead names n c last germ start o (steps.Searching chain) → Searching o chain
  searching_of o chain h = said o (steps.Searching chain) h

  pub ends_stay : (o k : ℕ) (answer : Answer) → IsAhead names n c last germ start o (steps.Ends answer) → IsAhead names n c last germ start k (steps.Ends answer)
  ends_stay o k answer h = over (over_of o answer h)

  pub not_searching : (chain : ChainParts (Ext Frac)) → IsAhead names n c last germ start (suc last) (steps.Searching chain) → ⊥
  not_searching chain h = let low = (searching_of (suc last) chain h).place.chain_is.order_at_most_last in omega arith

  pub searching_turned : AreNames n names → (o : ℕ) (chain : ChainParts (Ext Frac)) (next : Step) → IsAhead names n c last germ start o (steps.Searching chain)
      → ((n o : ℕ) (germ : Polynomial n Rational) (moves : List (Move n Rational)) → AreNames n names → IsPlace n c last germ algebras.Rational o moves chain
      → IsTurned names n c last germ o (searching moves) (brought n c germ algebras.Rational o moves) next) → IsAhead names n c last germ start (suc o) next
  searching_turned names_are o chain next h turned =
      let s = searching_of o chain h in
      turned_ahead n c last germ names start o (searching s.moves) (brought n c germ algebras.Rational o s.moves) next s.reached (turned n o germ s.moves names_are s.place)

  pub searching_high : (p : Phase) (o : ℕ) (chain : ChainParts (Ext Frac)) → IsAhead names n c last germ start o (steps.Searching chain)
      → ((n o : ℕ) (germ : Polynomial n Rational) (moves : List (Move n Rational)) → IsPlace n c last germ algebras.Rational o moves chain
      → IsHighFrom n c germ last p o (tests (searching moves) (brought n c germ algebras.Rational o moves))) → IsHigh n c last germ start p
  searching_high p o chain h high = let s = searching_of o chain h in s.reached.high p (high n o germ s.moves s.place)

-- for the germ for which the run has come so far
pub searching_placed : (names : List Name) (c last o : ℕ) (chain : ChainParts (Ext Frac)) → IsRunning names c last o (steps.Searching chain) → IsPlaced c algebras.Rational chain
searching_placed names c last o chain r =
    let s = searching_of names r.n c last r.germ r.start o chain r.ahead in
    record { n = r.n; last = last; germ = r.germ; o = o; moves = s.moves; is = s.place }

pub searching_few : (names : List Name) (c last o : ℕ) (chain : ChainParts (Ext Frac)) → IsRunning names c last o (steps.Searching chain) → c ≤ 1
searching_few names c last o chain r = (searching_of names r.n c last r.germ r.start o chain r.ahead).few

pub searching_last : (names : List Name) (c last o : ℕ) (chain : ChainParts (Ext Frac)) → IsRunning names c last o (steps.Searching chain) → chain.germ.order ≡ last
searching_last names c last o chain r = let s = searching_of names r.n c last r.germ r.start o chain r.ahead in s.place.chain_is.germ_is.order

pub searching_named : (names : List Name) (c last o : ℕ) (chain : ChainParts (Ext Frac)) → IsRunning names c last o (steps.Searching chain) → AreNames chain.germ.n names
searching_named names c last o chain r =
    let s = searching_of names r.n c last r.germ r.start o chain r.ahead in
    subst (λ z. AreNames z names) (sym s.place.chain_is.germ_is.variables) r.names_are
