-- What a run from the first step says of the plan.
use Rattle.std.proofs.Common.{◌≡◌, ℕ, false, Result, IfOk, inr, List, sym, subst}
use Rattle.ring_theory.specs.Rational.{Rational}
use Rattle.ring_law.specs.declared.fraction.Frac.{Frac}
use Rattle.ring_law.specs.declared.fraction.NoMemory.{NoMemory}
use Rattle.poly_law.specs.Polynomials.{Polynomial}
use Rattle.jet_poly.specs.JetTerms.{JetTerms}
use Rattle.poly_text.specs.declared.name.Name.{Name}
use Rattle.cert_text.specs.declared.report.Answer.{Answer}
use Rattle.cert_text.specs.declared.report.Phase.{Phase}
use Rattle.plan_law.specs.Plan.{corank_of_germ, started, IsPhaseHigh}
use Rattle.plan_law.specs.Run.{Runs, IsHighFrom}
use Rattle.planned_law.specs.Planned.{is_unbuilt}
use Rattle.determinator.specs.Answered.{IsPlannedAnswer, ArePlanned, answer_of_stop, by_outcome, in_range}
use Rattle.determinator.specs.Places.{StopBy}
use Rattle.determinator.specs.Reports.{AreNames}
use Rattle.determinator.specs.Starts.{IsJetOfGerm}
use Rattle.determinator.specs.Turns.{IsOver, IsHigh, IsStep, IsAhead, IsRunning}
use Rattle.determinator.specs.declared.stop.Stop.{Stop}
use Rattle.determinator.specs.declared.stop.Stop.TheVariants as stops
use Rattle.determinator.specs.declared.step.Step.{Step}
use Rattle.determinator.proofs.Turning.{first_ahead}

module _ (names : List Name) (n last : ℕ) (g : Polynomial n Rational) (c : ℕ) (e : c ≡ corank_of_germ n g) where
  pub planned_of : is_unbuilt (corank_of_germ n g) ≡ false → (answer : Answer) → IsOver names n c last g (started n g) answer → IsPlannedAnswer names n last g answer
  planned_of built answer h = by_outcome built (subst (λ z. Runs n z g last 2 (started n g) h.outcome) e h.runs) h.report

  pub high_of : (p : Phase) → IsHigh n c last g (started n g) p → IsPhaseHigh n g last p
  high_of p h = inr (subst (λ z. IsHighFrom n z g last p 2 (started n g)) e h)

  pub ahead_of : (step : Step) → IsStep names n (corank_of_germ n g) last g 2 (started n g) step → IsAhead names n c last g (started n g) 2 step
  ahead_of step h = subst (λ z. IsAhead names n z last g (started n g) 2 step) (sym e) (first_ahead n (corank_of_germ n g) last g names (started n g) step h)

  pub running_of : AreNames n names → (step : Step) → IsStep names n (corank_of_germ n g) last g 2 (started n g) step → IsRunning names c last 2 step
  running_of are step h = record { n = n; names_are = are; germ = g; start = started n g; ahead = ahead_of step h }

-- the answer to a stop
pub planned_stop : (names : List Name) (f : JetTerms Frac) (r : Result Answer NoMemory) (s : Stop) → r ≡ answer_of_stop s
    → StopBy (λ p. (g : Polynomial f.n Rational) → IsJetOfGerm f g → IsPhaseHigh f.n g f.order p) s → IfOk r (ArePlanned names f)
planned_stop names f r (stops.Range p) e h = subst (λ (z : Result Answer NoMemory). IfOk z (ArePlanned names f)) (sym e) (λ g j. in_range h.0 (h.1 g j))
planned_stop names f r stops.NoMemory e h = subst (λ (z : Result Answer NoMemory). IfOk z (ArePlanned names f)) (sym e) tt
