-- What is answered for a critical germ.
use Rattle.std.specs.Prelude.{◌≡◌, ℕ, true, false, Result, Ok, Err, List}
use Rattle.ring_theory.specs.Rational.{Rational}
use Rattle.ring_law.specs.declared.fraction.Frac.{Frac}
use Rattle.ring_law.specs.declared.fraction.NoMemory.{NoMemory}
use Rattle.poly_law.specs.Polynomials.{Polynomial}
use Rattle.jet_poly.specs.JetTerms.{JetTerms}
use Rattle.poly_text.specs.declared.name.Name.{Name}
use Rattle.cert_text.specs.declared.report.Answer.{Answer}
use Rattle.cert_text.specs.declared.report.Answer.TheVariants as answers
use Rattle.cert_text.specs.declared.report.Phase.{Phase}
use Rattle.plan_law.specs.Outcomes.{Outcome}
use Rattle.plan_law.specs.Plan.{corank_of_germ, HasOutcome, IsPhaseHigh}
use Rattle.planned_law.specs.Planned.{is_unbuilt}
use Rattle.determinator.specs.Places.{IsPastReading}
use Rattle.determinator.specs.Reports.{IsReport}
use Rattle.determinator.specs.Starts.{IsJetOfGerm}
use Rattle.determinator.specs.declared.stop.Stop.{Stop}
use Rattle.determinator.specs.declared.stop.Stop.TheVariants as stops

-- the answer to a stop: `range` in its phase, or want of memory
abbrev pub answer_of_stop : Stop → Result Answer NoMemory
answer_of_stop (stops.Range p) = Ok (answers.Range p)
answer_of_stop stops.NoMemory = Err (record {})

-- the plan's outcome; `range` in a phase that forms a number of height at least 2^120; or `unbuilt` in corank 2 and 3
pub data IsPlannedAnswer (names : List Name) (n last : ℕ) (germ : Polynomial n Rational) : Answer → Type 0 where
  by_outcome : {answer : Answer} {outcome : Outcome n} → is_unbuilt (corank_of_germ n germ) ≡ false → HasOutcome n germ last outcome → IsReport names n last germ answer outcome
      → IsPlannedAnswer names n last germ answer
  in_range : {p : Phase} → IsPastReading p → IsPhaseHigh n germ last p → IsPlannedAnswer names n last germ (answers.Range p)
  by_corank : is_unbuilt (corank_of_germ n germ) ≡ true → IsPlannedAnswer names n last germ answers.Unbuilt

-- what is answered for each germ that has the jet
abbrev pub ArePlanned : List Name → (f : JetTerms Frac) → Answer → Type 0
ArePlanned names f answer = (g : Polynomial f.n Rational) → IsJetOfGerm f g → IsPlannedAnswer names f.n f.order g answer
