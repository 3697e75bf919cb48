use Rattle.plan_law.proofs.PlanLaws.{one_outcome}
use Rattle.plan_law.proofs.laws.plans_have_one_outcome.Goals as goal

pub returns : goal.returns
returns c = one_outcome
