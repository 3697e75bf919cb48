use Rattle.plan_law.proofs.PlanLaws.{planned_field}
use Rattle.plan_law.proofs.laws.plans_are_over_fields.Goals as goal

pub returns : goal.returns
returns c = planned_field
