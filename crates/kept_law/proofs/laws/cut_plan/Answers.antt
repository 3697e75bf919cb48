use Rattle.kept_law.proofs.CutStates
use Rattle.kept_law.proofs.laws.cut_plan.Goals as goal

pub returns : goal.returns
returns c = CutStates.cut_plan
