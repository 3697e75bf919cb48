use Rattle.std.proofs.Common.{arith}
use Rattle.std.proofs.lemmas.Grind.{common_steps}
use Rattle.line_value.proofs.Stopped.{none_stays}
use Rattle.line_value.proofs.steps.evaluate.Goals as goal

pub returns-in-None-clause-value : goal.returns-in-None-clause-value
returns-in-None-clause-value g c = grind (arith, common_steps, none_stays)
