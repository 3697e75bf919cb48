use Rattle.poly_law.proofs.ComputedExamples
use Rattle.poly_law.proofs.examples.square_completed.Goals as goal

pub returns : goal.returns
returns c = ComputedExamples.square_completed
