use Rattle.poly_law.proofs.ComputedExamples
use Rattle.poly_law.proofs.examples.square_of_sum.Goals as goal

pub returns : goal.returns
returns c = ComputedExamples.square_of_sum
