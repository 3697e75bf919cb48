use Rattle.poly_law.proofs.ComputedExamples
use Rattle.poly_law.proofs.examples.partials_of_e7.Goals as goal

pub returns : goal.returns
returns c = ComputedExamples.partials_of_e7
