use Rattle.poly_law.proofs.ComputedExamples
use Rattle.poly_law.proofs.examples.e7_holds_at_5.Goals as goal

pub returns : goal.returns
returns c = ComputedExamples.e7_holds_at_5
