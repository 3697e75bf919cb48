use Rattle.poly_law.proofs.ComputedExamples
use Rattle.poly_law.proofs.examples.e7_has_no_rows_at_4.Goals as goal

pub returns : goal.returns
returns c = ComputedExamples.e7_has_no_rows_at_4
