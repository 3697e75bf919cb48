use Rattle.ring_theory.proofs.HeightLaws as heights
use Rattle.ring_theory.proofs.laws.rational_heights.Goals as goal

pub returns-clause-results : goal.returns-clause-results
returns-clause-results c = heights.rational_heights

pub returns-clause-inverses : goal.returns-clause-inverses
returns-clause-inverses c = heights.rational_inverse_heights
