use Rattle.kept_law.proofs.LeftMonomials
use Rattle.kept_law.proofs.laws.modulus_is_left.Goals as goal

pub returns-clause-families : goal.returns-clause-families
returns-clause-families g = LeftMonomials.choices_leave_modulus

pub returns-clause-powers : goal.returns-clause-powers
returns-clause-powers g = LeftMonomials.tail_leaves_powers
