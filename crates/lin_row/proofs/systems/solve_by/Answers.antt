use Rattle.std.proofs.Common.{◌∙◌, inl}
use Rattle.ring_law.proofs.Exits.{fault_handed_on}
use Rattle.lin_row.proofs.systems.solve_by.Goals as goal

pub returns-in_err-system-clause-cause : goal.returns-in_err-system-clause-cause
returns-in_err-system-clause-cause g c plain = fault_handed_on _ c.from_residual.ensures.1 (λ high. inl high) (c.in_err-system.ensures.cause plain)

pub returns-in_err-solution-clause-cause : goal.returns-in_err-solution-clause-cause
returns-in_err-solution-clause-cause g c plain =
    fault_handed_on _ c.from_residual-in_err-solution.ensures.1 (λ high. high) (c.in_err-solution.ensures.cause (c.in_ok-system.ensures.way ∙ plain))
