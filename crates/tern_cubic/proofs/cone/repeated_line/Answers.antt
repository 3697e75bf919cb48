use Rattle.std.proofs.Common.{subst}
use Rattle.ring_law.proofs.Exits.{handed_on}
use Rattle.ring_theory.specs.Height.{rational_scalars}
use Rattle.lin_row.specs.Plain.{Among}
use Rattle.move_law.specs.Shapes.{cubic_work}
use Rattle.move_law.specs.Work.{IsWorkHigh}
use Rattle.tern_cubic.proofs.ConeLemmas.{work_in_three}
use Rattle.tern_cubic.proofs.cone.repeated_line.Goals as goal

pub returns-in_err-cubic_shape-clause-range : goal.returns-in_err-cubic_shape-clause-range
returns-in_err-cubic_shape-clause-range c =
    handed_on _ c.from_residual.ensures.1
    (λ high. subst (λ k. Among (IsWorkHigh 3 rational_scalars) (cubic_work rational_scalars 3 k)) c.binary_part-c.ensures.values (work_in_three _ high))
    c.in_err-cubic_shape.ensures.range
