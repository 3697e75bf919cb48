use Rattle.jet_poly.proofs.Steps.{if_ok}
use Rattle.ring_law.proofs.Exits.{refused_by}
use Rattle.tern_cubic.proofs.MatrixRows.{swap_is, swap_work_is}
use Rattle.tern_cubic.proofs.steps.tangent_first.Goals as goal

pub returns-clause-matrix : goal.returns-clause-matrix
returns-clause-matrix g c =
    let m = g.F.Ring.meaning c.args.field.now in
    if_ok c.swap.result (λ rows h. swap_is m 1 (m.value c.coefficient-q0.result) (m.value c.coefficient-q1.result) _ _ rows c.coefficient-q0.ensures.value c.coefficient-q1.ensures.value h) c.swap.ensures.matrix

pub returns-clause-range : goal.returns-clause-range
returns-clause-range g c =
    let m = g.F.Ring.meaning c.args.field.now in
    refused_by (swap_work_is m (m.value c.coefficient-q0.result) (m.value c.coefficient-q1.result) _ _ c.coefficient-q0.ensures.value c.coefficient-q1.ensures.value) c.swap.ensures.range
