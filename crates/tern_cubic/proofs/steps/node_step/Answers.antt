use Rattle.jet_law.specs.Terms.{poly_of}
use Rattle.tern_cubic.proofs.MatrixRows.{node_step_is}
use Rattle.tern_cubic.proofs.steps.node_step.Goals as goal

pub returns-clause-matrix : goal.returns-clause-matrix
returns-clause-matrix g c =
    let m = g.F.Ring.meaning c.args.field.now in
    node_step_is m (poly_of 3 m.value c.args.f.now.terms) (m.value c.coefficient-divisor.result) (m.value c.in_ok-a.a) (m.value c.in_ok-b.b) c.shear.result
    c.coefficient-divisor.ensures.value c.in_ok-a.ensures.value c.in_ok-b.ensures.value (c.shear.ensures 1)
