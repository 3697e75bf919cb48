use Rattle.jet_law.specs.Terms.{poly_of}
use Rattle.tern_cubic.proofs.MatrixRows.{tangent_second_is}
use Rattle.tern_cubic.proofs.steps.tangent_second.Goals as goal

pub returns-clause-matrix : goal.returns-clause-matrix
returns-clause-matrix g c =
    let m = g.F.Ring.meaning c.args.field.now in
    tangent_second_is m (poly_of 3 m.value c.args.f.now.terms) (m.value c.coefficient-x.result) (m.value c.coefficient-y.result) (m.value c.in_ok-a.a) (m.value c.zero.result) c.shear.result
    c.coefficient-x.ensures.value c.coefficient-y.ensures.value c.in_ok-a.ensures.value c.zero.ensures.value (c.shear.ensures 0)
