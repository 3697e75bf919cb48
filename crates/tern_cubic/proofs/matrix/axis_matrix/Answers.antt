use Rattle.tern_cubic.specs.Matrices.{vector_of}
use Rattle.tern_cubic.proofs.MatrixRows.{axis_matrix_is}
use Rattle.tern_cubic.proofs.matrix.axis_matrix.Goals as goal

pub returns-clause-matrix : goal.returns-clause-matrix
returns-clause-matrix g c =
    let m = g.F.Ring.meaning c.args.field.now in
    axis_matrix_is m c.args.p c.last_place-j.result (vector_of m c.args.v.now) (m.value c.in_ok-x.x) (m.value c.in_ok-y.y) (m.value c.in_ok-z.z)
    c.axis_row.result c.axis_row-2.result c.axis_row-3.result c.last_place-j.ensures.place
    c.in_ok-x.ensures.value c.in_ok-y.ensures.value c.in_ok-z.ensures.value c.axis_row.ensures c.axis_row-2.ensures c.axis_row-3.ensures
