use Rattle.tern_cubic.specs.Matrices.{vector_of, pivot_entry_of}
use Rattle.tern_cubic.proofs.MatrixRows.{three_entries, plane_matrix_is}
use Rattle.tern_cubic.proofs.matrix.plane_matrix.Goals as goal

pub returns-clause-matrix : goal.returns-clause-matrix
returns-clause-matrix g c =
    let m = g.F.Ring.meaning c.args.field.now in
    let l = vector_of m c.args.l.now in
    let i = c.first_place-i.result in
    let entries = pivot_entry_of m.scalars c.args.p i l in
    let first = c.in_ok-pivot_entry in
    let second = c.in_ok-pivot_entry-2 in
    let third = c.in_ok-pivot_entry-3 in
    let pivot = three_entries m entries first.field-0 second.field-0 third.field-0
    first.ensures.elem second.ensures.elem third.ensures.elem first.ensures.value second.ensures.value third.ensures.value in
    plane_matrix_is m c.args.p i l c.plane_row.result c.plane_row-2.result c.plane_row-3.result c.first_place-i.ensures.place
    (c.plane_row.ensures entries pivot) (c.plane_row-2.ensures entries pivot) (c.plane_row-3.ensures entries pivot)
