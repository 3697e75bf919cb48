use Rattle.ternary_law.specs.Matrices.{two_in_row}
use Rattle.tern_cubic.proofs.MatrixRows.{two_row_is}
use Rattle.tern_cubic.proofs.ConeLemmas.{sloped_matrix}
use Rattle.tern_cubic.proofs.cone.line_matrix.Goals as goal

pub returns : goal.returns
returns g c =
    let m = g.R.Ring.meaning c.args.ring.now in
    let s = m.scalars in
    let w = two_in_row s 0 s.ops.one 1 (s.ops.neg (m.value c.args.line.lambda)) in
    let row = two_row_is m 0 1 (m.value c.one-2.result) (m.value c.neg.result) s.ops.one (s.ops.neg (m.value c.args.line.lambda)) c.two_in_row-row.result
    c.one-2.ensures.value c.neg.ensures.value c.two_in_row-row.ensures in
    sloped_matrix m c.args.line c.if-line.false c.row_or_unit.result c.row_or_unit-2.result c.row_or_unit-3.result
    (c.row_or_unit.ensures w row) (c.row_or_unit-2.ensures w row) (c.row_or_unit-3.ensures w row)
