use Rattle.ternary_law.specs.Matrices.{two_in_row}
use Rattle.tern_cubic.proofs.MatrixRows.{three_rows, two_row_is}
use Rattle.tern_cubic.proofs.pair.corner_matrix.Goals as goal

pub returns : goal.returns
returns g c =
    let m = g.R.Ring.meaning c.args.ring.now in
    let s = m.scalars in
    let i = c.args.i in
    let j = c.args.j in
    let w = two_in_row s i s.ops.one j (s.ops.neg (m.value c.args.a)) in
    let row = two_row_is m i j (m.value c.one.result) (m.value c.neg.result) s.ops.one (s.ops.neg (m.value c.args.a)) c.two_in_row-row.result
    c.one.ensures.value c.neg.ensures.value c.two_in_row-row.ensures in
    three_rows m _ _ _ c.row_or_unit.result c.row_or_unit-2.result c.row_or_unit-3.result (c.row_or_unit.ensures w row) (c.row_or_unit-2.ensures w row) (c.row_or_unit-3.ensures w row)
