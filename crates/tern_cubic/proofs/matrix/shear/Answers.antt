use Rattle.ternary_law.specs.Steps.{less_row}
use Rattle.tern_cubic.proofs.MatrixRows.{three_rows}
use Rattle.tern_cubic.proofs.matrix.shear.Goals as goal

pub returns : goal.returns
returns g c k =
    let m = g.R.Ring.meaning c.args.ring.now in
    let row = less_row m.scalars c.args.i c.args.j k (m.value c.args.a) (m.value c.args.b) in
    three_rows m _ _ _ c.row_or_unit.result c.row_or_unit-2.result c.row_or_unit-3.result
    (c.row_or_unit.ensures row (c.less_row-row.ensures k)) (c.row_or_unit-2.ensures row (c.less_row-row.ensures k)) (c.row_or_unit-3.ensures row (c.less_row-row.ensures k))
