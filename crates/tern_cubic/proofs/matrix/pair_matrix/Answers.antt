use Rattle.std.proofs.Common.{refl, ap, ◌∙◌}
use Rattle.ternary_law.specs.Matrices.{two_in_row}
use Rattle.tern_cubic.proofs.MatrixRows.{three_rows, two_row_is}
use Rattle.tern_cubic.proofs.matrix.pair_matrix.Goals as goal

pub returns : goal.returns
returns g c =
    let m = g.R.Ring.meaning c.args.ring.now in
    let s = m.scalars in
    let i = c.args.i in
    let j = c.args.j in
    let v = two_in_row s i (m.value c.args.high) j (s.ops.neg (m.value c.args.low)) in
    let w = two_in_row s i s.ops.one j (s.ops.neg s.ops.one) in
    let first = two_row_is m i j (m.value c.args.high) (m.value c.neg.result) (m.value c.args.high) (s.ops.neg (m.value c.args.low)) c.two_in_row-first.result
    refl c.neg.ensures.value c.two_in_row-first.ensures in
    let second = two_row_is m i j (m.value c.one.result) (m.value c.neg-2.result) s.ops.one (s.ops.neg s.ops.one) c.two_in_row-second.result
    c.one.ensures.value (c.neg-2.ensures.value ∙ ap s.ops.neg c.one-2.ensures.value) c.two_in_row-second.ensures in
    three_rows m _ _ _ c.pair_row.result c.pair_row-2.result c.pair_row-3.result
    (c.pair_row.ensures v w first second) (c.pair_row-2.ensures v w first second) (c.pair_row-3.ensures v w first second)
