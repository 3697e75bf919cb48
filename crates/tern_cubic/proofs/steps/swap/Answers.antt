use Rattle.std.proofs.Common.{sym, ap, ◌∙◌}
use Rattle.ternary_law.specs.Matrices.{two_in_row, unit_row}
use Rattle.tern_cubic.proofs.MatrixRows.{two_row_is, unit_swap, other_swap, half}
use Rattle.tern_cubic.proofs.steps.swap.Goals as goal

pub returns-then-is_zero-clause-matrix : goal.returns-then-is_zero-clause-matrix
returns-then-is_zero-clause-matrix g c =
    let m = g.F.Ring.meaning c.args.field.now in
    unit_swap m c.args.p (m.value c.args.q0) (m.value c.args.q1) c.unit.result (sym c.if-is_zero.true ∙ c.is_zero.ensures) c.unit.ensures

pub returns-clause-matrix : goal.returns-clause-matrix
returns-clause-matrix g c =
    let m = g.F.Ring.meaning c.args.field.now in
    let s = m.scalars in
    let p = c.args.p in
    let h = half m p (m.value c.args.q0) (m.value c.args.q1) in
    let v = two_in_row s 0 (s.ops.neg h) p s.ops.one in
    let w = unit_row s 0 in
    let first = two_row_is m 0 p (m.value c.neg.result) (m.value c.one.result) (s.ops.neg h) s.ops.one c.two_in_row-x.result
    (c.neg.ensures.value ∙ ap s.ops.neg c.in_ok-half.ensures.value) c.one.ensures.value c.two_in_row-x.ensures in
    other_swap m p (m.value c.args.q0) (m.value c.args.q1) c.pair_row.result c.pair_row-2.result c.pair_row-3.result (sym c.if-is_zero.false ∙ c.is_zero.ensures)
    (c.pair_row.ensures v w first c.unit_row-y.ensures) (c.pair_row-2.ensures v w first c.unit_row-y.ensures) (c.pair_row-3.ensures v w first c.unit_row-y.ensures)
