use Rattle.std.proofs.Common.{ap, ◌∙◌}
use Rattle.jet_law.specs.Terms.{poly_of}
use Rattle.move_law.specs.Moves.{over}
use Rattle.ternary_law.specs.Cubics.{coef}
use Rattle.ternary_law.specs.Steps.{less_row}
use Rattle.tern_cubic.proofs.MatrixRows.{less_row_is, secant_step_is}
use Rattle.tern_cubic.proofs.steps.secant_step.Goals as goal

pub returns-clause-matrix : goal.returns-clause-matrix
returns-clause-matrix g c =
    let m = g.F.Ring.meaning c.args.field.now in
    let s = m.scalars in
    let f = poly_of 3 m.value c.args.f.now.terms in
    let k = coef s f 1 1 1 in
    let a = over s (coef s f 2 0 1) k in
    let b = over s (coef s f 2 1 0) k in
    let y = less_row_is m 1 0 2 (m.value c.in_ok-a.a) (m.value c.zero.result) a s.ops.zero c.less_row-y.result
    (c.in_ok-a.ensures.value ∙ ap (over s (coef s f 2 0 1)) c.coefficient-divisor.ensures.value) c.zero.ensures.value (c.less_row-y.ensures 2) in
    let z = less_row_is m 2 0 1 (m.value c.in_ok-b.b) (m.value c.zero-2.result) b s.ops.zero c.less_row-z.result
    (c.in_ok-b.ensures.value ∙ ap (over s (coef s f 2 1 0)) c.coefficient-divisor.ensures.value) c.zero-2.ensures.value (c.less_row-z.ensures 1) in
    let v = less_row s 1 0 2 a s.ops.zero in
    let w = less_row s 2 0 1 b s.ops.zero in
    secant_step_is m f c.pair_row.result c.pair_row-2.result c.pair_row-3.result
    (c.pair_row.ensures v w y z) (c.pair_row-2.ensures v w y z) (c.pair_row-3.ensures v w y z)
