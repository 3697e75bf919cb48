use Rattle.std.proofs.Common.{subst, sym}
use Rattle.rules_corank2.specs.Planes.{plane_of, HasMatrix}
use Rattle.rules_corank2.proofs.PlaneMatrices
use Rattle.rules_corank2.proofs.BinaryMoves.{by_change}
use Rattle.rules_corank2.proofs.begin_plane.plane_change.Goals as goal

pub unreachable-requires : goal.unreachable-requires
unreachable-requires g c =
    let m = g.F.Ring.meaning c.args.field.now in
    let l = (g.met.F.Ring.laws c.args.field.now c.requires.ring).numbers in
    let n = c.args.n in
    let w = plane_of m.scalars (m.value c.args.x.0) (m.value c.args.x.1) (m.value c.args.y.0) (m.value c.args.y.1) in
    let has : HasMatrix m n w c.as_slice.result.now = subst (λ z. HasMatrix m n w z) (sym c.as_slice.ensures.value) c.in_ok-matrix.ensures.matrix in
    let kernel = rw c.in-Err-Singular.field-0-is at c.in-Err-Singular.ensures.singular.only in
    kernel.other (PlaneMatrices.matrix_regular m l n w c.as_slice.result.now has
    (PlaneMatrices.plane_regular n m.scalars l c.requires.two_variables (m.value c.args.x.0) (m.value c.args.x.1) (m.value c.args.y.0) (m.value c.args.y.1) c.requires.regular) _ kernel.kernel kernel.place kernel.inside)

pub returns-in-Err-Range-clause-range : goal.returns-in-Err-Range-clause-range
returns-in-Err-Range-clause-range g c =
    let m = g.F.Ring.meaning c.args.field.now in
    let l = (g.met.F.Ring.laws c.args.field.now c.requires.ring).numbers in
    let n = c.args.n in
    let w = plane_of m.scalars (m.value c.args.x.0) (m.value c.args.x.1) (m.value c.args.y.0) (m.value c.args.y.1) in
    let has : HasMatrix m n w c.as_slice.result.now = subst (λ z. HasMatrix m n w z) (sym c.as_slice.ensures.value) c.in_ok-matrix.ensures.matrix in
    rw c.in-Err-Range.field-0-is
    (let u = rw c.in-Err-Range.field-0-is at c.in-Err-Range.ensures.range.only in
    record { only = (u.0, λ move is. PlaneMatrices.matrix_high m l n w c.as_slice.result.now has move is u.1) })

pub returns-in-Ok-clause-change : goal.returns-in-Ok-clause-change
returns-in-Ok-clause-change g c =
    let m = g.F.Ring.meaning c.args.field.now in
    let l = (g.met.F.Ring.laws c.args.field.now c.requires.ring).numbers in
    let n = c.args.n in
    let w = plane_of m.scalars (m.value c.args.x.0) (m.value c.args.x.1) (m.value c.args.y.0) (m.value c.args.y.1) in
    let has : HasMatrix m n w c.as_slice.result.now = subst (λ z. HasMatrix m n w z) (sym c.as_slice.ensures.value) c.in_ok-matrix.ensures.matrix in
    let e = c.in-Ok.ensures in
    by_change m l n w c.as_slice.result.now has c.in-Ok.change e.change e.n e.parts c.up_to.result c.up_to.ensures.change
