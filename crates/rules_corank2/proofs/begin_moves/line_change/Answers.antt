use Rattle.std.proofs.Common.{inl, subst}
use Rattle.ring_law.proofs.Exits.{faulted_by}
use Rattle.hessian_rank.specs.Sound.{IsLinear}
use Rattle.move_law.specs.Binary.{line_to_x}
use Rattle.move_law.specs.Shapes.{vertical, slope}
use Rattle.bin_forms.specs.Lines.{line_value}
use Rattle.rules_corank2.proofs.BinaryMoves.{same_plane, same_regular, change_ok, linear_vertical, linear_slope, regular_vertical, regular_upper}
use Rattle.rules_corank2.proofs.begin_moves.line_change.Goals as goal

pub plane_change-requires-clause-regular : goal.plane_change-requires-clause-regular
plane_change-requires-clause-regular g c =
    let m = g.F.Ring.meaning c.args.field.now in
    let l = (g.met.F.Ring.laws c.args.field.now c.requires.ring).numbers in
    same_regular m.scalars c.zero-zero.ensures.value c.one-one.ensures.value c.one-one.ensures.value c.zero-zero.ensures.value (regular_vertical m.scalars l)

pub returns-then-line-clause-change : goal.returns-then-line-clause-change
returns-then-line-clause-change g c =
    let m = g.F.Ring.meaning c.args.field.now in
    let l = (g.met.F.Ring.laws c.args.field.now c.requires.ring).numbers in
    let n = c.args.n in
    change_ok m n _ (line_to_x n m.scalars (line_value m.value c.args.line))
    (rw c.if-line.true (subst (λ z. IsLinear n m.scalars z (line_to_x n m.scalars vertical)) (same_plane m.scalars c.zero-zero.ensures.value c.one-one.ensures.value c.one-one.ensures.value c.zero-zero.ensures.value)
    (linear_vertical n m.scalars l c.requires.two_variables))) c.plane_change.result c.plane_change.ensures.change

pub returns-then-line-clause-range : goal.returns-then-line-clause-range
returns-then-line-clause-range g c =
    let m = g.F.Ring.meaning c.args.field.now in
    let l = (g.met.F.Ring.laws c.args.field.now c.requires.ring).numbers in
    let n = c.args.n in
    faulted_by (λ high. inl (high (line_to_x n m.scalars (line_value m.value c.args.line))
    (rw c.if-line.true (subst (λ z. IsLinear n m.scalars z (line_to_x n m.scalars vertical)) (same_plane m.scalars c.zero-zero.ensures.value c.one-one.ensures.value c.one-one.ensures.value c.zero-zero.ensures.value)
    (linear_vertical n m.scalars l c.requires.two_variables))))) c.plane_change.ensures.range

pub plane_change-requires-2-clause-regular : goal.plane_change-requires-2-clause-regular
plane_change-requires-2-clause-regular g c =
    let m = g.F.Ring.meaning c.args.field.now in
    let l = (g.met.F.Ring.laws c.args.field.now c.requires.ring).numbers in
    same_regular m.scalars c.one-one.ensures.value c.neg-opposite.ensures.value c.zero-zero.ensures.value c.one-one.ensures.value (regular_upper m.scalars l (m.scalars.ops.neg (m.value c.args.line.lambda)))

pub returns-clause-change : goal.returns-clause-change
returns-clause-change g c =
    let m = g.F.Ring.meaning c.args.field.now in
    let l = (g.met.F.Ring.laws c.args.field.now c.requires.ring).numbers in
    let n = c.args.n in
    change_ok m n _ (line_to_x n m.scalars (line_value m.value c.args.line))
    (rw c.if-line.false (subst (λ z. IsLinear n m.scalars z (line_to_x n m.scalars (slope (m.value c.args.line.lambda)))) (same_plane m.scalars c.one-one.ensures.value c.neg-opposite.ensures.value c.zero-zero.ensures.value c.one-one.ensures.value)
    (linear_slope n m.scalars l c.requires.two_variables (m.value c.args.line.lambda)))) c.plane_change-2.result c.plane_change-2.ensures.change

pub returns-clause-range : goal.returns-clause-range
returns-clause-range g c =
    let m = g.F.Ring.meaning c.args.field.now in
    let l = (g.met.F.Ring.laws c.args.field.now c.requires.ring).numbers in
    let n = c.args.n in
    faulted_by (λ high. inl (high (line_to_x n m.scalars (line_value m.value c.args.line))
    (rw c.if-line.false (subst (λ z. IsLinear n m.scalars z (line_to_x n m.scalars (slope (m.value c.args.line.lambda)))) (same_plane m.scalars c.one-one.ensures.value c.neg-opposite.ensures.value c.zero-zero.ensures.value c.one-one.ensures.value)
    (linear_slope n m.scalars l c.requires.two_variables (m.value c.args.line.lambda)))))) c.plane_change-2.ensures.range
