use Rattle.std.proofs.Common.{inl, subst}
use Rattle.ring_law.proofs.Exits.{faulted_by}
use Rattle.hessian_rank.specs.Sound.{IsLinear}
use Rattle.move_law.specs.Binary.{less_x}
use Rattle.rules_corank2.proofs.BinaryMoves.{same_plane, same_regular, change_ok, linear_less_x, regular_lower}
use Rattle.rules_corank2.proofs.begin_moves.less_x_change.Goals as goal

pub plane_change-requires-clause-regular : goal.plane_change-requires-clause-regular
plane_change-requires-clause-regular g c =
    let m = g.F.Ring.meaning c.args.field.now in
    let l = (g.met.F.Ring.laws c.args.field.now c.requires.ring).numbers in
    same_regular m.scalars c.one-one.ensures.value c.zero-zero.ensures.value c.neg-opposite.ensures.value c.one-one.ensures.value (regular_lower m.scalars l (m.scalars.ops.neg (m.value c.args.v)))

pub returns-clause-change : goal.returns-clause-change
returns-clause-change g c =
    let m = g.F.Ring.meaning c.args.field.now in
    let l = (g.met.F.Ring.laws c.args.field.now c.requires.ring).numbers in
    let n = c.args.n in
    change_ok m n _ (less_x n m.scalars (m.value c.args.v)) (subst (λ z. IsLinear n m.scalars z (less_x n m.scalars (m.value c.args.v))) (same_plane m.scalars c.one-one.ensures.value c.zero-zero.ensures.value c.neg-opposite.ensures.value c.one-one.ensures.value) (linear_less_x n m.scalars l c.requires.two_variables (m.value c.args.v))) c.plane_change.result c.plane_change.ensures.change

pub returns-clause-range : goal.returns-clause-range
returns-clause-range g c =
    let m = g.F.Ring.meaning c.args.field.now in
    let l = (g.met.F.Ring.laws c.args.field.now c.requires.ring).numbers in
    let n = c.args.n in
    faulted_by (λ high. inl (high (less_x n m.scalars (m.value c.args.v)) (subst (λ z. IsLinear n m.scalars z (less_x n m.scalars (m.value c.args.v))) (same_plane m.scalars c.one-one.ensures.value c.zero-zero.ensures.value c.neg-opposite.ensures.value c.one-one.ensures.value) (linear_less_x n m.scalars l c.requires.two_variables (m.value c.args.v))))) c.plane_change.ensures.range
