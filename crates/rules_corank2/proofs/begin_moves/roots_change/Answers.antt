use Rattle.std.proofs.Common.{refl, inl, ap, ◌∙◌, subst}
use Rattle.ring_law.proofs.Exits.{faulted_by}
use Rattle.hessian_rank.specs.Sound.{IsLinear}
use Rattle.move_law.specs.Binary.{roots_to_axes}
use Rattle.rules_corank2.proofs.BinaryMoves.{same_plane, same_regular, change_ok, linear_roots, regular_roots}
use Rattle.rules_corank2.proofs.begin_moves.roots_change.Goals as goal

pub plane_change-requires-clause-regular : goal.plane_change-requires-clause-regular
plane_change-requires-clause-regular g c =
    let m = g.F.Ring.meaning c.args.field.now in
    let l = (g.met.F.Ring.laws c.args.field.now c.requires.ring).numbers in
    same_regular m.scalars refl c.neg-opposite.ensures.value c.one-one.ensures.value (c.neg-minus.ensures.value ∙ ap m.scalars.ops.neg c.one-one.ensures.value) (regular_roots m.scalars l (g.met.F.Field.inverts c.args.field.now c.requires.ring) (m.value c.args.u) (m.value c.args.v) c.requires.different)

pub returns-clause-change : goal.returns-clause-change
returns-clause-change g c =
    let m = g.F.Ring.meaning c.args.field.now in
    let l = (g.met.F.Ring.laws c.args.field.now c.requires.ring).numbers in
    let n = c.args.n in
    change_ok m n _ (roots_to_axes n m.scalars (m.value c.args.u) (m.value c.args.v)) (subst (λ z. IsLinear n m.scalars z (roots_to_axes n m.scalars (m.value c.args.u) (m.value c.args.v))) (same_plane m.scalars refl c.neg-opposite.ensures.value c.one-one.ensures.value (c.neg-minus.ensures.value ∙ ap m.scalars.ops.neg c.one-one.ensures.value)) (linear_roots n m.scalars l c.requires.two_variables (m.value c.args.u) (m.value c.args.v))) c.plane_change.result c.plane_change.ensures.change

pub returns-clause-range : goal.returns-clause-range
returns-clause-range g c =
    let m = g.F.Ring.meaning c.args.field.now in
    let l = (g.met.F.Ring.laws c.args.field.now c.requires.ring).numbers in
    let n = c.args.n in
    faulted_by (λ high. inl (high (roots_to_axes n m.scalars (m.value c.args.u) (m.value c.args.v)) (subst (λ z. IsLinear n m.scalars z (roots_to_axes n m.scalars (m.value c.args.u) (m.value c.args.v))) (same_plane m.scalars refl c.neg-opposite.ensures.value c.one-one.ensures.value (c.neg-minus.ensures.value ∙ ap m.scalars.ops.neg c.one-one.ensures.value)) (linear_roots n m.scalars l c.requires.two_variables (m.value c.args.u) (m.value c.args.v))))) c.plane_change.ensures.range
