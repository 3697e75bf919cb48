use Rattle.std.proofs.Common.{◌++◌, inl, inr, List, sym, ◌∙◌, ap₂, subst, arith}
use Rattle.ring_law.proofs.Exits.{fault_handed_on}
use Rattle.coord_change.specs.Changes.{entry_of}
use Rattle.move_law.specs.Hessian.{permuting}
use Rattle.hessian_rank.specs.Stages.{stage_of, IsRegular, IsMatrixOf}
use Rattle.hessian_rank.proofs.StageSteps.{puts_of, inverse_high}
use Rattle.hessian_rank.proofs.DiagonalAnswers.{order_length, order_each, order_once, order_all, order_matrix}
use Rattle.hessian_rank.proofs.diagonal.sorted.Goals as goal

pub permuting_matrix-requires-clause-at_most_8_variables : goal.permuting_matrix-requires-clause-at_most_8_variables
permuting_matrix-requires-clause-at_most_8_variables g c =
    let m = g.F.Ring.meaning c.args.field.now in
    let laws = (g.met.F.Ring.laws c.args.field.now c.requires.ring).numbers in
    let n = c.args.stage.now.change.n in
    let e = c.deref-3.ensures.value ∙ c.in_ok-extend_from_slice-2.ensures.items ∙ ap₂ (λ x y. x ++ y) (c.in_ok-extend_from_slice.ensures.items ∙ ap₂ (λ x y. x ++ y) c.new-order.ensures.items c.deref.ensures.value) c.deref-2.ensures.value in
    let l = order_length n m.scalars laws (stage_of m n c.args.stage.now) c.requires.sound c.deref-3.result.now e in
    let few = c.requires.stage.change.at_most_8_variables in
    omega arith

pub permuting_matrix-requires-clause-inside : goal.permuting_matrix-requires-clause-inside
permuting_matrix-requires-clause-inside g c =
    let m = g.F.Ring.meaning c.args.field.now in
    let laws = (g.met.F.Ring.laws c.args.field.now c.requires.ring).numbers in
    let n = c.args.stage.now.change.n in
    let e = c.deref-3.ensures.value ∙ c.in_ok-extend_from_slice-2.ensures.items ∙ ap₂ (λ x y. x ++ y) (c.in_ok-extend_from_slice.ensures.items ∙ ap₂ (λ x y. x ++ y) c.new-order.ensures.items c.deref.ensures.value) c.deref-2.ensures.value in
    order_each n m.scalars laws (stage_of m n c.args.stage.now) c.requires.sound c.deref-3.result.now e

pub permuting_matrix-requires-clause-distinct : goal.permuting_matrix-requires-clause-distinct
permuting_matrix-requires-clause-distinct g c =
    let m = g.F.Ring.meaning c.args.field.now in
    let laws = (g.met.F.Ring.laws c.args.field.now c.requires.ring).numbers in
    let n = c.args.stage.now.change.n in
    let e = c.deref-3.ensures.value ∙ c.in_ok-extend_from_slice-2.ensures.items ∙ ap₂ (λ x y. x ++ y) (c.in_ok-extend_from_slice.ensures.items ∙ ap₂ (λ x y. x ++ y) c.new-order.ensures.items c.deref.ensures.value) c.deref-2.ensures.value in
    order_once n m.scalars laws (stage_of m n c.args.stage.now) c.requires.sound c.deref-3.result.now e

pub permuting_matrix-requires-clause-onto : goal.permuting_matrix-requires-clause-onto
permuting_matrix-requires-clause-onto g c =
    let m = g.F.Ring.meaning c.args.field.now in
    let laws = (g.met.F.Ring.laws c.args.field.now c.requires.ring).numbers in
    let n = c.args.stage.now.change.n in
    let e = c.deref-3.ensures.value ∙ c.in_ok-extend_from_slice-2.ensures.items ∙ ap₂ (λ x y. x ++ y) (c.in_ok-extend_from_slice.ensures.items ∙ ap₂ (λ x y. x ++ y) c.new-order.ensures.items c.deref.ensures.value) c.deref-2.ensures.value in
    order_all n m.scalars laws (stage_of m n c.args.stage.now) c.requires.sound c.deref-3.result.now e

pub linear_change-requires-clause-given : goal.linear_change-requires-clause-given
linear_change-requires-clause-given g c = c.requires.stage.change.given

pub linear_change-requires-clause-at_most_8_variables : goal.linear_change-requires-clause-at_most_8_variables
linear_change-requires-clause-at_most_8_variables g c = c.requires.stage.change.at_most_8_variables

pub linear_change-requires-clause-matrix : goal.linear_change-requires-clause-matrix
linear_change-requires-clause-matrix g c =
    let m = g.F.Ring.meaning c.args.field.now in
    let laws = (g.met.F.Ring.laws c.args.field.now c.requires.ring).numbers in
    let n = c.args.stage.now.change.n in
    let e = c.deref-3.ensures.value ∙ c.in_ok-extend_from_slice-2.ensures.items ∙ ap₂ (λ x y. x ++ y) (c.in_ok-extend_from_slice.ensures.items ∙ ap₂ (λ x y. x ++ y) c.new-order.ensures.items c.deref.ensures.value) c.deref-2.ensures.value in
    subst (λ (es : List g.row.F-Elem.Denot). IsRegular m n es) (sym c.deref-4.ensures.value)
    (order_matrix n m.scalars laws (stage_of m n c.args.stage.now) c.requires.sound c.deref-3.result.now e m c.in_ok-matrix.matrix.items c.in_ok-matrix.ensures.matrix).matrix

pub composed-requires-clause-first_change : goal.composed-requires-clause-first_change
composed-requires-clause-first_change g c = c.requires.stage.change

pub composed-requires-clause-next_change : goal.composed-requires-clause-next_change
composed-requires-clause-next_change g c = c.in_ok-last.ensures.change.change

pub composed-requires-clause-same_variables : goal.composed-requires-clause-same_variables
composed-requires-clause-same_variables g c = c.in_ok-last.ensures.change.variables

pub returns-in_err-last-clause-range : goal.returns-in_err-last-clause-range
returns-in_err-last-clause-range g c =
    let m = g.F.Ring.meaning c.args.field.now in
    let laws = (g.met.F.Ring.laws c.args.field.now c.requires.ring).numbers in
    let n = c.args.stage.now.change.n in
    let q = stage_of m n c.args.stage.now in
    let e = c.deref-3.ensures.value ∙ c.in_ok-extend_from_slice-2.ensures.items ∙ ap₂ (λ x y. x ++ y) (c.in_ok-extend_from_slice.ensures.items ∙ ap₂ (λ x y. x ++ y) c.new-order.ensures.items c.deref.ensures.value) c.deref-2.ensures.value in
    let is = order_matrix n m.scalars laws q c.requires.sound c.deref-3.result.now e m c.in_ok-matrix.matrix.items c.in_ok-matrix.ensures.matrix in
    let here = subst (λ (es : List g.row.F-Elem.Denot). IsMatrixOf m n (permuting n m.scalars (q.opened ++ q.closed)) es) (sym c.deref-4.ensures.value) is in
    fault_handed_on _ c.from_residual-in_err-last.ensures.1 (λ high. inl (inverse_high m laws n (entry_of m n c.deref-4.result.now) (permuting n m.scalars (q.opened ++ q.closed)) here.linear high)) c.in_err-last.ensures.range

pub returns-in_err-change-clause-range : goal.returns-in_err-change-clause-range
returns-in_err-change-clause-range g c =
    let m = g.F.Ring.meaning c.args.field.now in
    let laws = (g.met.F.Ring.laws c.args.field.now c.requires.ring).numbers in
    let n = c.args.stage.now.change.n in
    let q = stage_of m n c.args.stage.now in
    let e = c.deref-3.ensures.value ∙ c.in_ok-extend_from_slice-2.ensures.items ∙ ap₂ (λ x y. x ++ y) (c.in_ok-extend_from_slice.ensures.items ∙ ap₂ (λ x y. x ++ y) c.new-order.ensures.items c.deref.ensures.value) c.deref-2.ensures.value in
    let is = order_matrix n m.scalars laws q c.requires.sound c.deref-3.result.now e m c.in_ok-matrix.matrix.items c.in_ok-matrix.ensures.matrix in
    let here = subst (λ (es : List g.row.F-Elem.Denot). IsMatrixOf m n (permuting n m.scalars (q.opened ++ q.closed)) es) (sym c.deref-4.ensures.value) is in
    let puts = puts_of m laws n (entry_of m n c.deref-4.result.now) (permuting n m.scalars (q.opened ++ q.closed)) c.in_ok-last.last here.linear c.in_ok-last.ensures.change in
    fault_handed_on _ c.from_residual-in_err-change.ensures.1 (λ high. inr high) (c.in_err-change.ensures.range (permuting n m.scalars (q.opened ++ q.closed)) puts)

pub returns-clause-change : goal.returns-clause-change
returns-clause-change g c =
    let m = g.F.Ring.meaning c.args.field.now in
    let laws = (g.met.F.Ring.laws c.args.field.now c.requires.ring).numbers in
    let n = c.args.stage.now.change.n in
    let q = stage_of m n c.args.stage.now in
    let e = c.deref-3.ensures.value ∙ c.in_ok-extend_from_slice-2.ensures.items ∙ ap₂ (λ x y. x ++ y) (c.in_ok-extend_from_slice.ensures.items ∙ ap₂ (λ x y. x ++ y) c.new-order.ensures.items c.deref.ensures.value) c.deref-2.ensures.value in
    let is = order_matrix n m.scalars laws q c.requires.sound c.deref-3.result.now e m c.in_ok-matrix.matrix.items c.in_ok-matrix.ensures.matrix in
    let here = subst (λ (es : List g.row.F-Elem.Denot). IsMatrixOf m n (permuting n m.scalars (q.opened ++ q.closed)) es) (sym c.deref-4.ensures.value) is in
    let puts = puts_of m laws n (entry_of m n c.deref-4.result.now) (permuting n m.scalars (q.opened ++ q.closed)) c.in_ok-last.last here.linear c.in_ok-last.ensures.change in
    c.in_ok-change.ensures.change (permuting n m.scalars (q.opened ++ q.closed)) puts
