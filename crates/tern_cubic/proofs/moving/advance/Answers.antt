use Rattle.std.proofs.Common.{sym, ◌∙◌, inl, inr}
use Rattle.ring_law.proofs.Exits.{fault_handed_on}
use Rattle.coord_change.specs.MoveJets.{IsMoveExactly}
use Rattle.ternary_law.specs.Matrices.{linear_move}
use Rattle.tern_cubic.specs.Moving as moving
use Rattle.tern_cubic.proofs.MovingLemmas
use Rattle.tern_cubic.proofs.Inverses3
use Rattle.tern_cubic.proofs.moving.advance.Goals as goal

pub returns-in_err-next-clause-range : goal.returns-in_err-next-clause-range
returns-in_err-next-clause-range g c v w f was is = fault_handed_on _ c.from_residual.ensures.1 (λ high. inl high) (c.in_err-next.ensures.range w is)

pub returns-in_default-clause-way : goal.returns-in_default-clause-way
returns-in_default-clause-way g c v w f was is =
    let m = g.F.Ring.meaning c.args.field.now in
    let laws = (g.met.F.Ring.laws c.args.field.now c.requires.field).numbers in
    let none : moving.IsSingular m.scalars w = rw c.in_default.is at (c.in_ok-next.ensures.change w is) in
    Inverses3.singular_after m.scalars laws v (moving.inverse_matrix m c.args.way.now.change) w (MovingLemmas.are_inverse m laws v c.args.way.now.change was.change) none

pub then-requires-clause-next_change : goal.then-requires-clause-next_change
then-requires-clause-next_change g c =
    let e : IsMoveExactly (g.F.Ring.meaning c.args.field.now) 3 16 _ c.in-Some.next = rw c.in-Some.is at (c.in_ok-next.ensures.change _ c.requires.matrix) in e.change

pub then-requires-clause-same_variables : goal.then-requires-clause-same_variables
then-requires-clause-same_variables g c =
    let e : IsMoveExactly (g.F.Ring.meaning c.args.field.now) 3 16 _ c.in-Some.next = rw c.in-Some.is at (c.in_ok-next.ensures.change _ c.requires.matrix) in
    e.variables ∙ sym c.requires.under_way.is.change.variables

pub returns-in_err-change-clause-range : goal.returns-in_err-change-clause-range
returns-in_err-change-clause-range g c v w f was is =
    let m = g.F.Ring.meaning c.args.field.now in
    let laws = (g.met.F.Ring.laws c.args.field.now c.requires.field).numbers in
    let e : IsMoveExactly m 3 16 (linear_move 3 m.scalars w) c.in-Some.next = rw c.in-Some.is at (c.in_ok-next.ensures.change w is) in
    fault_handed_on _ c.from_residual-in_err-change.ensures.1
    (λ high. inr (inl (MovingLemmas.composing_high m laws w c.in-Some.next e v c.args.way.now.change was.change high)))
    c.in_err-change.ensures.range

pub carried_jet-requires-clause-change : goal.carried_jet-requires-clause-change
carried_jet-requires-clause-change g c =
    let e : IsMoveExactly (g.F.Ring.meaning c.args.field.now) 3 16 _ c.in-Some.next = rw c.in-Some.is at (c.in_ok-next.ensures.change _ c.requires.matrix) in e.change

pub carried_jet-requires-clause-same_variables : goal.carried_jet-requires-clause-same_variables
carried_jet-requires-clause-same_variables g c =
    let e : IsMoveExactly (g.F.Ring.meaning c.args.field.now) 3 16 _ c.in-Some.next = rw c.in-Some.is at (c.in_ok-next.ensures.change _ c.requires.matrix) in
    c.requires.under_way.is.form.variables ∙ sym e.variables

pub returns-in_err-form-clause-range : goal.returns-in_err-form-clause-range
returns-in_err-form-clause-range g c v w f was is =
    let m = g.F.Ring.meaning c.args.field.now in
    let laws = (g.met.F.Ring.laws c.args.field.now c.requires.field).numbers in
    let e : IsMoveExactly m 3 16 (linear_move 3 m.scalars w) c.in-Some.next = rw c.in-Some.is at (c.in_ok-next.ensures.change w is) in
    fault_handed_on _ c.from_residual-in_err-form.ensures.1
    (λ high. inr (inr (inl (MovingLemmas.carrying_high m laws w c.in-Some.next e f c.args.way.now.form was.form.polynomial high))))
    c.in_err-form.ensures.range

pub returns-clause-way : goal.returns-clause-way
returns-clause-way g c v w f was is =
    let m = g.F.Ring.meaning c.args.field.now in
    let laws = (g.met.F.Ring.laws c.args.field.now c.requires.field).numbers in
    let e : IsMoveExactly m 3 16 (linear_move 3 m.scalars w) c.in-Some.next = rw c.in-Some.is at (c.in_ok-next.ensures.change w is) in
    let t = c.in_ok-change.ensures in
    record {
      change = MovingLemmas.composed_is m laws w c.in-Some.next e v c.args.way.now.change was.change c.in_ok-change.change t.change t.n t.order t.moves;
      form = MovingLemmas.carried_is m laws w c.in-Some.next e f c.args.way.now.form was.form.polynomial c.in_ok-form.form c.in_ok-form.ensures.jet;
    }
