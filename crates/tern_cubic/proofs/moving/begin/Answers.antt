use Rattle.std.proofs.Common.{refl, sym, ◌∙◌, inl, inr}
use Rattle.ring_law.proofs.Exits.{fault_handed_on}
use Rattle.jet_law.specs.Terms.{poly_of}
use Rattle.coord_change.specs.MoveJets.{IsMoveExactly}
use Rattle.ternary_law.specs.Matrices.{linear_move}
use Rattle.tern_cubic.proofs.MovingLemmas
use Rattle.tern_cubic.proofs.moving.begin.Goals as goal

pub returns-in_err-change-clause-range : goal.returns-in_err-change-clause-range
returns-in_err-change-clause-range g c w is = fault_handed_on _ c.from_residual.ensures.1 (λ high. inl high) (c.in_err-change.ensures.range w is)

pub returns-in_default-clause-way : goal.returns-in_default-clause-way
returns-in_default-clause-way g c w is = rw c.in_default.is at (c.in_ok-change.ensures.change w is)

pub carried_jet-requires-clause-change : goal.carried_jet-requires-clause-change
carried_jet-requires-clause-change g c =
    let e : IsMoveExactly (g.F.Ring.meaning c.args.field.now) 3 16 _ c.in-Some.change = rw c.in-Some.is at (c.in_ok-change.ensures.change _ c.requires.matrix) in e.change

pub carried_jet-requires-clause-same_variables : goal.carried_jet-requires-clause-same_variables
carried_jet-requires-clause-same_variables g c =
    let e : IsMoveExactly (g.F.Ring.meaning c.args.field.now) 3 16 _ c.in-Some.change = rw c.in-Some.is at (c.in_ok-change.ensures.change _ c.requires.matrix) in c.requires.jet.variables ∙ sym e.variables

pub returns-in_err-form-clause-range : goal.returns-in_err-form-clause-range
returns-in_err-form-clause-range g c w is =
    let m = g.F.Ring.meaning c.args.field.now in
    let laws = (g.met.F.Ring.laws c.args.field.now c.requires.field).numbers in
    let e : IsMoveExactly m 3 16 (linear_move 3 m.scalars w) c.in-Some.change = rw c.in-Some.is at (c.in_ok-change.ensures.change w is) in
    fault_handed_on _ c.from_residual-in_err-form.ensures.1
    (λ high. inr (inl (MovingLemmas.carrying_high m laws w c.in-Some.change e (poly_of 3 m.value c.args.f.now.terms) c.args.f.now refl high)))
    c.in_err-form.ensures.range

pub returns-clause-way : goal.returns-clause-way
returns-clause-way g c w is =
    let m = g.F.Ring.meaning c.args.field.now in
    let laws = (g.met.F.Ring.laws c.args.field.now c.requires.field).numbers in
    let e : IsMoveExactly m 3 16 (linear_move 3 m.scalars w) c.in-Some.change = rw c.in-Some.is at (c.in_ok-change.ensures.change w is) in
    record { change = e; form = MovingLemmas.carried_is m laws w c.in-Some.change e (poly_of 3 m.value c.args.f.now.terms) c.args.f.now refl c.in_ok-form.form c.in_ok-form.ensures.jet }
