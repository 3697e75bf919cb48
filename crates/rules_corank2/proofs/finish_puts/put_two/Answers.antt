use Rattle.std.proofs.Common.{◌≤◌, inl, [], ◌∷◌, sym, subst, ◌∙◌, arith}
use Rattle.ring_law.proofs.Exits.{fault_handed_on}
use Rattle.poly_law.specs.Polynomials.{StartsAtIn}
use Rattle.jet_law.specs.Terms.{poly_of}
use Rattle.coord_change.specs.Inverses.{HasNoKernel, InverseIsHigh}
use Rattle.coord_change.specs.MoveJets.{IsMoveExactly}
use Rattle.coord_change.specs.Moves.{move_of, linear_part}
use Rattle.rules_corank2.proofs.FinishMoves.{moved_last_high}
use Rattle.rules_corank2.proofs.MadeMoves.{made_inverse_high}
use Rattle.rules_corank2.proofs.TwoPuts.{made_to, high_of_made, put_regular, first_low, second_low}
use Rattle.rules_corank2.proofs.finish_puts.put_two.Goals as goal

pub putting-requires-clause-same_variables : goal.putting-requires-clause-same_variables
putting-requires-clause-same_variables g c = c.requires.put.second_is.variables ∙ sym c.requires.put.first_is.variables

pub putting-requires-clause-same_order : goal.putting-requires-clause-same_order
putting-requires-clause-same_order g c = c.requires.put.second_is.order ∙ sym c.requires.put.first_is.order

pub putting-requires-clause-p_jet : goal.putting-requires-clause-p_jet
putting-requires-clause-p_jet g c = c.requires.put.first_is.jet

pub putting-requires-clause-q_jet : goal.putting-requires-clause-q_jet
putting-requires-clause-q_jet g c = c.requires.put.second_is.jet

pub putting-requires-clause-at_most_8_variables : goal.putting-requires-clause-at_most_8_variables
putting-requires-clause-at_most_8_variables g c = let e = c.requires.put.first_is.variables in let h = c.requires.standing.is.at_most_8_variables in omega arith

pub putting-requires-clause-order_at_least_1 : goal.putting-requires-clause-order_at_least_1
putting-requires-clause-order_at_least_1 g c = let e = c.requires.put.first_is.order in let h = c.requires.standing.is.order_at_least_2 in omega arith

pub putting-requires-clause-order_at_most_17 : goal.putting-requires-clause-order_at_most_17
putting-requires-clause-order_at_most_17 g c = let e = c.requires.put.first_is.order in let h = c.requires.standing.is.order_at_most_16 in omega arith

pub putting-requires-clause-i_inside : goal.putting-requires-clause-i_inside
putting-requires-clause-i_inside g c = let e = c.requires.put.first_is.variables in let h = c.requires.i_inside in omega arith

pub putting-requires-clause-j_inside : goal.putting-requires-clause-j_inside
putting-requires-clause-j_inside g c = let e = c.requires.put.first_is.variables in let h = c.requires.j_inside in omega arith

pub putting-requires-clause-p_low : goal.putting-requires-clause-p_low
putting-requires-clause-p_low g c =
    let m = g.F.Ring.meaning c.args.field.now in
    let l = (g.met.F.Ring.laws c.args.field.now c.requires.ring).numbers in
    let n = c.args.state.form.n in
    let o = c.args.state.form.order in
    let one : 1 ≤ o = (let h = c.requires.standing.is.order_at_least_2 in omega arith) in
    subst (λ z. StartsAtIn z m.scalars.ops 1 (poly_of z m.value c.args.p.terms)) (sym c.requires.put.first_is.variables) (first_low m l n o c.args.i c.args.j one c.args.p c.args.q c.requires.put)

pub putting-requires-clause-q_low : goal.putting-requires-clause-q_low
putting-requires-clause-q_low g c =
    let m = g.F.Ring.meaning c.args.field.now in
    let l = (g.met.F.Ring.laws c.args.field.now c.requires.ring).numbers in
    let n = c.args.state.form.n in
    let o = c.args.state.form.order in
    let one : 1 ≤ o = (let h = c.requires.standing.is.order_at_least_2 in omega arith) in
    subst (λ z. StartsAtIn z m.scalars.ops 1 (poly_of z m.value c.args.q.terms)) (sym c.requires.put.first_is.variables) (second_low m l n o c.args.i c.args.j one c.args.p c.args.q c.requires.put)

pub putting-requires-clause-regular : goal.putting-requires-clause-regular
putting-requires-clause-regular g c =
    let m = g.F.Ring.meaning c.args.field.now in
    let l = (g.met.F.Ring.laws c.args.field.now c.requires.ring).numbers in
    let n = c.args.state.form.n in
    let o = c.args.state.form.order in
    let one : 1 ≤ o = (let h = c.requires.standing.is.order_at_least_2 in omega arith) in
    subst (λ z. HasNoKernel m.scalars.ops z (linear_part z m.scalars (move_of z m.scalars ((c.args.i, poly_of z m.value c.args.p.terms) ∷ (c.args.j, poly_of z m.value c.args.q.terms) ∷ []))))
    (sym c.requires.put.first_is.variables) (put_regular m l n o c.args.i c.args.j one c.args.p c.args.q c.requires.put)

pub moved-requires-clause-change : goal.moved-requires-clause-change
moved-requires-clause-change g c = c.in_ok-change.ensures.change.change

pub moved-requires-clause-variables : goal.moved-requires-clause-variables
moved-requires-clause-variables g c = c.in_ok-change.ensures.change.variables ∙ c.requires.put.first_is.variables

pub returns-in_err-change-clause-range : goal.returns-in_err-change-clause-range
returns-in_err-change-clause-range g c =
    let m = g.F.Ring.meaning c.args.field.now in
    let l = (g.met.F.Ring.laws c.args.field.now c.requires.ring).numbers in
    let n = c.args.state.form.n in
    let o = c.args.state.form.order in
    let one : 1 ≤ o = (let h = c.requires.standing.is.order_at_least_2 in omega arith) in
    fault_handed_on _ c.from_residual.ensures.1
    (λ high f h f_is h_is finding s is.
    let move = move_of n m.scalars ((c.args.i, f) ∷ (c.args.j, h) ∷ []) in
    moved_last_high m l n o s move finding
    (inl (made_inverse_high n m.scalars l move
    (high_of_made m l n o c.args.i c.args.j one c.args.p c.args.q f h f_is h_is
    (subst (λ z. InverseIsHigh m.scalars z (linear_part z m.scalars (move_of z m.scalars ((c.args.i, poly_of z m.value c.args.p.terms) ∷ (c.args.j, poly_of z m.value c.args.q.terms) ∷ [])))) c.requires.put.first_is.variables high)))))
    c.in_err-change.ensures.range

pub returns-in_err-next-clause-range : goal.returns-in_err-next-clause-range
returns-in_err-next-clause-range g c =
    let m = g.F.Ring.meaning c.args.field.now in
    let l = (g.met.F.Ring.laws c.args.field.now c.requires.ring).numbers in
    let n = c.args.state.form.n in
    let o = c.args.state.form.order in
    let one : 1 ≤ o = (let h = c.requires.standing.is.order_at_least_2 in omega arith) in
    let change = c.in_ok-change.change in
    fault_handed_on _ c.from_residual-in_err-next.ensures.1
    (λ high f h f_is h_is finding s is.
    high s (move_of n m.scalars ((c.args.i, f) ∷ (c.args.j, h) ∷ [])) finding is
    (made_to m l n o c.args.i c.args.j one c.args.p c.args.q f h f_is h_is change
    (subst (λ z. IsMoveExactly m n z (move_of n m.scalars ((c.args.i, poly_of n m.value c.args.p.terms) ∷ (c.args.j, poly_of n m.value c.args.q.terms) ∷ [])) change) c.requires.put.first_is.order
    (subst (λ z. IsMoveExactly m z c.args.p.order (move_of z m.scalars ((c.args.i, poly_of z m.value c.args.p.terms) ∷ (c.args.j, poly_of z m.value c.args.q.terms) ∷ [])) change) c.requires.put.first_is.variables c.in_ok-change.ensures.change))))
    c.in_err-next.ensures.range

pub returns-clause-moved : goal.returns-clause-moved
returns-clause-moved g c f h f_is h_is finding s is =
    let m = g.F.Ring.meaning c.args.field.now in
    let l = (g.met.F.Ring.laws c.args.field.now c.requires.ring).numbers in
    let n = c.args.state.form.n in
    let o = c.args.state.form.order in
    let one : 1 ≤ o = (let z = c.requires.standing.is.order_at_least_2 in omega arith) in
    let change = c.in_ok-change.change in
    c.in_ok-next.ensures.moved s (move_of n m.scalars ((c.args.i, f) ∷ (c.args.j, h) ∷ [])) finding is
    (made_to m l n o c.args.i c.args.j one c.args.p c.args.q f h f_is h_is change
    (subst (λ z. IsMoveExactly m n z (move_of n m.scalars ((c.args.i, poly_of n m.value c.args.p.terms) ∷ (c.args.j, poly_of n m.value c.args.q.terms) ∷ [])) change) c.requires.put.first_is.order
    (subst (λ z. IsMoveExactly m z c.args.p.order (move_of z m.scalars ((c.args.i, poly_of z m.value c.args.p.terms) ∷ (c.args.j, poly_of z m.value c.args.q.terms) ∷ [])) change) c.requires.put.first_is.variables c.in_ok-change.ensures.change)))
