use Rattle.std.proofs.Common.{◌≤◌, [], ◌∷◌, refl, ap, ap₂, subst, ◌∙◌, arith}
use Rattle.ring_law.proofs.Exits.{faulted, fault_handed_on}
use Rattle.jet_law.specs.Terms.{poly_of}
use Rattle.coord_change.specs.Moves.{variable_of}
use Rattle.kill_table.specs.Moves.{IsPutFor}
use Rattle.move_law.specs.Finish.{triple_root_move, triple_root_work}
use Rattle.split_lemma.specs.Splits.{AnyHigh}
use Rattle.rules_corank2.specs.Finishes.{IsUnderWay, IsFinishingHigh}
use Rattle.rules_corank2.specs.Tails.{root_shift}
use Rattle.rules_corank2.proofs.FinishMoves.{moved_finding_high}
use Rattle.rules_corank2.proofs.FinishTails.{root_moves, root_part}
use Rattle.rules_corank2.proofs.PlaneMoves.{root_put}
use Rattle.rules_corank2.proofs.PlaneTerms.{ordered_1, ordered_2, put_at, term_is, x_term, y_term}
use Rattle.rules_corank2.proofs.finish_tail.move_root.Goals as goal

pub two_terms_jet-requires-clause-ordered : goal.two_terms_jet-requires-clause-ordered
two_terms_jet-requires-clause-ordered g c =
    let m = g.F.Ring.meaning c.args.field.now in
    let wide : 2 ≤ c.n-n.result = (let e = c.n-n.ensures in let h = c.requires.two_variables in omega arith) in
    let low : 2 ≤ c.order-order.result = (let e = c.order-order.ensures in let h = c.requires.standing.is.order_at_least_2 in omega arith) in
    ordered_2 m c.n-n.result c.order-order.result wide 1 0 0 2 (c.two_powers.result, c.one.result) (c.two_powers-2.result, c.neg.result)
    (record { exponents = c.two_powers.ensures; low = omega arith; elem = c.one.ensures.elem })
    (record { exponents = c.two_powers-2.ensures; low = omega arith; elem = c.neg.ensures.elem }) refl

pub one_term_jet-requires-clause-ordered : goal.one_term_jet-requires-clause-ordered
one_term_jet-requires-clause-ordered g c =
    let m = g.F.Ring.meaning c.args.field.now in
    let wide : 2 ≤ c.n-n.result = (let e = c.n-n.ensures in let h = c.requires.two_variables in omega arith) in
    let low : 2 ≤ c.order-order.result = (let e = c.order-order.ensures in let h = c.requires.standing.is.order_at_least_2 in omega arith) in
    ordered_1 m c.n-n.result c.order-order.result wide 0 1 (c.two_powers-3.result, c.one-2.result)
    (record { exponents = c.two_powers-3.ensures; low = omega arith; elem = c.one-2.ensures.elem })

pub put_two-requires-clause-put : goal.put_two-requires-clause-put
put_two-requires-clause-put g c =
    let m = g.F.Ring.meaning c.args.field.now in
    let l = (g.met.F.Ring.laws c.args.field.now c.requires.ring).numbers in
    let n = c.args.state.form.n in
    let o = c.args.state.form.order in
    let f = poly_of n m.value c.args.state.form.terms in
    let first_is : IsPutFor m n o (root_part n m.scalars o f) c.in_ok-first.first =
    put_at m n o c.n-n.result c.order-order.result c.n-n.ensures c.order-order.ensures ((c.two_powers.result, c.one.result) ∷ (c.two_powers-2.result, c.neg.result) ∷ []) (root_part n m.scalars o f)
    (ap₂ (λ x y. x ∷ y ∷ []) (x_term m n c.two_powers.result c.two_powers.ensures c.one.result c.one.ensures.value)
    (term_is m n c.two_powers-2.result 0 2 c.two_powers-2.ensures c.neg.result (m.scalars.ops.neg (root_shift n m.scalars f)) (c.neg.ensures.value ∙ ap m.scalars.ops.neg c.in_ok-shift.ensures.value)))
    c.in_ok-first.first c.in_ok-first.ensures.jet in
    let second_is : IsPutFor m n o (variable_of n m.scalars 1) c.in_ok-second.second =
    put_at m n o c.n-n.result c.order-order.result c.n-n.ensures c.order-order.ensures ((c.two_powers-3.result, c.one-2.result) ∷ []) (variable_of n m.scalars 1)
    (ap (λ x. x ∷ []) (y_term m n c.two_powers-3.result c.two_powers-3.ensures c.one-2.result c.one-2.ensures.value))
    c.in_ok-second.second c.in_ok-second.ensures.jet in
    root_put m l n o c.requires.two_variables c.in_ok-first.first c.in_ok-second.second (m.scalars.ops.neg (root_shift n m.scalars f)) first_is second_is

pub returns-in_err-shift-clause-range : goal.returns-in_err-shift-clause-range
returns-in_err-shift-clause-range g c =
    let m = g.F.Ring.meaning c.args.field.now in
    let l = (g.met.F.Ring.laws c.args.field.now c.requires.ring).numbers in
    let n = c.args.state.form.n in
    let o = c.args.state.form.order in
    faulted _ c.from_residual.ensures.1
    (λ high s is. moved_finding_high m l n o s (triple_root_move n m.scalars o s.form) (triple_root_work n m.scalars o s.form) (subst (λ p. AnyHigh n m.scalars (triple_root_work n m.scalars o p)) is.form.polynomial high))
    c.in_err-shift.ensures.range

pub returns-in_err-next-clause-range : goal.returns-in_err-next-clause-range
returns-in_err-next-clause-range g c =
    let m = g.F.Ring.meaning c.args.field.now in
    let l = (g.met.F.Ring.laws c.args.field.now c.requires.ring).numbers in
    let n = c.args.state.form.n in
    let o = c.args.state.form.order in
    let f = poly_of n m.value c.args.state.form.terms in
    let first_is : IsPutFor m n o (root_part n m.scalars o f) c.in_ok-first.first =
    put_at m n o c.n-n.result c.order-order.result c.n-n.ensures c.order-order.ensures ((c.two_powers.result, c.one.result) ∷ (c.two_powers-2.result, c.neg.result) ∷ []) (root_part n m.scalars o f)
    (ap₂ (λ x y. x ∷ y ∷ []) (x_term m n c.two_powers.result c.two_powers.ensures c.one.result c.one.ensures.value)
    (term_is m n c.two_powers-2.result 0 2 c.two_powers-2.ensures c.neg.result (m.scalars.ops.neg (root_shift n m.scalars f)) (c.neg.ensures.value ∙ ap m.scalars.ops.neg c.in_ok-shift.ensures.value)))
    c.in_ok-first.first c.in_ok-first.ensures.jet in
    let second_is : IsPutFor m n o (variable_of n m.scalars 1) c.in_ok-second.second =
    put_at m n o c.n-n.result c.order-order.result c.n-n.ensures c.order-order.ensures ((c.two_powers-3.result, c.one-2.result) ∷ []) (variable_of n m.scalars 1)
    (ap (λ x. x ∷ []) (y_term m n c.two_powers-3.result c.two_powers-3.ensures c.one-2.result c.one-2.ensures.value))
    c.in_ok-second.second c.in_ok-second.ensures.jet in
    fault_handed_on _ c.from_residual-in_err-next.ensures.1
    (λ high s is. subst (IsFinishingHigh n m.scalars o) (root_moves n m.scalars o f s is.form.polynomial)
    (high (root_part n m.scalars o f) (variable_of n m.scalars 1) first_is second_is (triple_root_work n m.scalars o s.form) s is))
    c.in_err-next.ensures.range

pub returns-clause-moved : goal.returns-clause-moved
returns-clause-moved g c s is =
    let m = g.F.Ring.meaning c.args.field.now in
    let l = (g.met.F.Ring.laws c.args.field.now c.requires.ring).numbers in
    let n = c.args.state.form.n in
    let o = c.args.state.form.order in
    let f = poly_of n m.value c.args.state.form.terms in
    let first_is : IsPutFor m n o (root_part n m.scalars o f) c.in_ok-first.first =
    put_at m n o c.n-n.result c.order-order.result c.n-n.ensures c.order-order.ensures ((c.two_powers.result, c.one.result) ∷ (c.two_powers-2.result, c.neg.result) ∷ []) (root_part n m.scalars o f)
    (ap₂ (λ x y. x ∷ y ∷ []) (x_term m n c.two_powers.result c.two_powers.ensures c.one.result c.one.ensures.value)
    (term_is m n c.two_powers-2.result 0 2 c.two_powers-2.ensures c.neg.result (m.scalars.ops.neg (root_shift n m.scalars f)) (c.neg.ensures.value ∙ ap m.scalars.ops.neg c.in_ok-shift.ensures.value)))
    c.in_ok-first.first c.in_ok-first.ensures.jet in
    let second_is : IsPutFor m n o (variable_of n m.scalars 1) c.in_ok-second.second =
    put_at m n o c.n-n.result c.order-order.result c.n-n.ensures c.order-order.ensures ((c.two_powers-3.result, c.one-2.result) ∷ []) (variable_of n m.scalars 1)
    (ap (λ x. x ∷ []) (y_term m n c.two_powers-3.result c.two_powers-3.ensures c.one-2.result c.one-2.ensures.value))
    c.in_ok-second.second c.in_ok-second.ensures.jet in
    subst (λ z. IsUnderWay m n o z c.in_ok-next.next) (root_moves n m.scalars o f s is.form.polynomial)
    (c.in_ok-next.ensures.moved (root_part n m.scalars o f) (variable_of n m.scalars 1) first_is second_is (triple_root_work n m.scalars o s.form) s is)
