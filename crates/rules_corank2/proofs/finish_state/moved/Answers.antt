use Rattle.std.proofs.Common.{List, subst}
use Rattle.ring_law.proofs.Exits.{fault_handed_on}
use Rattle.mono_exp.specs.declared.exponent.Exp.{Exp}
use Rattle.jet_poly.specs.JetTerms.{IsRising}
use Rattle.rules_corank2.proofs.FinishMoves.{carry_fault, moved_ok, composing_fault, composing_ok}
use Rattle.rules_corank2.proofs.finish_state.moved.Goals as goal

pub returns-in_err-form-clause-range : goal.returns-in_err-form-clause-range
returns-in_err-form-clause-range g c =
    let m = g.R.Ring.meaning c.args.ring.now in
    let l = (g.met.R.Ring.laws c.args.ring.now c.requires.ring).numbers in
    fault_handed_on _ c.from_residual.ensures.1
    (λ high p move finding is to. carry_fault m l c.args.state.form.n c.args.state.form.order c.args.state c.args.change p move finding is to c.order-order.result c.order-order.ensures c.requires.variables high)
    c.in_err-form.ensures.range

pub returns-in_err-change-clause-range : goal.returns-in_err-change-clause-range
returns-in_err-change-clause-range g c =
    let m = g.R.Ring.meaning c.args.ring.now in
    let l = (g.met.R.Ring.laws c.args.ring.now c.requires.ring).numbers in
    fault_handed_on _ c.from_residual-in_err-change.ensures.1
    (λ high p move finding is to. composing_fault m l c.args.state.form.n c.args.state.form.order c.args.state c.args.change p move finding is to c.order-order.result c.order-order.ensures c.args.change.n c.requires.variables high)
    c.in_err-change.ensures.range

pub returns-clause-moved : goal.returns-clause-moved
returns-clause-moved g c p move finding is to =
    let m = g.R.Ring.meaning c.args.ring.now in
    let l = (g.met.R.Ring.laws c.args.ring.now c.requires.ring).numbers in
    let n = c.args.state.form.n in
    let o = c.args.state.form.order in
    let k = c.order-order.result in
    let e = c.in_ok-form.ensures in
    moved_ok m l n o c.args.state c.args.change p move finding is to k c.order-order.ensures c.requires.variables c.in_ok-form.form e.jet e.n e.order
    (subst (λ (zs : List (Exp × g.row.R-Elem.Denot)). IsRising zs) c.terms.ensures.terms c.terms.ensures.rising) e.value c.in_ok-change.change
    (composing_ok m l n o c.args.state c.args.change p move finding is to k c.order-order.ensures c.args.change.n c.requires.variables c.in_ok-change.change c.in_ok-change.ensures.change)
