use Rattle.std.proofs.Common.{sym, refl, ◌∙◌, arith}
use Rattle.jet_law.specs.Terms.{poly_of}
use Rattle.move_law.specs.Moves.{is_there, power_exponents}
use Rattle.rules_corank2.proofs.FinishChoices.{not_here, found_least, none_least}
use Rattle.rules_corank2.proofs.finish_choice.least.Goals as goal

pub loop-m-init : goal.loop-m-init
loop-m-init g c = refl

pub loop-m-preserved : goal.loop-m-preserved
loop-m-preserved g c =
    let m0 = g.R.Ring.meaning c.args.ring.now in
    let n = c.args.f.now.n in
    not_here (λ m. is_there n m0.scalars (poly_of n m0.value c.args.f.now.terms) (power_exponents n c.args.i m)) c.loop-m.m c.loop-m.auto.m c.loop-m.invariant (sym c.has_power.ensures ∙ c.if-has_power.false)

pub returns-then-has_power-clause-value : goal.returns-then-has_power-clause-value
returns-then-has_power-clause-value g c =
    let m0 = g.R.Ring.meaning c.args.ring.now in
    let n = c.args.f.now.n in
    let o = c.order-m-end.ensures in
    let t = c.loop-m-test.true in
    sym (found_least (λ m. is_there n m0.scalars (poly_of n m0.value c.args.f.now.terms) (power_exponents n c.args.i m)) c.loop-m.m c.args.f.now.order c.loop-m.auto.m (omega arith) c.loop-m.invariant (sym c.has_power.ensures ∙ c.if-has_power.true))

pub returns-clause-value : goal.returns-clause-value
returns-clause-value g c =
    let m0 = g.R.Ring.meaning c.args.ring.now in
    let n = c.args.f.now.n in
    let o = c.order-m-end.ensures in
    let t = c.loop-m-test.false in
    sym (none_least (λ m. is_there n m0.scalars (poly_of n m0.value c.args.f.now.terms) (power_exponents n c.args.i m)) c.loop-m.m c.args.f.now.order c.loop-m.auto.m (omega arith) c.loop-m.invariant)
