use Rattle.std.proofs.Common.{get_or, sym, ◌∙◌}
use Rattle.jet_law.specs.Terms.{poly_of}
use Rattle.jet_subst.proofs.PowerLemmas.{any_default}
use Rattle.move_law.specs.Moves.{is_there}
use Rattle.hessian_rank.proofs.Pivots.{first_here, first_later, first_end}
use Rattle.rules_corank3.specs.declared.finish_choice.Choice as coded
use Rattle.rules_corank3.proofs.finish_choice.first_choice.Goals as goal

pub loop-choice-preserved : goal.loop-choice-preserved
loop-choice-preserved g c =
    let m = g.R.Ring.meaning c.args.ring.now in
    let n = c.args.f.now.n in
    let p = λ (ch : coded.Choice). is_there n m.scalars (poly_of n m.value c.args.f.now.terms) ch.monomial in
    let k = c.loop-choice.choice-index in
    let x = get_or c.args.choices.now k _ in
    c.loop-choice.invariant ∙ first_later p c.args.choices.now k x c.loop-choice-test.true (any_default c.args.choices.now k _ x c.loop-choice-test.true) (sym c.is_there.ensures ∙ c.if-is_there.false)

pub returns-then-is_there : goal.returns-then-is_there
returns-then-is_there g c =
    let m = g.R.Ring.meaning c.args.ring.now in
    let n = c.args.f.now.n in
    let p = λ (ch : coded.Choice). is_there n m.scalars (poly_of n m.value c.args.f.now.terms) ch.monomial in
    let k = c.loop-choice.choice-index in
    sym (c.loop-choice.invariant ∙ first_here p c.args.choices.now k _ c.loop-choice-test.true (any_default c.args.choices.now k _ _ c.loop-choice-test.true) (sym c.is_there.ensures ∙ c.if-is_there.true))

pub returns : goal.returns
returns g c =
    let m = g.R.Ring.meaning c.args.ring.now in
    let n = c.args.f.now.n in
    let p = λ (ch : coded.Choice). is_there n m.scalars (poly_of n m.value c.args.f.now.terms) ch.monomial in
    sym (c.loop-choice.invariant ∙ first_end p c.args.choices.now c.loop-choice.choice-index c.loop-choice-test.false)
