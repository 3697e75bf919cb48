use Rattle.std.proofs.Common.{sym, ap, subst, ◌∙◌, arith}
use Rattle.ring_law.proofs.Exits.{fault_handed_on}
use Rattle.jet_law.specs.Terms.{poly_of}
use Rattle.rules_corank2.specs.Finishes.{IsUnderWay, IsFinishingHigh}
use Rattle.rules_corank3.specs.Finishes.{choice_of}
use Rattle.rules_corank3.proofs.FirstChoice.{some_is, none_is, three_of, chosen_some, chosen_none}
use Rattle.rules_corank3.proofs.finish_part.finish_by_choice.Goals as goal

pub graded_kill-requires-clause-of_part : goal.graded_kill-requires-clause-of_part
graded_kill-requires-clause-of_part g c =
    let m = g.F.Ring.meaning c.args.field.now in
    let n = c.args.state.form.n in
    let f = poly_of n m.value c.args.state.form.terms in
    let first = some_is n m.scalars c.args.part f c.choices.result.now c.choices.ensures c.in-Some.choice (sym c.in-Some.is ∙ c.first_choice.ensures) in
    let e = three_of n m.scalars c.args.part c.requires.of_part f (choice_of c.in-Some.choice) first in
    let h = c.requires.three_variables in
    omega arith

pub graded_kill-requires-clause-regular : goal.graded_kill-requires-clause-regular
graded_kill-requires-clause-regular g c =
    let m = g.F.Ring.meaning c.args.field.now in
    let n = c.args.state.form.n in
    let f = poly_of n m.value c.args.state.form.terms in
    c.requires.regular (choice_of c.in-Some.choice) (some_is n m.scalars c.args.part f c.choices.result.now c.choices.ensures c.in-Some.choice (sym c.in-Some.is ∙ c.first_choice.ensures))

pub returns-in_err-next-in-Some-clause-range : goal.returns-in_err-next-in-Some-clause-range
returns-in_err-next-in-Some-clause-range g c =
    let m = g.F.Ring.meaning c.args.field.now in
    let n = c.args.state.form.n in
    let o = c.args.state.form.order in
    let f = poly_of n m.value c.args.state.form.terms in
    let first = some_is n m.scalars c.args.part f c.choices.result.now c.choices.ensures c.in-Some.choice (sym c.in-Some.is ∙ c.first_choice.ensures) in
    fault_handed_on _ c.from_residual.ensures.1
    (λ high p is. subst (IsFinishingHigh n m.scalars o) (sym (ap (λ z. z.0) (chosen_some n m.scalars o c.args.part c.requires.of_part f p is.form.polynomial (choice_of c.in-Some.choice) first))) (high p is))
    c.in_err-next-in-Some.ensures.range

pub returns-in_ok-next-in-Some-clause-finished : goal.returns-in_ok-next-in-Some-clause-finished
returns-in_ok-next-in-Some-clause-finished g c p is =
    let m = g.F.Ring.meaning c.args.field.now in
    let n = c.args.state.form.n in
    let o = c.args.state.form.order in
    let f = poly_of n m.value c.args.state.form.terms in
    let first = some_is n m.scalars c.args.part f c.choices.result.now c.choices.ensures c.in-Some.choice (sym c.in-Some.is ∙ c.first_choice.ensures) in
    subst (λ z. IsUnderWay m n o z c.in_ok-next-in-Some.next)
    (sym (ap (λ z. z.0) (chosen_some n m.scalars o c.args.part c.requires.of_part f p is.form.polynomial (choice_of c.in-Some.choice) first)))
    (c.in_ok-next-in-Some.ensures.killed p is)

pub returns-in_ok-next-in-Some-clause-family : goal.returns-in_ok-next-in-Some-clause-family
returns-in_ok-next-in-Some-clause-family g c p is =
    let m = g.F.Ring.meaning c.args.field.now in
    let n = c.args.state.form.n in
    let f = poly_of n m.value c.args.state.form.terms in
    let first = some_is n m.scalars c.args.part f c.choices.result.now c.choices.ensures c.in-Some.choice (sym c.in-Some.is ∙ c.first_choice.ensures) in
    ap (λ z. z.1) (chosen_some n m.scalars c.args.state.form.order c.args.part c.requires.of_part f p is.form.polynomial (choice_of c.in-Some.choice) first)

pub returns-in-None-clause-finished : goal.returns-in-None-clause-finished
returns-in-None-clause-finished g c p is =
    let m = g.F.Ring.meaning c.args.field.now in
    let n = c.args.state.form.n in
    let o = c.args.state.form.order in
    let f = poly_of n m.value c.args.state.form.terms in
    subst (λ z. IsUnderWay m n o z c.args.state)
    (sym (ap (λ z. z.0) (chosen_none n m.scalars o c.args.part f p is.form.polynomial (none_is n m.scalars c.args.part f c.choices.result.now c.choices.ensures (sym c.in-None.is ∙ c.first_choice.ensures))))) is

pub returns-in-None-clause-family : goal.returns-in-None-clause-family
returns-in-None-clause-family g c p is =
    let m = g.F.Ring.meaning c.args.field.now in
    let n = c.args.state.form.n in
    let f = poly_of n m.value c.args.state.form.terms in
    ap (λ z. z.1) (chosen_none n m.scalars c.args.state.form.order c.args.part f p is.form.polynomial (none_is n m.scalars c.args.part f c.choices.result.now c.choices.ensures (sym c.in-None.is ∙ c.first_choice.ensures)))
