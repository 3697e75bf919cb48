use Rattle.std.proofs.Common.{None, sym, subst, ◌∙◌, arith}
use Rattle.move_law.specs.Finish.{finish_part}
use Rattle.ring_law.proofs.Exits.{faulted_by}
use Rattle.jet_law.specs.Terms.{poly_of}
use Rattle.rules_corank2.specs.Finishes.{IsFinishingHigh, choice_of}
use Rattle.rules_corank2.specs.Finished.{IsFinished}
use Rattle.rules_corank2.proofs.FinishChosen.{answers, found, of_part, plan_some, plan_none, two_of, same_if_ok}
use Rattle.rules_corank2.proofs.finish_graded.finish_chosen.Goals as goal

pub choices-requires : goal.choices-requires
choices-requires g c = record { two_variables = two_of c.args.part c.requires.chosen }

pub finish_of-requires-clause-of_part : goal.finish_of-requires-clause-of_part
finish_of-requires-clause-of_part g c =
    let m = g.F.Ring.meaning c.args.field.now in
    let n = c.args.state.form.n in
    let f = poly_of n m.value c.args.state.form.terms in
    let e = of_part m n c.args.part c.requires.chosen c.choices.result.now c.choices.ensures f c.in-Some.choice (sym c.in-Some.is ∙ c.first_choice.ensures) in
    let h = c.requires.two_variables in
    omega arith

pub finish_of-requires-clause-regular : goal.finish_of-requires-clause-regular
finish_of-requires-clause-regular g c =
    let m = g.F.Ring.meaning c.args.field.now in
    let n = c.args.state.form.n in
    let f = poly_of n m.value c.args.state.form.terms in
    c.requires.regular (choice_of c.in-Some.choice) (found m n c.args.part c.requires.chosen c.choices.result.now c.choices.ensures f c.in-Some.choice (sym c.in-Some.is ∙ c.first_choice.ensures))

pub returns-in-Some-clause-range : goal.returns-in-Some-clause-range
returns-in-Some-clause-range g c =
    let m = g.F.Ring.meaning c.args.field.now in
    let n = c.args.state.form.n in
    let o = c.args.state.form.order in
    let f = poly_of n m.value c.args.state.form.terms in
    faulted_by
    (λ high p is. subst (λ z. IsFinishingHigh n m.scalars o z.0)
    (sym (plan_some m n c.args.part c.requires.chosen c.choices.result.now c.choices.ensures f o p is.form.polynomial c.in-Some.choice (sym c.in-Some.is ∙ c.first_choice.ensures))) (high p is))
    c.finish_of.ensures.range

pub returns-in-Some-clause-finished : goal.returns-in-Some-clause-finished
returns-in-Some-clause-finished g c =
    let m = g.F.Ring.meaning c.args.field.now in
    let n = c.args.state.form.n in
    let o = c.args.state.form.order in
    let f = poly_of n m.value c.args.state.form.terms in
    same_if_ok c.finish_of.result
    (λ answer taken p is. subst (λ z. IsFinished m n o z answer)
    (sym (plan_some m n c.args.part c.requires.chosen c.choices.result.now c.choices.ensures f o p is.form.polynomial c.in-Some.choice (sym c.in-Some.is ∙ c.first_choice.ensures))) (taken p is))
    c.finish_of.ensures.finished

pub returns-in-None-clause-finished : goal.returns-in-None-clause-finished
returns-in-None-clause-finished g c p is =
    let m = g.F.Ring.meaning c.args.field.now in
    let n = c.args.state.form.n in
    let o = c.args.state.form.order in
    let f = poly_of n m.value c.args.state.form.terms in
    answers m n o (finish_part n m.scalars o c.args.part p) p None (plan_none m n c.args.part c.requires.chosen c.choices.result.now c.choices.ensures f o p is.form.polynomial (sym c.in-None.is ∙ c.first_choice.ensures))
    c.args.state is
