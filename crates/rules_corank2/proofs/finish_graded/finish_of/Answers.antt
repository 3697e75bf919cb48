use Rattle.std.proofs.Common.{Some, sym, subst}
use Rattle.ring_law.proofs.Exits.{faulted_by, fault_handed_on}
use Rattle.jet_law.specs.Terms.{poly_of}
use Rattle.move_law.specs.Finish.{graded, graded_kill}
use Rattle.rules_corank2.specs.Finished.{IsFinished}
use Rattle.rules_corank2.specs.Finishes.{IsFinishingHigh}
use Rattle.rules_corank2.specs.Regular.{IsGradedRegular}
use Rattle.rules_corank2.proofs.FinishChosen.{answers, graded_plain, same_if_ok}
use Rattle.rules_corank2.proofs.finish_graded.finish_of.Goals as goal

pub finish_triple-requires-clause-regular : goal.finish_triple-requires-clause-regular
finish_triple-requires-clause-regular g c =
    let m = g.F.Ring.meaning c.args.field.now in
    let l = (g.met.F.Ring.laws c.args.field.now c.requires.ring).numbers in
    let n = c.args.state.form.n in
    let o = c.args.state.form.order in
    let f = poly_of n m.value c.args.state.form.terms in
    subst (λ z. IsGradedRegular n m.scalars o z f) c.in-J10.is c.requires.regular

pub returns-in-J10-clause-finished : goal.returns-in-J10-clause-finished
returns-in-J10-clause-finished g c =
    let m = g.F.Ring.meaning c.args.field.now in
    let l = (g.met.F.Ring.laws c.args.field.now c.requires.ring).numbers in
    let n = c.args.state.form.n in
    let o = c.args.state.form.order in
    let f = poly_of n m.value c.args.state.form.terms in
    same_if_ok c.finish_triple.result (λ answer ended s is. subst (λ z. IsFinished m n o (graded n m.scalars o z c.args.family s) answer) (sym c.in-J10.is) (ended s is)) c.finish_triple.ensures.finished

pub returns-in-J10-clause-range : goal.returns-in-J10-clause-range
returns-in-J10-clause-range g c =
    let m = g.F.Ring.meaning c.args.field.now in
    let l = (g.met.F.Ring.laws c.args.field.now c.requires.ring).numbers in
    let n = c.args.state.form.n in
    let o = c.args.state.form.order in
    let f = poly_of n m.value c.args.state.form.terms in
    faulted_by (λ high s is. subst (λ z. IsFinishingHigh n m.scalars o (graded n m.scalars o z c.args.family s).0) (sym c.in-J10.is) (high s is)) c.finish_triple.ensures.range

pub graded_kill-requires-clause-regular : goal.graded_kill-requires-clause-regular
graded_kill-requires-clause-regular g c = c.requires.regular.plain (λ e. absurd (c.in_default.not-J10 e))

pub returns-in_err-reached-in_default-clause-range : goal.returns-in_err-reached-in_default-clause-range
returns-in_err-reached-in_default-clause-range g c =
    let m = g.F.Ring.meaning c.args.field.now in
    let l = (g.met.F.Ring.laws c.args.field.now c.requires.ring).numbers in
    let n = c.args.state.form.n in
    let o = c.args.state.form.order in
    let f = poly_of n m.value c.args.state.form.terms in
    fault_handed_on _ c.from_residual.ensures.1
    (λ high s is. subst (λ z. IsFinishingHigh n m.scalars o z.0) (sym (graded_plain n m.scalars o s c.args.part c.args.family c.in_default.not-J10)) (high s is))
    c.in_err-reached-in_default.ensures.range

pub returns-in_ok-reached-in_default-clause-finished : goal.returns-in_ok-reached-in_default-clause-finished
returns-in_ok-reached-in_default-clause-finished g c s is =
    let m = g.F.Ring.meaning c.args.field.now in
    let l = (g.met.F.Ring.laws c.args.field.now c.requires.ring).numbers in
    let n = c.args.state.form.n in
    let o = c.args.state.form.order in
    let f = poly_of n m.value c.args.state.form.terms in
    answers m n o (graded n m.scalars o c.args.part c.args.family s) (graded_kill n m.scalars o c.args.part s) (Some c.args.family) (graded_plain n m.scalars o s c.args.part c.args.family c.in_default.not-J10)
    c.in_ok-reached-in_default.reached (c.in_ok-reached-in_default.ensures.killed s is)
