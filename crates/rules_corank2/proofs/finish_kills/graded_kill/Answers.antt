use Rattle.std.proofs.Common.{◌≡◌, ◌+◌, inl, inr, refl, sym, ap, subst, ◌∙◌, arith}
use Rattle.ring_law.proofs.Exits.{fault_handed_on}
use Rattle.move_law.specs.Finish.{kill_of, kills_at}
use Rattle.rules_corank2.specs.Finishes.{IsUnderWay, IsFinishingHigh, grades_before, last_grade}
use Rattle.rules_corank2.proofs.FinishKills.{degree_small, last_small, grades-none, kills-next, graded_high, graded-end, at_state, standing_of, divisors_at}
use Rattle.rules_corank2.proofs.finish_kills.graded_kill.Goals as goal

pub overflow_step-grade : goal.overflow_step-grade
overflow_step-grade g c = let d = degree_small c.args.part in let e = c.grading-degree.ensures.degree in omega arith

pub overflow_add-grade-end : goal.overflow_add-grade-end
overflow_add-grade-end g c =
    let o = c.order.ensures in let most = c.requires.standing.is.order_at_most_16 in
    let d = last_small c.args.part c.order.result (omega arith) in let e = c.last_grade-last.ensures in omega arith

pub loop-grade-init : goal.loop-grade-init
loop-grade-init g c =
    let m = g.F.Ring.meaning c.args.field.now in
    let n = c.args.state.form.n in
    let o = c.args.state.form.order in
    record {
      killed = λ p is. subst (λ z. IsUnderWay m n o (kills_at n m.scalars o c.args.part z p) c.args.state) (sym (ap (λ z. grades_before c.args.part (z + 1)) c.grading-degree.ensures.degree ∙ grades-none c.args.part)) is;
      within = inl refl;
    }

pub kill_grade-requires-clause-standing : goal.kill_grade-requires-clause-standing
kill_grade-requires-clause-standing g c =
    let m = g.F.Ring.meaning c.args.field.now in
    let n = c.args.state.form.n in
    let o = c.args.state.form.order in
    let start = c.requires.standing in
    standing_of m n o c.loop-grade.reached (kills_at n m.scalars o c.args.part (grades_before c.args.part c.loop-grade.grade) start.finish) (c.loop-grade.invariant.killed start.finish start.is)

pub kill_grade-requires-clause-divisors : goal.kill_grade-requires-clause-divisors
kill_grade-requires-clause-divisors g c =
    let m = g.F.Ring.meaning c.args.field.now in
    let l = (g.met.F.Ring.laws c.args.field.now c.requires.ring).numbers in
    let n = c.args.state.form.n in
    let o = c.args.state.form.order in
    let start = c.requires.standing in
    let low = c.loop-grade.auto.grade in
    let high = c.loop-grade-test.true in
    let degree = c.grading-degree.ensures.degree in
    let last : c.last_grade-last.result ≡ last_grade c.args.part o = c.last_grade-last.ensures ∙ ap (last_grade c.args.part) c.order.ensures in
    divisors_at m l n o c.args.state c.args.part c.loop-grade.grade start.finish start.is c.requires.regular c.loop-grade.reached (c.loop-grade.invariant.killed start.finish start.is) (omega arith) (omega arith)

pub kill_grade-requires-clause-of_part : goal.kill_grade-requires-clause-of_part
kill_grade-requires-clause-of_part g c =
    let start = c.requires.standing in
    let now = c.loop-grade.invariant.killed start.finish start.is in
    let e = now.form.variables in
    let h = c.requires.of_part in
    omega arith

pub returns-in_err-next-clause-range : goal.returns-in_err-next-clause-range
returns-in_err-next-clause-range g c =
    let m = g.F.Ring.meaning c.args.field.now in
    let s = m.scalars in
    let n = c.args.state.form.n in
    let o = c.args.state.form.order in
    let part = c.args.part in
    let grade = c.loop-grade.grade in
    let low = c.loop-grade.auto.grade in
    let high = c.loop-grade-test.true in
    let degree = c.grading-degree.ensures.degree in
    let last : c.last_grade-last.result ≡ last_grade part o = c.last_grade-last.ensures ∙ ap (last_grade part) c.order.ensures in
    fault_handed_on _ c.from_residual.ensures.1
    (λ f p is. graded_high n s o part grade p (omega arith) (omega arith)
    (at_state m c.loop-grade.reached (λ n o h. IsFinishingHigh n s o (kill_of n s o part grade h)) n o (kills_at n s o part (grades_before part grade) p) (c.loop-grade.invariant.killed p is) f))
    c.in_err-next.ensures.range

pub loop-grade-preserved : goal.loop-grade-preserved
loop-grade-preserved g c =
    let m = g.F.Ring.meaning c.args.field.now in
    let s = m.scalars in
    let n = c.args.state.form.n in
    let o = c.args.state.form.order in
    let part = c.args.part in
    let grade = c.loop-grade.grade in
    let low = c.loop-grade.auto.grade in
    let high = c.loop-grade-test.true in
    let degree = c.grading-degree.ensures.degree in
    record {
      killed = λ p is.
          subst (λ z. IsUnderWay m n o z c.in_ok-next.next) (sym (kills-next n s o part grade p (omega arith)))
          (at_state m c.loop-grade.reached (λ n o h. IsUnderWay m n o (kill_of n s o part grade h) c.in_ok-next.next) n o (kills_at n s o part (grades_before part grade) p) (c.loop-grade.invariant.killed p is) c.in_ok-next.ensures.killed);
      within = inr (omega arith);
    }

pub returns-clause-killed : goal.returns-clause-killed
returns-clause-killed g c p is =
    let m = g.F.Ring.meaning c.args.field.now in
    let s = m.scalars in
    let n = c.args.state.form.n in
    let o = c.args.state.form.order in
    let part = c.args.part in
    let last : c.last_grade-last.result ≡ last_grade part o = c.last_grade-last.ensures ∙ ap (last_grade part) c.order.ensures in
    let end = c.loop-grade-test.false in
    let degree = c.grading-degree.ensures.degree in
    subst (λ z. IsUnderWay m n o z c.loop-grade.reached)
    (graded-end n s o part c.loop-grade.grade p (elim c.loop-grade.invariant.within [ inl e ↦ inl (omega arith) | inr k ↦ inr (omega arith) ]) (omega arith))
    (c.loop-grade.invariant.killed p is)
