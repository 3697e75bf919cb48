use Rattle.std.proofs.Common.{◌≡◌, ◌+◌, ◌∙◌, All, length, sym, ap, subst}
use Rattle.mono_exp.specs.declared.exponent.Exp.{Exp}
use Rattle.jet_subst.proofs.Tables.{all_push}
use Rattle.kill_table.specs.Steps.{is_graded}
use Rattle.kill_table.proofs.Leaving.{keeps, passes_over}
use Rattle.kill_table.proofs.reduction.terms_of_grade.Goals as goal
use Rattle.kill_table.proofs.reduction.terms_of_grade.Goals.{then-is_of_grade+in_ok-push, else-is_of_grade}

pub loop-t-preserved : goal.loop-t-preserved
loop-t-preserved g c =
    let p = λ (t : Exp × g.row.E.Denot). is_graded c.args.part c.args.grade t.0.e in
    let t = c.t-item.result in
    let kept = c.loop-t.kept.items in
    elim c.if-is_of_grade.branch [
      | then-is_of_grade+in_ok-push w ↦
          let e = ap (λ z. z.items) w.kept-is ∙ w.in_ok-push.ensures.items in
          record {
            terms = e ∙ keeps p c.args.terms.now c.loop-t.t-index t c.loop-t-test.true c.t-item.is kept c.loop-t.invariant.terms (sym c.is_of_grade.ensures.test ∙ w.if-is_of_grade.true);
            long = subst (All (λ (t : Exp × g.row.E.Denot). length t.0.e ≡ 8)) (sym e) (all_push (λ (t : Exp × g.row.E.Denot). length t.0.e ≡ 8) kept t c.loop-t.invariant.long c.is_of_grade.ensures.long);
          }
      | else-is_of_grade w ↦
          let e = ap (λ z. z.items) w.kept-is in
          record {
            terms = e ∙ passes_over p c.args.terms.now c.loop-t.t-index t c.loop-t-test.true c.t-item.is kept c.loop-t.invariant.terms (sym c.is_of_grade.ensures.test ∙ w.if-is_of_grade.false);
            long = subst (All (λ (t : Exp × g.row.E.Denot). length t.0.e ≡ 8)) (sym e) c.loop-t.invariant.long;
          }
    ]
