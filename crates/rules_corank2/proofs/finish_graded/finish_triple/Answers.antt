use Rattle.std.proofs.Common.{◌≡◌, inl, true, false, Some, [], ◌∷◌, refl, sym, ap, subst, ◌∙◌, arith}
use Rattle.ring_law.proofs.Exits.{faulted_by, fault_handed_on}
use Rattle.jet_law.specs.Heights.{IsHigh}
use Rattle.jet_law.specs.Terms.{poly_of}
use Rattle.kill_law.specs.declared.part.Part.TheVariants as parts
use Rattle.normal_forms.specs.declared.kind.Kind.TheVariants as kinds
use Rattle.normal_forms.specs.Units.{triple_discriminant, triple_heights}
use Rattle.move_law.specs.Finish.{Finishing, graded, graded_kill, triple_coefficients}
use Rattle.move_law.specs.Work as work
use Rattle.rules_corank2.specs.Finished.{IsFinished}
use Rattle.rules_corank2.specs.Finishes.{IsUnderWay, IsFinishingHigh}
use Rattle.rules_corank2.proofs.FinishChosen.{answers, same_if_ok}
use Rattle.rules_corank2.proofs.FinishTails.{J10_weights, tested, tested_kept, triple_grows, triple_plain, triple_zero, work_high}
use Rattle.rules_corank2.proofs.OrderedTerms.{zero_true, zero_false}
use Rattle.rules_corank2.proofs.finish_graded.finish_triple.Goals as goal

pub returns-in_err-value-clause-range : goal.returns-in_err-value-clause-range
returns-in_err-value-clause-range g c =
    let m = g.F.Ring.meaning c.args.field.now in
    let l = (g.met.F.Ring.laws c.args.field.now c.requires.ring).numbers in
    let n = c.args.state.form.n in
    let o = c.args.state.form.order in
    let f = poly_of n m.value c.args.state.form.terms in
    fault_handed_on _ c.from_residual.ensures.1
    (λ high s is. triple_grows n m.scalars o c.args.family s
    (work_high n m.scalars o (work.units kinds.Triple (triple_coefficients n m.scalars o s.form) ∷ []) s
    (inl (subst (λ z. IsHigh (triple_heights m.scalars z)) (ap (triple_coefficients n m.scalars o) is.form.polynomial) high))))
    c.in_err-value.ensures.range

pub finish_tail-requires-clause-regular : goal.finish_tail-requires-clause-regular
finish_tail-requires-clause-regular g c =
    let m = g.F.Ring.meaning c.args.field.now in
    let l = (g.met.F.Ring.laws c.args.field.now c.requires.ring).numbers in
    let n = c.args.state.form.n in
    let o = c.args.state.form.order in
    let f = poly_of n m.value c.args.state.form.terms in
    let zero : m.scalars.is_zero (triple_discriminant m.scalars (triple_coefficients n m.scalars o f)) ≡ true =
    ap m.scalars.is_zero (sym c.in_ok-value.ensures.value) ∙ zero_true m l (m.value c.in_ok-value.value) c.eq.result (m.value c.zero.result) c.zero.ensures.value c.eq.ensures c.if-eq.true in
    c.requires.regular.tail refl zero

pub returns-then-eq-clause-finished : goal.returns-then-eq-clause-finished
returns-then-eq-clause-finished g c =
    let m = g.F.Ring.meaning c.args.field.now in
    let l = (g.met.F.Ring.laws c.args.field.now c.requires.ring).numbers in
    let n = c.args.state.form.n in
    let o = c.args.state.form.order in
    let f = poly_of n m.value c.args.state.form.terms in
    let zero : m.scalars.is_zero (triple_discriminant m.scalars (triple_coefficients n m.scalars o f)) ≡ true =
    ap m.scalars.is_zero (sym c.in_ok-value.ensures.value) ∙ zero_true m l (m.value c.in_ok-value.value) c.eq.result (m.value c.zero.result) c.zero.ensures.value c.eq.ensures c.if-eq.true in
    let at_plan = λ (s : Finishing n (g.F.Ring.Value c.args.field.now)) (is : IsUnderWay m n o s c.args.state).
    ap (λ p. m.scalars.is_zero (triple_discriminant m.scalars (triple_coefficients n m.scalars o p))) (sym is.form.polynomial) ∙ zero in
    same_if_ok c.finish_tail.result
    (λ answer ended s is. subst (λ z. IsFinished m n o z answer) (sym (triple_zero n m.scalars o c.args.family s (at_plan s is)))
    (ended (tested n m.scalars o s) (tested_kept m n o s c.args.state is)))
    c.finish_tail.ensures.finished

pub returns-then-eq-clause-range : goal.returns-then-eq-clause-range
returns-then-eq-clause-range g c =
    let m = g.F.Ring.meaning c.args.field.now in
    let l = (g.met.F.Ring.laws c.args.field.now c.requires.ring).numbers in
    let n = c.args.state.form.n in
    let o = c.args.state.form.order in
    let f = poly_of n m.value c.args.state.form.terms in
    let zero : m.scalars.is_zero (triple_discriminant m.scalars (triple_coefficients n m.scalars o f)) ≡ true =
    ap m.scalars.is_zero (sym c.in_ok-value.ensures.value) ∙ zero_true m l (m.value c.in_ok-value.value) c.eq.result (m.value c.zero.result) c.zero.ensures.value c.eq.ensures c.if-eq.true in
    let at_plan = λ (s : Finishing n (g.F.Ring.Value c.args.field.now)) (is : IsUnderWay m n o s c.args.state).
    ap (λ p. m.scalars.is_zero (triple_discriminant m.scalars (triple_coefficients n m.scalars o p))) (sym is.form.polynomial) ∙ zero in
    faulted_by
    (λ high s is. subst (λ z. IsFinishingHigh n m.scalars o z.0) (sym (triple_zero n m.scalars o c.args.family s (at_plan s is)))
    (high (tested n m.scalars o s) (tested_kept m n o s c.args.state is)))
    c.finish_tail.ensures.range

pub graded_kill-requires-clause-of_part : goal.graded_kill-requires-clause-of_part
graded_kill-requires-clause-of_part g c = let w = J10_weights in let h = c.requires.two_variables in omega arith

pub graded_kill-requires-clause-regular : goal.graded_kill-requires-clause-regular
graded_kill-requires-clause-regular g c =
    let m = g.F.Ring.meaning c.args.field.now in
    let l = (g.met.F.Ring.laws c.args.field.now c.requires.ring).numbers in
    let n = c.args.state.form.n in
    let o = c.args.state.form.order in
    let f = poly_of n m.value c.args.state.form.terms in
    let zero : m.scalars.is_zero (triple_discriminant m.scalars (triple_coefficients n m.scalars o f)) ≡ false =
    ap m.scalars.is_zero (sym c.in_ok-value.ensures.value) ∙ zero_false m l (m.value c.in_ok-value.value) c.eq.result (m.value c.zero.result) c.zero.ensures.value c.eq.ensures c.if-eq.false in
    c.requires.regular.plain (λ e. zero)

pub returns-in_err-reached-clause-range : goal.returns-in_err-reached-clause-range
returns-in_err-reached-clause-range g c =
    let m = g.F.Ring.meaning c.args.field.now in
    let l = (g.met.F.Ring.laws c.args.field.now c.requires.ring).numbers in
    let n = c.args.state.form.n in
    let o = c.args.state.form.order in
    let f = poly_of n m.value c.args.state.form.terms in
    let zero : m.scalars.is_zero (triple_discriminant m.scalars (triple_coefficients n m.scalars o f)) ≡ false =
    ap m.scalars.is_zero (sym c.in_ok-value.ensures.value) ∙ zero_false m l (m.value c.in_ok-value.value) c.eq.result (m.value c.zero.result) c.zero.ensures.value c.eq.ensures c.if-eq.false in
    let at_plan = λ (s : Finishing n (g.F.Ring.Value c.args.field.now)) (is : IsUnderWay m n o s c.args.state).
    ap (λ p. m.scalars.is_zero (triple_discriminant m.scalars (triple_coefficients n m.scalars o p))) (sym is.form.polynomial) ∙ zero in
    fault_handed_on _ c.from_residual-in_err-reached.ensures.1
    (λ high s is. subst (λ z. IsFinishingHigh n m.scalars o z.0) (sym (triple_plain n m.scalars o c.args.family s (at_plan s is)))
    (high (tested n m.scalars o s) (tested_kept m n o s c.args.state is)))
    c.in_err-reached.ensures.range

pub returns-clause-finished : goal.returns-clause-finished
returns-clause-finished g c s is =
    let m = g.F.Ring.meaning c.args.field.now in
    let l = (g.met.F.Ring.laws c.args.field.now c.requires.ring).numbers in
    let n = c.args.state.form.n in
    let o = c.args.state.form.order in
    let f = poly_of n m.value c.args.state.form.terms in
    let zero : m.scalars.is_zero (triple_discriminant m.scalars (triple_coefficients n m.scalars o f)) ≡ false =
    ap m.scalars.is_zero (sym c.in_ok-value.ensures.value) ∙ zero_false m l (m.value c.in_ok-value.value) c.eq.result (m.value c.zero.result) c.zero.ensures.value c.eq.ensures c.if-eq.false in
    let at_plan = λ (s : Finishing n (g.F.Ring.Value c.args.field.now)) (is : IsUnderWay m n o s c.args.state).
    ap (λ p. m.scalars.is_zero (triple_discriminant m.scalars (triple_coefficients n m.scalars o p))) (sym is.form.polynomial) ∙ zero in
    answers m n o (graded n m.scalars o parts.J10 c.args.family s) (graded_kill n m.scalars o parts.J10 (tested n m.scalars o s)) (Some c.args.family) (triple_plain n m.scalars o c.args.family s (at_plan s is))
    c.in_ok-reached.reached (c.in_ok-reached.ensures.killed (tested n m.scalars o s) (tested_kept m n o s c.args.state is))
