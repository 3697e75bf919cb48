use Rattle.std.proofs.Common.{◌≡◌, Some, None, sym, ap, subst, ◌∙◌, arith}
use Rattle.ring_law.proofs.Exits.{fault_handed_on}
use Rattle.jet_law.specs.Terms.{poly_of}
use Rattle.kill_law.specs.declared.part.Part.TheVariants as parts
use Rattle.normal_forms.specs.declared.family.Family.TheVariants as families
use Rattle.move_law.specs.Finish.{Finishing, graded_kill, least, tail_from, tail_of_J}
use Rattle.rules_corank2.specs.Finishes.{IsUnderWay, IsFinishingHigh, IsGradedKillRegular}
use Rattle.rules_corank2.specs.Regular.{IsSecondRegular}
use Rattle.rules_corank2.specs.Tails.{by_root}
use Rattle.rules_corank2.proofs.FinishChosen.{answers}
use Rattle.rules_corank2.proofs.FinishKills.{at_state, standing_of}
use Rattle.rules_corank2.proofs.FinishTails.{JT_weights, first_killed, graded_grows, of_kept, of_plan, root_killed_is, rooted_is, tail_high, tail_some, tail_without}
use Rattle.rules_corank2.proofs.finish_tail.finish_tail.Goals as goal

pub returns-in_err-rooted-clause-range : goal.returns-in_err-rooted-clause-range
returns-in_err-rooted-clause-range g c =
    let m = g.F.Ring.meaning c.args.field.now in
    let l = (g.met.F.Ring.laws c.args.field.now c.requires.ring).numbers in
    let n = c.args.state.form.n in
    let o = c.args.state.form.order in
    fault_handed_on _ c.from_residual.ensures.1
    (λ high s is. tail_high n m.scalars o s (graded_grows n m.scalars o parts.JT (by_root n m.scalars o s) (high s is))) c.in_err-rooted.ensures.range

pub graded_kill-requires-clause-standing : goal.graded_kill-requires-clause-standing
graded_kill-requires-clause-standing g c =
    let m = g.F.Ring.meaning c.args.field.now in
    let l = (g.met.F.Ring.laws c.args.field.now c.requires.ring).numbers in
    let n = c.args.state.form.n in
    let o = c.args.state.form.order in
    let start = c.requires.standing in
    standing_of m n o c.in_ok-rooted.rooted (by_root n m.scalars o start.finish) (c.in_ok-rooted.ensures.moved start.finish start.is)

pub graded_kill-requires-clause-of_part : goal.graded_kill-requires-clause-of_part
graded_kill-requires-clause-of_part g c =
    let start = c.requires.standing in
    let e = (c.in_ok-rooted.ensures.moved start.finish start.is).form.variables in
    let h = c.requires.two_variables in
    let w = JT_weights in
    omega arith

pub graded_kill-requires-clause-regular : goal.graded_kill-requires-clause-regular
graded_kill-requires-clause-regular g c =
    let m = g.F.Ring.meaning c.args.field.now in
    let l = (g.met.F.Ring.laws c.args.field.now c.requires.ring).numbers in
    let n = c.args.state.form.n in
    let o = c.args.state.form.order in
    let f = poly_of n m.value c.args.state.form.terms in
    let start = c.requires.standing in
    of_kept m n o (by_root n m.scalars o start.finish) c.in_ok-rooted.rooted (c.in_ok-rooted.ensures.moved start.finish start.is) (λ n o p. IsGradedKillRegular n m.scalars o parts.JT p)
    (subst (IsGradedKillRegular n m.scalars o parts.JT) (rooted_is n m.scalars o f start.finish start.is.form.polynomial) c.requires.regular.killed)

pub returns-in_err-killed-clause-range : goal.returns-in_err-killed-clause-range
returns-in_err-killed-clause-range g c =
    let m = g.F.Ring.meaning c.args.field.now in
    let l = (g.met.F.Ring.laws c.args.field.now c.requires.ring).numbers in
    let n = c.args.state.form.n in
    let o = c.args.state.form.order in
    fault_handed_on _ c.from_residual-in_err-killed.ensures.1
    (λ high s is. tail_high n m.scalars o s
    (at_state m c.in_ok-rooted.rooted (λ n o h. IsFinishingHigh n m.scalars o (graded_kill n m.scalars o parts.JT h)) n o (by_root n m.scalars o s) (c.in_ok-rooted.ensures.moved s is) high))
    c.in_err-killed.ensures.range

pub least-requires-clause-jet : goal.least-requires-clause-jet
least-requires-clause-jet g c =
    let m = g.F.Ring.meaning c.args.field.now in
    let l = (g.met.F.Ring.laws c.args.field.now c.requires.ring).numbers in
    let n = c.args.state.form.n in
    let o = c.args.state.form.order in
    let killed_kept = λ (s : Finishing n (g.F.Ring.Value c.args.field.now)) (is : IsUnderWay m n o s c.args.state).
    at_state m c.in_ok-rooted.rooted (λ n o h. IsUnderWay m n o (graded_kill n m.scalars o parts.JT h) c.in_ok-killed.killed) n o (by_root n m.scalars o s) (c.in_ok-rooted.ensures.moved s is) c.in_ok-killed.ensures.killed in
    let start = c.requires.standing in
    (killed_kept start.finish start.is).form.jet

pub least-requires-clause-at_most_8_variables : goal.least-requires-clause-at_most_8_variables
least-requires-clause-at_most_8_variables g c =
    let m = g.F.Ring.meaning c.args.field.now in
    let l = (g.met.F.Ring.laws c.args.field.now c.requires.ring).numbers in
    let n = c.args.state.form.n in
    let o = c.args.state.form.order in
    let killed_kept = λ (s : Finishing n (g.F.Ring.Value c.args.field.now)) (is : IsUnderWay m n o s c.args.state).
    at_state m c.in_ok-rooted.rooted (λ n o h. IsUnderWay m n o (graded_kill n m.scalars o parts.JT h) c.in_ok-killed.killed) n o (by_root n m.scalars o s) (c.in_ok-rooted.ensures.moved s is) c.in_ok-killed.ensures.killed in
    let start = c.requires.standing in
    let e = (killed_kept start.finish start.is).form.variables in
    let h = start.is.at_most_8_variables in
    omega arith

pub least-requires-clause-inside : goal.least-requires-clause-inside
least-requires-clause-inside g c =
    let m = g.F.Ring.meaning c.args.field.now in
    let l = (g.met.F.Ring.laws c.args.field.now c.requires.ring).numbers in
    let n = c.args.state.form.n in
    let o = c.args.state.form.order in
    let killed_kept = λ (s : Finishing n (g.F.Ring.Value c.args.field.now)) (is : IsUnderWay m n o s c.args.state).
    at_state m c.in_ok-rooted.rooted (λ n o h. IsUnderWay m n o (graded_kill n m.scalars o parts.JT h) c.in_ok-killed.killed) n o (by_root n m.scalars o s) (c.in_ok-rooted.ensures.moved s is) c.in_ok-killed.ensures.killed in
    let start = c.requires.standing in
    let e = (killed_kept start.finish start.is).form.variables in
    let h = c.requires.two_variables in
    omega arith

pub least-requires-clause-order_at_most_16 : goal.least-requires-clause-order_at_most_16
least-requires-clause-order_at_most_16 g c =
    let m = g.F.Ring.meaning c.args.field.now in
    let l = (g.met.F.Ring.laws c.args.field.now c.requires.ring).numbers in
    let n = c.args.state.form.n in
    let o = c.args.state.form.order in
    let killed_kept = λ (s : Finishing n (g.F.Ring.Value c.args.field.now)) (is : IsUnderWay m n o s c.args.state).
    at_state m c.in_ok-rooted.rooted (λ n o h. IsUnderWay m n o (graded_kill n m.scalars o parts.JT h) c.in_ok-killed.killed) n o (by_root n m.scalars o s) (c.in_ok-rooted.ensures.moved s is) c.in_ok-killed.ensures.killed in
    let start = c.requires.standing in
    let e = (killed_kept start.finish start.is).form.order in
    let h = start.is.order_at_most_16 in
    omega arith

pub tail_from-requires-clause-standing : goal.tail_from-requires-clause-standing
tail_from-requires-clause-standing g c =
    let m = g.F.Ring.meaning c.args.field.now in
    let l = (g.met.F.Ring.laws c.args.field.now c.requires.ring).numbers in
    let n = c.args.state.form.n in
    let o = c.args.state.form.order in
    let killed_kept = λ (s : Finishing n (g.F.Ring.Value c.args.field.now)) (is : IsUnderWay m n o s c.args.state).
    at_state m c.in_ok-rooted.rooted (λ n o h. IsUnderWay m n o (graded_kill n m.scalars o parts.JT h) c.in_ok-killed.killed) n o (by_root n m.scalars o s) (c.in_ok-rooted.ensures.moved s is) c.in_ok-killed.ensures.killed in
    let start = c.requires.standing in
    standing_of m n o c.in_ok-killed.killed (first_killed n m.scalars o start.finish) (killed_kept start.finish start.is)

pub tail_from-requires-clause-two_variables : goal.tail_from-requires-clause-two_variables
tail_from-requires-clause-two_variables g c =
    let m = g.F.Ring.meaning c.args.field.now in
    let l = (g.met.F.Ring.laws c.args.field.now c.requires.ring).numbers in
    let n = c.args.state.form.n in
    let o = c.args.state.form.order in
    let killed_kept = λ (s : Finishing n (g.F.Ring.Value c.args.field.now)) (is : IsUnderWay m n o s c.args.state).
    at_state m c.in_ok-rooted.rooted (λ n o h. IsUnderWay m n o (graded_kill n m.scalars o parts.JT h) c.in_ok-killed.killed) n o (by_root n m.scalars o s) (c.in_ok-rooted.ensures.moved s is) c.in_ok-killed.ensures.killed in
    let start = c.requires.standing in
    let e = (killed_kept start.finish start.is).form.variables in
    let h = c.requires.two_variables in
    omega arith

pub tail_from-requires-clause-within : goal.tail_from-requires-clause-within
tail_from-requires-clause-within g c = rw c.in-Some.is at c.least.ensures.within

pub tail_from-requires-clause-regular : goal.tail_from-requires-clause-regular
tail_from-requires-clause-regular g c =
    let m = g.F.Ring.meaning c.args.field.now in
    let l = (g.met.F.Ring.laws c.args.field.now c.requires.ring).numbers in
    let n = c.args.state.form.n in
    let o = c.args.state.form.order in
    let killed_kept = λ (s : Finishing n (g.F.Ring.Value c.args.field.now)) (is : IsUnderWay m n o s c.args.state).
    at_state m c.in_ok-rooted.rooted (λ n o h. IsUnderWay m n o (graded_kill n m.scalars o parts.JT h) c.in_ok-killed.killed) n o (by_root n m.scalars o s) (c.in_ok-rooted.ensures.moved s is) c.in_ok-killed.ensures.killed in
    let f = poly_of n m.value c.args.state.form.terms in
    let start = c.requires.standing in
    let r = c.in-Some.r in
    let here = of_plan m n o (first_killed n m.scalars o start.finish) c.in_ok-killed.killed (killed_kept start.finish start.is) (λ n o p. Some r ≡ least n m.scalars o 1 p) (sym c.in-Some.is ∙ c.least.ensures.value) in
    of_kept m n o (first_killed n m.scalars o start.finish) c.in_ok-killed.killed (killed_kept start.finish start.is) (λ n o p. IsSecondRegular n m.scalars o r p)
    (subst (IsSecondRegular n m.scalars o r) (root_killed_is n m.scalars o f start.finish start.is.form.polynomial)
    (c.requires.regular.second r (ap (least n m.scalars o 1) (root_killed_is n m.scalars o f start.finish start.is.form.polynomial) ∙ sym here)))

pub returns-in_err-reached-in-Some-clause-range : goal.returns-in_err-reached-in-Some-clause-range
returns-in_err-reached-in-Some-clause-range g c =
    let m = g.F.Ring.meaning c.args.field.now in
    let l = (g.met.F.Ring.laws c.args.field.now c.requires.ring).numbers in
    let n = c.args.state.form.n in
    let o = c.args.state.form.order in
    let killed_kept = λ (s : Finishing n (g.F.Ring.Value c.args.field.now)) (is : IsUnderWay m n o s c.args.state).
    at_state m c.in_ok-rooted.rooted (λ n o h. IsUnderWay m n o (graded_kill n m.scalars o parts.JT h) c.in_ok-killed.killed) n o (by_root n m.scalars o s) (c.in_ok-rooted.ensures.moved s is) c.in_ok-killed.ensures.killed in
    let r = c.in-Some.r in
    fault_handed_on _ c.from_residual-in_err-reached-in-Some.ensures.1
    (λ high s is.
    let here = of_plan m n o (first_killed n m.scalars o s) c.in_ok-killed.killed (killed_kept s is) (λ n o p. Some r ≡ least n m.scalars o 1 p) (sym c.in-Some.is ∙ c.least.ensures.value) in
    subst (λ z. IsFinishingHigh n m.scalars o z.0) (sym (tail_some n m.scalars o s r (sym here)))
    (at_state m c.in_ok-killed.killed (λ n o h. IsFinishingHigh n m.scalars o (tail_from n m.scalars o r h)) n o (first_killed n m.scalars o s) (killed_kept s is) high))
    c.in_err-reached-in-Some.ensures.range

pub returns-in_ok-reached-in-Some-clause-finished : goal.returns-in_ok-reached-in-Some-clause-finished
returns-in_ok-reached-in-Some-clause-finished g c s is =
    let m = g.F.Ring.meaning c.args.field.now in
    let l = (g.met.F.Ring.laws c.args.field.now c.requires.ring).numbers in
    let n = c.args.state.form.n in
    let o = c.args.state.form.order in
    let killed_kept = λ (s : Finishing n (g.F.Ring.Value c.args.field.now)) (is : IsUnderWay m n o s c.args.state).
    at_state m c.in_ok-rooted.rooted (λ n o h. IsUnderWay m n o (graded_kill n m.scalars o parts.JT h) c.in_ok-killed.killed) n o (by_root n m.scalars o s) (c.in_ok-rooted.ensures.moved s is) c.in_ok-killed.ensures.killed in
    let r = c.in-Some.r in
    let here = of_plan m n o (first_killed n m.scalars o s) c.in_ok-killed.killed (killed_kept s is) (λ n o p. Some r ≡ least n m.scalars o 1 p) (sym c.in-Some.is ∙ c.least.ensures.value) in
    answers m n o (tail_of_J n m.scalars o s) (tail_from n m.scalars o r (first_killed n m.scalars o s)) (Some (families.T 2 3 r)) (tail_some n m.scalars o s r (sym here)) c.in_ok-reached-in-Some.reached
    (at_state m c.in_ok-killed.killed (λ n o h. IsUnderWay m n o (tail_from n m.scalars o r h) c.in_ok-reached-in-Some.reached) n o (first_killed n m.scalars o s) (killed_kept s is) c.in_ok-reached-in-Some.ensures.taken)

pub returns-in-None-clause-finished : goal.returns-in-None-clause-finished
returns-in-None-clause-finished g c s is =
    let m = g.F.Ring.meaning c.args.field.now in
    let l = (g.met.F.Ring.laws c.args.field.now c.requires.ring).numbers in
    let n = c.args.state.form.n in
    let o = c.args.state.form.order in
    let killed_kept = λ (s : Finishing n (g.F.Ring.Value c.args.field.now)) (is : IsUnderWay m n o s c.args.state).
    at_state m c.in_ok-rooted.rooted (λ n o h. IsUnderWay m n o (graded_kill n m.scalars o parts.JT h) c.in_ok-killed.killed) n o (by_root n m.scalars o s) (c.in_ok-rooted.ensures.moved s is) c.in_ok-killed.ensures.killed in
    let here = of_plan m n o (first_killed n m.scalars o s) c.in_ok-killed.killed (killed_kept s is) (λ n o p. None ≡ least n m.scalars o 1 p) (sym c.in-None.is ∙ c.least.ensures.value) in
    answers m n o (tail_of_J n m.scalars o s) (first_killed n m.scalars o s) None (tail_without n m.scalars o s (sym here)) c.in_ok-killed.killed (killed_kept s is)
