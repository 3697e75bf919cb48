use Rattle.std.proofs.Common.{◌≡◌, ◌≢◌, ◌+◌, ◌≤◌, inl, inr, false, sym, ap, ap₂, subst, ◌∙◌, arith}
use Rattle.ring_law.proofs.Exits.{faulted, fault_handed_on}
use Rattle.jet_law.specs.Terms.{poly_of}
use Rattle.coord_change.specs.Moves.{at}
use Rattle.kill_law.specs.declared.part.Part.TheVariants as parts
use Rattle.move_law.specs.Patterns.{two}
use Rattle.move_law.specs.Finish.{Finishing, graded_kill, tail_work}
use Rattle.rules_corank2.specs.Finishes.{IsUnderWay, IsFinishingHigh, IsGradedKillRegular}
use Rattle.rules_corank2.specs.Tails.{tail_divided}
use Rattle.rules_corank2.proofs.FinishKills.{at_state, standing_of}
use Rattle.rules_corank2.proofs.FinishTails.{JT_weights, factor_high, graded_grows, of_kept, products_high, second, second_is, tail_moved_is, tail_none, tail_second, tail_short}
use Rattle.rules_corank2.proofs.OrderedTerms.{is_not, zero_true, zero_false}
use Rattle.rules_corank2.proofs.finish_tail.tail_from.Goals as goal

pub returns-then-r-order-clause-taken : goal.returns-then-r-order-clause-taken
returns-then-r-order-clause-taken g c s is =
    let m = g.F.Ring.meaning c.args.field.now in
    let l = (g.met.F.Ring.laws c.args.field.now c.requires.ring).numbers in
    let n = c.args.state.form.n in
    let o = c.args.state.form.order in
    subst (λ z. IsUnderWay m n o z c.args.state) (sym (tail_short n m.scalars o c.args.r s (let e = c.order-order.ensures in let h = c.if-r-order.true in omega arith))) is

pub returns-then-eq-clause-taken : goal.returns-then-eq-clause-taken
returns-then-eq-clause-taken g c s is =
    let m = g.F.Ring.meaning c.args.field.now in
    let l = (g.met.F.Ring.laws c.args.field.now c.requires.ring).numbers in
    let n = c.args.state.form.n in
    let o = c.args.state.form.order in
    let r = c.args.r in
    subst (λ z. IsUnderWay m n o z c.args.state)
    (sym (tail_none n m.scalars o r s
    (ap (λ p. m.scalars.is_zero (at n m.scalars p (two 0 (r + 1)))) (sym is.form.polynomial)
    ∙ ap m.scalars.is_zero (sym c.at-e.ensures.value) ∙ zero_true m l (m.value c.at-e.result) c.eq.result (m.value c.zero.result) c.zero.ensures.value c.eq.ensures c.if-eq.true))) is

pub tail_factor-requires-clause-unit : goal.tail_factor-requires-clause-unit
tail_factor-requires-clause-unit g c =
    let m = g.F.Ring.meaning c.args.field.now in
    let l = (g.met.F.Ring.laws c.args.field.now c.requires.ring).numbers in
    let n = c.args.state.form.n in
    let o = c.args.state.form.order in
    let r = c.args.r in
    let f = poly_of n m.value c.args.state.form.terms in
    let within : r + 1 ≤ o = (let e = c.order-order.ensures in let h = c.if-r-order.false in omega arith) in
    let there : m.scalars.is_zero (at n m.scalars f (two 0 (r + 1))) ≡ false =
    ap m.scalars.is_zero (sym c.at-e.ensures.value) ∙ zero_false m l (m.value c.at-e.result) c.eq.result (m.value c.zero.result) c.zero.ensures.value c.eq.ensures c.if-eq.false in
    let ne : at n m.scalars f (two 0 (r + 1)) ≢ m.scalars.ops.zero = is_not m l (at n m.scalars f (two 0 (r + 1))) there in
    λ z. c.requires.regular.divisor within ne (ap₂ (λ x y. tail_divided n m.scalars x y r) (sym c.at-b.ensures.value) (sym c.at-c.ensures.value) ∙ z)

pub returns-in_err-v-clause-range : goal.returns-in_err-v-clause-range
returns-in_err-v-clause-range g c =
    let m = g.F.Ring.meaning c.args.field.now in
    let l = (g.met.F.Ring.laws c.args.field.now c.requires.ring).numbers in
    let n = c.args.state.form.n in
    let o = c.args.state.form.order in
    let r = c.args.r in
    let f = poly_of n m.value c.args.state.form.terms in
    let within : r + 1 ≤ o = (let e = c.order-order.ensures in let h = c.if-r-order.false in omega arith) in
    let there : m.scalars.is_zero (at n m.scalars f (two 0 (r + 1))) ≡ false =
    ap m.scalars.is_zero (sym c.at-e.ensures.value) ∙ zero_false m l (m.value c.at-e.result) c.eq.result (m.value c.zero.result) c.zero.ensures.value c.eq.ensures c.if-eq.false in
    let whole = λ (s : Finishing n (g.F.Ring.Value c.args.field.now)) (is : IsUnderWay m n o s c.args.state).
    tail_second n m.scalars o r s within (ap (λ p. m.scalars.is_zero (at n m.scalars p (two 0 (r + 1)))) (sym is.form.polynomial) ∙ there) in
    faulted _ c.from_residual.ensures.1
    (λ high s is. subst (IsFinishingHigh n m.scalars o) (sym (whole s is))
    (graded_grows n m.scalars o parts.JT (second n m.scalars o r s)
    (factor_high n m.scalars o r s (m.value c.at-a.result) (m.value c.at-b.result) (m.value c.at-c.result) (m.value c.at-e.result) m.scalars.ops.zero
    (c.at-a.ensures.value ∙ ap (λ p. at n m.scalars p (two 3 0)) is.form.polynomial) (c.at-b.ensures.value ∙ ap (λ p. at n m.scalars p (two 2 2)) is.form.polynomial)
    (c.at-c.ensures.value ∙ ap (λ p. at n m.scalars p (two 0 r)) is.form.polynomial) (c.at-e.ensures.value ∙ ap (λ p. at n m.scalars p (two 0 (r + 1))) is.form.polynomial) high)))
    c.in_err-v.ensures.range

pub returns-in_err-moved-clause-range : goal.returns-in_err-moved-clause-range
returns-in_err-moved-clause-range g c =
    let m = g.F.Ring.meaning c.args.field.now in
    let l = (g.met.F.Ring.laws c.args.field.now c.requires.ring).numbers in
    let n = c.args.state.form.n in
    let o = c.args.state.form.order in
    let r = c.args.r in
    let f = poly_of n m.value c.args.state.form.terms in
    let within : r + 1 ≤ o = (let e = c.order-order.ensures in let h = c.if-r-order.false in omega arith) in
    let there : m.scalars.is_zero (at n m.scalars f (two 0 (r + 1))) ≡ false =
    ap m.scalars.is_zero (sym c.at-e.ensures.value) ∙ zero_false m l (m.value c.at-e.result) c.eq.result (m.value c.zero.result) c.zero.ensures.value c.eq.ensures c.if-eq.false in
    let whole = λ (s : Finishing n (g.F.Ring.Value c.args.field.now)) (is : IsUnderWay m n o s c.args.state).
    tail_second n m.scalars o r s within (ap (λ p. m.scalars.is_zero (at n m.scalars p (two 0 (r + 1)))) (sym is.form.polynomial) ∙ there) in
    fault_handed_on _ c.from_residual-in_err-moved.ensures.1
    (λ high s is. subst (IsFinishingHigh n m.scalars o) (sym (whole s is))
    (graded_grows n m.scalars o parts.JT (second n m.scalars o r s)
    (elim high [
      | inl h ↦ products_high n m.scalars o r s (m.value c.at-a.result) (m.value c.at-b.result) (m.value c.at-c.result) (m.value c.at-e.result) (m.value c.in_ok-v.v)
          (c.at-a.ensures.value ∙ ap (λ p. at n m.scalars p (two 3 0)) is.form.polynomial) (c.at-b.ensures.value ∙ ap (λ p. at n m.scalars p (two 2 2)) is.form.polynomial)
          (c.at-c.ensures.value ∙ ap (λ p. at n m.scalars p (two 0 r)) is.form.polynomial) (c.at-e.ensures.value ∙ ap (λ p. at n m.scalars p (two 0 (r + 1))) is.form.polynomial) c.in_ok-v.ensures.value h
      | inr h ↦ subst (IsFinishingHigh n m.scalars o)
          (second_is n m.scalars o r s (m.value c.at-a.result) (m.value c.at-b.result) (m.value c.at-c.result) (m.value c.at-e.result) (m.value c.in_ok-v.v)
          (c.at-a.ensures.value ∙ ap (λ p. at n m.scalars p (two 3 0)) is.form.polynomial) (c.at-b.ensures.value ∙ ap (λ p. at n m.scalars p (two 2 2)) is.form.polynomial)
          (c.at-c.ensures.value ∙ ap (λ p. at n m.scalars p (two 0 r)) is.form.polynomial) (c.at-e.ensures.value ∙ ap (λ p. at n m.scalars p (two 0 (r + 1))) is.form.polynomial) c.in_ok-v.ensures.value)
          (h (tail_work n m.scalars o (m.value c.at-a.result) (m.value c.at-b.result) (m.value c.at-c.result) (m.value c.at-e.result) r) s is)
    ])))
    c.in_err-moved.ensures.range

pub graded_kill-requires-clause-standing : goal.graded_kill-requires-clause-standing
graded_kill-requires-clause-standing g c =
    let m = g.F.Ring.meaning c.args.field.now in
    let l = (g.met.F.Ring.laws c.args.field.now c.requires.ring).numbers in
    let n = c.args.state.form.n in
    let o = c.args.state.form.order in
    let r = c.args.r in
    let f = poly_of n m.value c.args.state.form.terms in
    let within : r + 1 ≤ o = (let e = c.order-order.ensures in let h = c.if-r-order.false in omega arith) in
    let kept = λ (s : Finishing n (g.F.Ring.Value c.args.field.now)) (is : IsUnderWay m n o s c.args.state).
    subst (λ z. IsUnderWay m n o z c.in_ok-moved.moved)
    (second_is n m.scalars o r s (m.value c.at-a.result) (m.value c.at-b.result) (m.value c.at-c.result) (m.value c.at-e.result) (m.value c.in_ok-v.v)
    (c.at-a.ensures.value ∙ ap (λ p. at n m.scalars p (two 3 0)) is.form.polynomial) (c.at-b.ensures.value ∙ ap (λ p. at n m.scalars p (two 2 2)) is.form.polynomial)
    (c.at-c.ensures.value ∙ ap (λ p. at n m.scalars p (two 0 r)) is.form.polynomial) (c.at-e.ensures.value ∙ ap (λ p. at n m.scalars p (two 0 (r + 1))) is.form.polynomial) c.in_ok-v.ensures.value)
    (c.in_ok-moved.ensures.moved (tail_work n m.scalars o (m.value c.at-a.result) (m.value c.at-b.result) (m.value c.at-c.result) (m.value c.at-e.result) r) s is) in
    let start = c.requires.standing in
    standing_of m n o c.in_ok-moved.moved (second n m.scalars o r start.finish) (kept start.finish start.is)

pub graded_kill-requires-clause-of_part : goal.graded_kill-requires-clause-of_part
graded_kill-requires-clause-of_part g c =
    let m = g.F.Ring.meaning c.args.field.now in
    let l = (g.met.F.Ring.laws c.args.field.now c.requires.ring).numbers in
    let n = c.args.state.form.n in
    let o = c.args.state.form.order in
    let r = c.args.r in
    let f = poly_of n m.value c.args.state.form.terms in
    let within : r + 1 ≤ o = (let e = c.order-order.ensures in let h = c.if-r-order.false in omega arith) in
    let kept = λ (s : Finishing n (g.F.Ring.Value c.args.field.now)) (is : IsUnderWay m n o s c.args.state).
    subst (λ z. IsUnderWay m n o z c.in_ok-moved.moved)
    (second_is n m.scalars o r s (m.value c.at-a.result) (m.value c.at-b.result) (m.value c.at-c.result) (m.value c.at-e.result) (m.value c.in_ok-v.v)
    (c.at-a.ensures.value ∙ ap (λ p. at n m.scalars p (two 3 0)) is.form.polynomial) (c.at-b.ensures.value ∙ ap (λ p. at n m.scalars p (two 2 2)) is.form.polynomial)
    (c.at-c.ensures.value ∙ ap (λ p. at n m.scalars p (two 0 r)) is.form.polynomial) (c.at-e.ensures.value ∙ ap (λ p. at n m.scalars p (two 0 (r + 1))) is.form.polynomial) c.in_ok-v.ensures.value)
    (c.in_ok-moved.ensures.moved (tail_work n m.scalars o (m.value c.at-a.result) (m.value c.at-b.result) (m.value c.at-c.result) (m.value c.at-e.result) r) s is) in
    let start = c.requires.standing in
    let e = (kept start.finish start.is).form.variables in
    let h = c.requires.two_variables in
    let w = JT_weights in
    omega arith

pub graded_kill-requires-clause-regular : goal.graded_kill-requires-clause-regular
graded_kill-requires-clause-regular g c =
    let m = g.F.Ring.meaning c.args.field.now in
    let l = (g.met.F.Ring.laws c.args.field.now c.requires.ring).numbers in
    let n = c.args.state.form.n in
    let o = c.args.state.form.order in
    let r = c.args.r in
    let f = poly_of n m.value c.args.state.form.terms in
    let within : r + 1 ≤ o = (let e = c.order-order.ensures in let h = c.if-r-order.false in omega arith) in
    let there : m.scalars.is_zero (at n m.scalars f (two 0 (r + 1))) ≡ false =
    ap m.scalars.is_zero (sym c.at-e.ensures.value) ∙ zero_false m l (m.value c.at-e.result) c.eq.result (m.value c.zero.result) c.zero.ensures.value c.eq.ensures c.if-eq.false in
    let ne : at n m.scalars f (two 0 (r + 1)) ≢ m.scalars.ops.zero = is_not m l (at n m.scalars f (two 0 (r + 1))) there in
    let kept = λ (s : Finishing n (g.F.Ring.Value c.args.field.now)) (is : IsUnderWay m n o s c.args.state).
    subst (λ z. IsUnderWay m n o z c.in_ok-moved.moved)
    (second_is n m.scalars o r s (m.value c.at-a.result) (m.value c.at-b.result) (m.value c.at-c.result) (m.value c.at-e.result) (m.value c.in_ok-v.v)
    (c.at-a.ensures.value ∙ ap (λ p. at n m.scalars p (two 3 0)) is.form.polynomial) (c.at-b.ensures.value ∙ ap (λ p. at n m.scalars p (two 2 2)) is.form.polynomial)
    (c.at-c.ensures.value ∙ ap (λ p. at n m.scalars p (two 0 r)) is.form.polynomial) (c.at-e.ensures.value ∙ ap (λ p. at n m.scalars p (two 0 (r + 1))) is.form.polynomial) c.in_ok-v.ensures.value)
    (c.in_ok-moved.ensures.moved (tail_work n m.scalars o (m.value c.at-a.result) (m.value c.at-b.result) (m.value c.at-c.result) (m.value c.at-e.result) r) s is) in
    let start = c.requires.standing in
    of_kept m n o (second n m.scalars o r start.finish) c.in_ok-moved.moved (kept start.finish start.is) (λ n o p. IsGradedKillRegular n m.scalars o parts.JT p)
    (subst (IsGradedKillRegular n m.scalars o parts.JT) (tail_moved_is n m.scalars o r f start.finish start.is.form.polynomial) (c.requires.regular.killed within ne))

pub returns-in_err-next-clause-range : goal.returns-in_err-next-clause-range
returns-in_err-next-clause-range g c =
    let m = g.F.Ring.meaning c.args.field.now in
    let l = (g.met.F.Ring.laws c.args.field.now c.requires.ring).numbers in
    let n = c.args.state.form.n in
    let o = c.args.state.form.order in
    let r = c.args.r in
    let f = poly_of n m.value c.args.state.form.terms in
    let within : r + 1 ≤ o = (let e = c.order-order.ensures in let h = c.if-r-order.false in omega arith) in
    let there : m.scalars.is_zero (at n m.scalars f (two 0 (r + 1))) ≡ false =
    ap m.scalars.is_zero (sym c.at-e.ensures.value) ∙ zero_false m l (m.value c.at-e.result) c.eq.result (m.value c.zero.result) c.zero.ensures.value c.eq.ensures c.if-eq.false in
    let whole = λ (s : Finishing n (g.F.Ring.Value c.args.field.now)) (is : IsUnderWay m n o s c.args.state).
    tail_second n m.scalars o r s within (ap (λ p. m.scalars.is_zero (at n m.scalars p (two 0 (r + 1)))) (sym is.form.polynomial) ∙ there) in
    let kept = λ (s : Finishing n (g.F.Ring.Value c.args.field.now)) (is : IsUnderWay m n o s c.args.state).
    subst (λ z. IsUnderWay m n o z c.in_ok-moved.moved)
    (second_is n m.scalars o r s (m.value c.at-a.result) (m.value c.at-b.result) (m.value c.at-c.result) (m.value c.at-e.result) (m.value c.in_ok-v.v)
    (c.at-a.ensures.value ∙ ap (λ p. at n m.scalars p (two 3 0)) is.form.polynomial) (c.at-b.ensures.value ∙ ap (λ p. at n m.scalars p (two 2 2)) is.form.polynomial)
    (c.at-c.ensures.value ∙ ap (λ p. at n m.scalars p (two 0 r)) is.form.polynomial) (c.at-e.ensures.value ∙ ap (λ p. at n m.scalars p (two 0 (r + 1))) is.form.polynomial) c.in_ok-v.ensures.value)
    (c.in_ok-moved.ensures.moved (tail_work n m.scalars o (m.value c.at-a.result) (m.value c.at-b.result) (m.value c.at-c.result) (m.value c.at-e.result) r) s is) in
    fault_handed_on _ c.from_residual-in_err-next.ensures.1
    (λ high s is. subst (IsFinishingHigh n m.scalars o) (sym (whole s is))
    (at_state m c.in_ok-moved.moved (λ n o h. IsFinishingHigh n m.scalars o (graded_kill n m.scalars o parts.JT h)) n o (second n m.scalars o r s) (kept s is) high))
    c.in_err-next.ensures.range

pub returns-clause-taken : goal.returns-clause-taken
returns-clause-taken g c s is =
    let m = g.F.Ring.meaning c.args.field.now in
    let l = (g.met.F.Ring.laws c.args.field.now c.requires.ring).numbers in
    let n = c.args.state.form.n in
    let o = c.args.state.form.order in
    let r = c.args.r in
    let f = poly_of n m.value c.args.state.form.terms in
    let within : r + 1 ≤ o = (let e = c.order-order.ensures in let h = c.if-r-order.false in omega arith) in
    let there : m.scalars.is_zero (at n m.scalars f (two 0 (r + 1))) ≡ false =
    ap m.scalars.is_zero (sym c.at-e.ensures.value) ∙ zero_false m l (m.value c.at-e.result) c.eq.result (m.value c.zero.result) c.zero.ensures.value c.eq.ensures c.if-eq.false in
    let whole = λ (s : Finishing n (g.F.Ring.Value c.args.field.now)) (is : IsUnderWay m n o s c.args.state).
    tail_second n m.scalars o r s within (ap (λ p. m.scalars.is_zero (at n m.scalars p (two 0 (r + 1)))) (sym is.form.polynomial) ∙ there) in
    let kept = λ (s : Finishing n (g.F.Ring.Value c.args.field.now)) (is : IsUnderWay m n o s c.args.state).
    subst (λ z. IsUnderWay m n o z c.in_ok-moved.moved)
    (second_is n m.scalars o r s (m.value c.at-a.result) (m.value c.at-b.result) (m.value c.at-c.result) (m.value c.at-e.result) (m.value c.in_ok-v.v)
    (c.at-a.ensures.value ∙ ap (λ p. at n m.scalars p (two 3 0)) is.form.polynomial) (c.at-b.ensures.value ∙ ap (λ p. at n m.scalars p (two 2 2)) is.form.polynomial)
    (c.at-c.ensures.value ∙ ap (λ p. at n m.scalars p (two 0 r)) is.form.polynomial) (c.at-e.ensures.value ∙ ap (λ p. at n m.scalars p (two 0 (r + 1))) is.form.polynomial) c.in_ok-v.ensures.value)
    (c.in_ok-moved.ensures.moved (tail_work n m.scalars o (m.value c.at-a.result) (m.value c.at-b.result) (m.value c.at-c.result) (m.value c.at-e.result) r) s is) in
    subst (λ z. IsUnderWay m n o z c.in_ok-next.next) (sym (whole s is))
    (at_state m c.in_ok-moved.moved (λ n o h. IsUnderWay m n o (graded_kill n m.scalars o parts.JT h) c.in_ok-next.next) n o (second n m.scalars o r s) (kept s is) c.in_ok-next.ensures.killed)
