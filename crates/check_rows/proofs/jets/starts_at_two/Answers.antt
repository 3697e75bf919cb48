use Rattle.std.proofs.Common.{◌≡◌, ℕ, ◌+◌, ◌<◌, ◌≤◌, ◌⊎◌, inl, inr, ◌∙◌, get_or, length, sum, refl, sym, ap, subst, arith}
use Rattle.std.specs.List.{All}
use Rattle.jet_poly.specs.JetTerms.{IsRising}
use Rattle.jacobian_row.proofs.ListSteps.{same_default}
use Rattle.check_rows.proofs.JetLemmas.{starts_from, starts_at_term, answer_no, answer_yes}
use Rattle.check_rows.proofs.jets.starts_at_two.Goals as goal

pub returns-then-degree-lt2 : goal.returns-then-degree-lt2
returns-then-degree-lt2 g c =
    let m = g.R.Ring.meaning c.args.ring.now in
    let laws = (g.met.R.Ring.laws c.args.ring.now c.requires.ring).numbers in
    let f = c.args.f.now in
    let inside : c.loop-t.t-index < length c.args.f.now.terms = subst (λ z. c.loop-t.t-index < length z) c.terms-terms.ensures.terms c.loop-t-test.true in
    let read : c.t-item.result ≡ get_or c.args.f.now.terms c.loop-t.t-index c.t-item.result = c.t-item.is ∙ ap (λ z. get_or z c.loop-t.t-index c.t-item.result) c.terms-terms.ensures.terms in
    answer_no (λ starts.
    (let low : 2 ≤ sum c.t-item.result.0.e = starts_at_term f.n m laws 2 f c.loop-t.t-index c.t-item.result refl c.requires.jet (subst IsRising c.terms-terms.ensures.terms c.terms-terms.ensures.rising) inside read starts in
    let d = c.degree.ensures.degree in
    let l = c.if-degree-lt2.true in
    let bad : ⊥ = omega arith in bad))

pub loop-t-preserved : goal.loop-t-preserved
loop-t-preserved g c j d h = step (last c.loop-t.t-index j h)
  where
    last : (i j : ℕ) → j < i + 1 → (j < i) ⊎ (j ≡ i)
    last i j h = grind arith

    step : (j < c.loop-t.t-index) ⊎ (j ≡ c.loop-t.t-index) → 2 ≤ sum (get_or c.terms-terms.result.now j d).0.e
    step (inl l) = c.loop-t.invariant j d l
    step (inr e) =
        subst (λ i. 2 ≤ sum (get_or c.terms-terms.result.now i d).0.e) (sym e)
        (subst (λ t. 2 ≤ sum t.0.e) (c.t-item.is ∙ same_default c.terms-terms.result.now c.loop-t.t-index c.t-item.result d c.loop-t-test.true)
        (let a = c.degree.ensures.degree in let b = c.if-degree-lt2.false in omega arith))

pub returns : goal.returns
returns g c =
    let m = g.R.Ring.meaning c.args.ring.now in
    let laws = (g.met.R.Ring.laws c.args.ring.now c.requires.ring).numbers in
    let f = c.args.f.now in
    answer_yes (starts_from f.n m laws 2 f refl c.requires.jet
    (subst (All (λ t. 2 ≤ sum t.0.e)) c.terms-terms.ensures.terms (λ j d h. c.loop-t.invariant j d (let e = c.loop-t-test.false in omega arith))))
