use Rattle.std.proofs.Common.{◌≡◌, ℕ, ◌+◌, ◌<◌, ◌⊎◌, inl, inr, ◌∙◌, [], sym, ap, subst, arith}
use Rattle.poly_law.specs.Polynomials.{StartsAtIn}
use Rattle.jet_law.specs.Terms.{poly_of}
use Rattle.jacobian_row.specs.Rows.{IsJetIn, polynomial_at}
use Rattle.jacobian_row.proofs.ListSteps.{same_default}
use Rattle.check_rows.proofs.JetLemmas.{answer_no, answer_yes, not_both}
use Rattle.check_rows.proofs.rows.all_start_at_two.Goals as goal

pub starts_at_two-requires-clause-jet : goal.starts_at_two-requires-clause-jet
starts_at_two-requires-clause-jet g c =
    let m = g.R.Ring.meaning c.args.ring.now in
    let jet : IsJetIn m c.args.n c.f-item.result = subst (IsJetIn m c.args.n) (sym c.f-item.is) (c.requires.jets c.loop-f.f-index c.f-item.result c.loop-f-test.true) in
    jet.jet

pub returns-then-not-starts_at_two : goal.returns-then-not-starts_at_two
returns-then-not-starts_at_two g c =
    let m = g.R.Ring.meaning c.args.ring.now in
    let n = c.args.n in
    let i = c.loop-f.f-index in
    let f = c.f-item.result in
    let jet : IsJetIn m c.args.n c.f-item.result = subst (IsJetIn m c.args.n) (sym c.f-item.is) (c.requires.jets i f c.loop-f-test.true) in
    let same = ap (λ x. poly_of n m.value x.terms) (c.f-item.is ∙ same_default c.args.jets.now i f (record { n = 0; order = 0; terms = [] }) c.loop-f-test.true) in
    answer_no (λ all. not_both c.starts_at_two.result
    (c.starts_at_two.ensures.1 (subst (λ j. StartsAtIn j m.scalars.ops 2 (poly_of j m.value c.f-item.result.terms)) (sym jet.variables)
    (subst (StartsAtIn n m.scalars.ops 2) (sym same) (all i c.loop-f-test.true)))) c.if-not-starts_at_two.true)

pub loop-f-preserved : goal.loop-f-preserved
loop-f-preserved g c j h = step (last c.loop-f.f-index j h)
  where
    last : (i j : ℕ) → j < i + 1 → (j < i) ⊎ (j ≡ i)
    last i j h = grind arith

    step : (j < c.loop-f.f-index) ⊎ (j ≡ c.loop-f.f-index) → StartsAtIn c.args.n (g.R.Ring.meaning c.args.ring.now).scalars.ops 2 (polynomial_at c.args.n (g.R.Ring.meaning c.args.ring.now).value c.args.jets.now j)
    step (inl l) = c.loop-f.invariant j l
    step (inr e) =
        let m = g.R.Ring.meaning c.args.ring.now in
        let i = c.loop-f.f-index in
        let f = c.f-item.result in
        let jet : IsJetIn m c.args.n c.f-item.result = subst (IsJetIn m c.args.n) (sym c.f-item.is) (c.requires.jets i f c.loop-f-test.true) in
        let same = ap (λ x. poly_of c.args.n m.value x.terms) (c.f-item.is ∙ same_default c.args.jets.now i f (record { n = 0; order = 0; terms = [] }) c.loop-f-test.true) in
        subst (λ i. StartsAtIn c.args.n m.scalars.ops 2 (polynomial_at c.args.n m.value c.args.jets.now i)) (sym e)
        (subst (StartsAtIn c.args.n m.scalars.ops 2) same
        (subst (λ j. StartsAtIn j m.scalars.ops 2 (poly_of j m.value c.f-item.result.terms)) jet.variables (c.starts_at_two.ensures.0 c.if-not-starts_at_two.false)))

pub returns : goal.returns
returns g c = answer_yes (λ i h. c.loop-f.invariant i (let e = c.loop-f-test.false in omega arith))
