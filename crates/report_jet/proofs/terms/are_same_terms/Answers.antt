use Rattle.std.proofs.Common.{◌<◌, length, true≢false, refl, sym, ap, subst, ◌∙◌, take_all, arith}
use Rattle.jet_law.specs.Terms.{poly_of}
use Rattle.report_jet.proofs.SameTerms.{same_lengths, same_at, same_step}
use Rattle.report_jet.proofs.terms.are_same_terms.Goals as goal

pub returns-then-f-g : goal.returns-then-f-g
returns-then-f-g g c =
    let value = (g.R.Ring.meaning c.args.ring.now).value in
    (λ e. absurd (true≢false (sym e)), λ q. absurd (c.if-f-g.true (same_lengths c.args.n value c.args.f.now c.args.g.now q)))

pub returns-then-not-is_same_term : goal.returns-then-not-is_same_term
returns-then-not-is_same_term g c =
    let value = (g.R.Ring.meaning c.args.ring.now).value in
    let i = c.loop-i.i in
    let inside : i < length c.args.g.now = subst (λ z. i < z) c.if-f-g.false c.loop-i-test.true in (
      λ e. absurd (true≢false (sym e)),
      λ q. absurd (true≢false (sym (c.is_same_term.ensures.1 (same_at c.args.n value c.args.f.now c.args.g.now i c.index-f-i.result c.index-g-i.result c.loop-i-test.true inside c.index-f-i.is c.index-g-i.is q))
          ∙ c.if-not-is_same_term.true)),
    )

pub loop-i-preserved : goal.loop-i-preserved
loop-i-preserved g c =
    let value = (g.R.Ring.meaning c.args.ring.now).value in
    let i = c.loop-i.i in
    let inside : i < length c.args.g.now = subst (λ z. i < z) c.if-f-g.false c.loop-i-test.true in
    same_step c.args.n value c.args.f.now c.args.g.now i c.index-f-i.result c.index-g-i.result c.loop-i-test.true inside c.index-f-i.is c.index-g-i.is
    (c.is_same_term.ensures.0 c.if-not-is_same_term.false) c.loop-i.invariant

pub returns : goal.returns
returns g c =
    let value = (g.R.Ring.meaning c.args.ring.now).value in
    let left = take_all c.loop-i.i c.args.f.now (omega arith) in
    let right = take_all c.loop-i.i c.args.g.now (let e = c.if-f-g.false in omega arith) in
    (λ _. ap (poly_of c.args.n value) (sym left) ∙ c.loop-i.invariant ∙ ap (poly_of c.args.n value) right, λ _. refl)
