use Rattle.std.proofs.Common.{◌≡◌, ◌≢◌, ◌+◌, ◌<◌, inr, [], ◌∷◌, ◌++◌, get_or, length, rules, ap, sym, subst, ◌∙◌, arith}
use Rattle.std.specs.List.{flat_map}
use Rattle.ring_law.proofs.Exits.{faulted}
use Rattle.mono_exp.specs.Exponents.{IsIn}
use Rattle.jet_law.specs.Terms.{poly_of}
use Rattle.jet_law.proofs.TermLemmas.{exp_of-lower}
use Rattle.jet_poly.specs.JetTerms.{IsRising}
use Rattle.jet_poly.specs.Jets.{whole}
use Rattle.coord_change.specs.Linear.{one_at}
use Rattle.coord_change.specs.Moves.{variable_of}
use Rattle.lin_row.specs.Plain.{Among}
use Rattle.move_law.specs.Split.{completed, completed_by, completed_work}
use Rattle.move_law.specs.Work.{IsWorkHigh}
use Rattle.split_lemma.specs.Splits.{AreTermsOf}
use Rattle.split_lemma.proofs.Halves.{zero_from_double, zero_from_quotient, zero_from_negative}
use Rattle.split_lemma.proofs.CompletedTerms.{AreCompleted, started, passed, pushed, finished, product_high}
use Rattle.split_lemma.proofs.completing.completed_terms.Goals.{in-Some+in_ok-product+in_ok-push-2, in_default}
use Rattle.split_lemma.proofs.completing.completed_terms.Goals as goal

pub loop-t-init : goal.loop-t-init
loop-t-init g c =
    let m = g.F.Ring.meaning c.args.field.now in
    started c.args.f.now.n c.args.corank c.args.d c.args.w m (m.value c.in_ok-inverse.inverse) c.args.f.now.terms (g.met.F.Ring.laws c.args.field.now c.requires.ring)
    c.requires.inside c.requires.at_most_8_variables c.requires.degree_at_least_3 c.monomial.result c.one.result c.push.new.self.items
    (c.monomial.ensures ∙ ap one_at c.from.ensures) c.one.ensures.elem c.one.ensures.value
    (c.in_ok-push.ensures.items ∙ ap (λ z. z ++ (c.monomial.result, c.one.result) ∷ []) c.new-part.ensures.items)

pub mul-requires-clause-left : goal.mul-requires-clause-left
mul-requires-clause-left g c =
    let m = g.F.Ring.meaning c.args.field.now in
    let same = c.terms-t-items.ensures.terms in
    let i = c.loop-t.t-index in
    let h = subst (λ z. i < length z) same c.loop-t-test.true in
    let e = c.t-item.is ∙ ap (λ z. get_or z i c.t-item.result) same in
    subst (λ z. m.is_elem z.1) (sym e) (c.requires.jet.elems i c.t-item.result h)

pub returns-in_err-product-clause-range : goal.returns-in_err-product-clause-range
returns-in_err-product-clause-range g c =
    let m = g.F.Ring.meaning c.args.field.now in
    let n = c.args.f.now.n in
    let same = c.terms-t-items.ensures.terms in
    let i = c.loop-t.t-index in
    let t = c.t-item.result in
    let h = subst (λ z. i < length z) same c.loop-t-test.true in
    let e = c.t-item.is ∙ ap (λ z. get_or z i t) same in
    let here = subst (λ z. IsIn n z.0.e) (sym e) (c.requires.jet.variables i t h) in
    faulted _ c.from_residual-in_err-product.ensures.1
    (λ high. inr (inr (subst (λ v. Among (IsWorkHigh n m.scalars) (flat_map (completed_work n m.scalars c.args.corank c.args.d v c.args.w) (poly_of n m.value c.args.f.now.terms))) c.in_ok-inverse.ensures.value
    (product_high n c.args.corank c.args.d c.args.w m (m.value c.in_ok-inverse.inverse) c.args.f.now.terms (g.met.F.Ring.laws c.args.field.now c.requires.ring) i t h e
    (c.in-Some.ensures n c.requires.inside here).0 high))))
    c.in_err-product.ensures.cause

pub loop-t-preserved : goal.loop-t-preserved
loop-t-preserved g c =
    let m = g.F.Ring.meaning c.args.field.now in
    let laws = g.met.F.Ring.laws c.args.field.now c.requires.ring in
    let n = c.args.f.now.n in
    let f = c.args.f.now.terms in
    let inverse = m.value c.in_ok-inverse.inverse in
    let same = c.terms-t-items.ensures.terms in
    let i = c.loop-t.t-index in
    let t = c.t-item.result in
    let h = subst (λ z. i < length z) same c.loop-t-test.true in
    let e = c.t-item.is ∙ ap (λ z. get_or z i t) same in
    let here = subst (λ z. IsIn n z.0.e) (sym e) (c.requires.jet.variables i t h) in
    let unit = subst (λ z. m.value z.1 ≢ m.scalars.ops.zero) (sym e) (c.requires.jet.units i t h) in
    let inside = c.requires.inside in
    let few = c.requires.at_most_8_variables in
    elim c.match-belonging_quotient.branch [
      | in-Some+in_ok-product+in_ok-push-2 w ↦
          let own = w.in-Some.ensures n inside here in
          let long : length t.0.e ≡ 8 = search rules in
          let value = w.neg.ensures.value ∙ ap m.scalars.ops.neg w.in_ok-product.ensures.value in
          subst (AreCompleted n c.args.corank c.args.d c.args.w m inverse f (i + 1)) (sym (ap (λ z. z.items) w.part-is ∙ w.in_ok-push-2.ensures.items))
          (pushed n c.args.corank c.args.d c.args.w m inverse f c.args.f.now.order c.requires.order_at_most_16 (subst IsRising same c.terms-t-items.ensures.rising) c.requires.jet inside i t c.loop-t.part.items
          w.in-Some.quotient w.neg.result h e own.0 own.1 (exp_of-lower n c.args.w t.0 w.in-Some.quotient (omega arith) own.1) w.neg.ensures.elem
          (λ z. unit (zero_from_quotient m.scalars laws.numbers (g.met.F.Field.inverts c.args.field.now c.requires.ring) (m.value t.1) (m.scalars.ops.mul (whole m.scalars 2) (m.value c.args.square))
          (λ q. c.requires.unit (zero_from_double m.scalars laws.numbers (m.value c.args.square) q))
          (ap (m.scalars.ops.mul (m.value t.1)) (sym c.in_ok-inverse.ensures.value) ∙ zero_from_negative m.scalars laws.numbers (m.scalars.ops.mul (m.value t.1) inverse) (sym value ∙ z))))
          value c.loop-t.invariant)
      | in_default w ↦
          subst (AreCompleted n c.args.corank c.args.d c.args.w m inverse f (i + 1)) (sym (ap (λ z. z.items) w.part-is))
          (passed n c.args.corank c.args.d c.args.w m inverse f i t c.loop-t.part.items h e (w.in_default.ensures n inside here) c.loop-t.invariant)
    ]

pub returns-clause-terms : goal.returns-clause-terms
unfolding completed
returns-clause-terms g c =
    let m = g.F.Ring.meaning c.args.field.now in
    let n = c.args.f.now.n in
    let f = c.args.f.now.terms in
    let last = c.loop-t-test.false in
    let end = c.loop-t.auto.t-index-end in
    let same = ap length c.terms-t-items.ensures.terms in
    subst (λ v. AreTermsOf m n 16 (variable_of n m.scalars c.args.w ++ flat_map (completed_by n m.scalars c.args.corank c.args.d v c.args.w) (poly_of n m.value f)) c.loop-t.part.items) c.in_ok-inverse.ensures.value
    (finished n c.args.corank c.args.d c.args.w m (m.value c.in_ok-inverse.inverse) f (g.met.F.Ring.laws c.args.field.now c.requires.ring) c.loop-t.t-index c.loop-t.part.items c.loop-t.invariant (omega arith))
