use Rattle.std.proofs.Common.{◌≡◌, ap, subst, ◌∙◌, sym, below_more}
use Rattle.poly_law.specs.Polynomials.{StartsAtIn, coefficient_in}
use Rattle.jet_law.specs.Terms.{exp_of, poly_of}
use Rattle.jet_poly.specs.JetTerms.{JetTerms}
use Rattle.jet_subst.specs.Parts.{jet_at, part_of}
use Rattle.jet_subst.proofs.PowerLemmas.{any_default}
use Rattle.jet_subst.proofs.Reduced.{zeros}
use Rattle.probe.proofs.Constants.{one, no_constant}
use Rattle.probe.proofs.changes.have_no_constant.Goals as goal

pub loop-p-preserved : goal.loop-p-preserved
loop-p-preserved g c =
    let m = g.R.Ring.meaning c.args.ring.now in
    let n = c.args.n in
    let parts = c.args.parts.now in
    let part = c.p-item.result in
    let here : part ≡ jet_at parts c.loop-p.p-index = c.p-item.is ∙ any_default parts c.loop-p.p-index part _ c.loop-p-test.true in
    let variables : part.n ≡ n = ap (λ (p : JetTerms g.row.R-Elem.Denot). p.n) c.p-item.is ∙ (c.requires.parts c.loop-p.p-index part c.loop-p-test.true).variables in
    let zero : m.value c.coef-constant.result ≡ m.scalars.ops.zero = c.eq.ensures.0 c.if-not-eq.false ∙ c.zero.ensures.value in
    let coefficient : m.value c.coef-constant.result ≡ coefficient_in n m.scalars.ops (part_of n m.value parts c.loop-p.p-index) (exp_of n one) =
    subst (λ z. m.value c.coef-constant.result ≡ coefficient_in z m.scalars.ops (poly_of z m.value part.terms) (exp_of z one)) variables (c.coef-constant.ensures.in_variables (λ i h. zeros i))
    ∙ ap (λ (p : JetTerms g.row.R-Elem.Denot). coefficient_in n m.scalars.ops (poly_of n m.value p.terms) (exp_of n one)) here in
    below_more (λ i. StartsAtIn n m.scalars.ops 1 (part_of n m.value parts i)) c.loop-p.p-index c.loop-p.invariant
    (no_constant n m.scalars.ops (part_of n m.value parts c.loop-p.p-index) (sym coefficient ∙ zero))
