use Rattle.std.proofs.Common.{◌≡◌, ◌≤◌, ◌^◌, ◌∙◌, sym, ap, subst}
use Rattle.ring_law.proofs.Exits.{refused_by}
use Rattle.poly_law.specs.ExpList.{exps}
use Rattle.poly_law.specs.Poly.{coefficient}
use Rattle.poly_law.specs.Polynomials.{term_in, times_in}
use Rattle.poly_law.proofs.Sums
use Rattle.mono_exp.specs.Exponents.{IsIn}
use Rattle.jet_law.specs.Terms.{exp_of, poly_of}
use Rattle.jet_poly.proofs.Steps.{if_ok}
use Rattle.check_rows.proofs.FunctionalLemmas.{at_multiple, no_multiple, product_is, divides_if, quotient_in}
use Rattle.check_rows.proofs.functional.value_product.Goals as goal

pub returns-in-Some-clause-product : goal.returns-in-Some-clause-product
returns-in-Some-clause-product g c =
    let m = g.R.Ring.meaning c.args.ring.now in
    let laws = (g.met.R.Ring.laws c.args.ring.now c.requires.ring).numbers in
    let n = c.args.n in
    let q = c.in-Some.q in
    let f = poly_of n m.value c.args.f.now.terms in
    let all = times_in n m.scalars.ops (term_in n m.scalars.ops (exp_of n c.args.a)) f in
    let unused : IsIn c.args.n c.in-Some.q.e = quotient_in c.args.n c.args.t.0.e c.args.a.e c.in-Some.q.e c.in-Some.ensures.quotient c.requires.variables in
    let here = subst (λ i. m.value c.coef.result ≡ coefficient (exps i) m.scalars.ops (poly_of i m.value c.args.f.now.terms) (exp_of i c.in-Some.q)) c.requires.jet.variables
    (c.coef.ensures.in_variables (subst (λ i. IsIn i c.in-Some.q.e) (sym c.requires.jet.variables) unused)) in
    let at = ap (λ z. coefficient (exps n) m.scalars.ops all z) (product_is n c.args.t.0 c.args.a q c.in-Some.ensures.quotient) ∙ at_multiple n m.scalars.ops laws.ring (exp_of n c.args.a) (exp_of n q) f in
    if_ok c.mul.result (λ x e. e ∙ ap (m.scalars.ops.mul (m.value c.args.t.1)) (here ∙ sym at)) c.mul.ensures.value

pub returns-in-Some-clause-range : goal.returns-in-Some-clause-range
returns-in-Some-clause-range g c =
    let m = g.R.Ring.meaning c.args.ring.now in
    let laws = (g.met.R.Ring.laws c.args.ring.now c.requires.ring).numbers in
    let n = c.args.n in
    let q = c.in-Some.q in
    let f = poly_of n m.value c.args.f.now.terms in
    let all = times_in n m.scalars.ops (term_in n m.scalars.ops (exp_of n c.args.a)) f in
    let unused : IsIn c.args.n c.in-Some.q.e = quotient_in c.args.n c.args.t.0.e c.args.a.e c.in-Some.q.e c.in-Some.ensures.quotient c.requires.variables in
    let here = subst (λ i. m.value c.coef.result ≡ coefficient (exps i) m.scalars.ops (poly_of i m.value c.args.f.now.terms) (exp_of i c.in-Some.q)) c.requires.jet.variables
    (c.coef.ensures.in_variables (subst (λ i. IsIn i c.in-Some.q.e) (sym c.requires.jet.variables) unused)) in
    let at = ap (λ z. coefficient (exps n) m.scalars.ops all z) (product_is n c.args.t.0 c.args.a q c.in-Some.ensures.quotient) ∙ at_multiple n m.scalars.ops laws.ring (exp_of n c.args.a) (exp_of n q) f in
    refused_by (λ high. subst (λ z. 2 ^ 120 ≤ m.scalars.product_height (m.value c.args.t.1) z) (here ∙ sym at) high) c.mul.ensures.cause

pub returns-in-None-clause-product : goal.returns-in-None-clause-product
returns-in-None-clause-product g c =
    let m = g.R.Ring.meaning c.args.ring.now in
    let laws = (g.met.R.Ring.laws c.args.ring.now c.requires.ring).numbers in
    let n = c.args.n in
    let f = poly_of n m.value c.args.f.now.terms in
    c.zero.ensures.value
    ∙ sym (ap (m.scalars.ops.mul (m.value c.args.t.1)) (no_multiple n m.scalars.ops laws.ring (exp_of n c.args.a) (exp_of n c.args.t.0) f
    (λ q e. (let some = c.in-None.ensures.divides.1 (divides_if n c.args.t.0 c.args.a c.requires.unused q e) in let bad : ⊥ = cc some in bad)))
    ∙ Sums.mul_zero m.scalars.ops laws.ring (m.value c.args.t.1))
