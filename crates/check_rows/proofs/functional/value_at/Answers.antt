use Rattle.std.proofs.Common.{◌≤◌, ◌^◌, ◌∙◌, map, sym, ap, subst}
use Rattle.ring_theory.specs.Scalars.{sum_of}
use Rattle.ring_law.proofs.Exits.{faulted, fault_handed_on}
use Rattle.poly_law.specs.Polynomials.{term_in, times_in}
use Rattle.jet_law.proofs.High.{high_head, high_tail}
use Rattle.jet_law.specs.Terms.{exp_of, poly_of}
use Rattle.check_rows.specs.Functionals.{with_coefficients}
use Rattle.check_rows.proofs.FunctionalLemmas.{value_is}
use Rattle.check_rows.proofs.functional.value_at.Goals as goal

pub returns-in_err-products-clause-range : goal.returns-in_err-products-clause-range
returns-in_err-products-clause-range g c =
    let m = g.R.Ring.meaning c.args.ring.now in
    let n = c.args.n in
    let values = poly_of n m.value c.args.values.now in
    let all = times_in n m.scalars.ops (term_in n m.scalars.ops (exp_of n c.args.a)) (poly_of n m.value c.args.f.now.terms) in
    fault_handed_on _ c.from_residual.ensures.1
    (λ high. high_tail (m.scalars.sum_height (with_coefficients n m.scalars.ops m.scalars.ops.mul values all)) (with_coefficients n m.scalars.ops m.scalars.product_height values all) high) c.in_err-products.ensures.range

pub returns-in_err-total-clause-range : goal.returns-in_err-total-clause-range
returns-in_err-total-clause-range g c =
    let m = g.R.Ring.meaning c.args.ring.now in
    let n = c.args.n in
    let values = poly_of n m.value c.args.values.now in
    let all = times_in n m.scalars.ops (term_in n m.scalars.ops (exp_of n c.args.a)) (poly_of n m.value c.args.f.now.terms) in
    faulted _ c.from_residual-in_err-total.ensures.1
    (λ high. high_head (m.scalars.sum_height (with_coefficients n m.scalars.ops m.scalars.ops.mul values all)) (with_coefficients n m.scalars.ops m.scalars.product_height values all)
    (subst (λ z. 2 ^ 120 ≤ m.scalars.sum_height z) (ap (map m.value) c.deref.ensures.value ∙ c.in_ok-products.ensures.products) high)) c.in_err-total.ensures.range

pub returns-clause-value : goal.returns-clause-value
returns-clause-value g c =
    let m = g.R.Ring.meaning c.args.ring.now in
    let laws = (g.met.R.Ring.laws c.args.ring.now c.requires.ring).numbers in
    let n = c.args.n in
    let values = poly_of n m.value c.args.values.now in
    let all = times_in n m.scalars.ops (term_in n m.scalars.ops (exp_of n c.args.a)) (poly_of n m.value c.args.f.now.terms) in
    c.in_ok-total.ensures.sum ∙ ap (sum_of m.scalars.ops) (ap (map m.value) c.deref.ensures.value ∙ c.in_ok-products.ensures.products) ∙ sym (value_is m laws n values all)
