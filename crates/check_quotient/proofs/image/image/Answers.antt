use Rattle.std.proofs.Common.{◌≤◌, ◌^◌, ◌∙◌, map, ap, subst}
use Rattle.ring_law.proofs.Exits.{faulted, fault_handed_on}
use Rattle.jet_law.proofs.High.{high_head, high_tail}
use Rattle.jet_law.specs.Terms.{poly_of}
use Rattle.check_quotient.specs.Tables.{image_products, product_heights}
use Rattle.check_quotient.proofs.image.image.Goals as goal

pub returns-in_err-all-clause-range : goal.returns-in_err-all-clause-range
returns-in_err-all-clause-range g c =
    let m = g.R.Ring.meaning c.args.ring.now in
    let f = poly_of c.args.n m.value c.args.f.now in
    fault_handed_on _ c.from_residual.ensures.1
    (λ high. high_tail (m.scalars.sum_height (image_products m c.args.n c.args.table.now c.args.j f)) (product_heights m c.args.n c.args.table.now c.args.j f) high) c.in_err-all.ensures.range

pub returns-in_err-total-clause-range : goal.returns-in_err-total-clause-range
returns-in_err-total-clause-range g c =
    let m = g.R.Ring.meaning c.args.ring.now in
    let f = poly_of c.args.n m.value c.args.f.now in
    faulted _ c.from_residual-in_err-total.ensures.1
    (λ high. high_head (m.scalars.sum_height (image_products m c.args.n c.args.table.now c.args.j f)) (product_heights m c.args.n c.args.table.now c.args.j f)
    (subst (λ z. 2 ^ 120 ≤ m.scalars.sum_height z) (ap (map m.value) c.deref.ensures.value ∙ c.in_ok-all.ensures.products) high)) c.in_err-total.ensures.range
