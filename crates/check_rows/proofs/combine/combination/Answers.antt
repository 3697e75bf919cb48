use Rattle.std.proofs.Common.{◌∙◌, inr, leb, ap, subst}
use Rattle.ring_law.proofs.Exits.{faulted_by}
use Rattle.poly_law.specs.Exps.{degree}
use Rattle.poly_law.specs.ExpList.{exps}
use Rattle.poly_law.specs.Poly.{coefficient, cut}
use Rattle.jet_law.specs.Heights.{IsHigh, sums_heights}
use Rattle.jet_law.specs.Terms.{poly_of}
use Rattle.jet_poly.proofs.Steps.{if_ok}
use Rattle.jacobian_row.specs.Rows.{polynomial_at}
use Rattle.check_rows.specs.Lists.{list_at}
use Rattle.check_rows.specs.Products.{sum_of_products}
use Rattle.check_rows.proofs.ListLemmas.{filter_twice}
use Rattle.check_rows.proofs.combine.combination.Goals as goal

pub returns-clause-sum : goal.returns-clause-sum
returns-clause-sum g c =
    let m = g.R.Ring.meaning c.args.ring.now in
    let n = c.args.n in
    let all = sum_of_products n m.scalars.ops (polynomial_at n m.value c.args.multipliers.now) (list_at n m.value c.args.partials.now) in
    if_ok c.from_terms.result
    (λ h same b. same b ∙ ap (λ z. coefficient (exps n) m.scalars.ops z b)
    (ap (λ z. cut (exps n) m.scalars.ops c.args.k (poly_of n m.value z)) c.deref.ensures.value ∙ ap (cut (exps n) m.scalars.ops c.args.k) c.in_ok-all.ensures.products
    ∙ filter_twice (λ t. leb (degree (exps n) t.0) c.args.k) all))
    c.from_terms.ensures.sum

pub returns-clause-range : goal.returns-clause-range
returns-clause-range g c =
    let m = g.R.Ring.meaning c.args.ring.now in
    let n = c.args.n in
    let all = sum_of_products n m.scalars.ops (polynomial_at n m.value c.args.multipliers.now) (list_at n m.value c.args.partials.now) in
    faulted_by
    (λ high. inr (subst (λ z. IsHigh (sums_heights (exps c.args.n) m.scalars z))
    (ap (λ z. cut (exps n) m.scalars.ops c.args.k (poly_of n m.value z)) c.deref.ensures.value ∙ ap (cut (exps n) m.scalars.ops c.args.k) c.in_ok-all.ensures.products
    ∙ filter_twice (λ t. leb (degree (exps n) t.0) c.args.k) all) high))
    c.from_terms.ensures.range
