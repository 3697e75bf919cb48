use Rattle.std.proofs.Common.{◌≡◌, ◌∙◌, ◌++◌, [], ◌<◌, length, ap, ap₂, subst, arith}
use Rattle.ring_law.proofs.Exits.{fault_handed_on}
use Rattle.poly_law.specs.Sums.{sum_to}
use Rattle.poly_law.specs.ExpList.{exps}
use Rattle.poly_law.specs.Poly.{cut}
use Rattle.poly_law.specs.Polynomials.{times_in, poly_in}
use Rattle.jet_law.specs.Heights.{IsHigh, products_heights}
use Rattle.jet_law.specs.Terms.{poly_of}
use Rattle.jacobian_row.specs.Rows.{polynomial_at}
use Rattle.jacobian_row.proofs.ListSteps.{same_default}
use Rattle.check_rows.specs.Lists.{list_at}
use Rattle.check_rows.proofs.ListLemmas.{terms_none, sum_step}
use Rattle.check_rows.proofs.combine.products.Goals as goal

pub loop-i-init : goal.loop-i-init
loop-i-init g c =
    let m = g.R.Ring.meaning c.args.ring.now in
    record { valid = terms_none m c.args.n c.new-all.result.items c.new-all.ensures.items; so_far = ap (poly_of c.args.n m.value) c.new-all.ensures.items }

pub returns-in_err-add_products-clause-range : goal.returns-in_err-add_products-clause-range
returns-in_err-add_products-clause-range g c =
    let m = g.R.Ring.meaning c.args.ring.now in
    let n = c.args.n in
    let i = c.loop-i.i in
    let within : c.loop-i.i < c.args.n = (let e = c.from-i-end.ensures in let h = c.loop-i-test.true in omega arith) in
    let inside : c.loop-i.i < length c.args.multipliers.now = (let e = c.requires.one_each in omega arith) in
    let inside' : c.loop-i.i < length c.args.partials.now = (let e = c.requires.count in omega arith) in
    let f = ap (poly_of n m.value) c.terms.ensures.terms ∙ ap (λ x. poly_of n m.value x.terms) (c.index-multipliers-i.is ∙ same_default c.args.multipliers.now i c.index-multipliers-i.result (record { n = 0; order = 0; terms = [] }) inside) in
    let h = ap (poly_of n m.value) (c.as_slice.ensures ∙ c.index-partials-i.is ∙ same_default c.args.partials.now i c.index-partials-i.result [] inside') in
    fault_handed_on _ c.from_residual.ensures.1
    (λ high. record {
      variable = i;
      within = within;
      high = subst (λ z. IsHigh (products_heights (exps c.args.n) m.scalars c.args.k (polynomial_at c.args.n m.value c.args.multipliers.now c.loop-i.i) z)) h
          (subst (λ z. IsHigh (products_heights (exps c.args.n) m.scalars c.args.k z (poly_of c.args.n m.value c.as_slice.result.now))) f high);
    })
    c.in_err-add_products.ensures.range

pub loop-i-preserved : goal.loop-i-preserved
loop-i-preserved g c =
    let m = g.R.Ring.meaning c.args.ring.now in
    let n = c.args.n in
    let i = c.loop-i.i in
    let within : c.loop-i.i < c.args.n = (let e = c.from-i-end.ensures in let h = c.loop-i-test.true in omega arith) in
    let inside : c.loop-i.i < length c.args.multipliers.now = (let e = c.requires.one_each in omega arith) in
    let inside' : c.loop-i.i < length c.args.partials.now = (let e = c.requires.count in omega arith) in
    let f = ap (poly_of n m.value) c.terms.ensures.terms ∙ ap (λ x. poly_of n m.value x.terms) (c.index-multipliers-i.is ∙ same_default c.args.multipliers.now i c.index-multipliers-i.result (record { n = 0; order = 0; terms = [] }) inside) in
    let h = ap (poly_of n m.value) (c.as_slice.ensures ∙ c.index-partials-i.is ∙ same_default c.args.partials.now i c.index-partials-i.result [] inside') in
    record {
      valid = c.in_ok-add_products.ensures.valid;
      so_far = sum_step m n c.args.k i (poly_of n m.value c.loop-i.all.items) (poly_of n m.value c.add_products.new.all.items)
          (λ i. times_in n m.scalars.ops (polynomial_at n m.value c.args.multipliers.now i) (list_at n m.value c.args.partials.now i)) c.loop-i.invariant.so_far
          (c.in_ok-add_products.ensures.products ∙ ap₂ (λ x y. poly_of n m.value c.loop-i.all.items ++ cut (exps n) m.scalars.ops c.args.k (times_in n m.scalars.ops x y)) f h);
    }

pub returns-clause-products : goal.returns-clause-products
returns-clause-products g c =
    let m = g.R.Ring.meaning c.args.ring.now in
    let n = c.args.n in
    let end : c.loop-i.i ≡ c.args.n = (let e = c.from-i-end.ensures in let h = c.loop-i-test.false in let a = c.loop-i.auto in omega arith) in
    c.loop-i.invariant.so_far
    ∙ ap (λ j. cut (exps n) m.scalars.ops c.args.k (sum_to (poly_in n m.scalars.ops) j (λ i. times_in n m.scalars.ops (polynomial_at n m.value c.args.multipliers.now i) (list_at n m.value c.args.partials.now i)))) end
