use Rattle.std.proofs.Common.{◌+◌, ◌<◌, ◌≤◌, ◌++◌, [], ◌∷◌, cond, sym, ap, ap₂, subst, ◌∙◌, sum, append-nil, arith}
use Rattle.poly_law.specs.Exps.{plus}
use Rattle.poly_law.specs.ExpList.{ExpList, exps}
use Rattle.jet_law.specs.Terms.{exp_of, poly_of}
use Rattle.jet_law.proofs.TermLemmas.{exp_of-product, in-product, poly_of-push}
use Rattle.jet_poly.proofs.Steps.{low-product, high-product}
use Rattle.jacobian_row.proofs.RowLemmas.{has_product}
use Rattle.check_rows.proofs.FunctionalLemmas.{one_mul}
use Rattle.check_rows.specs.Lists.{AreTermsIn}
use Rattle.check_rows.proofs.ListLemmas.{terms_push}
use Rattle.check_quotient.proofs.image.add_shifted.Goals as goal

pub returns-then-degree-from-clause-product : goal.returns-then-degree-from-clause-product
returns-then-degree-from-clause-product g c =
    let m = g.R.Ring.meaning c.args.ring.now in
    let high : c.args.k < sum c.args.a.e + sum c.args.t.0.e = (let d = c.degree.ensures.degree in let d' = c.degree-2.ensures.degree in let f = c.from.ensures in let t = c.if-degree-from.true in omega arith) in
    let term : ExpList c.args.n × g.R.Ring.Value c.args.ring.now = (plus (exps c.args.n) (exp_of c.args.n c.args.a) (exp_of c.args.n c.args.t.0), m.scalars.ops.mul (m.scalars.ops.one) (m.value c.args.t.1)) in
    sym (ap (λ t. poly_of c.args.n m.value c.args.all.now.items ++ cond t (term ∷ []) []) (high-product c.args.n c.args.k c.args.a c.args.t.0 c.requires.unused c.requires.t_variables high)
    ∙ append-nil (poly_of c.args.n m.value c.args.all.now.items))

pub unwrap-monomial-requires : goal.unwrap-monomial-requires
unwrap-monomial-requires g c =
    let low : sum c.args.a.e + sum c.args.t.0.e ≤ c.args.k = (let d = c.degree.ensures.degree in let d' = c.degree-2.ensures.degree in let f = c.from.ensures in let t = c.if-degree-from.false in omega arith) in
    c.times.ensures.fits.1 (has_product c.args.a c.args.t.0 c.args.k (omega arith) low)

pub returns-clause-valid : goal.returns-clause-valid
returns-clause-valid g c =
    let m = g.R.Ring.meaning c.args.ring.now in
    subst (AreTermsIn m c.args.n) (sym c.in_ok-push.ensures.items)
    (terms_push m c.args.n c.args.all.now.items c.unwrap-monomial.result c.args.t.1 c.requires.valid c.requires.t_elem
    (in-product c.args.n c.args.a.e c.args.t.0.e c.unwrap-monomial.result.e (rw c.unwrap-monomial.ensures at c.times.ensures.product) c.requires.unused c.requires.t_variables))

pub returns-clause-product : goal.returns-clause-product
returns-clause-product g c =
    let m = g.R.Ring.meaning c.args.ring.now in
    let low : sum c.args.a.e + sum c.args.t.0.e ≤ c.args.k = (let d = c.degree.ensures.degree in let d' = c.degree-2.ensures.degree in let f = c.from.ensures in let t = c.if-degree-from.false in omega arith) in
    let term : ExpList c.args.n × g.R.Ring.Value c.args.ring.now = (plus (exps c.args.n) (exp_of c.args.n c.args.a) (exp_of c.args.n c.args.t.0), m.scalars.ops.mul (m.scalars.ops.one) (m.value c.args.t.1)) in
    ap (poly_of c.args.n m.value) c.in_ok-push.ensures.items
    ∙ poly_of-push c.args.n m.value c.args.all.now.items (c.unwrap-monomial.result, c.args.t.1)
    ∙ ap₂ (λ y z. poly_of c.args.n m.value c.args.all.now.items ++ (y, z) ∷ []) (exp_of-product c.args.n c.args.a c.args.t.0 c.unwrap-monomial.result (rw c.unwrap-monomial.ensures at c.times.ensures.product)) (sym (one_mul m.scalars.ops (g.met.R.Ring.laws c.args.ring.now c.requires.ring).numbers.ring (m.value c.args.t.1)))
    ∙ sym (ap (λ t. poly_of c.args.n m.value c.args.all.now.items ++ cond t (term ∷ []) []) (low-product c.args.n c.args.k c.args.a c.args.t.0 c.requires.unused c.requires.t_variables low))
