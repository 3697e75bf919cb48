use Rattle.std.proofs.Common.{◌+◌, ◌≤◌, ◌∙◌, leb, ap, ap₂, sym, sum, [], ◌∷◌, ◌++◌, arith}
use Rattle.std.proofs.lemmas.Bool.{le-leb}
use Rattle.poly_law.specs.Exps.{plus}
use Rattle.poly_law.specs.ExpList.{exps}
use Rattle.mono_exp.specs.Exponents.{IsIn}
use Rattle.jet_law.specs.Terms.{exp_of}
use Rattle.jet_law.proofs.TermLemmas.{exp_of-product, in-product}
use Rattle.jacobian_row.specs.Numbers.{number}
use Rattle.jacobian_row.proofs.ListSteps.{kept_step, element}
use Rattle.jacobian_row.proofs.RowLemmas.{sum-product, has_product}
use Rattle.jacobian_row.proofs.row.product_row.Goals as goal

pub unwrap-product-requires : goal.unwrap-product-requires
unwrap-product-requires g c =
    let low : sum c.args.factor.e + sum c.t-item.result.0.e ≤ c.args.k = (let d = c.degree.ensures.degree in let d' = c.degree-in-loop-t.ensures.degree in let f = c.from.ensures in let t = c.if-degree-from.false in omega arith) in
    c.times.ensures.fits.1 (has_product c.args.factor c.t-item.result.0 c.args.k (omega arith) low)

pub rank-requires-clause-unused : goal.rank-requires-clause-unused
rank-requires-clause-unused g c =
    let a = c.t-item.result.0 in
    let variables : IsIn c.args.n a.e = element (λ t. IsIn c.args.n t.0.e) c.args.terms.now c.loop-t.t-index c.t-item.result c.loop-t-test.true c.t-item.is c.requires.variables in
    in-product c.args.n c.args.factor.e a.e c.unwrap-product.result.e (rw c.unwrap-product.ensures at c.times.ensures.product) c.requires.unused variables

pub rank-requires-clause-degree : goal.rank-requires-clause-degree
rank-requires-clause-degree g c =
    let a = c.t-item.result.0 in
    let low : sum c.args.factor.e + sum a.e ≤ c.args.k = (let d = c.degree.ensures.degree in let d' = c.degree-in-loop-t.ensures.degree in let f = c.from.ensures in let t = c.if-degree-from.false in omega arith) in
    let variables : IsIn c.args.n a.e = element (λ t. IsIn c.args.n t.0.e) c.args.terms.now c.loop-t.t-index c.t-item.result c.loop-t-test.true c.t-item.is c.requires.variables in
    let e = sum-product c.args.n c.args.factor a c.unwrap-product.result c.requires.unused variables (rw c.unwrap-product.ensures at c.times.ensures.product) in
    let k = c.requires.order_at_most_17 in
    omega arith

pub loop-t-preserved : goal.loop-t-preserved
loop-t-preserved g c =
    let t = c.t-item.result in
    let n = c.args.n in
    let low : sum c.args.factor.e + sum t.0.e ≤ c.args.k = (let d = c.degree.ensures.degree in let d' = c.degree-in-loop-t.ensures.degree in let f = c.from.ensures in let t = c.if-degree-from.false in omega arith) in
    let product = exp_of-product n c.args.factor t.0 c.unwrap-product.result (rw c.unwrap-product.ensures at c.times.ensures.product) in
    c.in_ok-push.ensures.items
    ∙ ap₂ (λ xs r. xs ++ ((r, t.1) ∷ [])) c.loop-t.invariant (c.rank.ensures.rank ∙ ap (number n) product)
    ∙ sym (kept_step (λ t. leb (sum c.args.factor.e + sum t.0.e) c.args.k) (λ t. (number n (plus (exps n) (exp_of n c.args.factor) (exp_of n t.0)), t.1)) c.args.terms.now c.loop-t.t-index t c.loop-t-test.true c.t-item.is (le-leb (sum c.args.factor.e + sum t.0.e) c.args.k low))
