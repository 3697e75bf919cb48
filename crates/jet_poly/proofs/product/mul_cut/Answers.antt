use Rattle.std.proofs.Common.{refl}
use Rattle.std.specs.Prelude.{IfOk}
use Rattle.ring_law.specs.Refusals.{OnFault}
use Rattle.poly_law.specs.ExpList.{exps}
use Rattle.poly_law.specs.Polynomials.{SameIn, times_in, cut_in}
use Rattle.jet_law.specs.Heights.{IsHigh, product_heights}
use Rattle.jet_law.specs.Terms.{poly_of}
use Rattle.jet_poly.proofs.Steps.{at_same}
use Rattle.jet_poly.proofs.product.mul_cut.Goals as goal

pub returns-clause-product : goal.returns-clause-product
returns-clause-product g c =
    let m = g.R.Ring.meaning c.args.ring.now in
    at_same (λ n k f h. IfOk c.product_of.result (λ j. SameIn n m.scalars.ops (poly_of n m.value j.terms) (cut_in n m.scalars.ops k (times_in n m.scalars.ops (poly_of n m.value f) (poly_of n m.value h)))))
    c.n.ensures refl c.terms.ensures.terms c.terms-2.ensures.terms c.product_of.ensures.product

pub returns-clause-range : goal.returns-clause-range
returns-clause-range g c =
    let m = g.R.Ring.meaning c.args.ring.now in
    at_same (λ n k f h. OnFault c.product_of.result (IsHigh (product_heights (exps n) m.scalars k (poly_of n m.value f) (poly_of n m.value h))))
    c.n.ensures refl c.terms.ensures.terms c.terms-2.ensures.terms c.product_of.ensures.range
