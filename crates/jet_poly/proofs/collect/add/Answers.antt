use Rattle.std.proofs.Common.{◌++◌, ◌∙◌, ap₂, min}
use Rattle.std.specs.Prelude.{IfOk}
use Rattle.ring_law.specs.Refusals.{OnFault}
use Rattle.poly_law.specs.ExpList.{exps}
use Rattle.poly_law.specs.Polynomials.{SameIn, cut_in}
use Rattle.jet_law.specs.Heights.{IsHigh, sums_heights}
use Rattle.jet_law.specs.Terms.{poly_of}
use Rattle.jet_poly.proofs.Steps.{at_same}
use Rattle.jet_poly.proofs.collect.add.Goals as goal

pub returns-clause-sum : goal.returns-clause-sum
returns-clause-sum g c =
    let m = g.R.Ring.meaning c.args.ring.now in
    at_same (λ n k f h. IfOk c.sum_of.result (λ j. SameIn n m.scalars.ops (poly_of n m.value j.terms) (cut_in n m.scalars.ops k (poly_of n m.value f ++ poly_of n m.value h))))
    c.n.ensures (c.min-order.ensures ∙ ap₂ min c.order.ensures c.order-2.ensures) c.terms.ensures.terms c.terms-2.ensures.terms c.sum_of.ensures.sum

pub returns-clause-range : goal.returns-clause-range
returns-clause-range g c =
    let m = g.R.Ring.meaning c.args.ring.now in
    at_same (λ n k f h. OnFault c.sum_of.result (IsHigh (sums_heights (exps n) m.scalars (cut_in n m.scalars.ops k (poly_of n m.value f ++ poly_of n m.value h)))))
    c.n.ensures (c.min-order.ensures ∙ ap₂ min c.order.ensures c.order-2.ensures) c.terms.ensures.terms c.terms-2.ensures.terms c.sum_of.ensures.range
