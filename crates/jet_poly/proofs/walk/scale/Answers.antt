use Rattle.std.proofs.Common.{sym, subst}
use Rattle.std.specs.Prelude.{IfOk}
use Rattle.ring_law.specs.Refusals.{OnFault}
use Rattle.poly_law.specs.ExpList.{exps}
use Rattle.poly_law.specs.Poly.{Same, scale}
use Rattle.jet_law.specs.Heights.{IsHigh, scale_heights}
use Rattle.jet_law.specs.Terms.{poly_of}
use Rattle.jet_poly.specs.Jets.{IsJet}
use Rattle.jet_poly.proofs.KeptTerms.{made-same}
use Rattle.jet_poly.proofs.Steps.{at_same}
use Rattle.jet_poly.proofs.walk.scale.Goals as goal

pub scaled-requires-clause-jet : goal.scaled-requires-clause-jet
scaled-requires-clause-jet g c =
    subst (IsJet (g.R.Ring.meaning c.args.ring.now)) (made-same c.args.f.now.n c.n.result c.args.f.now.order c.order.result c.args.f.now.terms c.terms.result.now (sym c.n.ensures) (sym c.order.ensures) (sym c.terms.ensures.terms)) c.requires.jet

pub returns-clause-product : goal.returns-clause-product
returns-clause-product g c =
    let m = g.R.Ring.meaning c.args.ring.now in
    at_same (λ n k f h. IfOk c.scaled.result (λ j. Same (exps n) m.scalars.ops (poly_of n m.value j.terms) (scale (exps n) m.scalars.ops (m.value c.args.c) (poly_of n m.value f))))
    c.n.ensures c.order.ensures c.terms.ensures.terms c.terms.ensures.terms c.scaled.ensures.product

pub returns-clause-range : goal.returns-clause-range
returns-clause-range g c =
    let m = g.R.Ring.meaning c.args.ring.now in
    at_same (λ n k f h. OnFault c.scaled.result (IsHigh (scale_heights (exps n) m.scalars (m.value c.args.c) (poly_of n m.value f))))
    c.n.ensures c.order.ensures c.terms.ensures.terms c.terms.ensures.terms c.scaled.ensures.range
