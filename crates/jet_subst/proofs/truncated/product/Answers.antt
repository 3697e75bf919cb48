use Rattle.std.proofs.Common.{subst}
use Rattle.jet_poly.specs.JetTerms.{IsRising}
use Rattle.jet_subst.proofs.Reduced.{truncated_jet}
use Rattle.jet_subst.proofs.truncated.product.Goals as goal

pub returns-clause-product : goal.returns-clause-product
returns-clause-product g c =
    let e = c.in_ok-product.ensures in
    truncated_jet (g.R.Ring.meaning c.args.ring.now) c.args.f.now.n c.args.k _ c.in_ok-product.product e.jet e.n e.order (subst IsRising c.terms-terms.ensures.terms c.terms-terms.ensures.rising) e.product
