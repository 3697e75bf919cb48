use Rattle.std.proofs.Common.{subst}
use Rattle.jet_poly.specs.JetTerms.{IsRising}
use Rattle.jet_subst.proofs.Reduced.{truncated_jet}
use Rattle.jet_subst.proofs.truncated.truncation.Goals as goal

pub returns-clause-truncation : goal.returns-clause-truncation
returns-clause-truncation g c =
    let e = c.in_ok-truncated.ensures in
    truncated_jet (g.R.Ring.meaning c.args.ring.now) c.args.f.now.n c.args.k _ c.in_ok-truncated.truncated e.jet e.n e.order (subst IsRising c.terms-terms.ensures.terms c.terms-terms.ensures.rising) e.cut
