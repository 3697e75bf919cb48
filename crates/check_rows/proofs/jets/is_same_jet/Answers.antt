use Rattle.std.proofs.Common.{refl, ap, subst}
use Rattle.poly_law.specs.Polynomials.{coefficient_in}
use Rattle.jet_poly.specs.JetTerms.{IsRising}
use Rattle.report_jet.proofs.OneJet.{one_jet, same_test}
use Rattle.check_rows.proofs.jets.is_same_jet.Goals as goal

pub returns : goal.returns
returns g c =
    let m = g.R.Ring.meaning c.args.ring.now in
    let laws = (g.met.R.Ring.laws c.args.ring.now c.requires.ring).numbers in
    let same = same_test m laws.ring c.args.f.now.n c.are_same_terms.result c.n.result c.terms.result.now c.terms-2.result.now c.args.f.now c.args.g.now c.n.ensures c.terms.ensures.terms c.terms-2.ensures.terms c.are_same_terms.ensures in (
      λ t a. ap (λ z. coefficient_in c.args.f.now.n m.scalars.ops z a) (same.0 t),
      λ e. same.1 (one_jet m laws.ring c.args.f.now.n c.args.f.now c.args.g.now refl c.requires.same_variables c.requires.left c.requires.right
          (subst IsRising c.terms.ensures.terms c.terms.ensures.rising) (subst IsRising c.terms-2.ensures.terms c.terms-2.ensures.rising) e),
    )
