-- The jet of the lifted terms, in the same variables and of the same order.
use Rattle.std.proofs.Common.{ap, subst, sym, ◌∙◌}
use Rattle.ring_law.specs.declared.fraction.Frac.{Frac}
use Rattle.ext_algebra.specs.declared.algebra.Ext.{Ext}
use Rattle.ext_algebra.specs.Algebra.{algebra_meaning, value_in}
use Rattle.jet_law.specs.Terms.{poly_of}
use Rattle.jet_poly.specs.JetTerms.{JetTerms, IsRising}
use Rattle.jet_poly.specs.Jets.{IsJet}
use Rattle.report_jet.specs.Lifted.{lifted_terms}
use Rattle.report_jet.proofs.ReportJets.{same_parts}
use Rattle.report_jet.proofs.LiftedJets.{lifted-rising, lifted_valid, lifted_polynomial}
use Rattle.report_jet.proofs.lifted.lifted_jet.Goals as goal

pub from_rising-requires : goal.from_rising-requires
from_rising-requires c = record {
  rising = subst IsRising (sym c.in_ok-terms.ensures) (lifted-rising c.terms.result.now c.terms.ensures.rising);
}

pub returns-clause-jet : goal.returns-clause-jet
returns-clause-jet c a =
    let whole = c.from_rising.ensures
    ∙ same_parts c.n.result c.args.f.now.n c.order.result c.args.f.now.order c.in_ok-terms.terms.items (lifted_terms c.args.f.now.terms)
    c.n.ensures c.order.ensures (c.in_ok-terms.ensures ∙ ap lifted_terms c.terms.ensures.terms) in
    subst (IsJet (algebra_meaning a)) (sym whole) (lifted_valid a c.args.f.now c.requires.jet)

pub returns-clause-polynomial : goal.returns-clause-polynomial
returns-clause-polynomial c a =
    ap (λ (h : JetTerms (Ext Frac)). poly_of c.args.f.now.n (value_in a) h.terms) c.from_rising.ensures
    ∙ ap (λ z. poly_of c.args.f.now.n (value_in a) z) (c.in_ok-terms.ensures ∙ ap lifted_terms c.terms.ensures.terms)
    ∙ lifted_polynomial c.args.f.now.n a c.args.f.now.terms
