-- The jet of the residual terms, in the residual variables.
use Rattle.std.proofs.Common.{ap, subst, sym, ◌∙◌, refl}
use Rattle.ring_law.specs.declared.fraction.Frac.{Frac}
use Rattle.ext_algebra.specs.declared.algebra.Ext.{Ext}
use Rattle.ext_algebra.specs.Algebra.{algebra_meaning, value_in}
use Rattle.jet_law.specs.Terms.{poly_of}
use Rattle.jet_poly.specs.JetTerms.{JetTerms, IsRising}
use Rattle.jet_poly.specs.Jets.{IsJet}
use Rattle.jet_poly.proofs.KeptTerms.{kept-rising}
use Rattle.normal_forms.specs.Monomials.{is_residual, residual_terms}
use Rattle.report_jet.proofs.ReportJets.{same_parts, residual_valid, residual_polynomial}
use Rattle.report_jet.proofs.residual.residual_jet.Goals as goal

pub from_rising-requires : goal.from_rising-requires
unfolding residual_terms
from_rising-requires c = record {
  rising = subst IsRising (sym c.in_ok-terms.ensures) (kept-rising (λ t. is_residual c.args.c.now.corank t.0) c.terms.result.now c.terms.ensures.rising);
}

pub returns-clause-jet : goal.returns-clause-jet
returns-clause-jet c =
    let k = c.args.c.now.corank in
    let whole = c.from_rising.ensures
    ∙ same_parts k k c.args.c.now.order c.args.c.now.order c.in_ok-terms.terms.items (residual_terms k c.args.c.now.jet.terms)
    refl refl (c.in_ok-terms.ensures ∙ ap (residual_terms k) c.terms.ensures.terms) in
    subst (IsJet (algebra_meaning c.args.c.now.algebra)) (sym whole) (residual_valid c.args.c.now c.requires.well_formed)

pub returns-clause-polynomial : goal.returns-clause-polynomial
returns-clause-polynomial c =
    let k = c.args.c.now.corank in
    ap (λ (h : JetTerms (Ext Frac)). poly_of k (value_in c.args.c.now.algebra) h.terms) c.from_rising.ensures
    ∙ ap (λ z. poly_of k (value_in c.args.c.now.algebra) z) (c.in_ok-terms.ensures ∙ ap (residual_terms k) c.terms.ensures.terms)
    ∙ residual_polynomial c.args.c.now
