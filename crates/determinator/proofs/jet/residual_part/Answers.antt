use Rattle.std.proofs.Common.{refl, sym, ap, subst, ◌∙◌}
use Rattle.jet_poly.specs.JetTerms.{IsRising}
use Rattle.jet_poly.proofs.KeptTerms.{kept-rising}
use Rattle.normal_forms.specs.Monomials.{is_residual, residual_terms}
use Rattle.report_jet.proofs.ReportJets.{same_parts}
use Rattle.determinator.proofs.jet.residual_part.Goals as goal

pub from_rising-requires : goal.from_rising-requires
unfolding residual_terms
from_rising-requires g c = record { rising = subst IsRising (sym c.in_ok-kept.ensures) (kept-rising (λ t. is_residual c.args.corank t.0) c.terms.result.now c.terms.ensures.rising) }

pub returns-clause-part : goal.returns-clause-part
returns-clause-part g c =
    c.from_rising.ensures
    ∙ same_parts c.args.corank c.args.corank c.order.result c.args.f.now.order c.in_ok-kept.kept.items (residual_terms c.args.corank c.args.f.now.terms)
    refl c.order.ensures (c.in_ok-kept.ensures ∙ ap (residual_terms c.args.corank) c.terms.ensures.terms)
