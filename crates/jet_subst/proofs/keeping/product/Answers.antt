use Rattle.std.proofs.Common.{List, length, ap, sym, subst, ◌∙◌}
use Rattle.std.specs.Prelude.{option_copied}
use Rattle.poly_law.specs.ExpList.{exps}
use Rattle.poly_law.specs.Poly.{monomial_of}
use Rattle.jet_law.specs.Terms.{exp_of}
use Rattle.jet_poly.specs.JetTerms.{JetTerms}
use Rattle.jet_subst.specs.Powers.{IsTruncatedJet}
use Rattle.jet_subst.specs.Parts.{part_of}
use Rattle.jet_subst.proofs.KeptLemmas
use Rattle.jet_subst.proofs.keeping.product.Goals as goal

pub returns-clause-product : goal.returns-clause-product
returns-clause-product g c =
    let m = g.R.Ring.meaning c.args.ring.now in
    let kept = c.args.kept.now in
    let slice = c.as_slice-slice.result.now in
    subst (IsTruncatedJet m kept.n kept.order (monomial_of (exps (length kept.parts)) (exps kept.n) m.scalars.ops (part_of kept.n m.value kept.parts) (exp_of (length kept.parts) c.args.e))) (sym c.in_ok-power.ensures)
    (subst (λ (ps : List (JetTerms g.row.R-Elem.Denot)). IsTruncatedJet m kept.n kept.order (monomial_of (exps (length ps)) (exps kept.n) m.scalars.ops (part_of kept.n m.value ps) (exp_of (length ps) c.args.e)) c.unwrap.result.now)
    c.as_slice-slice.ensures
    (KeptLemmas.read m kept.n kept.order slice c.hold.new.powers.entries c.args.e c.rank-number.result c.unwrap.result.now c.in_ok-hold.ensures.powers c.rank-number.ensures.rank c.rank-number.ensures.within
    (ap option_copied (sym c.unwrap.ensures) ∙ c.get.ensures.value)))
