use Rattle.std.proofs.Common.{◌&&◌, ◌∙◌, leb, eqb, sum, sym, ap, subst}
use Rattle.std.specs.List.{filter}
use Rattle.poly_law.specs.ExpList.{exps}
use Rattle.poly_law.specs.Poly.{coefficient}
use Rattle.jet_law.specs.Terms.{poly_of}
use Rattle.jet_poly.specs.JetTerms.{IsRising}
use Rattle.jet_poly.specs.Jets.{IsJet}
use Rattle.jet_poly.proofs.KeptTerms.{kept-rising, kept-jet, filtered-by, both-eqb, made-same}
use Rattle.jet_poly.proofs.walk.part.Goals as goal

pub from_rising-requires : goal.from_rising-requires
from_rising-requires g c = record {
  rising = subst IsRising (sym c.in_ok-kept.ensures.kept) (kept-rising (λ t. leb c.args.d (sum t.0.e) && leb (sum t.0.e) c.args.d) c.terms.result.now c.terms.ensures.rising);
}

pub returns-clause-jet : goal.returns-clause-jet
returns-clause-jet g c =
    let m = g.R.Ring.meaning c.args.ring.now in
    let same = c.from_rising.ensures ∙ made-same c.n.result c.args.f.now.n c.order.result c.args.f.now.order c.in_ok-kept.kept.items (filter (λ t. leb c.args.d (sum t.0.e) && leb (sum t.0.e) c.args.d) c.args.f.now.terms) c.n.ensures c.order.ensures
    (c.in_ok-kept.ensures.kept ∙ ap (filter (λ t. leb c.args.d (sum t.0.e) && leb (sum t.0.e) c.args.d)) c.terms.ensures.terms) in
    subst (IsJet m) (sym same) (kept-jet m (λ t. leb c.args.d (sum t.0.e) && leb (sum t.0.e) c.args.d) c.args.f.now c.args.f.now.order (λ t h e. h) c.requires.jet)

pub returns-clause-part : goal.returns-clause-part
returns-clause-part g c b =
    let m = g.R.Ring.meaning c.args.ring.now in
    let n = c.args.f.now.n in
    ap (λ h. coefficient (exps n) m.scalars.ops (poly_of n m.value h.terms) b) c.from_rising.ensures
    ∙ ap (λ z. coefficient (exps n) m.scalars.ops (poly_of n m.value z) b) (c.in_ok-kept.ensures.kept ∙ ap (filter (λ t. leb c.args.d (sum t.0.e) && leb (sum t.0.e) c.args.d)) c.terms.ensures.terms)
    ∙ ap (λ z. coefficient (exps n) m.scalars.ops z b) (filtered-by m n (λ d. leb c.args.d d && leb d c.args.d) (λ d. eqb d c.args.d) c.args.f.now.terms (λ d. both-eqb d c.args.d) c.requires.jet.variables)
