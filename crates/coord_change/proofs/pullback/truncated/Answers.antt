use Rattle.std.proofs.Common.{List, subst}
use Rattle.mono_exp.specs.declared.exponent.Exp.{Exp}
use Rattle.jet_law.specs.Terms.{poly_of}
use Rattle.jet_poly.specs.JetTerms.{IsRising}
use Rattle.coord_change.proofs.Canonicals
use Rattle.coord_change.proofs.pullback.truncated.Goals as goal

pub returns-clause-jet : goal.returns-clause-jet
returns-clause-jet g c =
    let m = g.R.Ring.meaning c.args.ring.now in
    let l = (g.met.R.Ring.laws c.args.ring.now c.requires.ring).numbers in
    let n = c.args.f.now.n in
    let e = c.in_ok-jet.ensures in
    Canonicals.is_jet_for m n l c.args.k c.in_ok-jet.jet (poly_of n m.value c.args.f.now.terms) e.jet e.n e.order
    (subst (λ (zs : List (Exp × g.row.R-Elem.Denot)). IsRising zs) c.terms-terms.ensures.terms c.terms-terms.ensures.rising)
    (Canonicals.cut_agrees m n l c.args.k (poly_of n m.value c.in_ok-jet.jet.terms) (poly_of n m.value c.args.f.now.terms) e.cut)
