use Rattle.std.proofs.Common.{List, sym, subst}
use Rattle.ring_law.proofs.Exits.{fault_handed_on}
use Rattle.poly_law.specs.ExpList.{exps}
use Rattle.mono_exp.specs.declared.exponent.Exp.{Exp}
use Rattle.jet_law.specs.Terms.{poly_of}
use Rattle.jet_poly.specs.JetTerms.{IsRising}
use Rattle.jet_subst.specs.Substitutions.{IsSubstHigh}
use Rattle.coord_change.proofs.Canonicals
use Rattle.coord_change.proofs.pullback.carried_jet.Goals as goal

pub returns-in_err-jet-clause-range : goal.returns-in_err-jet-clause-range
returns-in_err-jet-clause-range g c =
    let m = g.R.Ring.meaning c.args.ring.now in
    let n = c.args.c.now.n in
    fault_handed_on _ c.from_residual.ensures.1
    (subst (λ parts. IsSubstHigh (exps n) (exps n) m.scalars c.args.k parts (poly_of n m.value c.args.f.now.terms)) (sym (Canonicals.put-move_from m n c.args.c.now)))
    c.in_err-jet.ensures.range

pub returns-clause-jet : goal.returns-clause-jet
returns-clause-jet g c =
    let m = g.R.Ring.meaning c.args.ring.now in
    let l = (g.met.R.Ring.laws c.args.ring.now c.requires.ring).numbers in
    let n = c.args.c.now.n in
    let e = c.in_ok-jet.ensures in
    Canonicals.carried_for m n l c.args.k c.args.c.now (poly_of n m.value c.args.f.now.terms) c.in_ok-jet.jet e.jet e.n e.order
    (subst (λ (zs : List (Exp × g.row.R-Elem.Denot)). IsRising zs) c.terms-terms.ensures.terms c.terms-terms.ensures.rising) e.value
