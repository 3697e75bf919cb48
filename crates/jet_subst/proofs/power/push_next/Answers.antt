use Rattle.std.proofs.Common.{◌≤◌, sym, ◌∙◌, subst, ap, arith}
use Rattle.ring_law.proofs.Exits.{fault_handed_on}
use Rattle.jet_law.specs.Terms.{poly_of}
use Rattle.jet_poly.specs.JetTerms.{JetTerms}
use Rattle.jet_poly.specs.Jets.{IsJet}
use Rattle.jet_subst.specs.Parts.{ArePowers}
use Rattle.jet_subst.proofs.PowerLemmas
use Rattle.jet_subst.proofs.power.push_next.Goals as goal

pub product-requires-clause-left : goal.product-requires-clause-left
product-requires-clause-left g c =
    let e = PowerLemmas.at_index c.args.all.now.items c.args.i c.from.result c.index.result.now c.index.ensures c.from.ensures (let z = c.requires.count in omega arith) in
    subst (λ (u : JetTerms g.row.R-Elem.Denot). IsJet (g.R.Ring.meaning c.args.ring.now) u) (sym e) (c.requires.powers c.args.i (let z = c.requires.count in omega arith)).jet

pub product-requires-clause-same_variables : goal.product-requires-clause-same_variables
product-requires-clause-same_variables g c =
    let e = PowerLemmas.at_index c.args.all.now.items c.args.i c.from.result c.index.result.now c.index.ensures c.from.ensures (let z = c.requires.count in omega arith) in
    c.requires.base.variables ∙ sym (ap (λ (u : JetTerms g.row.R-Elem.Denot). u.n) e ∙ (c.requires.powers c.args.i (let z = c.requires.count in omega arith)).variables)

pub product-requires-clause-at_most_8_variables : goal.product-requires-clause-at_most_8_variables
product-requires-clause-at_most_8_variables g c =
    let e = PowerLemmas.at_index c.args.all.now.items c.args.i c.from.result c.index.result.now c.index.ensures c.from.ensures (let z = c.requires.count in omega arith) in
    subst (λ z. z ≤ 8) (sym (ap (λ (u : JetTerms g.row.R-Elem.Denot). u.n) e ∙ (c.requires.powers c.args.i (let z = c.requires.count in omega arith)).variables)) c.requires.at_most_8_variables

pub returns-in_err-next-clause-range : goal.returns-in_err-next-clause-range
returns-in_err-next-clause-range g c =
    let r = c.args.ring.now in
    let m = g.R.Ring.meaning r in
    let e = PowerLemmas.at_index c.args.all.now.items c.args.i c.from.result c.index.result.now c.index.ensures c.from.ensures (let z = c.requires.count in omega arith) in
    fault_handed_on _ c.from_residual.ensures.1
    (λ high. PowerLemmas.powers_high_at m (g.met.R.Ring.laws r c.requires.ring).numbers.ring c.args.p.now.n c.args.k (poly_of c.args.p.now.n m.value c.args.p.now.terms)
    c.args.all.now.items c.args.base.now c.index.result.now c.args.i c.requires.count c.requires.powers c.requires.base e high)
    c.in_err-next.ensures.range

pub returns-clause-powers : goal.returns-clause-powers
returns-clause-powers g c =
    let r = c.args.ring.now in
    let m = g.R.Ring.meaning r in
    let p = poly_of c.args.p.now.n m.value c.args.p.now.terms in
    let e = PowerLemmas.at_index c.args.all.now.items c.args.i c.from.result c.index.result.now c.index.ensures c.from.ensures (let z = c.requires.count in omega arith) in
    subst (ArePowers m c.args.p.now.n c.args.k p) (sym c.in_ok-push.ensures.items)
    (PowerLemmas.more_powers_at m (g.met.R.Ring.laws r c.requires.ring).numbers.ring c.args.p.now.n c.args.k p
    c.args.all.now.items c.args.base.now c.index.result.now c.in_ok-next.next c.args.i c.requires.count c.requires.powers c.requires.base e c.in_ok-next.ensures.product)
