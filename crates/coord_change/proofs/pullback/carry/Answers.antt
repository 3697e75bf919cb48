use Rattle.std.proofs.Common.{◌≡◌, List, sym, subst, arith}
use Rattle.ring_law.proofs.Exits.{faulted_by}
use Rattle.jet_poly.specs.JetTerms.{JetTerms}
use Rattle.jet_subst.specs.Parts.{variables_of}
use Rattle.jet_subst.proofs.Tables.{if_ok}
use Rattle.coord_change.proofs.ChangeLemmas
use Rattle.coord_change.proofs.pullback.carry.Goals as goal

pub returns-clause-value : goal.returns-clause-value
returns-clause-value g c =
    let m = g.R.Ring.meaning c.args.ring.now in
    let ch = c.requires.change in
    let parts = c.args.c.now.parts in
    let ex = c.as_slice.ensures in
    let en : variables_of c.as_slice.result.now ≡ c.args.c.now.n = subst (λ (zs : List (JetTerms g.row.R-Elem.Denot)). variables_of zs ≡ c.args.c.now.n) (sym ex)
    (ChangeLemmas.variables_are m c.args.c.now.n parts (let z = ch.count in let y = ch.given in omega arith) ch.parts) in
    if_ok c.subst.result (λ h p. ChangeLemmas.value_to m c.args.f.now c.as_slice.result.now parts c.args.c.now.n c.args.k ex en c.requires.same_variables h.terms p) c.subst.ensures.value

pub returns-clause-range : goal.returns-clause-range
returns-clause-range g c =
    let m = g.R.Ring.meaning c.args.ring.now in
    let ch = c.requires.change in
    let parts = c.args.c.now.parts in
    let ex = c.as_slice.ensures in
    let en : variables_of c.as_slice.result.now ≡ c.args.c.now.n = subst (λ (zs : List (JetTerms g.row.R-Elem.Denot)). variables_of zs ≡ c.args.c.now.n) (sym ex)
    (ChangeLemmas.variables_are m c.args.c.now.n parts (let z = ch.count in let y = ch.given in omega arith) ch.parts) in
    faulted_by (λ p. ChangeLemmas.high_to m c.args.f.now c.as_slice.result.now parts c.args.c.now.n c.args.k ex en c.requires.same_variables p) c.subst.ensures.range
