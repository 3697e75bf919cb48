use Rattle.std.proofs.Common.{◌<◌, sym, ◌∙◌, ap, subst}
use Rattle.poly_law.specs.Exps.{variable}
use Rattle.poly_law.specs.ExpList.{exps}
use Rattle.poly_law.specs.Poly.{term}
use Rattle.coord_change.proofs.ChangeLemmas
use Rattle.coord_change.proofs.unit.variable.Goals as goal

pub returns-clause-jet : goal.returns-clause-jet
returns-clause-jet g c =
    let m = g.R.Ring.meaning c.args.ring.now in
    rw (c.from_rising.ensures, c.in_ok-push.ensures.items, c.new-terms.ensures.items, c.monomial.ensures)
    (ChangeLemmas.variable_jet m (g.met.R.Ring.laws c.args.ring.now c.requires.ring) c.args.n c.args.order c.from.result (subst (λ z. z < c.args.n) (sym c.from.ensures) c.requires.inside) c.requires.at_most_8_variables c.requires.order_at_least_1
    c.one.result c.one.ensures.elem c.one.ensures.value)

pub returns-clause-value : goal.returns-clause-value
returns-clause-value g c =
    let m = g.R.Ring.meaning c.args.ring.now in
    rw (c.from_rising.ensures, c.in_ok-push.ensures.items, c.new-terms.ensures.items, c.monomial.ensures)
    (ChangeLemmas.variable_value m c.args.n c.from.result (subst (λ z. z < c.args.n) (sym c.from.ensures) c.requires.inside) c.requires.at_most_8_variables c.one.result c.one.ensures.value
    ∙ ap (λ z. term (exps c.args.n) m.scalars.ops (variable (exps c.args.n) z)) c.from.ensures)
