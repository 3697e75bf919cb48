use Rattle.std.proofs.Common.{[], ◌∷◌, ◌++◌, ap, ◌∙◌}
use Rattle.coord_change.specs.Linear.{one_at}
use Rattle.split_lemma.proofs.SplitParts.{variable_part}
use Rattle.rules_corank2.proofs.finish_moves.variable.Goals as goal

pub returns-clause-part : goal.returns-clause-part
returns-clause-part g c =
    let m = g.R.Ring.meaning c.args.ring.now in
    variable_part m (g.met.R.Ring.laws c.args.ring.now c.requires.ring) c.args.n c.args.order c.args.i c.requires.inside c.requires.at_most_8_variables c.requires.order_at_least_1 c.from_rising.result c.monomial.result c.one.result
    (c.monomial.ensures ∙ ap one_at c.from.ensures) c.one.ensures.elem c.one.ensures.value
    (c.from_rising.ensures ∙ ap (λ ts. record { n = c.args.n; order = c.args.order; terms = ts }) (c.in_ok-push.ensures.items ∙ ap (λ z. z ++ (c.monomial.result, c.one.result) ∷ []) c.new-terms.ensures.items))
