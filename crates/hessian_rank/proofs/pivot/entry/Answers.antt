use Rattle.std.proofs.Common.{◌+◌, get_or, set, ap, ap₂, ◌∙◌, arith}
use Rattle.poly_law.specs.Polynomials.{coefficient_in}
use Rattle.jet_law.specs.Terms.{poly_of}
use Rattle.coord_change.specs.Linear.{one_at}
use Rattle.hessian_rank.proofs.Pivots.{at_most_1, pair_in, pair_is}
use Rattle.hessian_rank.proofs.pivot.entry.Goals as goal

pub overflow_add-e : goal.overflow_add-e
overflow_add-e g c =
    let few = c.requires.at_most_8_variables in
    let first = c.requires.first in
    let small = at_most_1 c.args.i c.from-2.result (omega arith) c.monomial.result.e (c.monomial.ensures ∙ ap one_at c.from.ensures) in
    omega arith

pub returns-clause-value : goal.returns-clause-value
returns-clause-value g c =
    let m = g.R.Ring.meaning c.args.ring.now in
    let n = c.args.form.now.n in
    let same = ap₂ (λ e j. set e j (get_or e j 0 + 1)) (c.monomial.ensures ∙ ap one_at c.from.ensures) c.from-2.ensures in
    c.coef.ensures.in_variables (pair_in n c.requires.at_most_8_variables c.args.i c.args.j c.requires.first c.requires.second _ same)
    ∙ ap (coefficient_in n m.scalars.ops (poly_of n m.value c.args.form.now.terms)) (pair_is n c.requires.at_most_8_variables c.args.i c.args.j c.requires.first c.requires.second _ same)
