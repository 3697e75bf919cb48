use Rattle.std.proofs.Common.{ap, ◌∙◌}
use Rattle.poly_law.specs.Polynomials.{coefficient_in}
use Rattle.jet_law.specs.Terms.{poly_of}
use Rattle.rules_corank2.proofs.FinishChoices.{power_in, power_is}
use Rattle.rules_corank2.proofs.finish_choice.power_at.Goals as goal

pub returns-clause-value : goal.returns-clause-value
returns-clause-value g c =
    let m = g.R.Ring.meaning c.args.ring.now in
    let n = c.args.f.now.n in
    c.coef.ensures.in_variables (power_in n c.args.i c.args.m c.requires.inside c.requires.at_most_8_variables c.power.result c.power.ensures)
    ∙ ap (coefficient_in n m.scalars.ops (poly_of n m.value c.args.f.now.terms)) (power_is n c.args.i c.args.m c.requires.inside c.requires.at_most_8_variables c.power.result c.power.ensures)
