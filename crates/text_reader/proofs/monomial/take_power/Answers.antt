use Rattle.std.proofs.Common.{refl, sym, ap, ◌∙◌}
use Rattle.text_reader.specs.Factors.{starred}
use Rattle.text_reader.proofs.FactorTexts.{power_at, exponent_same}
use Rattle.text_reader.proofs.monomial.take_power.Goals as goal

pub returns-in-None-clause-found : goal.returns-in-None-clause-found
returns-in-None-clause-found c e rest lt later h =
    let p = power_at c.args.digit e rest c.in-Some.text.now c.in-Some-behind_variable.behind.now c.split_star.result.0.now c.split_star.result.1 lt later (sym (ap starred c.in-Some.is) ∙ h) c.in-Some-behind_variable.ensures.some c.split_star.ensures.whole c.split_star.ensures.front in
    c.in-None.ensures.none refl e (p.some, lt) p.exponent

pub returns-in-Some-read_exponent-clause-found : goal.returns-in-Some-read_exponent-clause-found
returns-in-Some-read_exponent-clause-found c e rest lt later h =
    let p = power_at c.args.digit e rest c.in-Some.text.now c.in-Some-behind_variable.behind.now c.split_star.result.0.now c.split_star.result.1 lt later (sym (ap starred c.in-Some.is) ∙ h) c.in-Some-behind_variable.ensures.some c.split_star.ensures.whole c.split_star.ensures.front in
    let found = c.in-Some-read_exponent.ensures.some in
    (exponent_same c.in-Some-read_exponent.e e found.0.1 lt (found.1 ∙ sym p.exponent), sym p.follows)
