use Rattle.std.proofs.Common.{◌≡◌, refl, length, rules}
use Rattle.determinacy.proofs.test.failure_of.Goals as goal

pub returns-clause-failure : goal.returns-clause-failure
returns-clause-failure g c =
    let long : length c.args.monomial.e ≡ 8 = search rules in
    (refl, long, rw c.from_vec.ensures c.in_ok-functional.ensures.functional)
