use Rattle.std.proofs.Common.{◌≡◌, length, take_all, subst, arith}
use Rattle.std.specs.List.{All}
use Rattle.determinator.proofs.Terms.{one_more}
use Rattle.determinator.proofs.jet.see_places.Goals as goal

pub loop-t-preserved : goal.loop-t-preserved
loop-t-preserved g c =
    one_more (λ t. length t.0.e ≡ 8) c.args.terms.now c.loop-t.t-index c.t-item.result c.loop-t-test.true c.t-item.is c.see_exponents.ensures c.loop-t.invariant

pub returns : goal.returns
returns g c = subst (All (λ t. length t.0.e ≡ 8)) (take_all c.loop-t.t-index c.args.terms.now (omega arith)) c.loop-t.invariant
