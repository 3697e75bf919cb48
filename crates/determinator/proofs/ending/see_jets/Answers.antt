use Rattle.std.proofs.Common.{take_all, subst, arith}
use Rattle.std.specs.List.{All}
use Rattle.determinator.specs.Jets.{IsListed}
use Rattle.determinator.proofs.Terms.{one_more}
use Rattle.determinator.proofs.ending.see_jets.Goals as goal

pub loop-jet-preserved : goal.loop-jet-preserved
loop-jet-preserved c = one_more IsListed c.args.jets.now c.loop-jet.jet-index c.jet-item.result c.loop-jet-test.true c.jet-item.is c.see_terms.ensures c.loop-jet.invariant

pub returns : goal.returns
returns c = subst (All IsListed) (take_all c.loop-jet.jet-index c.args.jets.now (omega arith)) c.loop-jet.invariant
