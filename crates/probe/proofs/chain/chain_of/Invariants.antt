use Rattle.probe.specs.Chained.{IsChained}
use Rattle.probe.proofs.chain.chain_of.Given as goal

abbrev pub invariant-loop-i : goal.invariant-loop-i
invariant-loop-i g l = IsChained (g.F.Ring.meaning l.over.field) l.over.n l.over.order l.chain
