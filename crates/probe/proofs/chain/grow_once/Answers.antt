use Rattle.probe.proofs.Chains.{grown}
use Rattle.probe.proofs.chain.grow_once.Goals as goal

pub returns : goal.returns
returns g c =
    let over = c.args.over.now in
    record { chain = grown (g.F.Ring.meaning over.field) over.n over.order c.args.chain.now c.grow.new.chain c.requires.chain c.in_ok-grow.ensures.chain }
