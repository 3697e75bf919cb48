use Rattle.probe.proofs.Chains.{lifted_chain}
use Rattle.probe.proofs.chain.lifted_of.Goals as goal

pub returns : goal.returns
returns g c =
    let over = c.args.over.now in
    record { chain = lifted_chain over.field.algebra over.n over.order c.in_ok-chain.chain c.in_ok-lift_chain.field-0 c.in_ok-chain.ensures.chain c.in_ok-lift_chain.ensures.chain }
