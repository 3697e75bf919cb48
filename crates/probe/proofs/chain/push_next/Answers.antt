use Rattle.probe.proofs.Chains.{pushed}
use Rattle.probe.proofs.chain.push_next.Goals as goal

pub returns : goal.returns
returns g c =
    let over = c.args.over.now in
    let e = c.in_ok-change.ensures in
    record { chain = pushed (g.F.Ring.meaning over.field) over.n over.order c.args.chain.now c.push.new.chain c.requires.chain c.in_ok-change.change e.change e.n e.order c.in_ok-push.ensures.chain }
