use Rattle.ring_law.proofs.Exits.{fault_handed_on}
use Rattle.determinator.proofs.Reporting.{outside_report}
use Rattle.determinator.proofs.ending.outside.Goals as goal

pub returns-in_err-carried-clause-range : goal.returns-in_err-carried-clause-range
returns-in_err-carried-clause-range c = fault_handed_on _ c.from_residual.ensures.1 (λ high n last o germ moves place. high n last o germ moves place) c.in_err-carried.ensures.range

pub returns-clause-report : goal.returns-clause-report
returns-clause-report c n last o germ moves are place past =
    outside_report c.args.names.now n are c.args.corank last germ c.args.algebra c.requires.field o moves c.args.chain.now place c.in_ok-carried.carried (c.in_ok-carried.ensures.carried n last o germ moves place) c.args.pattern past
